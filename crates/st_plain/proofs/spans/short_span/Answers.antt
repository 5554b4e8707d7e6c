use Rattle.std.proofs.Common.{arith, inl, inr}
use Rattle.std.proofs.lemmas.Bool.{cases_lt}
use Rattle.st_plain.proofs.spans.short_span.Goals as goal

-- two runs that meet or overlap are one
pub returns-then-are_unescaped-clause-plain : goal.returns-then-are_unescaped-clause-plain
returns-then-are_unescaped-clause-plain c = λ k low high. elim (cases_lt k 8) [
  | inl sooner ↦ c.if-not-are_unescaped.ensures k low sooner
  | inr later ↦ c.if-are_unescaped.ensures k (omega (arith, later)) (omega (arith, high))
]
