use Rattle.std.proofs.Common.{◌≡◌, ◌∙◌, [], ap, refl, rules, sym}
use Rattle.st_hash.specs.Hash.{HashValue}
use Rattle.st_observer.specs.Work.{roles_at, Operations, operations_at}
use Rattle.st_observer.specs.Observed.{one_misses}
use Rattle.st_observer.proofs.OperationsLemmas.{needs_none}
use Rattle.st_observer.proofs.kept.Kept.new.Goals as goal

-- an identifier without items has no operations
none_at : (suffix : HashValue) → operations_at suffix [] ≡ []
unfolding operations_at
none_at suffix = refl

pub returns : goal.returns
returns c = let none : c.new-bounds.result.items ≡ [] = search rules in record {
  is = record {
    same = search rules;
    waits = record { each = λ uri n. c.new-waiting.ensures uri n ∙ ap (one_misses uri) (sym (ap (roles_at n) none ∙ needs_none)) };
    schedule = ap (λ (index : Operations). index.folder.schedule) c.in_ok-index.ensures;
    states = record { each = λ suffix. ap (λ (index : Operations). operations_at suffix index.items) c.in_ok-index.ensures ∙ none_at suffix };
  };
  none = ap (λ (index : Operations). index.changes) c.in_ok-index.ensures;
}
