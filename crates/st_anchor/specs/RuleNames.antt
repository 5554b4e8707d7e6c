-- The names of rules. The names within one kind are next to its rules.
use Rattle.std.specs.Prelude.{ℕ, List}
use Rattle.st_datafiles.specs.Chunk.{chunk_rule_name}
use Rattle.st_datafiles.specs.ProofFiles.{proof_rule_name}
use Rattle.st_indexfiles.specs.CoreIndex.{core_rule_name}
use Rattle.st_indexfiles.specs.ProvisionalIndex.{provisional_rule_name}
use Rattle.st_ledger.specs.Ledger.{anchor_rule_name}
use Rattle.st_anchor.specs.declared.part.Rule.{Rule}
use Rattle.st_anchor.specs.declared.part.Rule.TheVariants.{Anchor, Core, Provisional, Proofs, Chunk}

-- the name of a rule: a letter for the kind of file, and its number among the rules of that kind
unfoldable pub rule_name : Rule → List ℕ
rule_name (Anchor rule) = anchor_rule_name rule
rule_name (Core rule) = core_rule_name rule
rule_name (Provisional rule) = provisional_rule_name rule
rule_name (Proofs rule) = proof_rule_name rule
rule_name (Chunk rule) = chunk_rule_name rule
