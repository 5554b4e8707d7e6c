use mathlib.Core.Bool.{false≢true}
use Rattle.st_plain.proofs.ReadableLemmas.{refused}
use Rattle.st_canon.proofs.TreeLemmas.{gives_converted}
use Rattle.st_canon.proofs.trees.read.Goals as goal

pub returns-in-Ok-clause-value : goal.returns-in-Ok-clause-value
returns-in-Ok-clause-value c = gives_converted c.args.bytes.now _ c.convert.result c.in-Ok.ensures.ok.0 c.in-Ok.ensures.ok.1 c.convert.ensures.value

pub returns-else-is_memory-clause-value : goal.returns-else-is_memory-clause-value
returns-else-is_memory-clause-value c = refused c.args.bytes.now (c.in-Err.ensures.err (λ is. false≢true (c.if-is_memory.ensures.1 is)))
