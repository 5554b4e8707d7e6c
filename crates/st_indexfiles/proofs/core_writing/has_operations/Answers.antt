use Rattle.std.proofs.Common.{sym}
use Rattle.st_indexfiles.proofs.MemberLemmas.{operations_there}
use Rattle.st_indexfiles.proofs.core_writing.has_operations.Goals as goal

pub returns : goal.returns
returns c = rw (c.len.ensures, c.len-2.ensures, c.len-3.ensures) (sym (operations_there c.args.index.now))
