use Rattle.std.proofs.Common.{length}
use Rattle.st_hash.proofs.HashLemmas.{multihash_put}
use Rattle.st_hash.proofs.text.put_multihash.Goals as goal

pub returns : goal.returns
returns c = multihash_put c.args.code (length c.args.digest.now) c.args.into.now c.args.digest.now c.copy_from_slice.new.self c.requires.whole c.copy_from_slice.ensures.after
