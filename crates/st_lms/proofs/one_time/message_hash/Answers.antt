use Rattle.std.proofs.Common.{◌++◌}
use Rattle.st_lms.specs.OneTime.{d_mesg, message_hash}
use Rattle.st_lms.specs.Strings.{u32str, u16str}
use Rattle.st_lms.proofs.one_time.message_hash.Goals as goal

pub returns : goal.returns
unfolding message_hash
returns c =
    let start = c.args.id.now ++ u32str c.args.q ++ u16str d_mesg in
    c.finalize.ensures (start ++ c.args.c.now ++ c.args.message.now)
    (c.update-2.ensures (start ++ c.args.c.now) (c.update.ensures start c.hasher-hasher.ensures))
