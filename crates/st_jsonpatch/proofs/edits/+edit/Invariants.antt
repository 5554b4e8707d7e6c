use Rattle.std.proofs.Common.{◌+◌, ◌*◌, length}
use Rattle.st_jsonpatch.proofs.edits.+edit.Given as goal

-- the path gets shorter
abbrev pub decreases-edit : goal.decreases-edit
decreases-edit l = 2 * length l.path.now

abbrev pub decreases-edit_item : goal.decreases-edit_item
decreases-edit_item l = 2 * length l.path.now + 1

abbrev pub decreases-edit_member : goal.decreases-edit_member
decreases-edit_member l = 2 * length l.path.now + 1
