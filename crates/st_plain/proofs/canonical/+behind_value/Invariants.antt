use Rattle.std.proofs.Common.{◌+◌, ◌*◌, ◌≤◌, length, option_map, IfSome}
use Rattle.std.specs.Str.{IsUtf8}
use Rattle.st_plain.specs.inside.Walk.{name_of}
use denote.Shadow.{shadow}
use denote.Text.{Utf8}
use Rattle.st_plain.proofs.AlreadyLemmas.{ItemsGoOn, MembersGoOn}
use Rattle.st_plain.proofs.canonical.+behind_value.Given as goal

abbrev pub decreases-behind_value : goal.decreases-behind_value
decreases-behind_value l = 2 * l.depth

abbrev pub decreases-behind_items : goal.decreases-behind_items
decreases-behind_items l = 2 * l.depth + 1

abbrev pub decreases-behind_members : goal.decreases-behind_members
decreases-behind_members l = 2 * l.depth + 1

abbrev pub invariant-behind_items-items : goal.invariant-behind_items-items
invariant-behind_items-items l = record {
  text : shadow (Utf8 l.rest);
  shorter : length l.rest ≤ length l.text;
  whole : ItemsGoOn l.depth l.text l.comma l.rest;
}

abbrev pub decreases-behind_items-items : goal.decreases-behind_items-items
decreases-behind_items-items l = length l.rest

abbrev pub invariant-behind_members-members : goal.invariant-behind_members-members
invariant-behind_members-members l = record {
  text : shadow (Utf8 l.rest);
  shorter : length l.rest ≤ length l.text;
  named : IfSome (option_map (λ name. name_of name.now) l.last) IsUtf8;
  whole : MembersGoOn l.depth l.text (option_map (λ name. name_of name.now) l.last) l.rest;
}

abbrev pub decreases-behind_members-members : goal.decreases-behind_members-members
decreases-behind_members-members l = length l.rest
