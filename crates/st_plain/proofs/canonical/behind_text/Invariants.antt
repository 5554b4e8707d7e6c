use Rattle.std.proofs.Common.{◌<◌, length}
use denote.Shadow.{shadow}
use denote.Text.{Utf8}
use Rattle.st_plain.proofs.AlreadyLemmas.{TextGoesOn}
use Rattle.st_plain.proofs.canonical.behind_text.Given as goal

abbrev pub invariant-runs : goal.invariant-runs
invariant-runs l = record {
  text : shadow (Utf8 l.rest);
  shorter : length l.rest < length l.text;
  whole : TextGoesOn l.text l.rest;
}

abbrev pub decreases-runs : goal.decreases-runs
decreases-runs l = length l.rest
