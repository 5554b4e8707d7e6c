use Rattle.std.specs.Prelude.{ℕ, List, [], slice_get, unwrap_or}
use Rattle.st_workload.specs.declared.identity.Identity.{Identity}

-- the line of a round
abbrev pub line_of : ℕ → Identity → List ℕ
line_of round identity = unwrap_or (slice_get identity.lines round) []
