use Rattle.std.specs.Prelude.{ℕ, List, if◌then◌else◌, is_some}
use Rattle.std.specs.BTreeMap.{insert_entry, is_at}
use Rattle.std.specs.Cmp.Lexicographic.{slice_cmp}
use Rattle.std.specs.Ordering.{nat_cmp}
use Rattle.std.specs.Map.{lookup}

-- these, with one more if none has its digest
abbrev pub with_entry : List ℕ → List ℕ → List (List ℕ × List ℕ) → List (List ℕ × List ℕ)
with_entry digest file entries =
    if is_some (lookup (is_at (slice_cmp nat_cmp digest)) entries) then entries
    else insert_entry (slice_cmp nat_cmp) entries digest file
