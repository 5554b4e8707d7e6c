use Rattle.std.specs.Prelude.{ℕ, List}
use Rattle.st_wallet.proofs.CountersLemmas.{counter_byte, counter_given, counter_next, counter_none, next_rises, spent_below_found}
use Rattle.st_wallet.specs.Machine.{next_in, replies}
use Rattle.st_wallet.specs.Drafts.{found_in}
use Rattle.st_drive.specs.inside.OnDisk.{NextLaws, NumberLaws}
use Rattle.st_wallet_lines.specs.Run.{wallet_spender}

-- the replies of the reference machine to lines
abbrev pub wallet_replies : (image : List ℕ) → List (List ℕ) → List ℕ
wallet_replies image lines = replies (found_in image) lines

-- a counter is at least the next one, which never falls
pub number_laws : NumberLaws wallet_spender next_in
number_laws = record { rises = next_rises; given = counter_given }

-- each counter is the next one, which then rises by one; its reply has a byte, and all spent counters are below it
pub next_laws : NextLaws wallet_spender next_in
next_laws = record {
  stays = counter_none;
  given = λ found line q is. let next = counter_next found line q is in (next.0, next.1, counter_byte found line q is);
  below = spent_below_found;
}
