-- A set that has the URIs of a list.
use Rattle.std.specs.Prelude.{◌≡◌, List}
use Rattle.std.specs.BTreeSet.{BTreeSet, contains}
use Rattle.st_exchange.specs.Peer.{is_among}
use Rattle.st_hash.specs.Hash.{HashValue, hash_cmp}

-- the set has exactly those of the list
abbrev pub HasThose : List HashValue → BTreeSet HashValue → Type 0
HasThose uris set = (uri : HashValue) → contains hash_cmp set uri ≡ is_among uris uri
