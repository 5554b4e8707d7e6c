use Rattle.std.proofs.Common.{◌≡◌, ◌∙◌, take, ap, sym, arith}
use Rattle.st_io.proofs.HistoryLemmas.{still_as_it_was}
use Rattle.st_vault.proofs.OpeningLemmas.{key-short}
use Rattle.st_vault.proofs.opening.read_key.Goals as goal

pub returns-then-len-lt-MAP_AT-clause-gives : goal.returns-then-len-lt-MAP_AT-clause-gives
returns-then-len-lt-MAP_AT-clause-gives g c image told = key-short image (omega (arith, c.in_ok-len.ensures.length image told, c.if-len-lt-MAP_AT.true))

pub returns-in-Ok-clause-gives : goal.returns-in-Ok-clause-gives
returns-in-Ok-clause-gives g c image told =
    let read = c.in_ok-read_at.ensures.bytes image (c.length.ensures.reads ∙ told) in
    let head : take 64 image ≡ c.read_at.new.into = sym (read ∙ ap (λ n. take n image) c.no_head-head.ensures) in
    c.in-Ok.ensures.gives image head (sym (c.in_ok-len.ensures.length image told))

pub returns-in-Ok-clause-as_it_was : goal.returns-in-Ok-clause-as_it_was
returns-in-Ok-clause-as_it_was g c =
    still_as_it_was (record { reads = c.length.ensures.reads; images = record { goes = c.length.ensures.time; none = c.length.ensures.images } })
    (record { reads = c.read_at.ensures.reads; images = record { goes = c.read_at.ensures.time; none = c.read_at.ensures.images } })

pub returns-in-Err-clause-gives : goal.returns-in-Err-clause-gives
returns-in-Err-clause-gives g c image told =
    let read = c.in_ok-read_at.ensures.bytes image (c.length.ensures.reads ∙ told) in
    let head : take 64 image ≡ c.read_at.new.into = sym (read ∙ ap (λ n. take n image) c.no_head-head.ensures) in
    c.in-Err.ensures.gives image head (sym (c.in_ok-len.ensures.length image told))
