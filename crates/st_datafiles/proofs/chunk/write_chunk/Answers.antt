use Rattle.std.proofs.Common.{◌≡◌, ◌∙◌, ◌++◌, false, codes, sym, ap, subst, arith}
use Rattle.std.proofs.lemmas.List.{nil_from_length}
use Rattle.st_plain.specs.Plain.{canonical, canonical_items, ItemsAreProper}
use Rattle.st_plain.specs.Objects.{items_of}
use Rattle.st_datafiles.specs.Chunk.{chunk_json}
use Rattle.st_datafiles.proofs.FileLemmas.{chunk_read, no_chunk, some_chunk}
use Rattle.st_datafiles.proofs.chunk.write_chunk.Goals as goal

-- ---- without deltas

pub returns-then-deltas-eq0-clause-text : goal.returns-then-deltas-eq0-clause-text
returns-then-deltas-eq0-clause-text c = c.in_ok-from_slice.ensures ∙ no_chunk c.args.deltas.now (omega (arith, c.if-deltas-eq0.true))

pub returns-then-deltas-eq0-clause-read : goal.returns-then-deltas-eq0-clause-read
returns-then-deltas-eq0-clause-read c =
    let deltas = c.args.deltas.now in
    let none = nil_from_length deltas (omega (arith, c.if-deltas-eq0.true)) in
    chunk_read deltas _ (subst (λ items. ItemsAreProper (items_of items)) (sym none) tt)
    (c.in_ok-from_slice.ensures ∙ no_chunk deltas (omega (arith, c.if-deltas-eq0.true)))

-- ---- with some

text_is : (c : goal.In_ok-push_all-2) → c.push_all-2.new.self ≡ canonical (chunk_json c.args.deltas.now)
text_is c =
    let items = canonical_items false (items_of c.args.deltas.now) in
    c.in_ok-push_all-2.ensures.ok ∙ (ap (λ text. text ++ codes "]}") (c.in_ok-append_deltas.ensures.text
    ∙ ap (λ text. text ++ items) (c.in_ok-push_all.ensures.ok ∙ ap (λ text. text ++ codes "{\"deltas\":[") c.new-text.ensures))
    ∙ some_chunk c.args.deltas.now (omega (arith, c.if-deltas-eq0.false)))

pub returns-clause-text : goal.returns-clause-text
returns-clause-text c = text_is c

pub returns-clause-read : goal.returns-clause-read
returns-clause-read c = chunk_read c.args.deltas.now c.push_all-2.new.self c.in_ok-append_deltas.ensures.proper (text_is c)
