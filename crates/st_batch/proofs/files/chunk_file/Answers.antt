use Rattle.std.proofs.Common.{◌∙◌, Some, sym, ap}
use Rattle.st_plain.specs.Plain.{canonical}
use Rattle.st_datafiles.specs.Chunk.{chunk_json}
use Rattle.st_datafiles.specs.declared.role.Role.TheVariants.{Chunk}
use Rattle.st_batch.specs.Batch.{chunk_text, filed}
use Rattle.st_batch.specs.inside.Groups.{plain_groups, where_small}
use Rattle.st_batch.proofs.FlushLemmas.{are_some, chunk_some}
use Rattle.st_batch.proofs.files.chunk_file.Goals as goal

pub returns : goal.returns
unfolding chunk_text
returns c =
    let some = are_some _ _ c.has_chunk.ensures c.if-not-has_chunk.false in
    c.in_ok-filed.ensures ∙ ap (λ file. where_small c.args.params.now (filed Chunk file)) (ap Some (c.in_ok-bytes.ensures.text
    ∙ ap (λ deltas. canonical (chunk_json deltas)) (c.as_slice.ensures ∙ c.in_ok-deltas.ensures))
    ∙ sym (chunk_some (plain_groups c.args.groups.now) some))
