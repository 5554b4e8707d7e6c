use Rattle.std.proofs.Common.{◌∙◌, Some, sym, ap}
use Rattle.st_plain.specs.Plain.{canonical}
use Rattle.st_datafiles.specs.declared.role.Role.TheVariants.{Chunk, Provisional, ProvisionalProof}
use Rattle.st_indexfiles.specs.ProvisionalIndex.{provisional_json}
use Rattle.st_batch.specs.Batch.{chunk_file, filed, provisional_proof_file}
use Rattle.st_batch.specs.inside.Groups.{plain_groups, where_small}
use Rattle.st_batch.proofs.FlushLemmas.{provisional_none, provisional_said, provisional_some, uri_said}
use Rattle.st_batch.proofs.files.provisional_file.Goals as goal

pub returns-in_default : goal.returns-in_default
returns-in_default c =
    let groups = plain_groups c.args.groups.now in
    let uri = uri_said Chunk (chunk_file groups) c.requires.chunk c.first_uri.ensures in
    ap Some c.new.ensures ∙ ap (λ file. where_small c.args.params.now (filed Provisional file)) (sym (provisional_none groups (sym uri ∙ c.in_default.is)))

pub returns : goal.returns
returns c =
    let groups = plain_groups c.args.groups.now in
    let uri = uri_said Chunk (chunk_file groups) c.requires.chunk c.first_uri.ensures in
    let there = provisional_some groups c.in-Some.chunk (sym uri ∙ c.in-Some.is) in
    let proof = uri_said ProvisionalProof (provisional_proof_file groups) c.requires.proof c.first_uri-2.ensures in
    c.in_ok-filed.ensures ∙ ap (λ file. where_small c.args.params.now (filed Provisional file)) (ap Some (c.in_ok-bytes.ensures.text
    ∙ ap (λ index. canonical (provisional_json index)) (c.in_ok-index.ensures ∙ provisional_said groups proof there.1)) ∙ sym there.0)
