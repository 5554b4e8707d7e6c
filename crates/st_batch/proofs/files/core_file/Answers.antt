use Rattle.std.proofs.Common.{◌∙◌, ap}
use Rattle.st_plain.specs.Plain.{canonical}
use Rattle.st_datafiles.specs.declared.role.Role.TheVariants.{CoreProof, Provisional}
use Rattle.st_indexfiles.specs.CoreIndex.{core_json}
use Rattle.st_batch.specs.Batch.{core_proof_file, provisional_file}
use Rattle.st_batch.specs.inside.Groups.{plain_groups}
use Rattle.st_batch.proofs.FlushLemmas.{core_said, uri_said}
use Rattle.st_batch.proofs.files.core_file.Goals as goal

pub returns : goal.returns
returns c =
    let groups = plain_groups c.args.groups.now in
    c.in_ok-write_core.ensures.text ∙ (ap (λ index. canonical (core_json index)) c.in_ok-index.ensures
    ∙ core_said groups (uri_said CoreProof (core_proof_file groups) c.requires.core_proof c.first_uri.ensures)
    (uri_said Provisional (provisional_file groups) c.requires.provisional c.first_uri-2.ensures))
