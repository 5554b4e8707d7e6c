use Rattle.std.proofs.Common.{◌≡◌, ◌∙◌, ◌≤◌, length, Some, true, sym, ap, arith}
use Rattle.std.specs.Result.{result_ok}
use Rattle.std.proofs.lemmas.Bool.{lt-leb}
use Rattle.st_datafiles.specs.declared.role.Role.TheVariants.{Core, CoreProof, Provisional, ProvisionalProof, Chunk}
use Rattle.st_hash.specs.Hash.{uri_of}
use Rattle.st_batch.specs.Batch.{anchor_text, core_file, filed, files_of}
use Rattle.st_batch.specs.inside.Groups.{plain_groups}
use Rattle.st_batch.proofs.SmallLemmas.{filed_long, is_role_small, none_long, one_long, role_kept, short_small}
use Rattle.st_batch.proofs.FlushLemmas.{batch_said, put_behind}
use Rattle.st_batch.proofs.batch.write_batch.Goals as goal

pub returns-in-Err : goal.returns-in-Err
returns-in-Err c =
    one_long c.args.params.now c.args.count (plain_groups c.args.groups.now) Chunk (sym (ap result_ok c.in-Err.is) ∙ c.in_ok-files.ensures)

pub returns-in-Err-2 : goal.returns-in-Err-2
returns-in-Err-2 c =
    one_long c.args.params.now c.args.count (plain_groups c.args.groups.now) ProvisionalProof (sym (ap result_ok c.in-Err-2.is) ∙ c.in_ok-files-2.ensures)

pub returns-in-Err-3 : goal.returns-in-Err-3
returns-in-Err-3 c =
    one_long c.args.params.now c.args.count (plain_groups c.args.groups.now) CoreProof (sym (ap result_ok c.in-Err-3.is) ∙ c.in_ok-files-3.ensures)

pub returns-in-Err-4 : goal.returns-in-Err-4
returns-in-Err-4 c =
    one_long c.args.params.now c.args.count (plain_groups c.args.groups.now) Provisional (sym (ap result_ok c.in-Err-4.is) ∙ c.in_ok-files-4.ensures)

pub returns-then-long-most : goal.returns-then-long-most
returns-then-long-most c =
    let groups = plain_groups c.args.groups.now in
    let limits = c.args.params.now in
    let same = ap length (c.as_slice-long.ensures ∙ c.in_ok-core.ensures) in
    one_long limits c.args.count groups Core
    (sym (filed_long limits Core (core_file groups) (lt-leb (length (core_file groups)) limits.max_index
    (omega (arith, c.if-long-most.true, same, c.max_index-most.ensures)))))

pub returns : goal.returns
unfolding files_of
returns c =
    let groups = plain_groups c.args.groups.now in
    let limits = c.args.params.now in
    let same = ap length (c.as_slice-long.ensures ∙ c.in_ok-core.ensures) in
    let short : length (core_file groups) ≤ limits.max_index = omega (arith, c.if-long-most.false, same, c.max_index-most.ensures) in
    let chunk = role_kept limits groups Chunk (sym c.in_ok-files.ensures ∙ ap result_ok c.in-Ok.is) in
    let provisional_proof = role_kept limits groups ProvisionalProof (sym c.in_ok-files-2.ensures ∙ ap result_ok c.in-Ok-2.is) in
    let core_proof = role_kept limits groups CoreProof (sym c.in_ok-files-3.ensures ∙ ap result_ok c.in-Ok-3.is) in
    let provisional = role_kept limits groups Provisional (sym c.in_ok-files-4.ensures ∙ ap result_ok c.in-Ok-4.is) in
    let core = c.in_ok-files-5.ensures ∙ ap (λ bytes. filed Core (Some bytes)) c.in_ok-core.ensures in
    none_long limits c.args.count groups
    (λ role. elim role as (λ role. is_role_small limits groups role ≡ true) [
      | Core ↦ short_small limits groups Core short
      | CoreProof ↦ core_proof.0
      | Provisional ↦ provisional.0
      | ProvisionalProof ↦ provisional_proof.0
      | Chunk ↦ chunk.0
    ])
    (batch_said groups c.args.count
    (c.in_ok-anchor.ensures ∙ ap (anchor_text c.args.count) (c.uri_of-uri.ensures.value ∙ ap uri_of (c.as_slice.ensures ∙ c.in_ok-core.ensures)))
    (put_behind c.in_ok-append-4.ensures (put_behind c.in_ok-append-3.ensures (put_behind c.in_ok-append-2.ensures
    (put_behind c.in_ok-append.ensures core (sym core_proof.1)) (sym provisional.1)) (sym provisional_proof.1)) (sym chunk.1)))
