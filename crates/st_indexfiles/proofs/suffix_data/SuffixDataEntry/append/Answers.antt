use Rattle.std.proofs.Common.{◌∙◌, ◌++◌, ap, sym}
use Rattle.st_plain.proofs.NameLemmas.{names_on_literals}
use Rattle.st_hash.specs.Hash.{HashValue}
use Rattle.st_indexfiles.specs.declared.suffix_data.SuffixData.{SuffixData}
use Rattle.st_indexfiles.proofs.MemberLemmas.{create_text, joined}
use Rattle.st_indexfiles.proofs.WrittenLemmas.{both_again}
use Rattle.st_indexfiles.proofs.suffix_data.SuffixDataEntry.append.Goals as goal

pub returns-clause-read : goal.returns-clause-read
unfolding names_on_literals
returns-clause-read c = λ version.
    let create = c.args.self.now in
    let make : HashValue → HashValue → SuffixData =
    λ delta_hash recovery_commitment. record { delta_hash = delta_hash; recovery_commitment = recovery_commitment } in
    both_again make _ _ create.delta_hash create.recovery_commitment (c.in_ok-append_hash.ensures.read version) (c.in_ok-append_hash-2.ensures.read version)

pub returns-clause-text : goal.returns-clause-text
returns-clause-text c =
    let old = c.args.out.now in
    joined old _ _ (joined old _ _ (joined old _ _ (joined old _ _ c.in_ok-push_all.ensures.ok c.in_ok-append_hash.ensures.text)
    c.in_ok-push_all-2.ensures.ok) c.in_ok-append_hash-2.ensures.text) c.in_ok-push_all-3.ensures.ok
    ∙ ap (λ text. old ++ text) (sym (create_text c.args.self.now))
