use Rattle.std.proofs.Common.{◌≡◌, ◌∙◌, ◌++◌, Some, true, ap, sym}
use Rattle.st_base.proofs.ListLemmas.{none_fails, passes}
use Rattle.st_plain.specs.Plain.{canonical}
use Rattle.st_plain.specs.Shapes.{json_in}
use Rattle.st_plain.proofs.ReadableLemmas.{json_again}
use Rattle.st_indexfiles.specs.CoreIndex.{core_index_of, core_json, core_rules, has_core_entries, has_core_members}
use Rattle.st_indexfiles.specs.inside.CoreParts.{IsCoreReadAgain}
use Rattle.st_indexfiles.proofs.CoreLemmas.{core_parts, core_says}
use Rattle.st_indexfiles.proofs.MemberLemmas.{core_text, joined}
use Rattle.st_indexfiles.proofs.WrittenLemmas.{core_readable}
use Rattle.st_indexfiles.proofs.core_writing.write_core.Goals as goal

text_is : (c : goal.In_ok-push_all-2) → c.push_all-2.new.self ≡ canonical (core_json c.args.index.now)
text_is c =
    let proof = c.in_ok-due.ensures in
    let operations = c.in_ok-due-2.ensures in
    let provisional = c.in_ok-append_uri.ensures in
    let none = c.new-text.result in
    joined none _ _ (joined none _ _ (joined none _ _ (joined none _ _ c.in_ok-push_all.ensures.ok proof.text)
    (rw proof.later at operations.text)) (rw (operations.later, proof.later) at provisional.text)) c.in_ok-push_all-2.ensures.ok
    ∙ (λ i. c.new-text.ensures i ++ sym (core_text c.args.index.now) i)

pub returns-clause-text : goal.returns-clause-text
returns-clause-text c = text_is c

pub returns-clause-read : goal.returns-clause-read
returns-clause-read c = λ limits count none.
    let index = c.args.index.now in
    let text = c.push_all-2.new.self in
    let rules = none_fails (core_rules limits count text) none in
    let again : json_in text ≡ Some (core_json index) = ap json_in (text_is c) ∙ json_again (core_json index) (core_readable index) in
    let members : has_core_members limits.max_lock_id (Some (core_json index)) ≡ true = sym (ap (has_core_members limits.max_lock_id) again) ∙ passes _ rules.1.1.1.0 in
    let entries : has_core_entries limits.version (Some (core_json index)) ≡ true = sym (ap (has_core_entries limits.version) again) ∙ passes _ rules.1.1.1.1.0 in
    let operations = c.in_ok-due-2.ensures in
    let read : IsCoreReadAgain index = record {
      core_proof = c.in_ok-due.ensures.read;
      provisional = c.in_ok-append_uri.ensures.read;
      creates = operations.creates;
      recovers = operations.recovers;
      deactivates = operations.deactivates;
    } in
    ap (core_index_of limits.version) again ∙ core_says index limits.version (core_parts index limits.version limits.max_lock_id read members entries)
