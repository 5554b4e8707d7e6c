use Rattle.std.proofs.Common.{◌≡◌, ◌∙◌, ◌++◌, Some, true, ap, sym}
use Rattle.std.specs.Prelude.{is_some}
use Rattle.st_base.proofs.ListLemmas.{none_fails, passes}
use Rattle.st_plain.specs.Plain.{canonical}
use Rattle.st_plain.specs.Shapes.{json_in}
use Rattle.st_plain.proofs.ReadableLemmas.{json_again}
use Rattle.st_indexfiles.specs.ProvisionalIndex.{chunk_in, provisional_index_of, provisional_json, has_provisional_entries, provisional_rules}
use Rattle.st_indexfiles.specs.inside.CoreParts.{IsProvisionalReadAgain}
use Rattle.st_indexfiles.proofs.MemberLemmas.{joined, provisional_text}
use Rattle.st_indexfiles.proofs.ProvisionalLemmas.{provisional_parts, provisional_says}
use Rattle.st_indexfiles.proofs.WrittenLemmas.{provisional_readable}
use Rattle.st_indexfiles.proofs.provisional_index.write_provisional.Goals as goal

text_is : (c : goal.In_ok-push_all-3) → c.push_all-3.new.self ≡ canonical (provisional_json c.args.index.now)
text_is c =
    let none = c.new-text.result in
    joined none _ _ (joined none _ _ (joined none _ _ (joined none _ _ (joined none _ _ c.in_ok-push_all.ensures.ok c.in_ok-append_hash.ensures.text)
    c.in_ok-push_all-2.ensures.ok) c.in_ok-append_operations.ensures.text) c.in_ok-append_uri.ensures.text) c.in_ok-push_all-3.ensures.ok
    ∙ (λ i. c.new-text.ensures i ++ sym (provisional_text c.args.index.now) i)

pub returns-clause-text : goal.returns-clause-text
returns-clause-text c = text_is c

pub returns-clause-read : goal.returns-clause-read
returns-clause-read c = λ limits count core none.
    let index = c.args.index.now in
    let text = c.push_all-3.new.self in
    let rules = none_fails (provisional_rules limits count core text) none in
    let again : json_in text ≡ Some (provisional_json index) = ap json_in (text_is c) ∙ json_again (provisional_json index) (provisional_readable index) in
    let chunk : is_some (chunk_in (Some (provisional_json index))) ≡ true = sym (ap (λ there. is_some (chunk_in there)) again) ∙ passes _ rules.1.1.1.0 in
    let entries : has_provisional_entries limits.version (Some (provisional_json index)) ≡ true = sym (ap (has_provisional_entries limits.version) again) ∙ passes _ rules.1.1.1.1.0 in
    let read : IsProvisionalReadAgain index = record {
      proof = c.in_ok-append_uri.ensures.read;
      chunk = c.in_ok-append_hash.ensures.read;
      updates = c.in_ok-append_operations.ensures.updates;
    } in
    ap (provisional_index_of limits.version) again ∙ provisional_says index limits.version (provisional_parts index limits.version read chunk entries)
