use Rattle.std.proofs.Common.{◌≡◌, ◌-◌, ◌<◌, ◌∷◌, [], ◌++◌, length, Some, None, Less, ap, refl, ◌∙◌, arith, rules}
use Rattle.json.specs.Json.{after_end_array, read_key, value}
use Rattle.json.specs.Reads.{token_of}
use Rattle.json.proofs.Grammar.{read_key-shorter, value_is}
use Rattle.serde_json.specs.Data as data'
use Rattle.serde_json.specs.Read.{converted, of_json}
use Rattle.st_plain.specs.Names.{name_cmp}
use Rattle.st_plain.proofs.GatheredLemmas.{came_up, none_gathered, one_more, were_put}
use Rattle.st_plain.proofs.RespellingLemmas.{array_data, boolean_data, handed_on, item_refused, items_before, items_data_over, items_written, items_written_more, key_refused, list_written, member_refused, members_data_over, next_item_data, next_member_data, no_tokens, none_before, null_data, number_data, number_written, object_data, object_written, string_data, too_deep_array, too_deep_object, mapped}
use Rattle.st_plain.proofs.respelling.+respell.Goals as goal

-- ---- a value

pub respell-returns-in_default-clause-none : goal.respell-returns-in_default-clause-none
respell-returns-in_default-clause-none t c = no_tokens c.args.depth c.args.reader.now (c.in_default.ensures.value.0)

pub respell-returns-in-EndObject-clause-none : goal.respell-returns-in-EndObject-clause-none
respell-returns-in-EndObject-clause-none t c =
    let none : value c.args.depth c.args.reader.now ≡ None = rw (value_is c.args.depth c.args.reader.now, c.in-Some.ensures.value) (grind arith) in
    ap (converted of_json) none

pub respell-returns-then-depth-eq0-clause-none : goal.respell-returns-then-depth-eq0-clause-none
respell-returns-then-depth-eq0-clause-none t c =
    let is = c.in-Some.ensures.value ∙ ap (λ k. token_of k ∷ c.next.new.self) c.in-BeginArray.is in
    too_deep_array c.args.depth c.args.reader.now c.next.new.self is (omega arith)

pub respell-returns-then-depth-eq0-2-clause-none : goal.respell-returns-then-depth-eq0-2-clause-none
respell-returns-then-depth-eq0-2-clause-none t c =
    let is = c.in-Some.ensures.value ∙ ap (λ k. token_of k ∷ c.next.new.self) c.in-BeginObject.is in
    too_deep_object c.args.depth c.args.reader.now c.next.new.self is (omega arith)

pub respell-returns-in_ok-push_all-in-Null-clause-next : goal.respell-returns-in_ok-push_all-in-Null-clause-next
respell-returns-in_ok-push_all-in-Null-clause-next t c =
    let is = c.in-Some.ensures.value ∙ ap (λ k. token_of k ∷ c.next.new.self) c.in-Null.is in
    record {
      is = data'.null;
      read = null_data c.args.depth c.args.reader.now c.next.new.self is;
      written = (_, c.in_ok-push_all-in-Null.ensures.ok, (tt, refl));
    }

pub respell-returns-in_ok-append_bool-in-Bool-clause-next : goal.respell-returns-in_ok-append_bool-in-Bool-clause-next
respell-returns-in_ok-append_bool-in-Bool-clause-next t c =
    let is = c.in-Some.ensures.value ∙ ap (λ k. token_of k ∷ c.next.new.self) c.in-Bool.is in
    record {
      is = data'.boolean c.in-Bool.b;
      read = boolean_data c.args.depth c.args.reader.now c.next.new.self c.in-Bool.b is;
      written = (_, c.in_ok-append_bool-in-Bool.ensures, (tt, refl));
    }

pub respell-returns-in_ok-append_text-in-String-clause-next : goal.respell-returns-in_ok-append_text-in-String-clause-next
respell-returns-in_ok-append_text-in-String-clause-next t c =
    let is = c.in-Some.ensures.value ∙ ap (λ k. token_of k ∷ c.next.new.self) c.in-String.is in
    let done = c.in_ok-append_text-in-String.ensures in
    record {
      is = data'.string c.in-String.text.now;
      read = string_data c.args.depth c.args.reader.now c.next.new.self c.in-String.text.now is;
      written = (_, done.text, (done.utf8, refl));
    }

pub respell-returns-in_err-respell_number-in-Number-clause-none : goal.respell-returns-in_err-respell_number-in-Number-clause-none
respell-returns-in_err-respell_number-in-Number-clause-none t c =
    let is = c.in-Some.ensures.value ∙ ap (λ k. token_of k ∷ c.next.new.self) c.in-Number.is in
    handed_on _ _ _ c.in_err-respell_number-in-Number.field-0.0 (grind arith) c.in_err-respell_number-in-Number.ensures.none
    (λ none. number_data c.args.depth c.args.reader.now c.next.new.self c.in-Number.text.now None is none)

pub respell-returns-in_ok-respell_number-in-Number-clause-next : goal.respell-returns-in_ok-respell_number-in-Number-clause-next
respell-returns-in_ok-respell_number-in-Number-clause-next t c =
    let is = c.in-Some.ensures.value ∙ ap (λ k. token_of k ∷ c.next.new.self) c.in-Number.is in
    let found = c.in_ok-respell_number-in-Number.ensures.number in
    record {
      is = data'.number found.is;
      read = number_data c.args.depth c.args.reader.now c.next.new.self c.in-Number.text.now (Some found.is) is found.read;
      written = number_written _ _ _ found.written;
    }

pub respell-returns-in_err-respell_items-in-BeginArray-clause-none : goal.respell-returns-in_err-respell_items-in-BeginArray-clause-none
respell-returns-in_err-respell_items-in-BeginArray-clause-none t c =
    let is = c.in-Some.ensures.value ∙ ap (λ k. token_of k ∷ c.next.new.self) c.in-BeginArray.is in
    handed_on _ _ _ c.in_err-respell_items-in-BeginArray.field-0.0 (grind arith) c.in_err-respell_items-in-BeginArray.ensures.none
    (λ none. array_data c.args.depth c.args.reader.now c.next.new.self None is (omega arith) none)

pub respell-returns-in_ok-push_all-in-BeginArray-2-clause-next : goal.respell-returns-in_ok-push_all-in-BeginArray-2-clause-next
respell-returns-in_ok-push_all-in-BeginArray-2-clause-next t c =
    let is = c.in-Some.ensures.value ∙ ap (λ k. token_of k ∷ c.next.new.self) c.in-BeginArray.is in
    let found = c.in_ok-respell_items-in-BeginArray.ensures.items in
    record {
      is = data'.array found.are;
      read = array_data c.args.depth c.args.reader.now c.next.new.self (Some (found.are, c.respell_items.new.reader)) is (omega arith) found.read;
      written = list_written _ c.args.out.now.items _ _ _ c.in_ok-push_all-in-BeginArray.ensures.ok found.written c.in_ok-push_all-in-BeginArray-2.ensures.ok;
    }

pub respell-returns-in_err-respell_members-in-BeginObject-clause-none : goal.respell-returns-in_err-respell_members-in-BeginObject-clause-none
respell-returns-in_err-respell_members-in-BeginObject-clause-none t c =
    let is = c.in-Some.ensures.value ∙ ap (λ k. token_of k ∷ c.next.new.self) c.in-BeginObject.is in
    handed_on _ _ _ c.in_err-respell_members-in-BeginObject.field-0.0 (grind arith) c.in_err-respell_members-in-BeginObject.ensures.none
    (λ none. object_data c.args.depth c.args.reader.now c.next.new.self None is (omega arith) none)

pub respell-returns-in_ok-push_all-in-BeginObject-2-clause-next : goal.respell-returns-in_ok-push_all-in-BeginObject-2-clause-next
respell-returns-in_ok-push_all-in-BeginObject-2-clause-next t c =
    let is = c.in-Some.ensures.value ∙ ap (λ k. token_of k ∷ c.next.new.self) c.in-BeginObject.is in
    let found = c.in_ok-respell_members-in-BeginObject.ensures.members in
    record {
      is = data'.object found.are;
      read = object_data c.args.depth c.args.reader.now c.next.new.self (Some (found.are, c.respell_members.new.reader)) is (omega arith) found.read;
      written = object_written _ c.args.out.now.items _ _ _ c.in_ok-push_all-in-BeginObject.ensures.ok found.written c.in_ok-push_all-in-BeginObject-2.ensures.ok;
    }

-- ---- items

pub respell_items-items-init : goal.respell_items-items-init
respell_items-items-init t c =
    ([], length c.args.reader.now, omega arith, none_before _, omega arith, ([], search rules, ((tt, refl), refl)))

pub respell_items-returns-in_err-respell-clause-none : goal.respell_items-returns-in_err-respell-clause-none
respell_items-returns-in_err-respell-clause-none t c =
    let l = c.items in
    let going : (after_end_array l.reader ≡ None) × (c.take_end_array.new.self ≡ l.reader) = grind arith in
    handed_on _ _ _ c.in_err-respell.field-0.0 (grind arith) c.in_err-respell.ensures.none
    (λ none. l.invariant.3 ∙ item_refused (value c.args.depth) l.invariant.1 l.reader l.invariant.0 going.0 (rw going.1 at none))

pub respell_items-items-preserved : goal.respell_items-items-preserved
respell_items-items-preserved t c =
    let l = c.items in
    let ds = l.invariant.0 in
    let n = l.invariant.1 in
    let r = c.respell.new.reader in
    let going : (after_end_array l.reader ≡ None) × (c.take_end_array.new.self ≡ l.reader) = grind arith in
    let done = c.in_ok-respell.ensures in
    let next = done.next in
    let read = rw going.1 at next.read in
    let shorter : length r < length l.reader = rw (← going.1) done.shorter in (
      ds ++ next.is ∷ [],
      n - 1,
      omega (arith, l.invariant.2),
      l.invariant.3 ∙ next_item_data (value c.args.depth) n l.reader ds next.is r (omega (arith, l.invariant.2)) going.0 read,
      omega (arith, l.invariant.4),
      items_written_more c.args.out.now.items l.out.items c.append_comma.new.out.items c.respell.new.out.items l.comma
          c.in_ok-append_comma.ensures ds next.is l.invariant.5 next.written,
    )

pub respell_items-returns-clause-items : goal.respell_items-returns-clause-items
respell_items-returns-clause-items t c =
    let l = c.items in
    let ds = l.invariant.0 in
    record {
      are = items_before ds data'.no_items;
      read = l.invariant.3 ∙ items_data_over (value c.args.depth) l.invariant.1 l.reader ds c.take_end_array.new.self l.invariant.2 (grind arith);
      written = items_written ds l.comma c.args.out.now.items l.out.items l.invariant.5;
    }

-- ---- members

pub respell_members-members-init : goal.respell_members-members-init
respell_members-members-init t c =
    (data'.no_members, length c.args.reader.now, omega arith, refl, omega arith, none_gathered _ _ (search rules), refl)

pub respell_members-returns-in_default-clause-none : goal.respell_members-returns-in_default-clause-none
respell_members-returns-in_default-clause-none t c =
    let l = c.members in
    l.invariant.3 ∙ key_refused l.invariant.0 (value c.args.depth) l.invariant.1 l.reader c.in_default.ensures.value

pub respell_members-returns-in_err-respell-clause-none : goal.respell_members-returns-in_err-respell-clause-none
respell_members-returns-in_err-respell-clause-none t c =
    let l = c.members in
    let k = c.in-Some.key.now in
    let s = c.next_key.new.self in
    let named : read_key l.reader ≡ Some (Some k, s) = grind arith in
    handed_on _ _ _ c.in_err-respell.field-0.0 (grind arith) c.in_err-respell.ensures.none
    (λ none. l.invariant.3 ∙ member_refused l.invariant.0 (value c.args.depth) l.invariant.1 l.reader s k named none)

pub respell_members-members-preserved : goal.respell_members-members-preserved
respell_members-members-preserved t c =
    let l = c.members in
    let ds = l.invariant.0 in
    let n = l.invariant.1 in
    let k = c.in-Some.key.now in
    let s = c.next_key.new.self in
    let r = c.respell.new.reader in
    let named : read_key l.reader ≡ Some (Some k, s) = grind arith in
    let done = c.in_ok-respell.ensures in
    let next = done.next in
    let begun = c.in_ok-begun.ensures in
    let less = read_key-shorter l.reader (Some k) s named in
    let lesser = done.shorter in
    let some = c.is_some.ensures ∙ l.invariant.6 in (
      data'.put k next.is ds,
      n - 1,
      omega (arith, l.invariant.2),
      l.invariant.3 ∙ next_member_data ds (value c.args.depth) n l.reader s r k next.is (omega (arith, l.invariant.2)) named next.read,
      omega (arith, l.invariant.4),
      one_more ds c.args.out.now.items l.out.items l.places.items l.up _ l.invariant.5 k next.is c.begin.new.text.items c.respell.new.out.items c.in_ok-begun.begun
          c.end.new.places.items c.is_above-above.result begun.utf8 (λ up. mapped (λ name. name.now) (λ name. name_cmp name k ≡ Less) l.last (c.is_above-above.ensures up))
          (rw (← some) begun.text) (rw (← some) begun.place) next.written c.in_ok-end.ensures,
      refl,
    )

pub respell_members-returns-else-not-up-clause-members : goal.respell_members-returns-else-not-up-clause-members
respell_members-returns-else-not-up-clause-members t c =
    let l = c.members in
    let ds = l.invariant.0 in
    record {
      are = ds;
      read = l.invariant.3 ∙ members_data_over ds (value c.args.depth) l.invariant.1 l.reader c.next_key.new.self l.invariant.2 (grind arith);
      written = came_up ds c.args.out.now.items l.out.items l.places.items l.up _ l.invariant.5 (search rules);
    }

pub respell_members-returns-in_ok-put_in_order-clause-members : goal.respell_members-returns-in_ok-put_in_order-clause-members
respell_members-returns-in_ok-put_in_order-clause-members t c =
    let l = c.members in
    let ds = l.invariant.0 in
    record {
      are = ds;
      read = l.invariant.3 ∙ members_data_over ds (value c.args.depth) l.invariant.1 l.reader c.next_key.new.self l.invariant.2 (grind arith);
      written = were_put ds c.args.out.now.items l.out.items l.places.items l.up _ l.invariant.5 c.put_in_order.new.text.items _ (search rules) c.in_ok-put_in_order.ensures;
    }
