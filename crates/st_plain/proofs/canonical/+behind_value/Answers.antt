use Rattle.std.proofs.Common.{◌≡◌, ◌∙◌, ◌∷◌, ◌++◌, length, is_some, option_map, Less, ap, sym, subst, arith, rules, length-append}
use Rattle.std.proofs.lemmas.Option.{IfSome_then}
use Rattle.std.specs.Str.{IsUtf8}
use Rattle.st_plain.specs.Plain.{comma}
use Rattle.st_plain.specs.inside.Objects.{ranks_cmp}
use Rattle.st_plain.specs.inside.Walk.{IsTextInFront, name_of}
use Rattle.st_plain.proofs.AlreadyLemmas.{both_named, items_begin, items_end, list_in_front, members_begin, members_end, object_in_front, one_item_more, deeper, named, one_member_more, still_there, text_in_front}
use Rattle.st_plain.proofs.RespellingLemmas.{mapped}
use Rattle.st_plain.proofs.canonical.+behind_value.Goals as goal

-- ---- a value

pub behind_value-returns-in-Some-clause-value : goal.behind_value-returns-in-Some-clause-value
behind_value-returns-in-Some-clause-value t c =
    let front = c.in-Some.ensures.text in
    text_in_front c.args.depth c.args.text.now front.word _ front.utf8 front.spelled

pub behind_value-returns-in-Some-behind_scalar-clause-value : goal.behind_value-returns-in-Some-behind_scalar-clause-value
behind_value-returns-in-Some-behind_scalar-clause-value t c =
    deeper c.args.depth c.args.text.now _ c.in-Some-behind_scalar.ensures.value

pub behind_value-returns-in-Some-behind_byte-clause-value : goal.behind_value-returns-in-Some-behind_byte-clause-value
behind_value-returns-in-Some-behind_byte-clause-value t c =
    let inside = c.in-Some-behind_byte.members.now in
    IfSome_then c.behind_members.result c.behind_members.ensures.members
    (λ rest members. object_in_front c.args.depth c.args.text.now inside rest.now (omega arith) c.in-Some-behind_byte.ensures members)

pub behind_value-returns-clause-value : goal.behind_value-returns-clause-value
behind_value-returns-clause-value t c =
    let inside = c.in_ok-behind_byte.field-0.now in
    IfSome_then c.behind_items.result c.behind_items.ensures.items
    (λ rest items. list_in_front c.args.depth c.args.text.now inside rest.now (omega arith) c.in_ok-behind_byte.ensures items)

-- ---- items

pub behind_items-items-init : goal.behind_items-items-init
behind_items-items-init t c = record {
  text = search rules;
  shorter = omega arith;
  whole = items_begin c.args.depth c.args.text.now;
}

pub behind_items-items-preserved : goal.behind_items-items-preserved
behind_items-items-preserved t c =
    let l = c.items in
    let next = c.in_ok-rest in
    let less = next.ensures.shorter in
    let parted : l.rest.now ≡ comma l.comma ++ c.in_ok-behind_comma.field-0.now = c.in_ok-behind_comma.ensures in
    record {
      text = search rules;
      shorter = omega (arith, l.invariant.shorter, less, ap length parted, length-append (comma l.comma) c.in_ok-behind_comma.field-0.now);
      whole = one_item_more c.args.depth c.args.text.now l.rest.now c.in_ok-behind_comma.field-0.now next.rest.now l.comma l.invariant.whole
          parted next.ensures.value;
    }

pub behind_items-returns-in-Some-clause-items : goal.behind_items-returns-in-Some-clause-items
behind_items-returns-in-Some-clause-items t c =
    let l = c.items in
    items_end c.args.depth c.args.text.now l.rest.now _ l.comma l.invariant.whole c.in-Some.ensures

-- ---- members

pub behind_members-members-init : goal.behind_members-members-init
behind_members-members-init t c = record {
  text = search rules;
  shorter = omega arith;
  named = tt;
  whole = members_begin c.args.depth c.args.text.now;
}

pub behind_members-members-preserved : goal.behind_members-members-preserved
behind_members-members-preserved t c =
    let l = c.members in
    let next = c.in_ok-rest in
    let name = c.in_ok-name.name.now in
    let colon : c.in_ok-value.value.now ≡ 58 ∷ c.in_ok-behind_byte.field-0.now = c.in_ok-behind_byte.ensures in
    let front = subst (IsTextInFront name) colon c.in_ok-value.ensures.text in
    let last = option_map (λ name. name_of name.now) l.last in
    let due : c.is_some.result ≡ is_some last = c.is_some.ensures ∙ still_there (λ name. name_of name.now) l.last in
    let parted : l.rest.now ≡ comma (is_some last) ++ name = c.in_ok-name.ensures ∙ ap (λ d. comma d ++ name) due in
    let first = c.in_ok-value.ensures.shorter in
    let less = next.ensures.shorter in
    let utf8 : IsUtf8 (name_of name) = subst IsUtf8 (sym (named name _ front)) front.utf8 in
    let above = both_named (name_of name) utf8 (option_map (λ name. name_of name.now) l.last) l.invariant.named
    (mapped (λ name. name_of name.now) (λ low. ranks_cmp low (name_of name) ≡ Less) l.last (c.is_above.ensures (search rules))) in
    record {
      text = search rules;
      shorter = omega (arith, l.invariant.shorter, less, first, ap length colon, ap length parted, length-append (comma (is_some last)) name);
      named = utf8;
      whole = one_member_more c.args.depth c.args.text.now l.rest.now last l.invariant.whole name _ next.rest.now parted front above next.ensures.value;
    }

pub behind_members-returns-in-Some-clause-members : goal.behind_members-returns-in-Some-clause-members
behind_members-returns-in-Some-clause-members t c =
    let l = c.members in
    members_end c.args.depth c.args.text.now l.rest.now (option_map (λ name. name_of name.now) l.last) l.invariant.whole _ c.in-Some.ensures
