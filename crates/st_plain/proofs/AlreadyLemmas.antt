-- A text that is already canonical, scanned from the front.
use Rattle.std.proofs.Common.{◌≡◌, ◌∙◌, ℕ, ◌-◌, ◌<◌, ◌≤◌, Bool, true, List, [], ◌∷◌, ◌++◌, Option, Some, None, option_map, is_some, Ok, IfSome, refl, sym, ap, arith, append_assoc, subst, codes}
use Rattle.std.specs.List.{flat_map}
use Rattle.std.specs.Prelude.{ℤ, false, nat_lt}
use Rattle.std.specs.Str.{IsUtf8}
use Rattle.std.specs.declared.cmp.Ordering.TheVariants.{Less}
use Rattle.std.specs.Fmt.{signed_decimal}
use Rattle.std.proofs.lemmas.Bool.Decides.{nat_tests}
use Rattle.std.proofs.lemmas.List.{append-nil}
use Rattle.std.proofs.lemmas.List.Concat.{flat_map-append}
use Rattle.std.proofs.lemmas.Str.{IsUtf8-append, IsUtf8-nil}
use Rattle.json.proofs.Printed.Utf8.{IsUtf8-are_ascii}
use Rattle.st_plain.specs.Plain.{canonical, canonical_items, canonical_members, comma, escape, quoted, IsWhole, null, boolean, whole, text, list, object, Items, no_items, item, Members, no_members, member, AllAbove, ItemsAreProper, MembersAreProper}
use Rattle.st_plain.specs.Measures.{items_nest, members_nest}
use Rattle.st_plain.specs.inside.Objects.{ranks_cmp}
use Rattle.st_plain.specs.inside.Walk.{IsEscapeInFront, IsInFront, IsTextInFront, ItemsAreInFront, MembersAreInFront, name_of}
use Rattle.st_plain.specs.Names.{name_cmp}
use Rattle.st_plain.specs.ReadAgain.{IsReadAgain}
use Rattle.st_plain.specs.Shapes.{json_of}
use Rattle.st_plain.proofs.HeldLemmas.{name_is}
use Rattle.st_plain.proofs.WalkLemmas.{back_within}
use Rattle.st_plain.proofs.NameLemmas.{name_total}
use Rattle.st_plain.proofs.RankLemmas.{names_ranked}

-- ---- all of a text

pub all_read_again : (bytes : List ℕ) → IsInFront 127 bytes [] → IsReadAgain bytes
all_read_again bytes front =
    let is = front.spelled ∙ append-nil (canonical front.is) in
    let again : json_of bytes ≡ Ok front.is = ap json_of is ∙ back_within front.is front.proper front.shallow in
    rw again (front.proper, refl, sym is)

-- ---- a value

pub text_in_front : (depth : ℕ) (bytes word rest : List ℕ) → IsUtf8 word → bytes ≡ quoted word ++ rest → IsInFront depth bytes rest
text_in_front depth bytes word rest utf8 spelled = record { is = text word; proper = utf8; shallow = omega arith; spelled = spelled }

pub deeper : (depth : ℕ) (bytes rest : List ℕ) → IsInFront 0 bytes rest → IsInFront depth bytes rest
deeper depth bytes rest front =
    let flat = front.shallow in
    record { is = front.is; proper = front.proper; shallow = omega (arith, flat); spelled = front.spelled }

pub null_in_front : (bytes rest : List ℕ) → bytes ≡ codes "null" ++ rest → IsInFront 0 bytes rest
null_in_front bytes rest spelled = record { is = null; proper = tt; shallow = omega arith; spelled = spelled }

pub true_in_front : (bytes rest : List ℕ) → bytes ≡ codes "true" ++ rest → IsInFront 0 bytes rest
true_in_front bytes rest spelled = record { is = boolean true; proper = tt; shallow = omega arith; spelled = spelled }

pub false_in_front : (bytes rest : List ℕ) → bytes ≡ codes "false" ++ rest → IsInFront 0 bytes rest
false_in_front bytes rest spelled = record { is = boolean false; proper = tt; shallow = omega arith; spelled = spelled }

pub number_in_front : (bytes digits rest : List ℕ) (z : ℤ) → IsWhole z → bytes ≡ digits ++ rest → digits ≡ signed_decimal z → IsInFront 0 bytes rest
number_in_front bytes digits rest z proper parted is =
    record { is = whole z; proper = proper; shallow = omega arith; spelled = parted ∙ ap (λ them. them ++ rest) is }

-- ---- a text, by runs and escaped bytes

-- the text was scanned up to here
pub record TextGoesOn (bytes rest : List ℕ) : Type 0 where
  pub word : List ℕ
  pub utf8 : IsUtf8 word
  pub spelled : bytes ≡ 34 ∷ (flat_map escape word ++ rest)

pub text_begins : (bytes rest : List ℕ) → bytes ≡ 34 ∷ rest → TextGoesOn bytes rest
text_begins bytes rest is = record { word = []; utf8 = IsUtf8-nil; spelled = is }

pub one_span_more : (bytes rest span behind : List ℕ) → TextGoesOn bytes rest → flat_map escape span ≡ span → rest ≡ span ++ behind → IsUtf8 span
    → TextGoesOn bytes behind
one_span_more bytes rest span behind go plain parted utf8 = record {
  word = go.word ++ span;
  utf8 = IsUtf8-append go.word span go.utf8 utf8;
  spelled = go.spelled ∙ ap (λ them. 34 ∷ (flat_map escape go.word ++ them)) (parted ∙ ap (λ them. them ++ behind) (sym plain))
      ∙ ap (λ them. 34 ∷ them) (sym (append_assoc (flat_map escape go.word) (flat_map escape span) behind)
      ∙ ap (λ them. them ++ behind) (sym (flat_map-append escape go.word span)));
}

one_byte : (b : ℕ) → flat_map escape (b ∷ []) ≡ escape b
one_byte b = append-nil (escape b)

pub one_byte_more : (bytes rest behind : List ℕ) → TextGoesOn bytes rest → IsEscapeInFront rest behind → TextGoesOn bytes behind
one_byte_more bytes rest behind go first =
    let ascii : nat_lt first.byte 128 ≡ true = (let small = first.ascii in grind (arith, nat_tests)) in
    let utf8 = IsUtf8-are_ascii (first.byte ∷ []) (rw ascii refl) in record {
      word = go.word ++ first.byte ∷ [];
      utf8 = IsUtf8-append go.word (first.byte ∷ []) go.utf8 utf8;
      spelled = go.spelled ∙ ap (λ them. 34 ∷ (flat_map escape go.word ++ them)) (first.spelled ∙ ap (λ them. them ++ behind) (sym (one_byte first.byte)))
          ∙ ap (λ them. 34 ∷ them) (sym (append_assoc (flat_map escape go.word) (flat_map escape (first.byte ∷ [])) behind)
          ∙ ap (λ them. them ++ behind) (sym (flat_map-append escape go.word (first.byte ∷ []))));
    }

pub text_ends : (bytes rest behind : List ℕ) → TextGoesOn bytes rest → rest ≡ 34 ∷ behind → IsTextInFront bytes behind
text_ends bytes rest behind go closes = record {
  word = go.word;
  utf8 = go.utf8;
  spelled = go.spelled ∙ ap (λ them. 34 ∷ (flat_map escape go.word ++ them)) closes
      ∙ ap (λ them. 34 ∷ them) (sym (append_assoc (flat_map escape go.word) (34 ∷ []) behind));
}

pub named : (bytes rest : List ℕ) (front : IsTextInFront bytes rest) → name_of bytes ≡ front.word
named bytes rest front =
    ap name_of (front.spelled ∙ append_assoc (34 ∷ flat_map escape front.word) (34 ∷ []) rest) ∙ name_is front.word rest

-- a body between brackets
closed : (bytes inside body rest : List ℕ) (left right : ℕ) → bytes ≡ left ∷ inside → inside ≡ body ++ right ∷ rest
    → bytes ≡ (left ∷ (body ++ right ∷ [])) ++ rest
closed bytes inside body rest left right begins ends = begins ∙ ap (λ more. left ∷ more) (ends ∙ sym (append_assoc body (right ∷ []) rest))

pub list_in_front : (depth : ℕ) (bytes inside rest : List ℕ) → 0 < depth → bytes ≡ 91 ∷ inside → ItemsAreInFront (depth - 1) inside rest
    → IsInFront depth bytes rest
list_in_front depth bytes inside rest deep begins items =
    let shallow = items.shallow in
    record {
      is = list items.are;
      proper = items.proper;
      shallow = omega (arith, deep, shallow);
      spelled = closed bytes inside (canonical_items false items.are) rest 91 93 begins items.spelled;
    }

pub object_in_front : (depth : ℕ) (bytes inside rest : List ℕ) → 0 < depth → bytes ≡ 123 ∷ inside → MembersAreInFront (depth - 1) inside rest
    → IsInFront depth bytes rest
object_in_front depth bytes inside rest deep begins members =
    let shallow = members.shallow in
    record {
      is = object members.are;
      proper = members.proper;
      shallow = omega (arith, deep, shallow);
      spelled = closed bytes inside (canonical_members false members.are) rest 123 125 begins members.spelled;
    }

-- ---- items

-- any items that follow, with the closing bracket, are the last ones of the list that began with the text
abbrev pub ItemsGoOn : ℕ → List ℕ → Bool → List ℕ → Type 0
ItemsGoOn depth bytes due rest =
    (ps : Items) (behind : List ℕ) → ItemsAreProper ps → items_nest ps ≤ depth → rest ≡ canonical_items due ps ++ 93 ∷ behind
    → ItemsAreInFront depth bytes behind

module _ (depth : ℕ) (bytes : List ℕ) where
  pub items_begin : ItemsGoOn depth bytes false bytes
  items_begin = λ ps behind proper shallow spelled. record { are = ps; proper = proper; shallow = shallow; spelled = spelled }

  pub one_item_more : (rest value next : List ℕ) (due : Bool) → ItemsGoOn depth bytes due rest
      → rest ≡ comma due ++ value → IsInFront depth value next → ItemsGoOn depth bytes true next
  one_item_more rest value next due go parted first = λ ps behind proper shallow spelled.
      let here = canonical first.is in
      let others = canonical_items true ps in
      let deep = first.shallow in
      go (item first.is ps) behind (first.proper, proper) (omega (arith, deep, shallow))
      (parted ∙ ap (λ more. comma due ++ more) (first.spelled ∙ ap (λ more. here ++ more) spelled ∙ sym (append_assoc here others (93 ∷ behind)))
      ∙ sym (append_assoc (comma due) (here ++ others) (93 ∷ behind)))

  pub items_end : (rest behind : List ℕ) (due : Bool) → ItemsGoOn depth bytes due rest
      → rest ≡ 93 ∷ behind → ItemsAreInFront depth bytes behind
  items_end rest behind due go closes = go no_items behind tt (omega arith) closes

-- ---- members

-- the same for members whose names are above the last one
abbrev pub MembersGoOn : ℕ → List ℕ → Option (List ℕ) → List ℕ → Type 0
MembersGoOn depth bytes last rest =
    (ms : Members) (behind : List ℕ) → MembersAreProper ms → IfSome last (λ name. AllAbove name ms) → members_nest ms ≤ depth
    → rest ≡ canonical_members (is_some last) ms ++ 125 ∷ behind → MembersAreInFront depth bytes behind

pub members_begin : (depth : ℕ) (bytes : List ℕ) → MembersGoOn depth bytes None bytes
members_begin depth bytes = λ ms behind proper above shallow spelled. record { are = ms; proper = proper; shallow = shallow; spelled = spelled }

all_above : (low name : List ℕ) (ms : Members) → name_cmp low name ≡ Less → AllAbove name ms → AllAbove low ms
all_above low name no_members less all = tt
all_above low name (member n p ms) less all = (name_total.trans low name n less all.0, all_above low name ms less all.1)

above_last : (last : Option (List ℕ)) (name : List ℕ) (ms : Members) → IfSome last (λ low. name_cmp low name ≡ Less) → AllAbove name ms
    → IfSome last (λ low. (name_cmp low name ≡ Less) × AllAbove low ms)
above_last None name ms less all = tt
above_last (Some low) name ms less all = (less, all_above low name ms less all)

-- names of UTF-8 by their ranks
pub both_named : (name : List ℕ) → IsUtf8 name → (last : Option (List ℕ)) → IfSome last IsUtf8 → IfSome last (λ low. ranks_cmp low name ≡ Less)
    → IfSome last (λ low. name_cmp low name ≡ Less)
both_named name utf8 None u less = tt
both_named name utf8 (Some low) u less = names_ranked low name u utf8 ∙ less

pub still_there : {A B : Type 0} (f : A → B) (there : Option A) → is_some there ≡ is_some (option_map f there)
still_there f None = refl
still_there f (Some a) = refl

module _ (depth : ℕ) (bytes rest : List ℕ) (last : Option (List ℕ)) (go : MembersGoOn depth bytes last rest) where
  pub one_member_more : (start value next : List ℕ) → rest ≡ comma (is_some last) ++ start → IsTextInFront start (58 ∷ value)
      → IfSome last (λ low. name_cmp low (name_of start) ≡ Less) → IsInFront depth value next → MembersGoOn depth bytes (Some (name_of start)) next
  one_member_more start value next parted front less first = λ ms end proper above shallow spelled.
      let name = name_of start in
      let is = named start (58 ∷ value) front in
      let utf8 = subst IsUtf8 (sym is) front.utf8 in
      let begins : start ≡ quoted name ++ 58 ∷ value = front.spelled ∙ ap (λ word. quoted word ++ 58 ∷ value) (sym is) in
      let here = canonical first.is in
      let others = canonical_members true ms in
      let deep = first.shallow in
      go (member name first.is ms) end (utf8, above, first.proper, proper) (above_last last name ms less above) (omega (arith, deep, shallow))
      (parted ∙ ap (λ more. comma (is_some last) ++ more)
      (begins ∙ ap (λ more. quoted name ++ 58 ∷ more)
      (first.spelled ∙ ap (λ more. here ++ more) spelled ∙ sym (append_assoc here others (125 ∷ end)))
      ∙ sym (append_assoc (quoted name) (58 ∷ (here ++ others)) (125 ∷ end)))
      ∙ sym (append_assoc (comma (is_some last)) (quoted name ++ (58 ∷ (here ++ others))) (125 ∷ end)))

  pub members_end : (behind : List ℕ) → rest ≡ 125 ∷ behind → MembersAreInFront depth bytes behind
  members_end behind closes = go no_members behind tt (none_above last) (omega arith) closes
    where
      none_above : (there : Option (List ℕ)) → IfSome there (λ name. AllAbove name no_members)
      none_above None = tt
      none_above (Some name) = tt
