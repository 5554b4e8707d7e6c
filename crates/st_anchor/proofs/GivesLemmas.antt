-- One more operation is given: the earlier ones, and the item at its place with what belongs to it.
use Rattle.std.proofs.Common.{◌≡◌, ◌∙◌, ℕ, zero, suc, ◌+◌, ◌<◌, ◌≤◌, List, [], ◌∷◌, ◌++◌, drop, get_or, length, map, take, Option, refl, sym, ap, subst, append_assoc, arith, Bool, true, false, append-nil}
use Rattle.std.proofs.lemmas.Bool.{or_parts, or_right}
use Rattle.std.proofs.lemmas.List.{map_more, take_all}
use Rattle.std.proofs.lemmas.List.Folds.{list_any-append}
use Rattle.std.specs.List.{list_any}
use Rattle.std.specs.Prelude.{slice_get, ◌||◌}
use Rattle.st_base.specs.Lists.{has_twice, shares_one}
use Rattle.st_hash.specs.Hash.{HashValue, same_hash, same_hash-equivalence}
use Rattle.st_params.specs.ParamsValue.{ParamsValue}
use Rattle.st_indexfiles.specs.CoreIndex.{suffixes_of, suffix_of}
use Rattle.st_indexfiles.specs.ProvisionalIndex.{suffixes_in, core_count}
use Rattle.st_indexfiles.specs.declared.core_index.CoreIndex.{CoreIndex}
use Rattle.st_ops.specs.Operation.{Proof}
use Rattle.st_content.specs.Files.{Files}
use Rattle.st_anchor.proofs.SoundLemmas.{sound-known}
use Rattle.st_anchor.proofs.SuffixLemmas.{suffixes_below, suffixes_given-given, suffixes_known, suffixes_updated, targeted, where_read}
use Rattle.st_anchor.specs.BoundValue.{BoundValue, as_it_is, core_in, core_over, core_proof_in, known, known_from, looked_up, provisional_in, provisional_over, provisional_proof_in}
use Rattle.st_anchor.specs.Gives.{beside, given, gives, suffixes_given}
use Rattle.st_anchor.specs.States.{Holds, IsSound, IsSoundCore, IsSoundProvisional, core_proof_count, count_read, opened_in_core, opened_in_provisional, opened_proofs}
use Rattle.st_anchor.specs.declared.branches.Context.{Context}
use Rattle.st_anchor.specs.declared.branches.CoreBranch.{CoreBranch}
use Rattle.st_anchor.specs.declared.branches.OpenedCore.{OpenedCore}
use Rattle.st_anchor.specs.declared.branches.ProvisionalBranch.{ProvisionalBranch}
use Rattle.st_anchor.specs.declared.part.Part.{Part}
use Rattle.st_anchor.specs.declared.part.Part.TheVariants.{Unneeded, Missing, Rejected, Is}

pub length-beside : {Item Other : Type 0} (items : List Item) (others : List Other) → length (beside items others) ≡ length items
length-beside [] others = refl
length-beside (item ∷ items) others = ap suc (length-beside items (drop 1 others))

get-rest : {Other : Type 0} (others : List Other) (at : ℕ) → slice_get (drop 1 others) at ≡ slice_get others (suc at)
get-rest [] at = refl
get-rest (other ∷ others) at = refl

-- the pair at a place
pub at-beside : {Item Other : Type 0} (items : List Item) (others : List Other) (at : ℕ) (item : Item) (none : Item × Option Other) → at < length items
    → get_or (beside items others) at none ≡ (get_or items at item, slice_get others at)
at-beside [] others at item none inside = absurd (omega arith)
at-beside (first ∷ items) others zero item none inside = refl
at-beside (first ∷ items) others (suc at) item none inside =
    at-beside items (drop 1 others) at item none (omega arith)
    ∙ ap (λ other. (get_or items at item, other)) (get-rest others at)

pub inside-beside : {Item Other : Type 0} (items : List Item) (others : List Other) (at : ℕ) → at < length items → at < length (beside items others)
inside-beside items others at inside = subst (λ n. at < n) (sym (length-beside items others)) inside

pub past-beside : {Item Other : Type 0} (items : List Item) (others : List Other) (at : ℕ) → length items ≤ at → length (beside items others) ≤ at
past-beside items others at past = subst (λ n. n ≤ at) (sym (length-beside items others)) past

-- ---- a list built item by item

map-twice : {X Y Z : Type 0} (g : Y → Z) (f : X → Y) (xs : List X) → map (λ x. g (f x)) xs ≡ map g (map f xs)
map-twice g f [] = refl
map-twice g f (x ∷ xs) = ap (λ rest. g (f x) ∷ rest) (map-twice g f xs)

module _ {Item Given Made Seen : Type 0} (view : Given → Seen) (seen : Made → Seen) (make : Item → Made) where
  pub given-more : (items : List Item) (at : ℕ) (item : Item) (list : List Given) (start : List Seen) → at < length items
      → map view list ≡ start ++ map (λ item. seen (make item)) (take at items)
      → map view list ++ seen (make (get_or items at item)) ∷ [] ≡ start ++ map (λ item. seen (make item)) (take (at + 1) items)
  given-more items at item list start inside before =
      ap (λ done. done ++ seen (make (get_or items at item)) ∷ []) before
      ∙ append_assoc start (map (λ item. seen (make item)) (take at items)) (seen (make (get_or items at item)) ∷ [])
      ∙ ap (λ done. start ++ done) (sym (map_more (λ item. seen (make item)) items at item inside))

  pub given-all : (items : List Item) (at : ℕ) (list : List Given) (start : List Seen) → length items ≤ at
      → map view list ≡ start ++ map (λ item. seen (make item)) (take at items) → map view list ≡ start ++ map seen (map make items)
  given-all items at list start past before =
      before ∙ ap (λ front. start ++ map (λ item. seen (make item)) front) (take_all at items past) ∙ ap (λ done. start ++ done) (map-twice seen make items)

-- ---- Consequences of the rules of files for an entry.
--     given-once, gives-once   no suffix appears twice among the operations of an entry
--     given-kept               a suffix with an operation has one over more files too
--     opened_proofs-few        the proof files that were read have at most as many signed texts as the declared count

-- ---- items that appear twice

module _ {Item : Type 0} (same : Item → Item → Bool) (symm : (x y : Item) → same x y ≡ same y x) where
  any-parts : (test : Item → Bool) (xs ys : List Item) → list_any test (xs ++ ys) ≡ false → (list_any test xs ≡ false) × (list_any test ys ≡ false)
  any-parts test xs ys none = or_parts (list_any test xs) (list_any test ys) (sym (list_any-append test xs ys) ∙ none)

  -- if no item of a list appears twice, none of a prefix does
  pub has_twice-front : (xs ys : List Item) → has_twice same (xs ++ ys) ≡ false → has_twice same xs ≡ false
  has_twice-front [] ys once = refl
  has_twice-front (x ∷ xs) ys once =
      let parts = or_parts (list_any (same x) (xs ++ ys)) (has_twice same (xs ++ ys)) once in
      rw (any-parts (same x) xs ys parts.0).0 (has_twice-front xs ys parts.1)

  -- items disjoint from a list are disjoint from a prefix
  pub shares_one-front : (us xs ys : List Item) → shares_one same us (xs ++ ys) ≡ false → shares_one same us xs ≡ false
  shares_one-front [] xs ys apart = refl
  shares_one-front (u ∷ us) xs ys apart =
      let parts = or_parts (list_any (same u) (xs ++ ys)) (shares_one same us (xs ++ ys)) apart in
      rw (any-parts (same u) xs ys parts.0).0 (shares_one-front us xs ys parts.1)

  -- an item that none of these is, and the others they are disjoint from
  shares_one-first : (us : List Item) (x : Item) (xs : List Item) → shares_one same us (x ∷ xs) ≡ false
      → (list_any (same x) us ≡ false) × (shares_one same us xs ≡ false)
  shares_one-first [] x xs apart = (refl, refl)
  shares_one-first (u ∷ us) x xs apart =
      let parts = or_parts (same u x || list_any (same u) xs) (shares_one same us (x ∷ xs)) apart in
      let here = or_parts (same u x) (list_any (same u) xs) parts.0 in
      let later = shares_one-first us x xs parts.1 in
      (rw (symm x u, here.0) later.0, rw here.1 later.1)

  -- no item of both appears twice, if none of each does and they are disjoint
  pub has_twice-both : (xs us : List Item) → has_twice same xs ≡ false → has_twice same us ≡ false → shares_one same us xs ≡ false
      → has_twice same (xs ++ us) ≡ false
  has_twice-both [] us once other apart = other
  has_twice-both (x ∷ xs) us once other apart =
      let parts = or_parts (list_any (same x) xs) (has_twice same xs) once in
      let first = shares_one-first us x xs apart in
      rw (list_any-append (same x) xs us, parts.0, first.0) (has_twice-both xs us parts.1 other first.1)

-- ---- signed texts

count_read-few : {Says : Type 0} (count : Says → ℕ) (most : ℕ) (part : Part Says) → Holds (λ says. count says ≤ most) part → count_read count part ≤ most
count_read-few count most Unneeded few = omega arith
count_read-few count most (Missing uri) few = omega arith
count_read-few count most (Rejected rule) few = omega arith
count_read-few count most (Is says) few = few

few-below : (context : Context) (core : CoreIndex) (part : Part ProvisionalBranch) → core_count core ≤ context.count
    → Holds (IsSoundProvisional context core) part → core_count core + count_read opened_in_provisional part ≤ context.count
few-below context core Unneeded few sound = omega arith
few-below context core (Missing uri) few sound = omega arith
few-below context core (Rejected rule) few sound = omega arith
few-below context core (Is branch) few sound =
    omega (arith, sound.few, count_read-few length (length branch.says.updates) branch.proofs sound.proofs)

few-opened : (context : Context) (part : Part CoreBranch) → Holds (IsSoundCore context) part → count_read opened_in_core part ≤ context.count
few-opened context Unneeded sound = omega arith
few-opened context (Missing uri) sound = omega arith
few-opened context (Rejected rule) sound = omega arith
few-opened context (Is branch) sound =
    omega (
      arith,
      count_read-few core_proof_count (length branch.says.recovers + length branch.says.deactivates) branch.proofs sound.proofs,
      few-below context branch.says branch.provisional sound.few sound.provisional,
    )

pub opened_proofs-few : (files : Files) (limits : ParamsValue) (text : List ℕ)
    → opened_proofs (known files limits text) ≤ (known files limits text).context.count
unfolding opened_proofs
opened_proofs-few files limits text =
    few-opened (known files limits text).context (known files limits text).core (sound-known files limits text)

-- ---- no suffix appears twice

-- a property of a list that its prefixes inherit
front_kept : (P : List HashValue → Type 0) → ((xs ys : List HashValue) → P (xs ++ ys) → P xs) → (creates recovers deactivates : List HashValue)
    → P (creates ++ recovers ++ deactivates) → P (creates ++ [] ++ [])
front_kept P front creates recovers deactivates all =
    subst P (sym (append-nil (creates ++ []) ∙ append-nil creates)) (front creates recovers (front (creates ++ recovers) deactivates all))

-- holds for the given suffixes
kept_where : (P : List HashValue → Type 0) → ((xs ys : List HashValue) → P (xs ++ ys) → P xs)
    → (part : Part OpenedCore) (creates recovers deactivates : List HashValue)
    → P (creates ++ recovers ++ deactivates) → P (creates ++ where_read part recovers ++ where_read part deactivates)
kept_where P front Unneeded creates recovers deactivates all = front_kept P front creates recovers deactivates all
kept_where P front (Missing uri) creates recovers deactivates all = front_kept P front creates recovers deactivates all
kept_where P front (Rejected rule) creates recovers deactivates all = front_kept P front creates recovers deactivates all
kept_where P front (Is proofs) creates recovers deactivates all = all

abbrev once : List HashValue → Type 0
once hashes = has_twice same_hash hashes ≡ false

once-nothing : (front : List HashValue) → once front → once (front ++ [])
once-nothing front is = subst once (sym (append-nil front)) is

once-where : (part : Part (List (Option Proof))) (front us : List HashValue) → once front → once us → shares_one same_hash us front ≡ false
    → once (front ++ where_read part us)
once-where Unneeded front us is own apart = once-nothing front is
once-where (Missing uri) front us is own apart = once-nothing front is
once-where (Rejected rule) front us is own apart = once-nothing front is
once-where (Is proofs) front us is own apart = has_twice-both same_hash same_hash-equivalence.symm front us is own apart

once-updates : (context : Context) (core : CoreIndex) (part : Part ProvisionalBranch) (front : List HashValue)
    → once front → ((us : List HashValue) → shares_one same_hash us (suffixes_of core) ≡ false → shares_one same_hash us front ≡ false)
    → Holds (IsSoundProvisional context core) part → once (front ++ suffixes_updated part)
once-updates context core Unneeded front is apart sound = once-nothing front is
once-updates context core (Missing uri) front is apart sound = once-nothing front is
once-updates context core (Rejected rule) front is apart sound = once-nothing front is
once-updates context core (Is branch) front is apart sound =
    let us : List HashValue = suffixes_in branch.says.updates in
    let parts = or_parts (has_twice same_hash us) (shares_one same_hash us (suffixes_of core)) sound.apart in
    once-where branch.proofs front us is parts.0 (apart us parts.1)

once-below : (context : Context) (branch : CoreBranch) → IsSoundCore context branch → once (suffixes_below branch)
once-below context branch sound =
    let creates : List HashValue = map suffix_of branch.says.creates in
    let recovers : List HashValue = targeted branch.says.recovers in
    let deactivates : List HashValue = targeted branch.says.deactivates in
    once-updates context branch.says branch.provisional (creates ++ where_read branch.proofs recovers ++ where_read branch.proofs deactivates)
    (kept_where once (has_twice-front same_hash same_hash-equivalence.symm) branch.proofs creates recovers deactivates sound.once)
    (λ us apart. kept_where (λ hashes. shares_one same_hash us hashes ≡ false)
    (shares_one-front same_hash same_hash-equivalence.symm us) branch.proofs creates recovers deactivates apart)
    sound.provisional

once-part : (context : Context) (part : Part CoreBranch) → Holds (IsSoundCore context) part → once (suffixes_known part)
once-part context Unneeded sound = refl
once-part context (Missing uri) sound = refl
once-part context (Rejected rule) sound = refl
once-part context (Is branch) sound = once-below context branch sound

pub given-once : (bound : BoundValue) → IsSound bound → has_twice same_hash (suffixes_given (given bound)) ≡ false
given-once bound sound = subst once (sym (suffixes_given-given bound)) (once-part bound.context bound.core sound)

pub gives-once : (files : Files) (limits : ParamsValue) (text : List ℕ) → has_twice same_hash (suffixes_given (gives files limits text)) ≡ false
gives-once files limits text = given-once (known files limits text) (sound-known files limits text)

-- ---- more files withhold no operation that was given

-- each suffix of the first list is also in the second
abbrev pub Grows : List HashValue → List HashValue → Type 0
Grows before after = (suffix : HashValue) → list_any (same_hash suffix) before ≡ true → list_any (same_hash suffix) after ≡ true

or-grows : (a b c d : Bool) → (a ≡ true → c ≡ true) → (b ≡ true → d ≡ true) → (a || b) ≡ true → (c || d) ≡ true
or-grows true b c d first second any = rw (first refl) refl
or-grows false b c d first second any = or_right c d (second any)

grows-append : (a b c d : List HashValue) → Grows a c → Grows b d → Grows (a ++ b) (c ++ d)
grows-append a b c d first second suffix any =
    list_any-append (same_hash suffix) c d
    ∙ or-grows (list_any (same_hash suffix) a) (list_any (same_hash suffix) b) (list_any (same_hash suffix) c) (list_any (same_hash suffix) d)
    (first suffix) (second suffix) (sym (list_any-append (same_hash suffix) a b) ∙ any)

grows-nil : (after : List HashValue) → Grows [] after
grows-nil after suffix any = cc

grows-same : (hashes : List HashValue) → Grows hashes hashes
grows-same hashes suffix any = any

grows-read : {Says : Type 0} (read : List ℕ → Part Says) (below : Says → Says) (files : Files) (part : Part Says) (those : List HashValue)
    → Grows (where_read part those) (where_read (looked_up read below files part) those)
grows-read read below files Unneeded those = grows-nil (where_read (looked_up read below files Unneeded) those)
grows-read read below files (Missing uri) those = grows-nil (where_read (looked_up read below files (Missing uri)) those)
grows-read read below files (Rejected rule) those = grows-nil []
grows-read read below files (Is says) those = grows-same those

grows-updated : (context : Context) (core : CoreIndex) (files : Files) (part : Part ProvisionalBranch)
    → Grows (suffixes_updated part) (suffixes_updated (looked_up (provisional_in context core) (provisional_over context core files) files part))
grows-updated context core files Unneeded = grows-nil []
grows-updated context core files (Missing uri) =
    grows-nil (suffixes_updated (looked_up (provisional_in context core) (provisional_over context core files) files (Missing uri)))
grows-updated context core files (Rejected rule) = grows-nil []
grows-updated context core files (Is branch) =
    grows-read (provisional_proof_in context branch.says) as_it_is files branch.proofs (suffixes_in branch.says.updates)

grows-below : (context : Context) (files : Files) (branch : CoreBranch) → Grows (suffixes_below branch) (suffixes_below (core_over context files branch))
grows-below context files branch =
    let creates : List HashValue = map suffix_of branch.says.creates in
    let recovers : List HashValue = targeted branch.says.recovers in
    let deactivates : List HashValue = targeted branch.says.deactivates in
    let later : Part OpenedCore = looked_up (core_proof_in context branch.says) as_it_is files branch.proofs in
    let updated : List HashValue = suffixes_updated (core_over context files branch).provisional in
    grows-append (creates ++ where_read branch.proofs recovers ++ where_read branch.proofs deactivates) (suffixes_updated branch.provisional)
    (creates ++ where_read later recovers ++ where_read later deactivates) updated
    (grows-append (creates ++ where_read branch.proofs recovers) (where_read branch.proofs deactivates)
    (creates ++ where_read later recovers) (where_read later deactivates)
    (grows-append creates (where_read branch.proofs recovers) creates (where_read later recovers) (grows-same creates)
    (grows-read (core_proof_in context branch.says) as_it_is files branch.proofs recovers))
    (grows-read (core_proof_in context branch.says) as_it_is files branch.proofs deactivates))
    (grows-updated context branch.says files branch.provisional)

grows-part : (context : Context) (files : Files) (part : Part CoreBranch)
    → Grows (suffixes_known part) (suffixes_known (looked_up (core_in context) (core_over context files) files part))
grows-part context files Unneeded = grows-nil []
grows-part context files (Missing uri) = grows-nil (suffixes_known (looked_up (core_in context) (core_over context files) files (Missing uri)))
grows-part context files (Rejected rule) = grows-nil []
grows-part context files (Is branch) = grows-below context files branch

pub given-kept : (files : Files) (bound : BoundValue) (suffix : HashValue)
    → list_any (same_hash suffix) (suffixes_given (given bound)) ≡ true
    → list_any (same_hash suffix) (suffixes_given (given (known_from files bound))) ≡ true
unfolding known_from
given-kept files bound suffix any =
    ap (list_any (same_hash suffix)) (suffixes_given-given (known_from files bound))
    ∙ grows-part bound.context files bound.core suffix (sym (ap (list_any (same_hash suffix)) (suffixes_given-given bound)) ∙ any)
