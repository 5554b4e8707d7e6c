-- Base64url and hash texts have one spelling each.
use Rattle.std.proofs.Common.{◌≡◌, ◌+◌, ◌*◌, ◌/◌, ℕ, [], length, arith, List, Some, refl, ap, ◌∙◌, zero, suc, ◌-◌, ◌<◌, ◌==◌, ◌&&◌, ◌||◌, inl, inr, Bool, true, false, not, if◌then◌else◌, nat_le, nat_lt, ◌∷◌, drop, slice_index, Option, None, option_and_then, subst, ◌≤◌, ◌⊎◌, cond, ◌++◌, ◌≢◌, sym}
use Rattle.std.proofs.lemmas.Bool.{cases_eq, cases_lt, and_parts, eq-eqb, eqb-true, ne_eqb}
use Rattle.std.proofs.lemmas.Bool.Decides.{nat_tests}
use Rattle.std.proofs.lemmas.List.{length-append, get_or-drop, length-drop}
use Rattle.std.proofs.lemmas.Option.{cond_some, option_and_then_some}
use Rattle.std.specs.List.{AllByRecursion}
use Rattle.std.specs.Option.{option_or}
use Rattle.std.specs.Result.{result_ok, is_ok}
use Rattle.std.specs.Str.{IsUtf8}
use Rattle.std.specs.declared.result.Result.{Result}
use Rattle.std.specs.declared.result.Result.TheVariants.{Ok, Err}
use Rattle.base64.proofs.Decoding.{length-groups_bytes}
use Rattle.base64.proofs.EngineFacts.{decode_of-encode_of, decode_of_strict}
use Rattle.base64.proofs.RoundTrip.{length-encode_symbols}
use Rattle.base64.proofs.Tables.{all_below_at}
use Rattle.base64.specs.Decode.{decode_outcome, decoded_bytes, group_error, groups_before_last, groups_error, lone_error, or_else, push_leftover, scan_error, scan_last, scan_steps, suffix_error, symbol_error, bytes_fit, groups_bytes, or_error, suffix_bytes}
use Rattle.base64.specs.Engines.{url_safe_no_pad}
use Rattle.base64.specs.GeneralPurpose.{IsBytes, decode_slice_of}
use Rattle.base64.specs.Rfc4648.{encode_symbols}
use Rattle.base64.specs.Tables.{all_below}
use Rattle.base64.specs.declared.decode.DecodeError.{DecodeError}
use Rattle.base64.specs.declared.decode.DecodeSliceError.{DecodeSliceError}
use Rattle.base64.specs.declared.decode.DecodeSliceError.TheVariants.{OutputSliceTooSmall}
use Rattle.base64.specs.declared.engine.DecodePaddingMode.{DecodePaddingMode}
use lib.Utf8.{encode, encodes, next, scalar, scalars, scalar_cases}
use Rattle.st_base.proofs.ListLemmas.{each-weaker}
use Rattle.st_base.specs.Texts.{HasNo}
use Rattle.st_hash.specs.Hash.{base64url, bytes_of_text, fixed_of_text, so_many, HashValue, hash_of_multihash, hash_of_text_at}

result_of_ok : {T E : Type 0} (r : Result T E) (x : T) → result_ok r ≡ Some x → r ≡ Ok x
result_of_ok (Ok y) x e = cc
result_of_ok (Err y) x e = cc

-- a text read as base64url is the base64url of the bytes read
pub spelled : (text bytes : List ℕ) → IsBytes text → bytes_of_text text ≡ Some bytes → text ≡ base64url bytes
spelled text bytes are_bytes found =
    decode_of_strict url_safe_no_pad text bytes (refl, refl) are_bytes (result_of_ok _ _ found)

-- and a written text is read again
pub bytes_of_text-base64url : (bytes : List ℕ) → IsBytes bytes → bytes_of_text (base64url bytes) ≡ Some bytes
bytes_of_text-base64url bytes are_bytes = ap result_ok (decode_of-encode_of url_safe_no_pad bytes refl are_bytes)

-- the length of a text
pub length-base64url : (bytes : List ℕ) → length (base64url bytes) ≡ (4 * length bytes + 2) / 3
length-base64url bytes =
    let symbols = url_safe_no_pad.encode_table in
    omega (arith, length-append (encode_symbols symbols bytes) [], length-encode_symbols symbols bytes)

-- ---- The characters of base64url (RFC 4648, section 5): a decoded text has only characters of one table, for any input,
-- bytes or not. So JSON escapes none of them, and none is a dot or a colon: a text joined with these is split there
-- again.
--     decoded_apart      no number in a decoded text is one of those
--     base64url_apart    nor is any in the base64url of bytes
--     hash_apart         nor is any in a text that is read as a hash

-- ---- the table

abbrev table : List ℕ
table = url_safe_no_pad.decode_table

-- characters with a value, and the padding
abbrev is_symbol : ℕ → Bool
is_symbol byte = (byte == 61) || not (slice_index table byte == 255)

-- no control character, quotation mark, reverse solidus, dot or colon
abbrev pub is_apart : ℕ → Bool
is_apart byte = nat_le 45 byte && (not (byte == 46) && (not (byte == 58) && not (byte == 92)))

abbrev pub IsApart : ℕ → Type 0
IsApart byte = is_apart byte ≡ true

-- this holds for each symbol
symbols_apart : all_below (λ byte. not (is_symbol byte) || is_apart byte) 256 ≡ true
symbols_apart = refl

by_table : (symbol apart : Bool) → (not symbol || apart) ≡ true → symbol ≡ true → apart ≡ true
by_table true apart all is = all
by_table false apart all is = cc is

symbol_apart : (byte : ℕ) → is_symbol byte ≡ true → IsApart byte
symbol_apart byte is = elim (cases_lt byte 256) [
  | inl below ↦
      by_table (is_symbol byte) (is_apart byte) (all_below_at (λ b. not (is_symbol b) || is_apart b) 256 byte symbols_apart below) is
  | inr past ↦ grind (arith, nat_tests)
]

-- ---- decoded texts

-- both parts of a first error that is `None`
both_none : (x y : Option DecodeError) → or_else x y ≡ None → (x ≡ None) × (y ≡ None)
both_none None y none = (refl, none)
both_none (Some e) y none = cc none

by_value : (pad bad : Bool) (e : DecodeError) → (if bad then Some e else None) ≡ None → (pad || not bad) ≡ true
by_value true bad e none = refl
by_value false true e none = cc none
by_value false false e none = refl

-- a number with no error is a symbol
symbol_at : (s : List ℕ) (i : ℕ) → symbol_error table s i ≡ None → is_symbol (slice_index s i) ≡ true
symbol_at s i none = by_value (slice_index s i == 61) (slice_index table (slice_index s i) == 255) _ none

-- so is each in the first groups of four
groups_symbols : (s : List ℕ) (q i : ℕ) → groups_error table s q ≡ None → i < 4 * q → is_symbol (slice_index s i) ≡ true
unfolding groups_error
groups_symbols s zero i none within = absurd (omega (arith, within))
groups_symbols s (suc q) i none within =
    let parts = both_none (groups_error table s q) (group_error table s (4 * q)) none in
    let at : ℕ = 4 * q in
    let first = both_none (symbol_error table s at) _ parts.1 in
    let second = both_none (symbol_error table s (at + 1)) _ first.1 in
    let third = both_none (symbol_error table s (at + 2)) (symbol_error table s (at + 3)) second.1 in
    let by : (j : ℕ) → i ≡ j → symbol_error table s j ≡ None → is_symbol (slice_index s i) ≡ true =
    λ j is none. symbol_at s i (ap (symbol_error table s) is ∙ none) in
    elim (cases_lt i at) [
      | inl before ↦ groups_symbols s q i parts.0 before
      | inr here ↦ elim (cases_eq i at) [
        | inl is ↦ by at is first.0
        | inr not0 ↦ elim (cases_eq i (at + 1)) [
          | inl is ↦ by (at + 1) is second.0
          | inr not1 ↦ elim (cases_eq i (at + 2)) [
            | inl is ↦ by (at + 2) is third.0
            | inr not2 ↦ by (at + 3) (omega (arith, within, here, not0, not1, not2)) third.1
          ]
        ]
      ]
    ]

-- a scan that succeeds went on from no error
scanned_ok : (at i : ℕ) (so_far : _) (bytes : List ℕ) (last : _) → scan_steps table 61 at so_far i bytes ≡ Ok last
    → is_ok (scan_steps table 61 0 so_far 0 []) ≡ true
unfolding scan_steps
scanned_ok at i (Ok st) bytes last scanned = refl
scanned_ok at i (Err e) bytes last scanned = cc scanned

-- a character of the last group that is no symbol is refused
by_push : (pad after bad : Bool) (one : _) (e f : DecodeError) (next : _)
    → is_ok (scan_steps table 61 0 (if pad then one else if after then Err e else if bad then Err f else Ok next) 0 []) ≡ true
    → (pad || not bad) ≡ true
unfolding scan_steps
by_push true after bad one e f next ok = refl
by_push false true bad one e f next ok = cc ok
by_push false false true one e f next ok = cc ok
by_push false false false one e f next ok = refl

-- so all are symbols if the scan succeeds
scanned_symbols : (at i : ℕ) (so_far : _) (bytes : List ℕ) (last : _)
    → scan_steps table 61 at so_far i bytes ≡ Ok last → (k : ℕ) → k < length bytes → is_symbol (slice_index bytes k) ≡ true
unfolding scan_steps
scanned_symbols at i (Err e) bytes last scanned k within = cc scanned
scanned_symbols at i (Ok st) [] last scanned k within = absurd (omega (arith, within))
scanned_symbols at i (Ok st) (byte ∷ more) last scanned zero within =
    by_push (byte == 61) (nat_lt 0 st.padding_count) (slice_index table byte == 255) _ _ _ _
    (scanned_ok at (i + 1) (push_leftover table 61 at st i byte) more last scanned)
scanned_symbols at i (Ok st) (byte ∷ more) last scanned (suc k) within =
    scanned_symbols at (i + 1) (push_leftover table 61 at st i byte) more last scanned k (omega (arith, within))

-- a text scanned without an error
scanned_of : (is_empty : Bool) (at : ℕ) (allow : Bool) (mode : DecodePaddingMode) (scanned : _)
    → scan_error is_empty at allow mode scanned ≡ None → (last : _) × (scanned ≡ Ok last)
scanned_of is_empty at allow mode (Ok last) none = (last, refl)
scanned_of is_empty at allow mode (Err e) none = cc none

none_of_ok : (error : Option DecodeError) (bytes found : List ℕ) → result_ok (decode_outcome error bytes) ≡ Some found → error ≡ None
none_of_ok None bytes found is = refl
none_of_ok (Some e) bytes found is = cc is

decoded_symbols : (s found : List ℕ) → bytes_of_text s ≡ Some found → (i : ℕ) → i < length s → is_symbol (slice_index s i) ≡ true
decoded_symbols s found is i within =
    let q = groups_before_last (length s) in
    let at : ℕ = 4 * q in
    let allow = url_safe_no_pad.config.decode_allow_trailing_bits in
    let mode = url_safe_no_pad.config.decode_padding_mode in
    let later = both_none (lone_error table 61 s) _ (none_of_ok _ (decoded_bytes table 61 s) found is) in
    let parts = both_none (groups_error table s q) (suffix_error table 61 allow mode at s) later.1 in
    let scanned = scanned_of (length s == 0) at allow mode (scan_last table 61 at s) parts.1 in
    elim (cases_lt i at) [
      | inl before ↦ groups_symbols s q i parts.0 before
      | inr behind ↦
          let k : ℕ = i - at in
          let is : at + k ≡ i = omega (arith, behind) in
          let same : slice_index (drop at s) k ≡ slice_index s i = get_or-drop at s k 0 ∙ ap (slice_index s) is in
          subst (λ byte. is_symbol byte ≡ true) same
          (scanned_symbols at 0 _ (drop at s) scanned.0 scanned.1 k (omega (arith, within, behind, length-drop at s)))
    ]

each_apart : (bytes : List ℕ) → ((i : ℕ) → i < length bytes → is_symbol (slice_index bytes i) ≡ true) → AllByRecursion IsApart bytes
each_apart [] are = tt
each_apart (byte ∷ more) are =
    (symbol_apart byte (are 0 (omega arith)), each_apart more (λ i within. are (suc i) (omega (arith, within))))

pub decoded_apart : (text bytes : List ℕ) → bytes_of_text text ≡ Some bytes → AllByRecursion IsApart text
decoded_apart text bytes found = each_apart text (decoded_symbols text bytes found)

pub base64url_apart : (bytes : List ℕ) → IsBytes bytes → AllByRecursion IsApart (base64url bytes)
base64url_apart bytes are = decoded_apart (base64url bytes) bytes (bytes_of_text-base64url bytes are)

-- ---- a text read as a hash

was_decoded : (first : Bool) (bytes : Option (List ℕ)) (hash : HashValue)
    → (if first then option_and_then (hash_of_multihash 0x12) bytes
    else option_or (option_and_then (hash_of_multihash 0x12) bytes) (option_and_then (hash_of_multihash 0x13) bytes)) ≡ Some hash
    → (found : List ℕ) × (bytes ≡ Some found)
was_decoded true None hash read = cc read
was_decoded false None hash read = cc read
was_decoded first (Some found) hash read = (found, refl)

pub hash_apart : (version : ℕ) (text : List ℕ) (hash : HashValue) → hash_of_text_at version text ≡ Some hash → AllByRecursion IsApart text
hash_apart version text hash read =
    let found = was_decoded (version == 1) (bytes_of_text text) hash read in
    decoded_apart text found.0 found.1

-- ---- bytes that such a text does not contain

pub no_dot : (text : List ℕ) → AllByRecursion IsApart text → HasNo 46 text
no_dot text apart = each-weaker IsApart (λ byte. (byte == 46) ≡ false) (λ byte is. grind (arith, nat_tests)) text apart

pub no_colon : (text : List ℕ) → AllByRecursion IsApart text → HasNo 58 text
no_colon text apart = each-weaker IsApart (λ byte. (byte == 58) ≡ false) (λ byte is. grind (arith, nat_tests)) text apart

-- ---- The bytes of a text are bytes.

abbrev AreBelow : List ℕ → Type 0
AreBelow bytes = AllByRecursion (λ byte. byte < 256) bytes

below_both : (xs ys : List ℕ) → AreBelow xs → AreBelow ys → AreBelow (xs ++ ys)
below_both [] ys first second = second
below_both (x ∷ xs) ys first second = (first.0, below_both xs ys first.1 second)

below_at : (xs : List ℕ) → AreBelow xs → IsBytes xs
below_at [] all i = omega arith
below_at (x ∷ xs) all zero = all.0
below_at (x ∷ xs) all (suc i) = below_at xs all.1 i

-- the bytes of a character
below_chosen : (c : ℕ) (one two three : Bool) → nat_lt c 128 ≡ one → nat_lt c 2048 ≡ two → nat_lt c 65536 ≡ three
    → c < 1114112
    → AreBelow (cond one (c ∷ []) (cond two ((192 + c / 64) ∷ next c ∷ []) (cond three ((224 + c / 4096) ∷ next (c / 64) ∷ next c ∷ []) ((240 + c / 262144) ∷ next (c / 4096) ∷ next (c / 64) ∷ next c ∷ []))))
below_chosen c true two three e f g small =
    let low : c < 128 = grind (arith, nat_tests) in
    (omega arith, tt)
below_chosen c false true three e f g small =
    let low : c < 2048 = grind (arith, nat_tests) in
    (omega arith, (omega arith, tt))
below_chosen c false false true e f g small =
    let low : c < 65536 = grind (arith, nat_tests) in
    (omega arith, (omega arith, (omega arith, tt)))
below_chosen c false false false e f g small = (omega arith, (omega arith, (omega arith, (omega arith, tt))))

below_one : (c : ℕ) → c < 1114112 → AreBelow (encode c)
unfolding encode
below_one c small = below_chosen c (nat_lt c 128) (nat_lt c 2048) (nat_lt c 65536) refl refl refl small

small_scalar : (c : ℕ) → (c < 55296) ⊎ ((57344 ≤ c) × (c < 1114112)) → c < 1114112
small_scalar c (inl low) = omega arith
small_scalar c (inr high) = high.1

below_all : (cs : List ℕ) → scalars cs ≡ true → AreBelow (encodes cs)
below_all [] e = tt
below_all (c ∷ cs) e =
    let parts = and_parts (scalar c) (scalars cs) e in
    below_both (encode c) (encodes cs)
    (below_one c (small_scalar c (scalar_cases c parts.0))) (below_all cs parts.1)

pub IsBytes-IsUtf8 : (bytes : List ℕ) → IsUtf8 bytes → IsBytes bytes
IsBytes-IsUtf8 bytes utf8 = subst IsBytes utf8.1.1 (below_at (encodes utf8.0) (below_all utf8.0 utf8.1.0))

-- ---- Texts that are the base64url of a given number of bytes.

-- the text of this many bytes is read
pub fixed_of_text-base64url : (n : ℕ) (bytes : List ℕ) → IsBytes bytes → length bytes ≡ n
    → fixed_of_text n (base64url bytes) ≡ Some bytes
fixed_of_text-base64url n bytes are_bytes long =
    ap (option_and_then (so_many n)) (bytes_of_text-base64url bytes are_bytes) ∙ rw (eq-eqb (length bytes) n long) refl

-- the bytes read are this many
by_found : (n : ℕ) (found : Option (List ℕ)) (bytes : List ℕ) → option_and_then (so_many n) found ≡ Some bytes → length bytes ≡ n
by_found n None bytes e = cc
by_found n (Some found) bytes e =
    let taken = cond_some (length found == n) found bytes e in
    rw (← taken.1) (eqb-true (length found) n taken.0)

pub fixed_of_text-length : (n : ℕ) (text bytes : List ℕ) → fixed_of_text n text ≡ Some bytes → length bytes ≡ n
fixed_of_text-length n text bytes found = by_found n (bytes_of_text text) bytes found

-- a different number of bytes
so_many-none : (n : ℕ) (bytes : List ℕ) → length bytes ≢ n → so_many n bytes ≡ None
so_many-none n bytes other = rw (ne_eqb (length bytes) n other) refl

-- bytes fit into a slice of their length
fits : (n m : ℕ) → m ≡ n → bytes_fit m n ≡ Ok n
fits n m same =
    let room : nat_lt n n ≡ false = grind (arith, nat_tests) in
    rw (same, room) refl

-- If decoding into a slice of n bytes doesn't answer n, the text is not that of n bytes.
other_answer : (lone rest : Option DecodeError) (small : Bool) (n : ℕ) (bytes : List ℕ)
    → (small ≡ true → n < length bytes)
    → or_error lone (if small then Err OutputSliceTooSmall else or_error rest (bytes_fit (length bytes) n)) ≢ Ok n
    → option_and_then (so_many n) (result_ok (decode_outcome (or_else lone rest) bytes)) ≡ None
other_answer (Some error) rest small n bytes more other = refl
other_answer None (Some error) small n bytes more other = refl
other_answer None None true n bytes more other =
    let longer = more refl in
    so_many-none n bytes (λ same. omega (arith, longer, same))
other_answer None None false n bytes more other = so_many-none n bytes (λ same. other (fits n (length bytes) same))

fixed_of_text-none : (n : ℕ) (text : List ℕ) → decode_slice_of url_safe_no_pad text n ≢ Ok n
    → fixed_of_text n text ≡ None
fixed_of_text-none n text other =
    let dec : List ℕ = url_safe_no_pad.decode_table in
    let pad : ℕ = url_safe_no_pad.padding.value in
    let groups : ℕ = groups_before_last (length text) in
    let last : List ℕ = suffix_bytes dec pad (4 * groups) text in
    let long = length-append (groups_bytes dec text groups) last in
    let of_groups = length-groups_bytes dec text groups in
    let more : nat_lt (n / 3) groups ≡ true → n < length (decoded_bytes dec pad text) =
    λ small. let below : n / 3 < groups = grind (arith, nat_tests) in omega (arith, long, of_groups, below) in
    let config = url_safe_no_pad.config in
    other_answer (lone_error dec pad text) (or_else (groups_error dec text groups)
    (suffix_error dec pad config.decode_allow_trailing_bits config.decode_padding_mode (4 * groups) text))
    (nat_lt (n / 3) groups) n (decoded_bytes dec pad text) more other

-- a text whose decoding into such a slice answers something else
pub fixed_of_text-count : (n : ℕ) (text : List ℕ) (count : ℕ) (answer : Result ℕ DecodeSliceError)
    → answer ≡ decode_slice_of url_safe_no_pad text n → answer ≡ Ok count → count ≢ n → fixed_of_text n text ≡ None
fixed_of_text-count n text count answer decoded counted other = fixed_of_text-none n text (λ same. let is : count ≡ n = cc in other is)

pub fixed_of_text-error : (n : ℕ) (text : List ℕ) (error : DecodeSliceError) (answer : Result ℕ DecodeSliceError)
    → answer ≡ decode_slice_of url_safe_no_pad text n → answer ≡ Err error → fixed_of_text n text ≡ None
fixed_of_text-error n text error answer decoded refused = fixed_of_text-none n text (λ same. cc)

-- a text that is read as n bytes is their base64url
pub fixed_spelled : (n : ℕ) (text bytes : List ℕ) → IsBytes text → fixed_of_text n text ≡ Some bytes → text ≡ base64url bytes
fixed_spelled n text bytes are_bytes found =
    option_and_then_some (so_many n) (bytes_of_text text) bytes found
    (λ read e f. spelled text read are_bytes e ∙ ap base64url (cond_some (length read == n) read bytes f).1)

-- a text that is not read as n bytes is the base64url of no n bytes
pub fixed_of_text-no : (n : ℕ) (text bytes : List ℕ) → fixed_of_text n text ≡ None → IsBytes bytes → length bytes ≡ n → text ≢ base64url bytes
fixed_of_text-no n text bytes none are_bytes long same =
    let read = fixed_of_text-base64url n bytes are_bytes long in
    let refused : fixed_of_text n (base64url bytes) ≡ None = ap (fixed_of_text n) (sym same) ∙ none in
    cc
