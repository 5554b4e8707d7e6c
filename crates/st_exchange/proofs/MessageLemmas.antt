-- The encoding of a message is decoded again, and a decoded message has that encoding.
use Rattle.std.proofs.Common.{◌≡◌, ◌∙◌, ℕ, zero, suc, ◌*◌, ◌<◌, ◌≤◌, ◌^◌, ◌==◌, nat_le, inl, inr, Bool, true, false, cond, List, [], ◌∷◌, ◌++◌, length, take, drop, get_or, Option, Some, None, option_map, Result, Ok, Err, IfOk, ap, sym, subst, refl, append_assoc, length-append, arith}
use Rattle.std.proofs.lemmas.Bool.{eqb-true, eq-eqb, cases_lt}
use Rattle.std.proofs.lemmas.Bool.Decides.{nat_tests}
use Rattle.std.proofs.lemmas.List.{take_at, drop_at, take-append-drop, nil_from_length, length-take-le, length-drop, length-take, get_or-take, get_or_past}
use Rattle.std.proofs.lemmas.Nat.{be_bytes_4, from_be_bytes-to_be_bytes_4}
use Rattle.std.specs.List.{AllByRecursion}
use Rattle.std.specs.Option.{ok_or}
use Rattle.st_base.specs.Answers.{Gives}
use Rattle.st_base.specs.Options.{◌>>◌}
use Rattle.st_hash.specs.Hash.{HashValue}
use Rattle.st_exchange.specs.Message.{AreListed, IsMessage, IsShort, IsUri, blob, digests, four_bytes, listed, listed_by, longest_blob, message_of, most_uris, number_in, refusal_of, spelled_uris, spelling, uris_of}
use Rattle.st_exchange.specs.declared.message.DecodeRefused.{DecodeRefused}
use Rattle.st_exchange.specs.declared.message.DecodeRefused.TheVariants as refused_is
use Rattle.st_exchange.specs.declared.message.Message.{Message}
use Rattle.st_exchange.specs.declared.message.Message.TheVariants.{Want, Have, Blob}

-- ---- numbers

four_bytes-long : (n : ℕ) → length (four_bytes n) ≡ 4
unfolding four_bytes
four_bytes-long n = refl

number_in-four_bytes : (n : ℕ) → n < 2 ^ 32 → number_in (four_bytes n) ≡ n
unfolding four_bytes number_in
number_in-four_bytes n fits = from_be_bytes-to_be_bytes_4 n fits

abbrev pub AreBytes : List ℕ → Type 0
AreBytes bytes = (i : ℕ) → get_or bytes i 0 < 256

four_bytes-number_in : (bytes : List ℕ) → length bytes ≡ 4 → AreBytes bytes → four_bytes (number_in bytes) ≡ bytes
unfolding four_bytes number_in
four_bytes-number_in bytes long small = be_bytes_4 bytes _ long small refl

bytes_of_take : (n : ℕ) (xs : List ℕ) → AreBytes xs → AreBytes (take n xs)
bytes_of_take n xs h i = elim (cases_lt i n) [
  | inl below ↦ rw (get_or-take n xs i 0 below) (h i)
  | inr past ↦
      let short : length (take n xs) ≤ i = omega (arith, length-take n xs) in
      rw (get_or_past (take n xs) i 0 short) (omega arith)
]

-- ---- tests

then_some : {A : Type 0} (test : Bool) (next : Option A) (x : A) → test >> next ≡ Some x → (test ≡ true) × (next ≡ Some x)
then_some true next x e = (refl, e)
then_some false next x e = cc

record Mapped {A B : Type 0} (f : A → B) (from : Option A) (y : B) : Type 0 where
  pub x : A
  pub was : from ≡ Some x
  pub is : f x ≡ y

mapped : {A B : Type 0} (f : A → B) (from : Option A) (y : B) → option_map f from ≡ Some y → Mapped f from y
mapped f None y e = cc
mapped f (Some x) y e = record { x = x; was = refl; is = cc }

-- ---- URIs

-- one more was read
pub uris_of-next : (uris next : List HashValue) (left : ℕ) (rest back : List ℕ) → back ≡ drop 32 rest
    → next ≡ uris ++ record { code = 0x12; digest = take 32 rest } ∷ []
    → next ++ uris_of left back ≡ uris ++ uris_of (suc left) rest
uris_of-next uris next left rest back cut pushed =
    ap (λ (back : List ℕ). next ++ uris_of left back) cut
    ∙ ap (λ (read : List HashValue). read ++ uris_of left (drop 32 rest)) pushed
    ∙ append_assoc uris (record { code = 0x12; digest = take 32 rest } ∷ []) (uris_of left (drop 32 rest))

same_uri : (uri : HashValue) (digest : List ℕ) → uri.code ≡ 0x12 → digest ≡ uri.digest → record { code = 0x12; digest = digest } ≡ uri
same_uri uri digest code is =
    ap (λ (d : List ℕ). record { code = 0x12; digest = d }) is
    ∙ ap (λ (c : ℕ). record { code = c; digest = uri.digest }) (sym code)

uris_of-digests : (uris : List HashValue) → AllByRecursion IsUri uris → uris_of (length uris) (digests uris) ≡ uris
uris_of-digests [] each = refl
uris_of-digests (uri ∷ uris) each =
    let front : take 32 (uri.digest ++ digests uris) ≡ uri.digest = take_at uri.digest (digests uris) 32 each.0.long in
    let back : drop 32 (uri.digest ++ digests uris) ≡ digests uris = drop_at uri.digest (digests uris) 32 each.0.long in
    ap (λ (first : HashValue). first ∷ uris_of (length uris) (drop 32 (uri.digest ++ digests uris))) (same_uri uri _ each.0.sha256 front)
    ∙ ap (λ (rest : List ℕ). uri ∷ uris_of (length uris) rest) back
    ∙ ap (λ (rest : List HashValue). uri ∷ rest) (uris_of-digests uris each.1)

digests-long : (uris : List HashValue) → AllByRecursion IsUri uris → length (digests uris) ≡ 32 * length uris
digests-long [] each = refl
digests-long (uri ∷ uris) each = omega (arith, length-append uri.digest (digests uris), each.0.long, digests-long uris each.1)

-- for bytes that are digests
module _ (count : ℕ) (bytes : List ℕ) (long : length bytes ≡ 32 * suc count) where
  front_long : length (take 32 bytes) ≡ 32
  front_long = length-take-le 32 bytes (omega arith)

  back_long : length (drop 32 bytes) ≡ 32 * count
  back_long = omega (arith, length-drop 32 bytes)

digests-uris_of : (count : ℕ) (bytes : List ℕ) → length bytes ≡ 32 * count → digests (uris_of count bytes) ≡ bytes
digests-uris_of zero bytes long = sym (nil_from_length bytes long)
digests-uris_of (suc count) bytes long =
    ap (λ (back : List ℕ). take 32 bytes ++ back) (digests-uris_of count (drop 32 bytes) (back_long count bytes long))
    ∙ take-append-drop 32 bytes

uris_of-long : (count : ℕ) (bytes : List ℕ) → length (uris_of count bytes) ≡ count
uris_of-long zero bytes = refl
uris_of-long (suc count) bytes = ap suc (uris_of-long count (drop 32 bytes))

uris_of-each : (count : ℕ) (bytes : List ℕ) → length bytes ≡ 32 * count → AllByRecursion IsUri (uris_of count bytes)
uris_of-each zero bytes long = tt
uris_of-each (suc count) bytes long =
    (record { sha256 = refl; long = front_long count bytes long }, uris_of-each count (drop 32 bytes) (back_long count bytes long))

listed-spelled : (uris : List HashValue) → AreListed uris → listed (spelled_uris uris) ≡ Some uris
listed-spelled uris are =
    let head = four_bytes (length uris) in
    let whole : List ℕ = head ++ digests uris in
    let few : length uris ≤ 1000 = are.few in
    let head_long : length head ≡ 4 = four_bytes-long (length uris) in
    let long : length (digests uris) ≡ 32 * length uris = digests-long uris are.each in
    let room : nat_le 4 (length whole) ≡ true = grind (arith, nat_tests, length-append head (digests uris)) in
    let count : number_in (take 4 whole) ≡ length uris =
    ap number_in (take_at head (digests uris) 4 head_long) ∙ number_in-four_bytes (length uris) (omega arith) in
    let back : drop 4 whole ≡ digests uris = drop_at head (digests uris) 4 head_long in
    let within : nat_le (length uris) most_uris ≡ true = grind (arith, nat_tests) in
    let fits : (length (digests uris) == 32 * length uris) ≡ true = eq-eqb _ _ long in
    ap (λ (test : Bool). test >> listed_by (number_in (take 4 whole)) (drop 4 whole)) room
    ∙ ap (λ (n : ℕ). listed_by n (drop 4 whole)) count
    ∙ ap (λ (rest : List ℕ). listed_by (length uris) rest) back
    ∙ ap (λ (test : Bool). test >> ((length (digests uris) == 32 * length uris) >> Some (uris_of (length uris) (digests uris)))) within
    ∙ ap (λ (test : Bool). test >> Some (uris_of (length uris) (digests uris))) fits
    ∙ ap Some (uris_of-digests uris are.each)

record AreSpelled (bytes : List ℕ) (uris : List HashValue) : Type 0 where
  pub spelled : bytes ≡ spelled_uris uris
  pub are : AreListed uris

spelled-listed : (bytes : List ℕ) (uris : List HashValue) → AreBytes bytes → listed bytes ≡ Some uris → AreSpelled bytes uris
spelled-listed bytes uris small is =
    let room = then_some (nat_le 4 (length bytes)) _ uris is in
    let n = number_in (take 4 bytes) in
    let within = then_some (nat_le n most_uris) _ uris room.1 in
    let fits = then_some (length (drop 4 bytes) == 32 * n) _ uris within.1 in
    let four : 4 ≤ length bytes = grind (arith, nat_tests, room.0) in
    let few : n ≤ 1000 = grind (arith, nat_tests, within.0) in
    let long : length (drop 4 bytes) ≡ 32 * n = eqb-true _ _ fits.0 in
    let those : uris_of n (drop 4 bytes) ≡ uris = same fits.1 in
    let head : four_bytes (length (uris_of n (drop 4 bytes))) ≡ take 4 bytes =
    ap four_bytes (uris_of-long n (drop 4 bytes)) ∙ four_bytes-number_in (take 4 bytes) (length-take-le 4 bytes four) (bytes_of_take 4 bytes small) in
    let back : digests (uris_of n (drop 4 bytes)) ≡ drop 4 bytes = digests-uris_of n (drop 4 bytes) long in
    subst (λ (found : List HashValue). AreSpelled bytes found) those (record {
      spelled =
          sym (take-append-drop 4 bytes) ∙ ap (λ (front : List ℕ). front ++ drop 4 bytes) (sym head)
          ∙ ap (λ (rest : List ℕ). four_bytes (length (uris_of n (drop 4 bytes))) ++ rest) (sym back);
      are = record { few = omega (arith, uris_of-long n (drop 4 bytes)); each = uris_of-each n (drop 4 bytes) long };
    })
  where
    same : {A : Type 0} {x y : A} → Some x ≡ Some y → x ≡ y
    same e = cc

-- ---- messages

pub message_of-spelling : (message : Message) → IsMessage message → message_of (spelling message) ≡ Some message
message_of-spelling (Want uris) is = ap (option_map Want) (listed-spelled uris is)
message_of-spelling (Have uris) is = ap (option_map Have) (listed-spelled uris is)
message_of-spelling (Blob bytes) is =
    let within : nat_le (length bytes) longest_blob ≡ true = grind (arith, nat_tests) in
    rw within refl

record WasSpelled (bytes : List ℕ) (message : Message) : Type 0 where
  pub spelled : bytes ≡ spelling message
  pub is : IsMessage message

of_want : (rest : List ℕ) (message : Message) → AreBytes rest → option_map Want (listed rest) ≡ Some message → WasSpelled (1 ∷ rest) message
of_want rest message small e =
    let from = mapped Want (listed rest) message e in
    let all = spelled-listed rest from.x small from.was in
    subst (λ (found : Message). WasSpelled (1 ∷ rest) found) from.is (record { spelled = ap (λ (bytes : List ℕ). 1 ∷ bytes) all.spelled; is = all.are })

of_have : (rest : List ℕ) (message : Message) → AreBytes rest → option_map Have (listed rest) ≡ Some message → WasSpelled (2 ∷ rest) message
of_have rest message small e =
    let from = mapped Have (listed rest) message e in
    let all = spelled-listed rest from.x small from.was in
    subst (λ (found : Message). WasSpelled (2 ∷ rest) found) from.is (record { spelled = ap (λ (bytes : List ℕ). 2 ∷ bytes) all.spelled; is = all.are })

blob_is : (rest bytes : List ℕ) → blob rest ≡ Some bytes → (rest ≡ bytes) × (length bytes ≤ longest_blob)
blob_is rest bytes e =
    let parts = then_some (nat_le (length rest) longest_blob) (Some rest) bytes e in
    let is : rest ≡ bytes = same parts.1 in
    let within : length rest ≤ longest_blob = grind (arith, nat_tests, parts.0) in
    (is, subst (λ (bytes : List ℕ). length bytes ≤ longest_blob) is within)
  where
    same : {A : Type 0} {x y : A} → Some x ≡ Some y → x ≡ y
    same e = cc

of_blob : (rest : List ℕ) (message : Message) → option_map Blob (blob rest) ≡ Some message → WasSpelled (3 ∷ rest) message
of_blob rest message e =
    let from = mapped Blob (blob rest) message e in
    let all = blob_is rest from.x from.was in
    subst (λ (found : Message). WasSpelled (3 ∷ rest) found) from.is (record { spelled = ap (λ (bytes : List ℕ). 3 ∷ bytes) all.0; is = all.1 })

-- by the byte for the kind
module _ (kind : ℕ) (rest : List ℕ) (message : Message) (small : AreBytes rest) where
  kind_is : (k : ℕ) → (kind == k) ≡ true → WasSpelled (k ∷ rest) message → WasSpelled (kind ∷ rest) message
  kind_is k e was = subst (λ (k : ℕ). WasSpelled (k ∷ rest) message) (sym (eqb-true kind k e)) was

  abbrev by_third : Option Message
  by_third = cond (kind == 3) (option_map Blob (blob rest)) None

  abbrev by_second : Option Message
  by_second = cond (kind == 2) (option_map Have (listed rest)) by_third

  third : (test : Bool) → (kind == 3) ≡ test → cond test (option_map Blob (blob rest)) None ≡ Some message → WasSpelled (kind ∷ rest) message
  third true is e = kind_is 3 is (of_blob rest message e)
  third false is e = cc

  second : (test : Bool) → (kind == 2) ≡ test → cond test (option_map Have (listed rest)) by_third ≡ Some message → WasSpelled (kind ∷ rest) message
  second true is e = kind_is 2 is (of_have rest message small e)
  second false is e = third (kind == 3) refl e

  first : (test : Bool) → (kind == 1) ≡ test → cond test (option_map Want (listed rest)) by_second ≡ Some message → WasSpelled (kind ∷ rest) message
  first true is e = kind_is 1 is (of_want rest message small e)
  first false is e = second (kind == 2) refl e

was_spelled : (bytes : List ℕ) (message : Message) → AreBytes bytes → message_of bytes ≡ Some message → WasSpelled bytes message
was_spelled [] message small e = cc
was_spelled (kind ∷ rest) message small e = first kind rest message (λ i. small (suc i)) (kind == 1) refl e

-- ---- the decoder's answer

found : {A : Type 0} (option : Option A) (x : A) → ok_or {E = Unit {0}} option tt ≡ Ok x → option ≡ Some x
found None x e = cc
found (Some y) x e = cc

none : {A : Type 0} (option : Option A) → ok_or {E = Unit {0}} option tt ≡ Err tt → option ≡ None
none None e = refl
none (Some y) e = cc

pub decoded-spelled : (bytes : List ℕ) (result : Result Message DecodeRefused) → AreBytes bytes → Gives refusal_of (ok_or (message_of bytes) tt) result
    → IfOk result (λ message. bytes ≡ spelling message)
decoded-spelled bytes (Ok message) small gives = (was_spelled bytes message small (found _ message gives)).spelled
decoded-spelled bytes (Err refused) small gives = tt

pub decoded-is : (bytes : List ℕ) (result : Result Message DecodeRefused) → AreBytes bytes → Gives refusal_of (ok_or (message_of bytes) tt) result
    → IfOk result IsMessage
decoded-is bytes (Ok message) small gives = (was_spelled bytes message small (found _ message gives)).is
decoded-is bytes (Err refused) small gives = tt

is_short : (message : Message) → IsMessage message → IsShort message
is_short (Want uris) is = is.few
is_short (Have uris) is = is.few
is_short (Blob bytes) is = is

pub decoded-short : (bytes : List ℕ) (result : Result Message DecodeRefused) → AreBytes bytes → Gives refusal_of (ok_or (message_of bytes) tt) result
    → IfOk result IsShort
decoded-short bytes (Ok message) small gives = is_short message (was_spelled bytes message small (found _ message gives)).is
decoded-short bytes (Err refused) small gives = tt

pub decoded-none : (bytes : List ℕ) (result : Result Message DecodeRefused) → Gives refusal_of (ok_or (message_of bytes) tt) result
    → result ≡ Err refused_is.BadMessage → (message : Message) → IsMessage message → bytes ≡ spelling message → ⊥
decoded-none bytes (Ok found) gives bad message is spelled = cc
decoded-none bytes (Err refused_is.WantOfMemory) gives bad message is spelled = cc
decoded-none bytes (Err refused_is.BadMessage) gives bad message is spelled =
    let absent : message_of bytes ≡ None = none (message_of bytes) gives in
    let there : message_of bytes ≡ Some message = ap message_of spelled ∙ message_of-spelling message is in
    let both : None ≡ Some message = sym absent ∙ there in
    cc

pub encoded-read : {E : Type 0} (message : Message) (result : Result (List ℕ) E) → IsMessage message → IfOk result (λ bytes. bytes ≡ spelling message)
    → IfOk result (λ bytes. message_of bytes ≡ Some message)
encoded-read message (Ok bytes) is value = ap message_of value ∙ message_of-spelling message is
encoded-read message (Err refused) is value = tt
