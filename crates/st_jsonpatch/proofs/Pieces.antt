-- Pieces of a pointer's text, and their tokens.
use Rattle.std.proofs.Common.{◌≡◌, ◌≢◌, ℕ, suc, ◌==◌, true, false, List, [], ◌∷◌, ◌++◌, length, Result, Ok, Err, refl, ap, sym, subst, ◌∙◌, append_assoc, arith, eqb-true}
use Rattle.st_jsonpatch.specs.Pointer.{begun_with, pieces_of, token_from, token_of, tokens_of, pointer_of, refusal_of}
use Rattle.st_jsonpatch.specs.inside.Changed.{after, Lacks}
use Rattle.st_base.specs.Answers.{Gives}
use Rattle.st_jsonpatch.specs.declared.pointer.PointerRefused.{PointerRefused}
use Rattle.st_jsonpatch.specs.declared.pointer.PointerRefused.TheVariants.{BadPointer, WantOfMemory}

other_first : (c b : ℕ) (bs : List ℕ) → Lacks c (b ∷ bs) → (b == c) ≡ false
other_first c b bs lacks = elim (b == c) as (λ t. (b == c) ≡ t → t ≡ false) [
  | true ↦ λ is. absurd (lacks 0 (omega arith) (eqb-true b c is))
  | false ↦ λ is. refl
] refl

lacks_rest : (c b : ℕ) (bs : List ℕ) → Lacks c (b ∷ bs) → Lacks c bs
lacks_rest c b bs lacks i lt = lacks (suc i) (omega arith)

-- what follows two lists that were read follows both
after-after : {A : Type 0} (first second : List A) (rest : Result (List A) PointerRefused) → after first (after second rest) ≡ after (first ++ second) rest
after-after first second (Ok more) = ap Ok (simp append_assoc)
after-after first second (Err refused) = refl

after-nothing : {A : Type 0} (rest : Result (List A) PointerRefused) → rest ≡ after [] rest
after-nothing (Ok more) = refl
after-nothing (Err refused) = refl

pub nothing_read : {A : Type 0} (rest : Result (List A) PointerRefused) (read : List A) → read ≡ [] → rest ≡ after read rest
nothing_read rest read is = rw is (after-nothing rest)

-- ---- `~`

-- the text before the first `~` means itself
token-cut : (front back : List ℕ) → Lacks 126 front → token_of (front ++ 126 ∷ back) ≡ after front (token_from true back)
token-cut [] back lacks = after-nothing (token_from true back)
token-cut (b ∷ front) back lacks =
    rw (other_first 126 b front lacks, token-cut front back (lacks_rest 126 b front lacks)) (after-after (b ∷ []) front (token_from true back))

token-plain : (text : List ℕ) → Lacks 126 text → token_of text ≡ Ok text
token-plain [] lacks = refl
token-plain (b ∷ text) lacks = rw (other_first 126 b text lacks, token-plain text (lacks_rest 126 b text lacks)) refl

-- a token of which a prefix is decoded, if the rest has a `~`
pub record IsCutAtEscape (whole written rest front back : List ℕ) : Type 0 where
  pub so_far : token_of whole ≡ after written (token_of rest)
  pub cut : rest ≡ front ++ 126 ∷ back
  pub lacks : Lacks 126 front

module _ {whole written rest front back : List ℕ} (here : IsCutAtEscape whole written rest front back) where
  up_to_escape : token_of whole ≡ after (written ++ front) (token_from true back)
  up_to_escape =
      here.so_far ∙ ap (λ l. after written (token_of l)) here.cut ∙ ap (after written) (token-cut front back here.lacks)
      ∙ after-after written front (token_from true back)

  -- one more escape of a token
  pub more_of_token : (meant : ℕ) (more : List ℕ) → token_from true back ≡ after (meant ∷ []) (token_of more)
      → token_of whole ≡ after ((written ++ front) ++ meant ∷ []) (token_of more)
  more_of_token meant more escape =
      up_to_escape ∙ ap (after (written ++ front)) escape ∙ after-after (written ++ front) (meant ∷ []) (token_of more)

  pub no_token : token_from true back ≡ Err BadPointer → token_of whole ≡ Err BadPointer
  no_token none = up_to_escape ∙ ap (after (written ++ front)) none

pub all_of_token : (whole written rest : List ℕ) → token_of whole ≡ after written (token_of rest) → Lacks 126 rest
    → token_of whole ≡ Ok (written ++ rest)
all_of_token whole written rest so_far lacks = so_far ∙ ap (after written) (token-plain rest lacks)

-- a `~` before any other byte, or at the end
pub no_escape : (bs : List ℕ) → ((rest : List ℕ) → bs ≢ 48 ∷ rest) → ((rest : List ℕ) → bs ≢ 49 ∷ rest)
    → token_from true bs ≡ Err BadPointer
no_escape [] no_zero no_one = refl
no_escape (b ∷ bs) no_zero no_one =
    let zero : (b == 48) ≡ false = elim (b == 48) as (λ t. (b == 48) ≡ t → t ≡ false) [ true ↦ λ is. absurd (no_zero bs (ap (λ c. c ∷ bs) (eqb-true b 48 is))) | false ↦ λ is. refl ] refl in
    let one : (b == 49) ≡ false = elim (b == 49) as (λ t. (b == 49) ≡ t → t ≡ false) [ true ↦ λ is. absurd (no_one bs (ap (λ c. c ∷ bs) (eqb-true b 49 is))) | false ↦ λ is. refl ] refl in
    rw (zero, one) refl

-- ---- `/`

pieces-cut : (front back : List ℕ) → Lacks 47 front → pieces_of (front ++ 47 ∷ back) ≡ front ∷ pieces_of back
pieces-cut [] back lacks = refl
pieces-cut (b ∷ front) back lacks = rw (other_first 47 b front lacks) (ap (begun_with b) (pieces-cut front back (lacks_rest 47 b front lacks)))

pieces-one : (text : List ℕ) → Lacks 47 text → pieces_of text ≡ text ∷ []
pieces-one [] lacks = refl
pieces-one (b ∷ text) lacks = rw (other_first 47 b text lacks) (ap (begun_with b) (pieces-one text (lacks_rest 47 b text lacks)))

-- tokens of which the first are read, if the rest has a `/`
pub record IsCutAtSlash (whole read : List (List ℕ)) (rest front back : List ℕ) : Type 0 where
  pub so_far : tokens_of whole ≡ after read (tokens_of (pieces_of rest))
  pub cut : rest ≡ front ++ 47 ∷ back
  pub lacks : Lacks 47 front

up_to_slash : {whole read : List (List ℕ)} {rest front back : List ℕ} → IsCutAtSlash whole read rest front back
    → tokens_of whole ≡ after read (tokens_of (front ∷ pieces_of back))
up_to_slash {whole} {read} {rest} {front} {back} here =
    here.so_far ∙ ap (λ pieces. after read (tokens_of pieces)) (ap pieces_of here.cut ∙ pieces-cut front back here.lacks)

-- one more token of a pointer
pub more_of_pointer : {whole read : List (List ℕ)} {rest front back : List ℕ} → IsCutAtSlash whole read rest front back
    → (token : List ℕ) → token_of front ≡ Ok token → tokens_of whole ≡ after (read ++ token ∷ []) (tokens_of (pieces_of back))
more_of_pointer {whole} {read} {rest} {front} {back} here token is =
    up_to_slash here ∙ rw is (after-after read (token ∷ []) (tokens_of (pieces_of back)))

pub no_pointer : {whole read : List (List ℕ)} {rest front back : List ℕ} → IsCutAtSlash whole read rest front back
    → (refused : PointerRefused) → token_of front ≡ Err refused → tokens_of whole ≡ Err refused
no_pointer {whole} {read} {rest} {front} {back} here refused none = up_to_slash here ∙ rw none refl

pub all_of_pointer : (whole read : List (List ℕ)) (rest token : List ℕ) → tokens_of whole ≡ after read (tokens_of (pieces_of rest))
    → Lacks 47 rest → token_of rest ≡ Ok token → tokens_of whole ≡ Ok (read ++ token ∷ [])
all_of_pointer whole read rest token so_far lacks is =
    so_far ∙ ap (λ pieces. after read (tokens_of pieces)) (pieces-one rest lacks) ∙ rw is refl

pub no_last : (whole read : List (List ℕ)) (rest : List ℕ) → tokens_of whole ≡ after read (tokens_of (pieces_of rest))
    → Lacks 47 rest → (refused : PointerRefused) → token_of rest ≡ Err refused → tokens_of whole ≡ Err refused
no_last whole read rest so_far lacks refused none =
    so_far ∙ ap (λ pieces. after read (tokens_of pieces)) (pieces-one rest lacks) ∙ rw none refl

-- a refusal of a part is a refusal of the whole
pub refused_inside : {part : Result (List ℕ) PointerRefused} {whole : Result (List (List ℕ)) PointerRefused} (refused : PointerRefused)
    (result : Result (List (List ℕ)) PointerRefused) → result ≡ Err refused → Gives refusal_of part (Err refused)
    → ((r : PointerRefused) → part ≡ Err r → whole ≡ Err r) → Gives refusal_of whole result
refused_inside {part} {whole} refused result is given inside =
    subst (Gives refusal_of whole) (sym is) (elim refused as (λ r. Gives refusal_of part (Err r) → Gives refusal_of whole (Err r)) [
      | BadPointer ↦ λ given. inside BadPointer given
      | WantOfMemory ↦ λ given. tt
    ] given)

-- a text that is not empty and does not start with `/`
pub no_slash : (bs : List ℕ) → (length bs == 0) ≡ false → ((rest : List ℕ) → bs ≢ 47 ∷ rest) → pointer_of bs ≡ Err BadPointer
no_slash [] some not = cc
no_slash (b ∷ bs) some not =
    let other : (b == 47) ≡ false = elim (b == 47) as (λ t. (b == 47) ≡ t → t ≡ false) [ true ↦ λ is. absurd (not bs (ap (λ c. c ∷ bs) (eqb-true b 47 is))) | false ↦ λ is. refl ] refl in
    rw other refl
