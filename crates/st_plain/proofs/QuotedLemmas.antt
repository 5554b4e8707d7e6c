-- A JSON string compared with a word byte by byte.
use Rattle.std.proofs.Common.{◌≡◌, ◌∙◌, ◌↔◌, ℕ, Bool, true, false, List, [], ◌∷◌, ◌++◌, length, take, drop, refl, ap, sym, append_assoc}
use Rattle.std.specs.Prelude.{bytes_eq, IsTrue}
use Rattle.std.specs.List.{flat_map}
use Rattle.std.specs.Str.{IsUtf8}
use Rattle.std.proofs.lemmas.List.{append_cancel_left, take-append-drop}
use Rattle.std.proofs.Math.Seq.{take-append_seam}
use Rattle.std.proofs.lemmas.Slice.Eq.{bytes_eq-Decides}
use Rattle.st_plain.specs.Plain.{escape, quoted, text}
use Rattle.st_plain.specs.Names.{is_name}
use Rattle.st_plain.proofs.ReadableLemmas.{same_value}

-- ---- a prefix

pub front_there : (bytes front behind : List ℕ) → bytes_eq (take (length front) bytes) front ≡ true → behind ≡ drop (length front) bytes
    → bytes ≡ front ++ behind
front_there bytes front behind same rest =
    sym (take-append-drop (length front) bytes)
    ∙ ap (λ first. first ++ drop (length front) bytes) ((bytes_eq-Decides (take (length front) bytes) front).0 same)
    ∙ ap (λ others. front ++ others) (sym rest)

pub front_absent : (bytes front : List ℕ) → bytes_eq (take (length front) bytes) front ≡ false
    → (behind : List ℕ) → bytes ≡ front ++ behind → ⊥
front_absent bytes front apart behind parts =
    let first : take (length front) bytes ≡ front = ap (take (length front)) parts ∙ take-append_seam front behind in
    let same = (bytes_eq-Decides (take (length front) bytes) front).1 first in
    cc

-- ---- byte by byte

-- the rest of the text is the rest of the word as a JSON string
abbrev pub IsRest : List ℕ → List ℕ → Type 0
IsRest rest word = rest ≡ flat_map escape word ++ 34 ∷ []

module _ (all : Type 0) (rest behind word : List ℕ) (b : ℕ) (words : List ℕ) (next : words ≡ b ∷ word) (parts : rest ≡ escape b ++ behind)
    (so_far : all ↔ IsRest rest words) where
  regroup : flat_map escape words ++ 34 ∷ [] ≡ escape b ++ (flat_map escape word ++ 34 ∷ [])
  regroup = ap (λ w. flat_map escape w ++ 34 ∷ []) next ∙ append_assoc (escape b) (flat_map escape word) (34 ∷ [])

  pub next_byte : all ↔ IsRest behind word
  next_byte = (
    λ it. append_cancel_left (escape b) behind (flat_map escape word ++ 34 ∷ []) (sym parts ∙ so_far.0 it ∙ regroup),
    λ same. so_far.1 (parts ∙ ap (λ bytes. escape b ++ bytes) same ∙ sym regroup),
  )

-- the bytes before the first escaped one are skipped at once
pub first_span : (bytes span rest word others : List ℕ) → bytes ≡ 34 ∷ (span ++ rest)
    → flat_map escape word ≡ span ++ flat_map escape others → (bytes ≡ quoted word) ↔ IsRest rest others
first_span bytes span rest word others parts escaped =
    let whole : flat_map escape word ++ 34 ∷ [] ≡ span ++ (flat_map escape others ++ 34 ∷ []) =
    ap (λ front. front ++ 34 ∷ []) escaped ∙ append_assoc span (flat_map escape others) (34 ∷ []) in (
      λ it. append_cancel_left span rest (flat_map escape others ++ 34 ∷ []) (ap (drop 1) (sym parts ∙ it) ∙ whole),
      λ same. parts ∙ ap (λ front. 34 ∷ front) (ap (λ behind. span ++ behind) same ∙ sym whole),
    )

pub at_the_end : (all : Type 0) (rest words : List ℕ) (same : Bool) → words ≡ [] → IsTrue same ↔ (rest ≡ 34 ∷ []) → (all ↔ IsRest rest words)
    → IsTrue same ↔ all
at_the_end all rest words same none test so_far =
    let closing : flat_map escape words ++ 34 ∷ [] ≡ 34 ∷ [] = ap (λ w. flat_map escape w ++ 34 ∷ []) none in
    (λ yes. so_far.1 (test.0 yes ∙ sym closing), λ it. test.1 (so_far.0 it ∙ closing))

-- ---- names

same_word : (n word : List ℕ) → IsUtf8 n → IsUtf8 word → quoted n ≡ quoted word → n ≡ word
same_word n word first second same = let both = same_value (text n) (text word) first second same in cc

pub named_quoted : (found : Bool) (bytes n word : List ℕ) → IsUtf8 n → IsUtf8 word → bytes ≡ quoted word → (IsTrue found ↔ (bytes ≡ quoted n))
    → found ≡ is_name n word
named_quoted true bytes n word first second is tells =
    sym ((bytes_eq-Decides n word).1 (same_word n word first second (sym (tells.0 refl) ∙ is)))
named_quoted false bytes n word first second is tells = by (is_name n word) refl
  where
    by : (t : Bool) → is_name n word ≡ t → false ≡ is_name n word
    by true same = let wrong : false ≡ true = tells.1 (is ∙ ap quoted (sym ((bytes_eq-Decides n word).0 same))) in cc
    by false apart = sym apart

pub name_turned : (n word : List ℕ) → is_name n word ≡ is_name word n
name_turned n word = by (is_name n word) (is_name word n) refl refl
  where
    by : (s t : Bool) → is_name n word ≡ s → is_name word n ≡ t → s ≡ t
    by true true first second = refl
    by false false first second = refl
    by true false first second = sym (sym second ∙ (bytes_eq-Decides word n).1 (sym ((bytes_eq-Decides n word).0 first)))
    by false true first second = sym first ∙ (bytes_eq-Decides n word).1 (sym ((bytes_eq-Decides word n).0 second))
