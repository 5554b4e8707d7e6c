-- Items by number.
--     each_more      one more item
--     each_at        the item with a number
--     each_line      the line of a round among all that an identifier submits
--     round_told     the lines of a round
use Rattle.std.proofs.Common.{◌≡◌, ◌∙◌, ℕ, ◌+◌, ◌<◌, List, [], ◌∷◌, ◌++◌, map, get_or, length, refl, arith, Some, unwrap_or, sym, ap, add-one}
use Rattle.std.proofs.lemmas.List.FromFn.{get_or-map-range_with_len, length-map-range_with_len, map-range_with_len_more}
use Rattle.std.proofs.lemmas.Option.{unwrap_or-slice_get}
use Rattle.std.specs.List.{range_with_len, remove, slice_get}
use Rattle.st_workload.specs.Identifier.{each, submit_line, identity_of, lines_of, round_lines, file_fed, turn, turns, word}
use Rattle.st_workload.specs.declared.order.Feed.{Feed}
use Rattle.st_workload.specs.inside.Identity.{line_of}

pub each_more : {Item : Type 0} (item : ℕ → Item) (n : ℕ) → each (n + 1) item ≡ each n item ++ item n ∷ []
each_more item n = map-range_with_len_more item 0 n n (omega arith)

pub each_at : {Item : Type 0} (item : ℕ → Item) (n i : ℕ) (d : Item) → i < n → get_or (each n item) i d ≡ item i
each_at item n i d inside = get_or-map-range_with_len item 0 n i i d inside (omega arith)

pub length-each : {Item : Type 0} (item : ℕ → Item) (n : ℕ) → length (each n item) ≡ n
length-each item n = length-map-range_with_len item 0 n

pub each_line : (seed rounds round i : ℕ) → round < rounds + 1 → line_of round (identity_of seed rounds i) ≡ submit_line seed round i
each_line seed rounds round i inside =
    unwrap_or-slice_get (lines_of seed rounds i) round []
    ∙ each_at (λ round. submit_line seed round i) (rounds + 1) round [] inside

-- a map after a map
map_twice : {A B C : Type 0} (f : A → B) (g : B → C) (h : A → C) → ((a : A) → g (f a) ≡ h a) → (items : List A) → map g (map f items) ≡ map h items
map_twice f g h same [] = refl
map_twice f g h same (item ∷ items) = rw (same item, map_twice f g h same items) refl

pub round_told : (seed dids rounds round : ℕ) → round < rounds + 1
    → map (line_of round) (each dids (identity_of seed rounds)) ≡ round_lines seed dids round
round_told seed dids rounds round inside =
    map_twice (identity_of seed rounds) (line_of round) (submit_line seed round)
    (λ i. each_line seed rounds round i inside) (range_with_len 0 dids)

-- ---- Turns.
--     file_fed_is    a file that was taken out and fed
--     more_turns     one more turn

abbrev feed_of : List (List ℕ) → ℕ → List (List ℕ) → Feed
feed_of lines next files = record { lines = lines; next = next; files = files }

pub file_fed_is : (feed : Feed) (at : ℕ) (file : List ℕ) (lines files : List (List ℕ))
    → slice_get feed.files at ≡ Some file → files ≡ remove feed.files at → lines ≡ feed.lines ++ file ∷ []
    → feed_of lines feed.next files ≡ file_fed at feed
file_fed_is feed at file lines files there rest put =
    let found : file ≡ unwrap_or (slice_get feed.files at) [] = sym (ap (λ item. unwrap_or item []) there) in
    ap (λ (all : List (List ℕ)). feed_of all feed.next files) (put ∙ ap (λ (text : List ℕ). feed.lines ++ text ∷ []) found)
    ∙ ap (λ (left : List (List ℕ)). feed_of (feed.lines ++ unwrap_or (slice_get feed.files at) [] ∷ []) feed.next left) rest

pub more_turns : (seed stream : ℕ) (anchors : List (List ℕ)) (n : ℕ) (start : Feed)
    → turns seed stream anchors (n + 1) start ≡ turn anchors (word seed stream n) (turns seed stream anchors n start)
more_turns seed stream anchors n start = rw (add-one n) refl
