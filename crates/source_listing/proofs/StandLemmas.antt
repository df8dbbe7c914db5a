-- Where the words of a listing stand.
use Rattle.std.proofs.Common.{◌≡◌, ℕ, ◌+◌, ◌-◌, ◌≤◌, ◌<◌, nat_eq, nat_lt, Bool, true, false, if◌then◌else◌, Option, Some, None, zero, suc, length, take, drop, replicate, get_or, List, [], ◌∷◌, ◌++◌, refl, ap, sym, ◌∙◌, append_assoc, append-nil, length-append, length-drop, arith}
use Rattle.std.proofs.lemmas.List.{take-append-drop, replicate-append-replicate, length-take-le, get_or_append_left, get_or-append_right, get_or-take}
use Rattle.std.proofs.lemmas.Bool.Decides.{nat_tests}
use Rattle.std.specs.Borrow.{Bor}
use Rattle.char_pack.specs.Texts.{host_text}
use Rattle.pal_lex.specs.Text.{text_from, text_of}
use Rattle.pal_lex.specs.Joins.{before_pause, text_with_next, join_of}
use Rattle.source_places.specs.Places.{further, place_in, bytes_of, next_line, before_place}
use Rattle.host_sources.specs.Sources.{texts_of, newest_first, counts_by, counts_of}
use Rattle.source_places.proofs.PlaceLemmas.{length_from}
use Rattle.source_listing.specs.Rows.{Row, ends_word, word_ends, first_end, two_ends, rows, own_ends, later_ends, all_rows}
use Rattle.source_listing.specs.References.{spot_by, mentions}
use Rattle.source_listing.specs.SpotSteps.{byte_spots, all_spots, no_spot}
use Rattle.source_listing.specs.Laws.{in_front, lines, row_lines, line_spots, row_spots, word_spots, end_spots, WordsStand}
use Rattle.source_listing.specs.declared.spots.Spot.{Spot}
use Rattle.source_listing.proofs.RowLemmas.{some_line, lines_by_row, own_none, later_none, prefix_shorter, length_ends}
use Rattle.source_listing.proofs.ReferenceLemmas.{same_mentions}

-- ## The spots of bytes that end words

-- those of the bytes that do
picked : List Bool → List Spot → List Spot
picked [] spots = []
picked (e ∷ ends) [] = []
picked (true ∷ ends) (spot ∷ spots) = spot ∷ picked ends spots
picked (false ∷ ends) (spot ∷ spots) = picked ends spots

picked_none : (ends : List Bool) → picked ends [] ≡ []
unfolding picked
picked_none [] = refl
picked_none (e ∷ ends) = refl

picked_one : (ends : List Bool) (spot : Spot) (spots : List Spot) → picked ends (spot ∷ spots) ≡ replicate (first_end ends) spot ++ picked (drop 1 ends) spots
unfolding picked
picked_one [] spot spots = refl
picked_one (true ∷ ends) spot spots = refl
picked_one (false ∷ ends) spot spots = refl

drop_two : (ends : List Bool) → drop 1 (drop 1 ends) ≡ drop 2 ends
drop_two [] = refl
drop_two (e ∷ ends) = refl

picked_two : (ends : List Bool) (spot : Spot) (spots : List Spot) → picked ends (spot ∷ spot ∷ spots) ≡ replicate (two_ends ends) spot ++ picked (drop 2 ends) spots
unfolding two_ends
picked_two ends spot spots =
    picked_one ends spot (spot ∷ spots) ∙ ap (λ l. replicate (first_end ends) spot ++ l) (picked_one (drop 1 ends) spot spots)
    ∙ sym (append_assoc (replicate (first_end ends) spot) (replicate (first_end (drop 1 ends)) spot) (picked (drop 1 (drop 1 ends)) spots))
    ∙ ap (λ l. l ++ picked (drop 1 (drop 1 ends)) spots) (replicate-append-replicate (first_end ends) (first_end (drop 1 ends)) spot)
    ∙ ap (λ l. replicate (first_end ends + first_end (drop 1 ends)) spot ++ picked l spots) (drop_two ends)

-- ## One source

more_words : (words more : ℕ) (spot : Spot) (l : List Spot) → replicate (words + more) spot ++ l ≡ replicate words spot ++ (replicate more spot ++ l)
more_words words more spot l =
    ap (λ r. r ++ l) (sym (replicate-append-replicate words more spot)) ∙ append_assoc (replicate words spot) (replicate more spot) l

same_lines : (number line b : ℕ) (source : List ℕ) → line_spots number line (in_front b (lines source)) ≡ line_spots number line (lines source)
same_lines number line b source =
    let some = some_line source in
    ap (λ l. line_spots number line (in_front b l)) some.1.1 ∙ sym (ap (line_spots number line) some.1.1)

lines_if : (number line : ℕ) (cr lf : Bool) (a b c : List (List ℕ)) (f : List (List ℕ) → List Spot) → f (if cr then a else (if lf then b else c)) ≡ (if cr then f a else (if lf then f b else f c))
lines_if number line true lf a b c f = refl
lines_if number line false true a b c f = refl
lines_if number line false false a b c f = refl

stand_by : (cr lf : Bool) (number line words b : ℕ) (source : List ℕ) (ends : List Bool) (at_cr at_lf at_other : List Row)
    → word_spots at_cr (line_spots number line (lines source)) ≡ replicate words (record { source = number; line = line }) ++ picked ends (byte_spots number line source)
    → word_spots at_lf (line_spots number line ([] ∷ lines source)) ≡ replicate (words + two_ends ends) (record { source = number; line = line }) ++ picked (drop 2 ends) (byte_spots number (line + 1) source)
    → word_spots at_other (line_spots number line (lines source)) ≡ replicate (words + first_end ends) (record { source = number; line = line }) ++ picked (drop 1 ends) (byte_spots number line source)
    → word_spots (if cr then at_cr else (if lf then at_lf else at_other)) (line_spots number line (if cr then lines source else (if lf then [] ∷ lines source else in_front b (lines source))))
    ≡ replicate words (record { source = number; line = line })
    ++ picked ends (if cr then byte_spots number line source
    else (if lf then record { source = number; line = line } ∷ record { source = number; line = line } ∷ byte_spots number (line + 1) source
    else record { source = number; line = line } ∷ byte_spots number line source))
stand_by true lf number line words b source ends at_cr at_lf at_other c l o = c
stand_by false true number line words b source ends at_cr at_lf at_other c l o =
    let spot : Spot = record { source = number; line = line } in
    l ∙ more_words words (two_ends ends) spot (picked (drop 2 ends) (byte_spots number (line + 1) source))
    ∙ ap (λ x. replicate words spot ++ x) (sym (picked_two ends spot (byte_spots number (line + 1) source)))
stand_by false false number line words b source ends at_cr at_lf at_other c l o =
    let spot : Spot = record { source = number; line = line } in
    ap (word_spots at_other) (same_lines number line b source) ∙ o ∙ more_words words (first_end ends) spot (picked (drop 1 ends) (byte_spots number line source))
    ∙ ap (λ x. replicate words spot ++ x) (sym (picked_one ends spot (byte_spots number line source)))

stands : (number line : ℕ) (so_far : List ℕ) (words : ℕ) (source : List ℕ) (ends : List Bool)
    → word_spots (rows so_far words source ends) (line_spots number line (lines source)) ≡ replicate words (record { source = number; line = line }) ++ picked ends (byte_spots number line source)
stands number line so_far words [] ends = ap (λ l. replicate words (record { source = number; line = line }) ++ l) (sym (picked_none ends))
stands number line so_far words (b ∷ source) ends =
    stand_by (nat_eq b 13) (nat_eq b 10) number line words b source ends (rows so_far words source ends)
    (record { line = so_far; words = words + two_ends ends; ended = true } ∷ rows [] 0 source (drop 2 ends)) (rows (so_far ++ b ∷ []) (words + first_end ends) source (drop 1 ends))
    (stands number line so_far words source ends)
    (ap (λ l. replicate (words + two_ends ends) (record { source = number; line = line }) ++ l) (stands number (line + 1) [] 0 source (drop 2 ends)))
    (stands number line (so_far ++ b ∷ []) (words + first_end ends) source (drop 1 ends))

-- ## All sources

pub length-rows : (l : List Row) → length (row_lines l) ≡ length l
length-rows [] = refl
length-rows (row ∷ l) = ap suc (length-rows l)

pub length-line_spots : (number line : ℕ) (l : List (List ℕ)) → length (line_spots number line l) ≡ length l
length-line_spots number line [] = refl
length-line_spots number line (text ∷ l) = ap suc (length-line_spots number (line + 1) l)

as_many_rows : (number : ℕ) (source : List ℕ) (ends : List Bool) → length (rows [] 0 source ends) ≡ length (line_spots number 1 (lines source))
as_many_rows number source ends =
    sym (length-rows (rows [] 0 source ends)) ∙ ap length (lines_by_row source ends) ∙ sym (length-line_spots number 1 (lines source))

word_spots-append : (a b : List Row) (s t : List Spot) → length a ≡ length s → word_spots (a ++ b) (s ++ t) ≡ word_spots a s ++ word_spots b t
word_spots-append [] b [] t size = refl
word_spots-append [] b (x ∷ s) t size = absurd (omega (arith, size))
word_spots-append (r ∷ a) b [] t size = absurd (omega (arith, size))
word_spots-append (r ∷ a) b (x ∷ s) t size =
    ap (λ l. replicate r.words x ++ l) (word_spots-append a b s t (omega (arith, size))) ∙ sym (append_assoc (replicate r.words x) (word_spots a s) (word_spots b t))

picked_short : (ends : List Bool) (s t : List Spot) → length ends ≤ length s → picked ends (s ++ t) ≡ picked ends s
unfolding picked
picked_short [] s t size = refl
picked_short (e ∷ ends) [] t size = absurd (omega (arith, size))
picked_short (true ∷ ends) (x ∷ s) t size = ap (λ l. x ∷ l) (picked_short ends s t (omega (arith, size)))
picked_short (false ∷ ends) (x ∷ s) t size = picked_short ends s t (omega (arith, size))

picked-append : (a b : List Bool) (s t : List Spot) → length a ≡ length s → picked (a ++ b) (s ++ t) ≡ picked a s ++ picked b t
unfolding picked
picked-append [] b [] t size = refl
picked-append [] b (x ∷ s) t size = absurd (omega (arith, size))
picked-append (e ∷ a) b [] t size = absurd (omega (arith, size))
picked-append (true ∷ a) b (x ∷ s) t size = ap (λ l. x ∷ l) (picked-append a b s t (omega (arith, size)))
picked-append (false ∷ a) b (x ∷ s) t size = picked-append a b s t (omega (arith, size))

length_by : (cr lf : Bool) (number line b : ℕ) (source : List ℕ) → length (byte_spots number line source) ≡ length (host_text source)
    → length (byte_spots number (line + 1) source) ≡ length (host_text source)
    → length (if cr then byte_spots number line source
    else (if lf then record { source = number; line = line } ∷ record { source = number; line = line } ∷ byte_spots number (line + 1) source
    else record { source = number; line = line } ∷ byte_spots number line source))
    ≡ length ((if cr then [] else (if lf then 13 ∷ 10 ∷ [] else b ∷ [])) ++ host_text source)
length_by true lf number line b source e f = e
length_by false true number line b source e f = ap (λ n. suc (suc n)) f
length_by false false number line b source e f = ap suc e

length-byte_spots : (number line : ℕ) (source : List ℕ) → length (byte_spots number line source) ≡ length (host_text source)
length-byte_spots number line [] = refl
length-byte_spots number line (b ∷ source) =
    length_by (nat_eq b 13) (nat_eq b 10) number line b source (length-byte_spots number line source) (length-byte_spots number (line + 1) source)

one_stands : (number : ℕ) (source : List ℕ) (ends : List Bool) → word_spots (rows [] 0 source ends) (line_spots number 1 (lines source)) ≡ picked ends (byte_spots number 1 source)
one_stands number source ends = stands number 1 [] 0 source ends

none_stand : (number : ℕ) (sources : List (Bor (List ℕ))) (counts : List ℕ) → word_spots (all_rows sources counts []) (row_spots number sources) ≡ []
unfolding picked
none_stand number [] counts = refl
none_stand number (source ∷ others) counts =
    word_spots-append (rows [] 0 source.now (own_ends counts [])) (all_rows others (drop 1 counts) (later_ends counts [])) (line_spots number 1 (lines source.now)) (row_spots (number + 1) others)
    (as_many_rows number source.now (own_ends counts []))
    ∙ ap (λ l. l ++ word_spots (all_rows others (drop 1 counts) (later_ends counts [])) (row_spots (number + 1) others))
    (one_stands number source.now (own_ends counts []) ∙ ap (λ l. picked l (byte_spots number 1 source.now)) (own_none counts))
    ∙ ap (λ l. word_spots (all_rows others (drop 1 counts) l) (row_spots (number + 1) others)) (later_none counts) ∙ none_stand (number + 1) others (drop 1 counts)

-- a source that has so many bytes in the join, with others after it
part_stands : (number n : ℕ) (source : List ℕ) (ends : List Bool) (later : List Spot) → n ≤ length (host_text source) → n ≤ length ends
    → picked (take n ends) (byte_spots number 1 source) ++ picked (drop n ends) later ≡ picked ends (take n (byte_spots number 1 source) ++ later)
part_stands number n source ends later inside size =
    let spots = byte_spots number 1 source in
    let all = length-byte_spots number 1 source in
    let mine = length-take-le n spots (omega (arith, inside, all)) in
    let taken = length-take-le n ends size in
    ap (λ l. picked (take n ends) l ++ picked (drop n ends) later) (sym (take-append-drop n spots))
    ∙ ap (λ l. l ++ picked (drop n ends) later) (picked_short (take n ends) (take n spots) (drop n spots) (omega (arith, mine, taken)))
    ∙ sym (picked-append (take n ends) (drop n ends) (take n spots) later (taken ∙ sym mine)) ∙ ap (λ l. picked l (take n spots ++ later)) (take-append-drop n ends)

all_stand : (number : ℕ) (sources : List (Bor (List ℕ))) (ends : List Bool) → length ends ≡ length (join_of (texts_of sources))
    → word_spots (all_rows sources (counts_of (texts_of sources)) ends) (row_spots number sources) ≡ picked ends (all_spots number sources (counts_of (texts_of sources)))
all_stand number [] ends size = sym (picked_none ends)
all_stand number (source ∷ []) ends size =
    let text = length_from (host_text source.now) [] in
    let all = length-byte_spots number 1 source.now in
    word_spots-append (rows [] 0 source.now ends) [] (line_spots number 1 (lines source.now)) [] (as_many_rows number source.now ends)
    ∙ append-nil (word_spots (rows [] 0 source.now ends) (line_spots number 1 (lines source.now))) ∙ one_stands number source.now ends
    ∙ sym (picked_short ends (byte_spots number 1 source.now) [] (omega (arith, size, text, all)))
all_stand number (source ∷ next ∷ others) ends size = by_pause (before_pause (text_of (host_text source.now))) refl (all_stand (number + 1) (next ∷ others)) size
  where
    by_pause : (prefix : Option (List ℕ)) → before_pause (text_of (host_text source.now)) ≡ prefix
        → ((l : List Bool) → length l ≡ length (join_of (texts_of (next ∷ others)))
        → word_spots (all_rows (next ∷ others) (counts_of (texts_of (next ∷ others))) l) (row_spots (number + 1) (next ∷ others))
        ≡ picked l (all_spots (number + 1) (next ∷ others) (counts_of (texts_of (next ∷ others)))))
        → length ends ≡ length (text_with_next (text_of (host_text source.now)) prefix (join_of (texts_of (next ∷ others))))
        → word_spots (all_rows (source ∷ next ∷ others) (counts_by prefix (counts_of (texts_of (next ∷ others)))) ends) (row_spots number (source ∷ next ∷ others))
        ≡ picked ends (all_spots number (source ∷ next ∷ others) (counts_by prefix (counts_of (texts_of (next ∷ others)))))
    by_pause None is later size =
        let text = length_from (host_text source.now) [] in
        let all = length-byte_spots number 1 source.now in
        word_spots-append (rows [] 0 source.now ends) (all_rows (next ∷ others) [] []) (line_spots number 1 (lines source.now)) (row_spots (number + 1) (next ∷ others))
        (as_many_rows number source.now ends)
        ∙ ap (λ l. word_spots (rows [] 0 source.now ends) (line_spots number 1 (lines source.now)) ++ l) (none_stand (number + 1) (next ∷ others) [])
        ∙ append-nil (word_spots (rows [] 0 source.now ends) (line_spots number 1 (lines source.now))) ∙ one_stands number source.now ends
        ∙ sym (picked_short ends (byte_spots number 1 source.now) (all_spots (number + 1) (next ∷ others) []) (omega (arith, size, text, all)))
    by_pause (Some prefix) is later size =
        let n = length prefix in
        let counts = counts_of (texts_of (next ∷ others)) in
        let joined = length-append (join_of (texts_of (next ∷ others))) prefix in
        let shorter = prefix_shorter (text_of (host_text source.now)) prefix is in
        let text = length_from (host_text source.now) [] in
        let dropped = length-drop n ends in
        let rest : length (drop n ends) ≡ length (join_of (texts_of (next ∷ others))) = omega (arith, dropped, size, joined) in
        word_spots-append (rows [] 0 source.now (take n ends)) (all_rows (next ∷ others) counts (drop n ends)) (line_spots number 1 (lines source.now)) (row_spots (number + 1) (next ∷ others))
        (as_many_rows number source.now (take n ends))
        ∙ ap (λ l. l ++ word_spots (all_rows (next ∷ others) counts (drop n ends)) (row_spots (number + 1) (next ∷ others))) (one_stands number source.now (take n ends))
        ∙ ap (λ l. picked (take n ends) (byte_spots number 1 source.now) ++ l) (later (drop n ends) rest)
        ∙ part_stands number n source.now ends (all_spots (number + 1) (next ∷ others) counts) (omega (arith, shorter, text)) (omega (arith, size, joined))

-- ## The words of the join

picked_push : (ends : List Bool) (e : Bool) (spots : List Spot) → length ends < length spots
    → picked (ends ++ e ∷ []) spots ≡ picked ends spots ++ (if e then get_or spots (length ends) no_spot ∷ [] else [])
unfolding picked
picked_push [] e [] size = absurd (omega (arith, size))
picked_push [] true (x ∷ spots) size = refl
picked_push [] false (x ∷ spots) size = refl
picked_push (f ∷ ends) e [] size = absurd (omega (arith, size))
picked_push (true ∷ ends) e (x ∷ spots) size = ap (λ l. x ∷ l) (picked_push ends e spots (omega (arith, size)))
picked_push (false ∷ ends) e (x ∷ spots) size = picked_push ends e spots (omega (arith, size))

picked_ends : (spots : List Spot) (text : List ℕ) → length text ≤ length spots → picked (word_ends text) spots ≡ end_spots (λ at. get_or spots at no_spot) text
unfolding picked
picked_ends spots [] size = refl
picked_ends spots (b ∷ older) size =
    let ends = length_ends older in
    picked_push (word_ends older) (ends_word older b) spots (omega (arith, size, ends))
    ∙ ap (λ l. l ++ (if ends_word older b then get_or spots (length (word_ends older)) no_spot ∷ [] else [])) (picked_ends spots older (omega (arith, size)))
    ∙ ap (λ n. end_spots (λ at. get_or spots at no_spot) older ++ (if ends_word older b then get_or spots n no_spot ∷ [] else [])) ends

same_spots : (f g : ℕ → Spot) (text : List ℕ) → ((n : ℕ) → n < length text → f n ≡ g n) → end_spots f text ≡ end_spots g text
same_spots f g [] same = refl
same_spots f g (b ∷ older) same =
    ap (λ l. l ++ (if ends_word older b then f (length older) ∷ [] else [])) (same_spots f g older (λ n inside. same n (omega (arith, inside))))
    ∙ ap (λ s. end_spots g older ++ (if ends_word older b then s ∷ [] else [])) (same (length older) (omega arith))

-- ## The spot of a byte

spot_following : ℕ → List ℕ → Spot
spot_following number text = record { source = number; line = next_line text }

spot_by_tests : (cr lf : Bool) (number b : ℕ) (before source : List ℕ) → nat_eq b 10 ≡ lf
    → ((n : ℕ) → n < length (host_text source) → get_or (byte_spots number (next_line before) source) n no_spot ≡ spot_following number (text_from before (take n (host_text source))))
    → ((n : ℕ) → n < length (host_text source)
    → get_or (byte_spots number (next_line (10 ∷ 13 ∷ before)) source) n no_spot ≡ spot_following number (text_from (10 ∷ 13 ∷ before) (take n (host_text source))))
    → ((n : ℕ) → n < length (host_text source) → get_or (byte_spots number (next_line (b ∷ before)) source) n no_spot ≡ spot_following number (text_from (b ∷ before) (take n (host_text source))))
    → (at : ℕ) → at < length ((if cr then [] else (if lf then 13 ∷ 10 ∷ [] else b ∷ [])) ++ host_text source)
    → get_or
    (if cr then byte_spots number (next_line before) source
    else (if lf then record { source = number; line = next_line before } ∷ record { source = number; line = next_line before } ∷ byte_spots number (next_line before + 1) source
    else record { source = number; line = next_line before } ∷ byte_spots number (next_line before) source)) at no_spot
    ≡ spot_following number (text_from before (take at ((if cr then [] else (if lf then 13 ∷ 10 ∷ [] else b ∷ [])) ++ host_text source)))
unfolding spot_following
spot_by_tests true lf number b before source is same next other at inside = same at inside
spot_by_tests false true number b before source is same next other zero inside = refl
spot_by_tests false true number b before source is same next other (suc zero) inside =
    let line : next_line before ≡ 0 + next_line before = omega arith in
    ap (λ n. record { source = number; line = n }) line
spot_by_tests false true number b before source is same next other (suc (suc n)) inside =
    let line : next_line before + 1 ≡ 1 + (0 + next_line before) = omega arith in
    ap (λ l. get_or (byte_spots number l source) n no_spot) line ∙ next n (omega (arith, inside))
spot_by_tests false false number b before source is same next other zero inside = refl
spot_by_tests false false number b before source is same next other (suc n) inside =
    let zero_more : next_line before ≡ 0 + next_line before = omega arith in
    let line : next_line before ≡ next_line (b ∷ before) = zero_more ∙ sym (ap (λ (t : Bool). (if t then 1 else 0) + next_line before) is) in
    ap (λ l. get_or (byte_spots number l source) n no_spot) line ∙ other n (omega (arith, inside))

byte_spot : (number : ℕ) (before source : List ℕ) (at : ℕ) → at < length (host_text source)
    → get_or (byte_spots number (next_line before) source) at no_spot ≡ spot_following number (text_from before (take at (host_text source)))
byte_spot number before [] at inside = absurd (omega (arith, inside))
byte_spot number before (b ∷ source) at inside =
    spot_by_tests (nat_eq b 13) (nat_eq b 10) number b before source refl (byte_spot number before source) (byte_spot number (10 ∷ 13 ∷ before) source)
    (byte_spot number (b ∷ before) source) at inside

lt_true : (a b : ℕ) → nat_lt a b ≡ true → a < b
lt_true a b e = grind (arith, nat_tests)

lt_false : (a b : ℕ) → nat_lt a b ≡ false → b ≤ a
lt_false a b e = grind (arith, nat_tests)

-- the spot at a place in sources, of which the first has this number
spot_of : ℕ → List (Bor (List ℕ)) → ℕ × ℕ → Spot
spot_of number sources at = record { source = at.0 + number; line = next_line (before_place sources at) }

first_spot : (number : ℕ) (source : Bor (List ℕ)) (others : List (Bor (List ℕ))) (later : List Spot) (at : ℕ) → at < length (host_text source.now)
    → get_or (byte_spots number 1 source.now ++ later) at no_spot ≡ spot_of number (source ∷ others) (0, at)
unfolding spot_of spot_following
first_spot number source others later at inside =
    let all = length-byte_spots number 1 source.now in
    let same : number ≡ 0 + number = omega arith in
    get_or_append_left (byte_spots number 1 source.now) later no_spot at (omega (arith, inside, all)) ∙ byte_spot number [] source.now at inside
    ∙ ap (λ n. record { source = n; line = next_line (text_of (take at (host_text source.now))) }) same

cut_spot : (number n : ℕ) (source : Bor (List ℕ)) (others : List (Bor (List ℕ))) (later : List Spot) (at : ℕ) → n ≤ length (host_text source.now) → at < n
    → get_or (take n (byte_spots number 1 source.now) ++ later) at no_spot ≡ spot_of number (source ∷ others) (0, at)
unfolding spot_of spot_following
cut_spot number n source others later at inside below =
    let all = length-byte_spots number 1 source.now in
    let mine = length-take-le n (byte_spots number 1 source.now) (omega (arith, inside, all)) in
    let same : number ≡ 0 + number = omega arith in
    get_or_append_left (take n (byte_spots number 1 source.now)) later no_spot at (omega (arith, below, mine)) ∙ get_or-take n (byte_spots number 1 source.now) at no_spot below
    ∙ byte_spot number [] source.now at (omega (arith, below, inside)) ∙ ap (λ m. record { source = m; line = next_line (text_of (take at (host_text source.now))) }) same

further_spot : (number : ℕ) (source : Bor (List ℕ)) (others : List (Bor (List ℕ))) (at : ℕ × ℕ) → spot_of (number + 1) others at ≡ spot_of number (source ∷ others) (at.0 + 1, at.1)
unfolding spot_of
further_spot number source others at =
    let one : at.0 + (number + 1) ≡ at.0 + 1 + number = omega arith in
    let next : suc at.0 ≡ at.0 + 1 = omega arith in
    ap (λ n. record { source = n; line = next_line (before_place others at) }) one
    ∙ ap (λ m. record { source = at.0 + 1 + number; line = next_line (text_of (take at.1 (host_text (bytes_of (source ∷ others) m)))) }) next

all_spot : (number : ℕ) (sources : List (Bor (List ℕ))) (at : ℕ) → at < length (join_of (texts_of sources))
    → get_or (all_spots number sources (counts_of (texts_of sources))) at no_spot ≡ spot_of number sources (place_in (counts_of (texts_of sources)) at)
all_spot number [] at inside = absurd (omega (arith, inside))
all_spot number (source ∷ []) at inside = let text = length_from (host_text source.now) [] in first_spot number source [] [] at (omega (arith, inside, text))
all_spot number (source ∷ next ∷ others) at inside = by_pause (before_pause (text_of (host_text source.now))) refl (all_spot (number + 1) (next ∷ others)) inside
  where
    by_pause : (prefix : Option (List ℕ)) → before_pause (text_of (host_text source.now)) ≡ prefix
        → ((n : ℕ) → n < length (join_of (texts_of (next ∷ others)))
        → get_or (all_spots (number + 1) (next ∷ others) (counts_of (texts_of (next ∷ others)))) n no_spot ≡ spot_of (number + 1) (next ∷ others) (place_in (counts_of (texts_of (next ∷ others))) n))
        → at < length (text_with_next (text_of (host_text source.now)) prefix (join_of (texts_of (next ∷ others))))
        → get_or (all_spots number (source ∷ next ∷ others) (counts_by prefix (counts_of (texts_of (next ∷ others))))) at no_spot
        ≡ spot_of number (source ∷ next ∷ others) (place_in (counts_by prefix (counts_of (texts_of (next ∷ others)))) at)
    by_pause None is later inside =
        let text = length_from (host_text source.now) [] in first_spot number source (next ∷ others) (all_spots (number + 1) (next ∷ others) []) at (omega (arith, inside, text))
    by_pause (Some prefix) is later inside = by_lt (nat_lt at (length prefix)) refl
      where
        by_lt : (test : Bool) → nat_lt at (length prefix) ≡ test
            → get_or (take (length prefix) (byte_spots number 1 source.now) ++ all_spots (number + 1) (next ∷ others) (counts_of (texts_of (next ∷ others)))) at no_spot
            ≡ spot_of number (source ∷ next ∷ others) (if nat_lt at (length prefix) then (0, at) else further (place_in (counts_of (texts_of (next ∷ others))) (at - length prefix)))
        by_lt true test =
            let shorter = prefix_shorter (text_of (host_text source.now)) prefix is in
            let text = length_from (host_text source.now) [] in
            cut_spot number (length prefix) source (next ∷ others) (all_spots (number + 1) (next ∷ others) (counts_of (texts_of (next ∷ others)))) at (omega (arith, shorter, text))
            (lt_true at (length prefix) test)
            ∙ sym
            (ap (λ (t : Bool). spot_of number (source ∷ next ∷ others) (if t then (0, at) else further (place_in (counts_of (texts_of (next ∷ others))) (at - length prefix)))) test)
        by_lt false test =
            let shorter = prefix_shorter (text_of (host_text source.now)) prefix is in
            let text = length_from (host_text source.now) [] in
            let all = length-byte_spots number 1 source.now in
            let joined = length-append (join_of (texts_of (next ∷ others))) prefix in
            let past = lt_false at (length prefix) test in
            let spots = all_spots (number + 1) (next ∷ others) (counts_of (texts_of (next ∷ others))) in
            let mine = length-take-le (length prefix) (byte_spots number 1 source.now) (omega (arith, shorter, text, all)) in
            get_or-append_right (take (length prefix) (byte_spots number 1 source.now)) spots (length prefix) at no_spot mine past
            ∙ later (at - length prefix) (omega (arith, past, inside, joined))
            ∙ further_spot number source (next ∷ others) (place_in (counts_of (texts_of (next ∷ others))) (at - length prefix))
            ∙ sym
            (ap (λ (t : Bool). spot_of number (source ∷ next ∷ others) (if t then (0, at) else further (place_in (counts_of (texts_of (next ∷ others))) (at - length prefix)))) test)

enough_spots : (number : ℕ) (sources : List (Bor (List ℕ))) → length (join_of (texts_of sources)) ≤ length (all_spots number sources (counts_of (texts_of sources)))
enough_spots number [] = omega arith
enough_spots number (source ∷ []) =
    let text = length_from (host_text source.now) [] in
    let all = length-byte_spots number 1 source.now in
    let both = length-append (byte_spots number 1 source.now) [] in
    omega (arith, text, all, both)
enough_spots number (source ∷ next ∷ others) = by_pause (before_pause (text_of (host_text source.now))) refl (enough_spots (number + 1) (next ∷ others))
  where
    by_pause : (prefix : Option (List ℕ)) → before_pause (text_of (host_text source.now)) ≡ prefix
        → length (join_of (texts_of (next ∷ others))) ≤ length (all_spots (number + 1) (next ∷ others) (counts_of (texts_of (next ∷ others))))
        → length (text_with_next (text_of (host_text source.now)) prefix (join_of (texts_of (next ∷ others)))) ≤ length (all_spots number (source ∷ next ∷ others) (counts_by prefix (counts_of (texts_of (next ∷ others)))))
    by_pause None is later =
        let text = length_from (host_text source.now) [] in
        let all = length-byte_spots number 1 source.now in
        let both = length-append (byte_spots number 1 source.now) (all_spots (number + 1) (next ∷ others) []) in
        omega (arith, text, all, both)
    by_pause (Some prefix) is later =
        let shorter = prefix_shorter (text_of (host_text source.now)) prefix is in
        let text = length_from (host_text source.now) [] in
        let all = length-byte_spots number 1 source.now in
        let joined = length-append (join_of (texts_of (next ∷ others))) prefix in
        let spots = all_spots (number + 1) (next ∷ others) (counts_of (texts_of (next ∷ others))) in
        let mine = length-take-le (length prefix) (byte_spots number 1 source.now) (omega (arith, shorter, text, all)) in
        let both = length-append (take (length prefix) (byte_spots number 1 source.now)) spots in
        omega (arith, joined, mine, both, later)

pub words_standing : WordsStand
unfolding spot_of
words_standing sources =
    let join = newest_first sources in
    let spots = all_spots 1 sources (counts_of (texts_of sources)) in
    all_stand 1 sources (word_ends join) (length_ends join) ∙ picked_ends spots join (enough_spots 1 sources)
    ∙ same_spots (λ at. get_or spots at no_spot) (spot_by sources) join (λ n inside. all_spot 1 sources n inside)

-- the names in a join, where its bytes stand as they were counted
pub mentions_stand : (sources : List (Bor (List ℕ))) (text : List ℕ) → text ≡ newest_first sources
    → mentions (λ at. get_or (all_spots 1 sources (counts_of (texts_of sources))) at no_spot) text ≡ mentions (spot_by sources) (newest_first sources)
unfolding spot_of
mentions_stand sources text is =
    ap (mentions (λ at. get_or (all_spots 1 sources (counts_of (texts_of sources))) at no_spot)) is
    ∙ same_mentions (λ at. get_or (all_spots 1 sources (counts_of (texts_of sources))) at no_spot) (spot_by sources) (newest_first sources) (λ n inside. all_spot 1 sources n inside)
