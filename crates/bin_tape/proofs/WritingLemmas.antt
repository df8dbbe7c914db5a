-- What the items of pairs say when they are read.
use Rattle.std.proofs.Common.{◌≡◌, ◌≢◌, ℕ, ◌+◌, ◌*◌, ◌/◌, ◌%◌, ◌<◌, Bool, true, false, nat_eq, if◌then◌else◌, ◌&&◌, Option, Some, None, ◌∙◌, ap, refl, sym, rules, inl, inr, arith, append_assoc, length, take, reverse, get_or, replicate, List, [], ◌∷◌, ◌++◌}
use Rattle.std.proofs.lemmas.List.{take_more, reverse-append, reverse-reverse, length-reverse}
use Rattle.std.proofs.lemmas.Bool.Decides.{nat_tests, eqb_tells}
use Rattle.std.specs.Option.{option_or}
use Rattle.bin_tape.specs.Frames.{heeded_frames}
use Rattle.bin_tape.specs.Items.{Item, Leader, Field, Origin, Word, frames_of_items, frames_of, has_origin, IsPrefix, field_after, address_after, cell_after, check_sum, words_of, tape_map}
use Rattle.bin_tape.specs.Tape.{IsTape}
use Rattle.bin_tape.specs.Pairs.{ArePairs, last_word, IsTapeOf}
use Rattle.bin_tape.specs.Writing.{word_item, origin_item, next_field, is_next, with_field, with_origin, newest_cell, items_of, tape_with, tape_of}
use Rattle.bin_tape.proofs.FrameLemmas.{other_false}

-- ## One pair more

pub take_one : (pairs : List (ℕ × ℕ)) (i : ℕ) (pair : ℕ × ℕ) → i < length pairs → pair ≡ get_or pairs i pair
    → take (i + 1) pairs ≡ take i pairs ++ pair ∷ []
take_one pairs i pair within here = take_more pairs i pair within ∙ ap (λ p. take i pairs ++ p ∷ []) (sym here)

pub newest_one : (pairs : List (ℕ × ℕ)) (i : ℕ) (pair : ℕ × ℕ) → i < length pairs → pair ≡ get_or pairs i pair
    → reverse (take (i + 1) pairs) ≡ pair ∷ reverse (take i pairs)
newest_one pairs i pair within here = ap reverse (take_one pairs i pair within here) ∙ reverse-append (take i pairs) (pair ∷ [])

pub are_pairs_one : (pairs : List (ℕ × ℕ)) (pair : ℕ × ℕ) → ArePairs pairs → pair.0 < 32768 → pair.1 < 4096 → ArePairs (pairs ++ pair ∷ [])
are_pairs_one [] pair all cell word = (cell, word, tt)
are_pairs_one (p ∷ ps) pair all cell word = (all.0, all.1, are_pairs_one ps pair all.2 cell word)

newest_last : (pair : ℕ × ℕ) (pairs : List (ℕ × ℕ)) → reverse (pair ∷ pairs) ≡ reverse pairs ++ pair ∷ []
newest_last pair pairs = reverse-append (pair ∷ []) pairs

are_pairs_reverse : (pairs : List (ℕ × ℕ)) → ArePairs pairs → ArePairs (reverse pairs)
are_pairs_reverse [] all = tt
are_pairs_reverse (p ∷ ps) all = rw (newest_last p ps) (are_pairs_one (reverse ps) p (are_pairs_reverse ps all.2) all.0 all.1)

-- ## The items of a pair

-- where a field setting stands or not, the field is the pair's
field_with : (a b : ℕ) (items : List Item) → field_after items ≡ b → field_after (if nat_eq a b then items else Field a ∷ items) ≡ a
field_with a b items h =
    elim (eqb_tells a b) [
      | inl e ↦ rw e.0 (h ∙ sym e.1)
      | inr e ↦ rw e.0 refl
    ]

field_origin : (next : Bool) (high low : ℕ) (items : List Item) → field_after (if next then items else Origin high low ∷ items) ≡ field_after items
field_origin true high low items = refl
field_origin false high low items = refl

-- the field in which a pair's word stands
field_pair : (before : Option ℕ) (cell : ℕ) (items : List Item) → field_after items ≡ next_field before
    → field_after (with_origin before cell (with_field before cell items)) ≡ cell / 4096
field_pair before cell items h =
    field_origin (is_next before cell) (cell % 4096 / 64) (cell % 4096 % 64) (with_field before cell items)
    ∙ field_with (cell / 4096) (next_field before) items h

field_items : (newest : List (ℕ × ℕ)) → field_after (items_of newest) ≡ next_field (newest_cell newest)
field_items [] = refl
field_items (pair ∷ older) = field_pair (newest_cell older) pair.0 (items_of older) (field_items older)

address_field : (same : Bool) (field : ℕ) (items : List Item) → address_after (if same then items else Field field ∷ items) ≡ address_after items
address_field true field items = refl
address_field false field items = refl

-- where an origin stands or not, the address is the pair's
address_with : (same near : Bool) (address : ℕ) (items : List Item) → (near ≡ true → address_after items ≡ address)
    → address_after (if same && near then items else origin_item address ∷ items) ≡ address
address_with true true address items h = h refl
address_with true false address items h = omega arith
address_with false near address items h = omega arith

next_address : (a b : ℕ) → nat_eq (a % 4096) (b % 4096 + 1) ≡ true → (b % 4096 + 1) % 4096 ≡ a % 4096
next_address a b h = grind (arith, nat_tests)

-- the address at which a pair's word stands
address_items : (newest : List (ℕ × ℕ)) (cell : ℕ)
    → address_after (with_origin (newest_cell newest) cell (with_field (newest_cell newest) cell (items_of newest))) ≡ cell % 4096
address_items [] cell = omega arith
address_items (pair ∷ older) cell =
    address_with (nat_eq (cell / 4096) (pair.0 / 4096)) (nat_eq (cell % 4096) (pair.0 % 4096 + 1)) (cell % 4096)
    (with_field (Some pair.0) cell (items_of (pair ∷ older)))
    (λ near.
    address_field (nat_eq (cell / 4096) (pair.0 / 4096)) (cell / 4096) (items_of (pair ∷ older))
    ∙ ap (λ a. (a + 1) % 4096) (address_items older pair.0)
    ∙ next_address cell pair.0 near)

-- a pair's word stands at the pair's cell
cell_items : (newest : List (ℕ × ℕ)) (cell : ℕ)
    → cell_after (with_origin (newest_cell newest) cell (with_field (newest_cell newest) cell (items_of newest))) ≡ cell
cell_items newest cell =
    let field = field_pair (newest_cell newest) cell (items_of newest) (field_items newest) in
    let address = address_items newest cell in
    rw (field, address) (omega arith)

words_with : (same next : Bool) (field high low : ℕ) (items : List Item)
    → words_of (if next then (if same then items else Field field ∷ items) else Origin high low ∷ (if same then items else Field field ∷ items)) ≡ words_of items
words_with true true field high low items = refl
words_with true false field high low items = refl
words_with false true field high low items = refl
words_with false false field high low items = refl

two_parts : (word : ℕ) → 64 * (word / 64) + word % 64 ≡ word
two_parts word = omega arith

-- the words of the items are the pairs
words_items : (newest : List (ℕ × ℕ)) → words_of (items_of newest) ≡ reverse newest
words_items [] = refl
words_items (pair ∷ older) =
    ap (λ ws. ws ++ (cell_after (with_origin (newest_cell older) pair.0 (with_field (newest_cell older) pair.0 (items_of older))), 64 * (pair.1 / 64) + pair.1 % 64) ∷ [])
    (words_with (nat_eq (pair.0 / 4096) (next_field (newest_cell older))) (is_next (newest_cell older) pair.0) (pair.0 / 4096)
    (pair.0 % 4096 / 64) (pair.0 % 4096 % 64) (items_of older) ∙ words_items older)
    ∙ ap (λ c. reverse older ++ (c, 64 * (pair.1 / 64) + pair.1 % 64) ∷ []) (cell_items older pair.0)
    ∙ ap (λ w. reverse older ++ (pair.0, w) ∷ []) (two_parts pair.1)
    ∙ sym (newest_last pair older)

-- ## A prefix

origin_with : (same next : Bool) (field high low : ℕ) (items : List Item) → has_origin items ≡ true
    → has_origin (if next then (if same then items else Field field ∷ items) else Origin high low ∷ (if same then items else Field field ∷ items)) ≡ true
origin_with true true field high low items h = h
origin_with true false field high low items h = refl
origin_with false true field high low items h = h
origin_with false false field high low items h = refl

-- an origin stands before each pair's word
origin_items : (newest : List (ℕ × ℕ)) (cell : ℕ)
    → has_origin (with_origin (newest_cell newest) cell (with_field (newest_cell newest) cell (items_of newest))) ≡ true
origin_items [] cell = refl
origin_items (pair ∷ older) cell =
    origin_with (nat_eq (cell / 4096) (pair.0 / 4096)) (is_next (Some pair.0) cell) (cell / 4096) (cell % 4096 / 64) (cell % 4096 % 64)
    (items_of (pair ∷ older)) (origin_items older pair.0)

prefix_with : (same next : Bool) (field high low : ℕ) (items : List Item) → field < 8 → high < 64 → low < 64 → IsPrefix items
    → IsPrefix (if next then (if same then items else Field field ∷ items) else Origin high low ∷ (if same then items else Field field ∷ items))
prefix_with true true field high low items f h l prefix = prefix
prefix_with true false field high low items f h l prefix = (h, l, prefix)
prefix_with false true field high low items f h l prefix = (f, prefix)
prefix_with false false field high low items f h l prefix = (h, l, (f, prefix))

prefix_items : (newest : List (ℕ × ℕ)) → ArePairs newest → IsPrefix (items_of newest)
prefix_items [] all = search rules
prefix_items (pair ∷ older) all = (
  omega (arith, all.1),
  omega arith,
  origin_items older pair.0,
  prefix_with (nat_eq (pair.0 / 4096) (next_field (newest_cell older))) (is_next (newest_cell older) pair.0) (pair.0 / 4096)
      (pair.0 % 4096 / 64) (pair.0 % 4096 % 64) (items_of older) (omega (arith, all.0)) (omega arith) (omega arith) (prefix_items older all.2),
)

-- ## Frames that are heeded

kept_here : (frame : ℕ) (frames : List ℕ) → frame ≢ 255 → heeded_frames (frame ∷ frames) ≡ frame ∷ heeded_frames frames
kept_here frame frames other = rw (other_false frame 255 other) refl

kept_item : (item : Item) (older : List Item) (frames : List ℕ) → IsPrefix (item ∷ older) → heeded_frames (frames_of item ++ frames) ≡ frames_of item ++ heeded_frames frames
kept_item (Leader f) older frames h =
    kept_here f frames (λ is. elim h.0 [ inl e ↦ omega (arith, e, is) | inr e ↦ omega (arith, e, is) ])
kept_item (Field n) older frames h = kept_here (192 + 8 * n) frames (λ is. omega (arith, h.0, is))
kept_item (Origin high low) older frames h =
    kept_here (64 + high) (low ∷ frames) (λ is. omega (arith, h.0, is)) ∙ ap (λ l. (64 + high) ∷ l) (kept_here low frames (λ is. omega (arith, h.1, is)))
kept_item (Word high low) older frames h =
    kept_here high (low ∷ frames) (λ is. omega (arith, h.0, is)) ∙ ap (λ l. high ∷ l) (kept_here low frames (λ is. omega (arith, h.1, is)))

older_prefix : (item : Item) (older : List Item) → IsPrefix (item ∷ older) → IsPrefix older
older_prefix (Leader f) older h = h.2
older_prefix (Field n) older h = h.1
older_prefix (Origin high low) older h = h.2
older_prefix (Word high low) older h = h.3

-- no frame of a prefix is ignored
kept_prefix : (items : List Item) (frames : List ℕ) → IsPrefix items → heeded_frames (frames_of_items items ++ frames) ≡ frames_of_items items ++ heeded_frames frames
kept_prefix [] frames h = refl
kept_prefix (item ∷ older) frames h =
    ap heeded_frames (append_assoc (frames_of_items older) (frames_of item) frames)
    ∙ kept_prefix older (frames_of item ++ frames) (older_prefix item older h)
    ∙ ap (λ l. frames_of_items older ++ l) (kept_item item older frames h)
    ∙ simp append_assoc

-- ## The tape

-- the check sum and a trailer make a tape of a prefix that has an origin
tape_is : (items : List Item) (rest : List ℕ) → IsPrefix items → has_origin items ≡ true → IsTape (tape_with items ++ rest) items
tape_is items rest prefix begun = record {
  high = check_sum items / 64;
  low = check_sum items % 64;
  rest = heeded_frames (replicate 15 128 ++ rest);
  kept_frames =
      ap heeded_frames (append_assoc (frames_of_items (word_item (check_sum items) ∷ items)) (replicate 16 128) rest)
      ∙ kept_prefix (word_item (check_sum items) ∷ items) (replicate 16 128 ++ rest) whole;
  is_prefix = whole;
  sum = two_parts (check_sum items);
}
  where
    whole : IsPrefix (word_item (check_sum items) ∷ items)
    whole = (omega arith, omega arith, begun, prefix)

pub last_one : (pairs : List (ℕ × ℕ)) (pair : ℕ × ℕ) (cell : ℕ)
    → last_word (pairs ++ pair ∷ []) cell ≡ (if nat_eq pair.0 cell then Some pair.1 else last_word pairs cell)
last_one [] pair cell = refl
last_one (p ∷ ps) pair cell =
    ap (λ o. option_or o (if nat_eq p.0 cell then Some p.1 else None)) (last_one ps pair cell)
    ∙ elim (nat_eq pair.0 cell) as (λ b.
    option_or (if b then Some pair.1 else last_word ps cell) (if nat_eq p.0 cell then Some p.1 else None)
    ≡ (if b then Some pair.1 else option_or (last_word ps cell) (if nat_eq p.0 cell then Some p.1 else None)))
    [ true ↦ refl | false ↦ refl ]

-- the map of a tape is the last of its words at each cell
pub map_of_words : (items : List Item) (cell : ℕ) → tape_map items cell ≡ last_word (words_of items) cell
map_of_words [] cell = refl
map_of_words (Leader f ∷ older) cell = map_of_words older cell
map_of_words (Field n ∷ older) cell = map_of_words older cell
map_of_words (Origin high low ∷ older) cell = map_of_words older cell
map_of_words (Word high low ∷ older) cell =
    ap (λ o. if nat_eq (cell_after older) cell then Some (64 * high + low) else o) (map_of_words older cell)
    ∙ sym (last_one (words_of older) (cell_after older, 64 * high + low) cell)

begun_items : (newest : List (ℕ × ℕ)) → 0 < length newest → has_origin (items_of newest) ≡ true
begun_items [] h = absurd (omega arith)
begun_items (pair ∷ older) h = origin_items older pair.0

-- what is written is a tape of the pairs
pub written : (pairs : List (ℕ × ℕ)) (rest : List ℕ) → ArePairs pairs → 0 < length pairs → IsTapeOf (tape_of pairs ++ rest) pairs
unfolding tape_of
written pairs rest all some = record {
  items = items_of (reverse pairs);
  is_tape =
      tape_is (items_of (reverse pairs)) rest (prefix_items (reverse pairs) (are_pairs_reverse pairs all))
      (begun_items (reverse pairs) (omega (arith, length-reverse pairs)));
  words = words_are;
  map = λ cell. map_of_words (items_of (reverse pairs)) cell ∙ ap (λ ws. last_word ws cell) words_are;
}
  where
    words_are : words_of (items_of (reverse pairs)) ≡ pairs
    words_are = words_items (reverse pairs) ∙ reverse-reverse pairs
