-- What one frame more comes to.
use Rattle.std.proofs.Common.{◌≡◌, ℕ, ◌+◌, ◌/◌, ◌%◌, ◌<◌, ◌≤◌, ◌⊎◌, inl, inr, length, length-append, replicate, take, drop, get_or, Option, Some, None, is_some, true, false, Ok, List, [], ◌∷◌, ◌++◌, append_assoc, append-nil, refl, ap, sym, ◌∙◌, add-one, zero, suc, arith}
use Rattle.std.proofs.lemmas.List.{take-append-drop, replicate-append-replicate, length-take-le}
use Rattle.std.proofs.Math.Seq.{take-suc, drop-cons}
use Rattle.rim_tape.specs.Pairs.{frames_of, frames_of_pairs, AreOfField0}
use Rattle.rim_tape.specs.Tape.{IsRim, IsPart, IsOpen}
use Rattle.rim_tape.specs.Fault.{IsOutOfPlace, RefusesFrame, IsSomeRim}
use Rattle.rim_tape.specs.ReadSteps.{mark_of, HasBits, HasWord, HasReadTo, HasReadSome, Goes}

-- the frames up to a place, and one more
pub take_more : (frames : List ℕ) (place frame : ℕ) → place < length frames → get_or frames place 0 ≡ frame
    → take (place + 1) frames ≡ take place frames ++ frame ∷ []
take_more frames place frame inside is =
    rw add-one (take-suc frames place 0 inside) ∙ ap (λ f. take place frames ++ f ∷ []) is

-- the frames up to a place, the one there, and the others
pub split_at : (frames : List ℕ) (place : ℕ) → place < length frames
    → frames ≡ take place frames ++ get_or frames place 0 ∷ drop (suc place) frames
split_at frames place inside =
    sym (take-append-drop place frames) ∙ ap (λ l. take place frames ++ l) (drop-cons frames place 0 inside)

-- one leader frame more
pub leader_more : (frames : List ℕ) (place : ℕ) → place < length frames → get_or frames place 0 ≡ 128
    → take place frames ≡ replicate place 128 → take (place + 1) frames ≡ replicate (place + 1) 128
leader_more frames place inside is leader =
    take_more frames place 128 inside is ∙ ap (λ l. l ++ 128 ∷ []) leader ∙ replicate-append-replicate place 1 128

-- ## A frame that is refused

not_less : 0 < 0 → ⊥
not_less h = omega arith

above : (frame : ℕ) → 128 ≤ frame → (frame ≡ 128 → ⊥) → 128 < frame
above frame least other = grind arith

out_of_place : (part : List ℕ) (frame mark : ℕ) → mark ≡ mark_of part → (frame ≡ 128 → 0 < length part)
    → (frame < mark) ⊎ (mark + 64 ≤ frame) → IsOutOfPlace part frame
out_of_place [] frame mark is trailer (inl low) = inl (omega (arith, is, low))
out_of_place [] frame mark is trailer (inr high) = inr (above frame (omega (arith, is, high)) (λ e. not_less (trailer e)))
out_of_place (p ∷ rest) frame mark is trailer (inl low) = absurd (omega (arith, is, low))
out_of_place (p ∷ rest) frame mark is trailer (inr high) = omega (arith, is, high)

pub refused : (frames : List ℕ) (place mark : ℕ) (pairs : List (ℕ × ℕ)) (part : List ℕ) → place < length frames
    → IsOpen (take place frames) pairs part → mark ≡ mark_of part → (get_or frames place 0 ≡ 128 → 0 < length part)
    → (get_or frames place 0 < mark) ⊎ (mark + 64 ≤ get_or frames place 0) → RefusesFrame frames place (get_or frames place 0)
refused frames place mark pairs part inside opened is trailer other = record {
  before = take place frames;
  after = drop (suc place) frames;
  pairs = pairs;
  part = part;
  split = split_at frames place inside;
  is_open = opened;
  out_of_place = out_of_place part (get_or frames place 0) mark is trailer other;
  place_is = sym (length-take-le place frames (omega (arith, inside)));
}

-- ## A frame that is taken

part_more : (part : List ℕ) (bits : ℕ) → IsPart part → length part < 3 → bits < 64 → IsPart (part ++ (mark_of part + bits) ∷ [])
part_more [] bits begun short small = (omega arith, omega (arith, small))
part_more (a ∷ []) bits begun short small = (begun.0, begun.1, omega (arith, small))
part_more (a ∷ b ∷ []) bits begun short small = (begun.0, begun.1, begun.2, omega (arith, small))
part_more (a ∷ b ∷ c ∷ rest) bits begun short small = absurd (omega (arith, short))

-- one frame more after a part that isn't whole by it
pub open_more : (frames : List ℕ) (place mark bits : ℕ) (pairs : List (ℕ × ℕ)) (part : List ℕ) → IsOpen (take place frames) pairs part
    → mark ≡ mark_of part → length part < 3 → HasBits frames place mark bits
    → IsOpen (take (place + 1) frames) pairs (part ++ (mark + bits) ∷ [])
open_more frames place mark bits pairs part opened is short has = record {
  leader = opened.leader;
  frames_are =
      take_more frames place (mark + bits) has.inside has.is ∙ ap (λ l. l ++ (mark + bits) ∷ []) opened.frames_are
      ∙ append_assoc (replicate opened.leader 128 ++ frames_of_pairs pairs) part ((mark + bits) ∷ []);
  words = opened.words;
  begun = rw is (part_more part bits opened.begun short has.small);
}

pub mark_more : (part : List ℕ) (frame : ℕ) → mark_of (part ++ frame ∷ []) ≡ 0
mark_more [] frame = refl
mark_more (p ∷ rest) frame = refl

pub some_part : (part : List ℕ) (frame : ℕ) → 0 < length (part ++ frame ∷ [])
some_part part frame = omega (arith, length-append part (frame ∷ []))

-- ## A whole word with its address

spelled_more : (pairs : List (ℕ × ℕ)) (pair : ℕ × ℕ) → frames_of_pairs (pairs ++ pair ∷ []) ≡ frames_of_pairs pairs ++ frames_of pair
spelled_more [] pair = refl
spelled_more (first ∷ later) pair = ap (λ l. frames_of first ++ l) (spelled_more later pair)

words_more : (pairs : List (ℕ × ℕ)) (pair : ℕ × ℕ) → AreOfField0 pairs → pair.0 < 4096 → pair.1 < 4096 → AreOfField0 (pairs ++ pair ∷ [])
words_more [] pair words cell word = (cell, word, tt)
words_more (first ∷ later) pair words cell word = (words.0, words.1, words_more later pair words.2 cell word)

word_frames : (frames : List ℕ) (place mark word : ℕ) → HasWord frames place mark word
    → take (place + 2) frames ≡ take place frames ++ (mark + word / 64) ∷ (word % 64) ∷ []
word_frames frames place mark word has =
    ap (λ n. take n frames) two
    ∙ take_more frames (place + 1) (word % 64) has.low.inside (has.low.is ∙ omega arith)
    ∙ ap (λ l. l ++ (word % 64) ∷ []) (take_more frames place (mark + word / 64) has.high.inside has.high.is)
    ∙ append_assoc (take place frames) ((mark + word / 64) ∷ []) ((word % 64) ∷ [])
  where
    two : place + 2 ≡ place + 1 + 1
    two = omega arith

-- the part of an address alone
pub address_part : (frames : List ℕ) (place address : ℕ) (pairs : List (ℕ × ℕ)) → IsOpen (take place frames) pairs []
    → HasWord frames place 64 address → IsOpen (take (place + 2) frames) pairs ((64 + address / 64) ∷ (address % 64) ∷ [])
address_part frames place address pairs opened has = record {
  leader = opened.leader;
  frames_are =
      word_frames frames place 64 address has
      ∙ ap (λ l. l ++ (64 + address / 64) ∷ (address % 64) ∷ []) (opened.frames_are ∙ append-nil (replicate opened.leader 128 ++ frames_of_pairs pairs));
  words = opened.words;
  begun = (omega arith, omega (arith, has.range), omega arith);
}

some_more : (pairs : List (ℕ × ℕ)) (pair : ℕ × ℕ) → 0 < length (pairs ++ pair ∷ [])
some_more pairs pair = omega (arith, length-append pairs (pair ∷ []))

-- one more word with its cell
pub read_more : (frames : List ℕ) (place cell address word : ℕ) (pairs : List (ℕ × ℕ)) → cell ≡ address → HasReadTo frames place pairs
    → HasWord frames place 64 address → HasWord frames (place + 2) 0 word → HasReadTo frames (place + 4) (pairs ++ (cell, word) ∷ [])
read_more frames place cell address word pairs is read first second = record {
  is_open = record {
    leader = read.is_open.leader;
    frames_are =
        ap (λ n. take n frames) four
        ∙ word_frames frames (place + 2) 0 word second
        ∙ ap (λ l. l ++ (0 + word / 64) ∷ (word % 64) ∷ []) (word_frames frames place 64 address first)
        ∙ append_assoc (take place frames) ((64 + address / 64) ∷ (address % 64) ∷ []) ((0 + word / 64) ∷ (word % 64) ∷ [])
        ∙ ap (λ l. take place frames ++ (64 + address / 64) ∷ (address % 64) ∷ l ∷ (word % 64) ∷ []) zero_more
        ∙ ap (λ l. l ++ frames_of (address, word)) (read.is_open.frames_are ∙ append-nil (replicate read.is_open.leader 128 ++ frames_of_pairs pairs))
        ∙ append_assoc (replicate read.is_open.leader 128) (frames_of_pairs pairs) (frames_of (address, word))
        ∙ ap (λ l. replicate read.is_open.leader 128 ++ l) (sym (spelled_more pairs (address, word)))
        ∙ ap (λ n. replicate read.is_open.leader 128 ++ frames_of_pairs (pairs ++ (n, word) ∷ [])) (sym is)
        ∙ sym (append-nil (replicate read.is_open.leader 128 ++ frames_of_pairs (pairs ++ (cell, word) ∷ [])));
    words = words_more pairs (cell, word) read.is_open.words (omega (arith, is, first.range)) second.range;
    begun = tt;
  };
  within = omega (arith, second.low.inside);
  no_trailer = λ _. some_more pairs (cell, word);
}
  where
    four : place + 4 ≡ place + 2 + 2
    four = omega arith

    zero_more : 0 + word / 64 ≡ word / 64
    zero_more = omega arith

-- no frame stands past the end
pub none_past : (frames : List ℕ) (place : ℕ) → length frames ≤ place → get_or frames place 0 ≡ 0
none_past [] place past = refl
none_past (f ∷ fs) zero past = absurd (omega arith)
none_past (f ∷ fs) (suc place) past = none_past fs place (omega arith)

-- the trailer makes a tape of what was read
pub trailer_ends : (frames : List ℕ) (place : ℕ) (pairs : List (ℕ × ℕ)) → place < length frames → get_or frames place 0 ≡ 128
    → HasReadTo frames place pairs → IsRim frames pairs
trailer_ends frames place pairs inside is read = record {
  leader = read.is_open.leader;
  rest = drop (suc place) frames;
  frames_are =
      split_at frames place inside
      ∙ ap (λ f. take place frames ++ f ∷ drop (suc place) frames) is
      ∙ ap (λ l. l ++ 128 ∷ drop (suc place) frames) (read.is_open.frames_are ∙ append-nil (replicate read.is_open.leader 128 ++ frames_of_pairs pairs));
  some = read.no_trailer is;
  words = read.is_open.words;
}

-- ## What comes after what was read

pub some_read : (frames : List ℕ) (place : ℕ) (met : Option (ℕ × ℕ)) → is_some met ≡ true → (read : HasReadSome frames place)
    → Goes frames place read.pairs (Ok met) → HasReadSome frames (place + 4)
some_read frames place None is read goes = cc
some_read frames place (Some pair) is read goes = record { pairs = read.pairs ++ pair ∷ []; read = goes }

pub none_read : (frames : List ℕ) (place : ℕ) (met : Option (ℕ × ℕ)) → is_some met ≡ false → (read : HasReadSome frames place)
    → Goes frames place read.pairs (Ok met) → IsSomeRim frames
none_read frames place None is read goes = record { pairs = read.pairs; is_rim = goes }
none_read frames place (Some pair) is read goes = cc
