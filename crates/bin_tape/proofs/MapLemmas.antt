-- The words of cells, as a tape is read.
use Rattle.std.proofs.Common.{◌≡◌, ◌≢◌, ℕ, ◌+◌, ◌-◌, ◌%◌, ◌<◌, ◌≤◌, nat_eq, Bool, true, false, if◌then◌else◌, inl, inr, Option, Some, None, Result, Ok, Err, MatchResult, length, length-append, replicate, take, drop, slice_set, get_or, get_or-set_other, min, List, [], ◌∷◌, ◌++◌, append_assoc, append-nil, refl, ap, sym, subst, ◌∙◌, arith}
use Rattle.std.proofs.lemmas.Bool.Decides.{eqb_tells, nat_tests}
use Rattle.std.proofs.lemmas.Grind.{get_or-set_at}
use Rattle.std.proofs.lemmas.List.{get_or-replicate, take_all}
use Rattle.std.proofs.Math.Seq.{take-append_seam}
use Rattle.bin_tape.specs.Frames.{heeded_frames, ignore_count}
use Rattle.bin_tape.specs.Items.{Item, Origin, Word, frames_of_items, has_origin, words_of, words_but_last}
use Rattle.bin_tape.specs.Tape.{IsTape}
use Rattle.bin_tape.specs.Fault.{place_after, IsFault}
use Rattle.bin_tape.specs.Prefix.{ReadsItems, KeepsFrames, IsLast}
use Rattle.bin_tape.specs.Pairs.{last_word}
use Rattle.bin_tape.specs.Progress.{Progress}
use Rattle.bin_tape.specs.Reading.{StateIs, HasRead, IsWhole, Answers, words_in}
use Rattle.bin_tape.specs.MapSteps.{HoldsWords, HasReadTo, ReadsTo}
use Rattle.bin_tape.specs.Map.{IsMapOf, IsMapFault}
use Rattle.bin_tape.specs.declared.faults.TapeFault.{TapeFault}
use Rattle.bin_tape.specs.declared.readers.State.{State}
use Rattle.bin_tape.specs.declared.readers.State.TheVariants.{Reading}
use Rattle.bin_tape.specs.declared.prefixes.Prefix.{Prefix}
use Rattle.bin_tape.specs.declared.prefixes.LastWord.{LastWord}
use Rattle.bin_tape.specs.declared.readers.Tape.{Tape}
use Rattle.bin_tape.specs.declared.readers.Tape.TheVariants.{End}
use Rattle.bin_tape.specs.declared.readers.Tape.TheVariants as tape
use Rattle.bin_tape.proofs.FrameLemmas.{ignore_none, kept_more}
use Rattle.bin_tape.proofs.ItemLemmas.{words_none, words_some}
use Rattle.bin_tape.proofs.PrefixLemmas.{reads_whole, part_none}
use Rattle.bin_tape.proofs.ReaderLemmas.{longer}
use Rattle.bin_tape.proofs.WritingLemmas.{last_one, map_of_words}

-- one cell more has a word
pub hold_one : (words : List (Option ℕ)) (pairs : List (ℕ × ℕ)) (index at word : ℕ) → length words ≡ 32768 → index ≡ at → index < 32768
    → HoldsWords words pairs → HoldsWords (slice_set words index (Some word)) (pairs ++ (at, word) ∷ [])
hold_one words pairs index at word size is inside held cell within =
    elim (eqb_tells at cell) [
      | inl same ↦
          get_or-set_at words index cell (Some word) None (sym same.1 ∙ sym is) (omega (arith, size, inside))
          ∙ sym (last_one pairs (at, word) cell ∙ ap (λ (b : Bool). if b then Some word else last_word pairs cell) same.0)
      | inr other ↦
          get_or-set_other words index cell (Some word) None (λ e. other.1 (sym (e ∙ is)))
          ∙ held cell within
          ∙ sym (last_one pairs (at, word) cell ∙ ap (λ (b : Bool). if b then Some word else last_word pairs cell) other.0)
    ]

-- no cell has a word at first
pub hold_none : (count : ℕ) → 32768 ≤ count → HoldsWords (replicate {A = Option ℕ} count None) []
hold_none count enough cell within = get_or-replicate {A = Option ℕ} count cell None None (omega (arith, enough, within))

-- the last word put into its cell
pub hold_last : (words : List (Option ℕ)) (items : List Item) (last : LastWord) (index : ℕ) → length words ≡ 32768 → index ≡ last.cell → index < 32768
    → IsLast (Some last) items → HoldsWords words (words_but_last items) → HoldsWords (slice_set words index (Some last.word)) (words_of items)
hold_last words items last index size is inside newest held =
    subst (λ (pairs : List (ℕ × ℕ)). HoldsWords (slice_set words index (Some last.word)) pairs) (sym (words_some items last newest))
    (hold_one words (words_but_last items) index last.cell last.word size is inside held)

pub hold_no_last : (words : List (Option ℕ)) (items : List Item) → IsLast None items → HoldsWords words (words_but_last items) → HoldsWords words (words_of items)
hold_no_last words items newest held = subst (λ (pairs : List (ℕ × ℕ)). HoldsWords words pairs) (sym (words_none items newest)) held

-- ## Two frames more

two_frames : (before : List ℕ) (a b : ℕ) → (before ++ a ∷ []) ++ b ∷ [] ≡ before ++ a ∷ b ∷ []
two_frames before a b = simp append_assoc

even_two : (before : List ℕ) (a b : ℕ) → a ≢ 255 → b ≢ 255 → ignore_count (before ++ a ∷ b ∷ []) ≡ ignore_count before
even_two before a b first second =
    ap ignore_count (sym (two_frames before a b)) ∙ ignore_none (before ++ a ∷ []) b second ∙ ignore_none before a first

not_odd : (n : ℕ) → n % 2 ≡ 0 → false ≡ nat_eq (n % 2) 1
not_odd n even = rw even refl

kept_two : (before : List ℕ) (a b : ℕ) → a ≢ 255 → b ≢ 255 → ignore_count before % 2 ≡ 0 → heeded_frames (before ++ a ∷ b ∷ []) ≡ heeded_frames before ++ a ∷ b ∷ []
kept_two before a b first second even =
    ap heeded_frames (sym (two_frames before a b))
    ∙ kept_more (before ++ a ∷ []) b second false (not_odd (ignore_count (before ++ a ∷ [])) (rw (ignore_none before a first) even))
    ∙ ap (λ l. l ++ b ∷ []) (kept_more before a first false (not_odd (ignore_count before) even))
    ∙ two_frames (heeded_frames before) a b

pub word_more : (whole later : List ℕ) (high low : ℕ) (prefix next : Prefix) (words put : List (Option ℕ)) → high < 64 → low < 64
    → ((items : List Item) (part : List ℕ) → ReadsItems prefix items part → has_origin items ≡ true → ReadsItems next (Word high low ∷ items) [])
    → ((items : List Item) → IsLast prefix.last items → HoldsWords words (words_but_last items) → HoldsWords put (words_of items))
    → ReadsTo whole (high ∷ low ∷ later) prefix words → ReadsTo whole later next put
word_more whole later high low prefix next words put first second step puts r = record {
  before = r.before ++ high ∷ low ∷ [];
  split = r.split ∙ simp append_assoc;
  even = ap (λ n. n % 2) (even_two r.before high low (omega (arith, first)) (omega (arith, second))) ∙ r.even;
  items = Word high low ∷ r.items;
  reads = step r.items [] r.reads r.origin;
  origin = r.origin;
  kept_is =
      kept_two r.before high low (omega (arith, first)) (omega (arith, second)) r.even
      ∙ ap (λ l. l ++ high ∷ low ∷ []) r.kept_is;
  holds = puts r.items r.reads.last r.holds;
}

pub origin_more : (whole later : List ℕ) (first low high : ℕ) (prefix next : Prefix) (words : List (Option ℕ)) → first ≡ 64 + high → high < 64 → low < 64
    → ((items : List Item) (part : List ℕ) → ReadsItems prefix items part → ReadsItems next (Origin high low ∷ items) [])
    → ReadsTo whole (first ∷ low ∷ later) prefix words → ReadsTo whole later next words
origin_more whole later first low high prefix next words is small second step r = record {
  before = r.before ++ first ∷ low ∷ [];
  split = r.split ∙ simp append_assoc;
  even = ap (λ n. n % 2) (even_two r.before first low (omega (arith, is, small)) (omega (arith, second))) ∙ r.even;
  items = Origin high low ∷ r.items;
  reads = step r.items [] r.reads;
  origin = refl;
  kept_is =
      kept_two r.before first low (omega (arith, is, small)) (omega (arith, second)) r.even
      ∙ ap (λ l. l ++ first ∷ low ∷ []) r.kept_is
      ∙ ap (λ n. frames_of_items r.items ++ n ∷ low ∷ []) is;
  holds = r.holds;
}

-- ## A reader that takes a run of pairs

-- a reader between two pairs, as its prefix
pub begins_run : (whole frames : List ℕ) (reader : Progress) (words : List (Option ℕ)) (prefix : Prefix)
    → reader.state ≡ Reading prefix → reader.ignoring ≡ false → prefix.first ≡ None → prefix.has_origin ≡ true
    → HasReadTo whole frames reader words → ReadsTo whole frames prefix words
begins_run whole frames reader words prefix reading ignoring first origin r =
    let keeps : KeepsFrames prefix (heeded_frames r.before) r.out = subst (λ (s : State). StateIs s r.before r.out) reading r.read.state in
    record {
      before = r.before;
      split = r.split;
      even = even_again (ignore_count r.before) (sym ignoring ∙ r.read.counts.ignoring_is);
      items = keeps.items;
      reads = reads_whole prefix keeps.items keeps.part keeps.reads first;
      origin = sym keeps.reads.origin ∙ origin;
      kept_is = keeps.frames ∙ ap (λ l. frames_of_items keeps.items ++ l) (part_none prefix keeps.items keeps.part keeps.reads first) ∙ append-nil (frames_of_items keeps.items);
      holds = subst (λ (pairs : List (ℕ × ℕ)). HoldsWords words pairs) keeps.words r.holds;
    }
  where
    even_again : (n : ℕ) → false ≡ nat_eq (n % 2) 1 → n % 2 ≡ 0
    even_again n h = grind (arith, nat_tests)

-- the place after a run
place_run : (frames before after rest : List ℕ) (place later : ℕ) → place ≡ place_after before → length rest ≤ length frames
    → before ++ frames ≡ after ++ rest → later ≡ min (place + (length frames - length rest)) 18446744073709551615 → later ≡ place_after after
place_run frames before after rest place later here left same more =
    let sizes : length before + length frames ≡ length after + length rest =
    sym (length-append before frames) ∙ ap length same ∙ length-append after rest
    in omega arith

pub ends_run : (whole frames rest : List ℕ) (old new : Progress) (words put : List (Option ℕ)) (prefix : Prefix)
    → new.state ≡ Reading prefix → new.ignoring ≡ false → length rest ≤ length frames
    → new.place ≡ min (old.place + (length frames - length rest)) 18446744073709551615
    → HasReadTo whole frames old words → ReadsTo whole rest prefix put → HasReadTo whole rest new put
ends_run whole frames rest old new words put prefix reading ignoring left place o r = record {
  before = r.before;
  split = r.split;
  out = words_but_last r.items;
  read = record {
    counts = record {
      place_is = place_run frames o.before r.before rest old.place new.place o.read.counts.place_is left (sym o.split ∙ r.split) place;
      ignoring_is = ignoring ∙ not_odd (ignore_count r.before) r.even;
    };
    state =
        subst (λ (s : State). StateIs s r.before (words_but_last r.items)) (sym reading)
        (record { items = r.items; part = []; reads = r.reads; frames = r.kept_is ∙ sym (append-nil (frames_of_items r.items)); words = refl });
  };
  holds = r.holds;
}

-- ## One frame more

pub frame_more : (whole before later : List ℕ) (frame : ℕ) → whole ≡ before ++ frame ∷ later → whole ≡ (before ++ frame ∷ []) ++ later
frame_more whole before later frame split = split ∙ simp append_assoc

pub map_of : (whole prefix later : List ℕ) (words : List (Option ℕ)) (out : List (ℕ × ℕ)) → whole ≡ prefix ++ later → HoldsWords words out
    → IsWhole prefix out → IsMapOf whole words
map_of whole prefix later words out split held w = record {
  items = w.items;
  is_tape = subst (λ (l : List ℕ). IsTape l w.items) (sym split) (longer prefix later w.items w.is_tape);
  cells = λ cell within. held cell within ∙ ap (λ pairs. last_word pairs cell) w.words ∙ sym (map_of_words w.items cell);
}

-- what a slice of a whole vector leaves of it
pub whole_written : (count : ℕ) (new old : List (Option ℕ)) → length new ≡ count → take count (new ++ drop (length new) old) ≡ new
whole_written count new old size = rw (sym size) (take-append_seam new (drop (length new) old))

pub no_rest : (whole before rest : List ℕ) → whole ≡ before ++ rest → length rest < 1 → whole ≡ before
no_rest whole before [] split none = split ∙ append-nil before
no_rest whole before (x ∷ xs) split none = absurd (omega (arith, none))

-- what the frames come to where no more are left
pub ended : (whole rest : List ℕ) (reader : Progress) (words : List (Option ℕ)) (result : Result (Unit {0}) TapeFault) → length rest < 1
    → HasReadTo whole rest reader words
    → ((frames : List ℕ) (out : List (ℕ × ℕ)) → HasRead reader frames out → MatchResult result (λ _. IsWhole frames out) (λ fault. IsFault frames fault))
    → MatchResult result (λ _. IsMapOf whole words) (λ fault. IsMapFault whole fault)
ended whole rest reader words (Ok done) none r ends =
    map_of whole r.before [] words r.out (no_rest whole r.before rest r.split none ∙ sym (append-nil r.before)) r.holds (ends r.before r.out r.read)
ended whole rest reader words (Err fault) none r ends =
    inr (subst (λ (l : List ℕ). IsFault l fault) (sym (no_rest whole r.before rest r.split none)) (ends r.before r.out r.read))

-- a frame that brings a word
pub word_taken : (whole later : List ℕ) (frame : ℕ) (old new : Progress) (words : List (Option ℕ)) (cell word index : ℕ) (brought : Tape)
    → brought ≡ tape.Word cell word → length words ≡ 32768 → index ≡ cell → index < 32768
    → ((frames : List ℕ) (out : List (ℕ × ℕ)) → HasRead old frames out → HasRead new (frames ++ frame ∷ []) (out ++ words_in (Ok brought)))
    → HasReadTo whole (frame ∷ later) old words → HasReadTo whole later new (slice_set words index (Some word))
word_taken whole later frame old new words cell word index brought brings size is inside reads r = record {
  before = r.before ++ frame ∷ [];
  split = frame_more whole r.before later frame r.split;
  out = r.out ++ (cell, word) ∷ [];
  read = subst (λ (t : Tape). HasRead new (r.before ++ frame ∷ []) (r.out ++ words_in (Ok t))) brings (reads r.before r.out r.read);
  holds = hold_one words r.out index cell word size is inside r.holds;
}

-- the frame that ends the tape
pub end_taken : (whole later : List ℕ) (frame : ℕ) (old : Progress) (words : List (Option ℕ)) (tape : Tape) → tape ≡ End
    → ((frames : List ℕ) (out : List (ℕ × ℕ)) → HasRead old frames out → Answers frames out frame (Ok tape))
    → HasReadTo whole (frame ∷ later) old words → IsMapOf whole words
end_taken whole later frame old words tape ends answers r =
    map_of whole (r.before ++ frame ∷ []) later words r.out (frame_more whole r.before later frame r.split) r.holds
    (subst (λ (t : Tape). Answers r.before r.out frame (Ok t)) ends (answers r.before r.out r.read)).1

-- the first of some frames, and the others
pub first_and_others : (frames : List ℕ) (count : ℕ) → 1 ≤ length frames → count ≡ length frames → frames ≡ get_or frames 0 0 ∷ take (count - 1) (drop 1 frames)
first_and_others [] count some is = absurd (omega (arith, some))
first_and_others (frame ∷ frames) count some is = ap (λ l. frame ∷ l) (sym (take_all (count - 1) frames (omega (arith, is))))
