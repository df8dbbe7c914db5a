-- What is open can go on as a tape.
use Rattle.std.proofs.Common.{◌≡◌, ℕ, ◌+◌, ◌-◌, ◌*◌, ◌/◌, ◌%◌, ◌<◌, ◌≤◌, ◌⊎◌, inl, inr, Bool, true, false, nat_eq, nat_lt, zero-add, append_assoc, append-nil, refl, ap, sym, ◌∙◌, arith, List, [], ◌∷◌, ◌++◌}
use Rattle.std.proofs.lemmas.Bool.Decides.{nat_tests}
use Rattle.bin_tape.specs.Frames.{heeded_frames, frames_after, ignore_count}
use Rattle.bin_tape.specs.Items.{Item, Origin, Word, frames_of_items, has_origin, IsPrefix, check_sum}
use Rattle.bin_tape.specs.Tape.{IsPart, IsOpen, IsTape}
use Rattle.bin_tape.specs.Laws.{GoesOn}
use Rattle.bin_tape.proofs.FrameLemmas.{heeded_after-append}

-- ## Frames after what is open

-- none of these is 0377
abbrev AreOthers : List ℕ → Type 0
AreOthers [] = Unit {0}
AreOthers (f ∷ fs) = (f < 255) × AreOthers fs

-- frames that end an ignored stretch, where one is open, and then these
abbrev woken : Bool → List ℕ → List ℕ
woken true more = more
woken false more = 255 ∷ more

kept_others : (n : ℕ) (fs : List ℕ) → n % 2 ≡ 0 → AreOthers fs → frames_after n fs ≡ fs
kept_others n [] even others = refl
kept_others n (f ∷ fs) even others =
    let other : nat_eq f 255 ≡ false = is_other f others.0 in
    let kept_here : nat_eq (n % 2) 0 ≡ true = rw even refl in
    rw (other, kept_here) (ap (λ l. f ∷ l) (kept_others n fs even others.1))
  where
    is_other : (f : ℕ) → f < 255 → nat_eq f 255 ≡ false
    is_other f small = grind (arith, nat_tests)

kept_woken : (n : ℕ) (even : Bool) (fs : List ℕ) → nat_eq (n % 2) 0 ≡ even → AreOthers fs → frames_after n (woken even fs) ≡ fs
kept_woken n true fs e others = kept_others n fs (grind (arith, nat_tests)) others
kept_woken n false fs e others = kept_others (n + 1) fs (odd n e) others
  where
    odd : (n : ℕ) → nat_eq (n % 2) 0 ≡ false → (n + 1) % 2 ≡ 0
    odd n e = grind (arith, nat_tests)

kept_after : (frames fs : List ℕ) → AreOthers fs → heeded_frames (frames ++ woken (nat_eq (ignore_count frames % 2) 0) fs) ≡ heeded_frames frames ++ fs
kept_after frames fs others =
    heeded_after-append 0 frames (woken (nat_eq (ignore_count frames % 2) 0) fs)
    ∙ ap (λ n. heeded_frames frames ++ frames_after n (woken (nat_eq (ignore_count frames % 2) 0) fs)) (zero-add (ignore_count frames))
    ∙ ap (λ l. heeded_frames frames ++ l) (kept_woken (ignore_count frames) (nat_eq (ignore_count frames % 2) 0) fs refl others)

-- ## The rest of a pair

-- whole items, with the frames that make them whole
record Whole (items : List Item) (part : List ℕ) : Type 0 where
  later : List Item
  end : List ℕ
  frames : frames_of_items (later ++ items) ≡ (frames_of_items items ++ part) ++ end
  is_prefix : IsPrefix (later ++ items)
  others : AreOthers end

whole_word : (items : List Item) (p : ℕ) → IsPrefix items → p < 64 → has_origin items ≡ true → Whole items (p ∷ [])
whole_word items p prefix small origin = record {
  later = Word p 0 ∷ [];
  end = 0 ∷ [];
  frames = sym (append_assoc (frames_of_items items) (p ∷ []) (0 ∷ []));
  is_prefix = (small, omega arith, origin, prefix);
  others = (omega arith, tt);
}

whole_origin : (items : List Item) (p : ℕ) → IsPrefix items → 64 ≤ p → p < 128 → Whole items (p ∷ [])
whole_origin items p prefix large small = record {
  later = Origin (p - 64) 0 ∷ [];
  end = 0 ∷ [];
  frames = ap (λ f. frames_of_items items ++ f ∷ 0 ∷ []) (same p large) ∙ sym (append_assoc (frames_of_items items) (p ∷ []) (0 ∷ []));
  is_prefix = (omega (arith, large, small), omega arith, prefix);
  others = (omega arith, tt);
}
  where
    same : (p : ℕ) → 64 ≤ p → 64 + (p - 64) ≡ p
    same p large = omega (arith, large)

below_or_not : (p : ℕ) → (p < 64) ⊎ (64 ≤ p)
below_or_not p = by (nat_lt p 64) refl
  where
    by : (b : Bool) → nat_lt p 64 ≡ b → (p < 64) ⊎ (64 ≤ p)
    by true e = inl (grind (arith, nat_tests))
    by false e = inr (grind (arith, nat_tests))

whole : (items : List Item) (part : List ℕ) → IsPrefix items → IsPart items part → Whole items part
whole items [] prefix begun = record {
  later = [];
  end = [];
  frames = simp append-nil;
  is_prefix = prefix;
  others = tt;
}
whole items (p ∷ []) prefix begun = elim (below_or_not p) [
  | inl small ↦ whole_word items p prefix small (origin begun.1 small)
  | inr large ↦ whole_origin items p prefix large begun.0
]
  where
    origin : (64 ≤ p) ⊎ (has_origin items ≡ true) → p < 64 → has_origin items ≡ true
    origin (inl large) small = absurd (omega (arith, large, small))
    origin (inr there) small = there
whole items (p ∷ q ∷ rest) prefix begun = absurd begun

-- ## The tape

-- an origin, the check sum of what stands before it, and a trailer
abbrev ending : List Item → List ℕ
ending items = 64 ∷ 0 ∷ check_sum (Origin 0 0 ∷ items) / 64 ∷ check_sum (Origin 0 0 ∷ items) % 64 ∷ 128 ∷ []

sum_low : (items : List Item) → check_sum items < 4096
sum_low items = omega arith

halves : (n : ℕ) → n < 4096 → (n / 64 < 64) × (n % 64 < 64)
halves n small = (omega (arith, small), omega arith)

joined : (n : ℕ) → 64 * (n / 64) + n % 64 ≡ n
joined n = omega arith

other_ending : (items : List Item) → AreOthers (ending items)
other_ending items =
    let sum = check_sum (Origin 0 0 ∷ items) in
    let small = sum_low (Origin 0 0 ∷ items) in
    (omega arith, (omega arith, (omega (arith, small), (omega arith, (omega arith, tt)))))

both_others : (a b : List ℕ) → AreOthers a → AreOthers b → AreOthers (a ++ b)
both_others [] b ha hb = hb
both_others (x ∷ a) b ha hb = (ha.0, both_others a b ha.1 hb)

spelled_ending : (items : List Item) (high low : ℕ)
    → frames_of_items (Word high low ∷ Origin 0 0 ∷ items) ++ 128 ∷ [] ≡ frames_of_items items ++ 64 ∷ 0 ∷ high ∷ low ∷ 128 ∷ []
spelled_ending items high low =
    append_assoc (frames_of_items items ++ 64 ∷ 0 ∷ []) (high ∷ low ∷ []) (128 ∷ []) ∙ append_assoc (frames_of_items items) (64 ∷ 0 ∷ []) (high ∷ low ∷ 128 ∷ [])

tape_of : (frames : List ℕ) (items : List Item) (part : List ℕ) → heeded_frames frames ≡ frames_of_items items ++ part → (w : Whole items part)
    → IsTape (frames ++ woken (nat_eq (ignore_count frames % 2) 0) (w.end ++ ending (w.later ++ items))) (Origin 0 0 ∷ (w.later ++ items))
tape_of frames items part is w =
    let all = w.later ++ items in
    let sum = check_sum (Origin 0 0 ∷ all) in
    let parts = halves sum (sum_low (Origin 0 0 ∷ all)) in
    record {
      high = sum / 64;
      low = sum % 64;
      rest = [];
      kept_frames = kept_after frames (w.end ++ ending all) (both_others w.end (ending all) w.others (other_ending all))
          ∙ ap (λ l. l ++ (w.end ++ ending all)) is
          ∙ sym (append_assoc (frames_of_items items ++ part) w.end (ending all))
          ∙ ap (λ l. l ++ ending all) (sym w.frames)
          ∙ sym (spelled_ending all (sum / 64) (sum % 64));
      is_prefix = (parts.0, parts.1, refl, (omega arith, omega arith, w.is_prefix));
      sum = joined sum;
    }

pub goes_on : (frames : List ℕ) (items : List Item) (part : List ℕ) → IsOpen (heeded_frames frames) items part → GoesOn frames items
goes_on frames items part opened =
    let w = whole items part opened.is_prefix opened.begun in
    record {
      more = woken (nat_eq (ignore_count frames % 2) 0) (w.end ++ ending (w.later ++ items));
      later = Origin 0 0 ∷ w.later;
      is_tape = tape_of frames items part opened.frames w;
    }
