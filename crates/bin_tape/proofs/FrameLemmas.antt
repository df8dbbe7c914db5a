-- Kept frames of a list and of its parts, and the count of the frames so far.
use Rattle.std.proofs.Common.{◌≡◌, ◌≢◌, ℕ, ◌+◌, ◌%◌, nat_eq, not, if◌then◌else◌, true, false, Bool, ◌∙◌, ap, refl, sym, arith, inl, inr, zero-add, min, length-append, List, [], ◌∷◌, ◌++◌}
use Rattle.std.proofs.lemmas.Bool.Decides.{nat_tests, eqb_tells}
use Rattle.bin_tape.specs.Frames.{ignore_count, frames_after, heeded_frames}
use Rattle.bin_tape.specs.Fault.{place_after}
use Rattle.bin_tape.specs.Reading.{Counts}

pub ignore_count-append : (xs ys : List ℕ) → ignore_count (xs ++ ys) ≡ ignore_count xs + ignore_count ys
ignore_count-append [] ys = omega arith
ignore_count-append (x ∷ xs) ys = omega (arith, ignore_count-append xs ys)

pub heeded_after-append : (n : ℕ) (xs ys : List ℕ) → frames_after n (xs ++ ys) ≡ frames_after n xs ++ frames_after (n + ignore_count xs) ys
heeded_after-append n [] ys = ap (λ k. frames_after k ys) (omega arith)
heeded_after-append n (x ∷ xs) ys =
    elim (nat_eq x 255) as (λ b.
    (if b then frames_after (n + 1) (xs ++ ys) else (if nat_eq (n % 2) 0 then x ∷ frames_after n (xs ++ ys) else frames_after n (xs ++ ys)))
    ≡ (if b then frames_after (n + 1) xs else (if nat_eq (n % 2) 0 then x ∷ frames_after n xs else frames_after n xs))
    ++ frames_after (n + ((if b then 1 else 0) + ignore_count xs)) ys) [
      | true ↦ heeded_after-append (n + 1) xs ys ∙ ap (λ k. frames_after (n + 1) xs ++ frames_after k ys) (omega arith)
      | false ↦
          let more : frames_after n (xs ++ ys) ≡ frames_after n xs ++ frames_after (n + (0 + ignore_count xs)) ys =
          heeded_after-append n xs ys ∙ ap (λ k. frames_after n xs ++ frames_after k ys) (omega arith)
          in elim (nat_eq (n % 2) 0) as (λ b.
          (if b then x ∷ frames_after n (xs ++ ys) else frames_after n (xs ++ ys))
          ≡ (if b then x ∷ frames_after n xs else frames_after n xs) ++ frames_after (n + (0 + ignore_count xs)) ys)
          [ true ↦ ap (λ l. x ∷ l) more | false ↦ more ]
    ]

-- one more frame 0377 turns the parity of their number
pub odd-suc : (n : ℕ) → not (nat_eq (n % 2) 1) ≡ nat_eq ((n + 1) % 2) 1
odd-suc n = grind (arith, nat_tests)

pub even-odd : (n : ℕ) → nat_eq (n % 2) 0 ≡ not (nat_eq (n % 2) 1)
even-odd n = grind (arith, nat_tests)

pub place_more : (frames : List ℕ) (frame : ℕ) → place_after (frames ++ frame ∷ []) ≡ min (place_after frames + 1) 18446744073709551615
place_more frames frame = omega (arith, length-append frames (frame ∷ []))

pub ignore_one : (frames : List ℕ) → ignore_count (frames ++ 255 ∷ []) ≡ ignore_count frames + 1
ignore_one frames = omega (arith, ignore_count-append frames (255 ∷ []))

pub other_false : (a b : ℕ) → a ≢ b → nat_eq a b ≡ false
other_false a b other = elim (eqb_tells a b) [ inl h ↦ absurd (other h.1) | inr h ↦ h.0 ]

pub ignore_none : (frames : List ℕ) (frame : ℕ) → frame ≢ 255 → ignore_count (frames ++ frame ∷ []) ≡ ignore_count frames
ignore_none frames frame other =
    let e : nat_eq frame 255 ≡ false = other_false frame 255 other
    in ignore_count-append frames (frame ∷ []) ∙ rw e (omega arith)

pub kept_ignore : (frames : List ℕ) → heeded_frames (frames ++ 255 ∷ []) ≡ heeded_frames frames ++ []
kept_ignore frames = heeded_after-append 0 frames (255 ∷ [])

-- a frame other than 0377 is heeded where no stretch is ignored
pub kept_one : (n frame : ℕ) → frame ≢ 255 → frames_after n (frame ∷ []) ≡ (if not (nat_eq (n % 2) 1) then frame ∷ [] else [])
kept_one n frame other = rw (other_false frame 255 other, even-odd n) refl

pub kept_more : (frames : List ℕ) (frame : ℕ) → frame ≢ 255 → (ignoring : Bool) → ignoring ≡ nat_eq (ignore_count frames % 2) 1
    → heeded_frames (frames ++ frame ∷ []) ≡ heeded_frames frames ++ (if not ignoring then frame ∷ [] else [])
kept_more frames frame other ignoring is =
    heeded_after-append 0 frames (frame ∷ [])
    ∙ ap (λ l. heeded_frames frames ++ l)
    (ap (λ n. frames_after n (frame ∷ [])) (zero-add (ignore_count frames))
    ∙ kept_one (ignore_count frames) frame other
    ∙ ap (λ b. if not b then frame ∷ [] else []) (sym is))

pub counts_ignore : (place later : ℕ) (ignoring : Bool) (frames : List ℕ) (frame : ℕ) → frame ≡ 255 → later ≡ min (place + 1) 18446744073709551615
    → Counts place ignoring frames → Counts later (not ignoring) (frames ++ frame ∷ [])
counts_ignore place later ignoring frames frame is more counts = record {
  place_is = more ∙ ap (λ n. min (n + 1) 18446744073709551615) counts.place_is ∙ sym (place_more frames frame);
  ignoring_is =
      ap not counts.ignoring_is
      ∙ odd-suc (ignore_count frames)
      ∙ ap (λ n. nat_eq (n % 2) 1) (sym (ignore_one frames))
      ∙ ap (λ f. nat_eq (ignore_count (frames ++ f ∷ []) % 2) 1) (sym is);
}

pub counts_other : (place later : ℕ) (ignoring : Bool) (frames : List ℕ) (frame : ℕ) → frame ≢ 255 → later ≡ min (place + 1) 18446744073709551615
    → Counts place ignoring frames → Counts later ignoring (frames ++ frame ∷ [])
counts_other place later ignoring frames frame other more counts = record {
  place_is = more ∙ ap (λ n. min (n + 1) 18446744073709551615) counts.place_is ∙ sym (place_more frames frame);
  ignoring_is = counts.ignoring_is ∙ ap (λ n. nat_eq (n % 2) 1) (sym (ignore_none frames frame other));
}
