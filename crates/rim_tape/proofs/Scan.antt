-- Reading frames from the first to the last, as a function: so a reading, and a fault, is one only.
use Rattle.std.proofs.Common.{◌≡◌, ℕ, suc, ◌+◌, ◌-◌, ◌*◌, ◌/◌, ◌%◌, ◌<◌, ◌≤◌, inl, inr, nat_eq, nat_lt, if◌then◌else◌, ◌∙◌, ap, refl, sym, arith, length, replicate, zero, append-nil, append_assoc, List, [], ◌∷◌, ◌++◌}
use Rattle.std.proofs.lemmas.Bool.Decides.{nat_tests}
use Rattle.rim_tape.specs.Pairs.{frames_of, frames_of_pairs, AreOfField0}
use Rattle.rim_tape.specs.Tape.{IsRim, IsPart, IsOpen}
use Rattle.rim_tape.specs.Fault.{IsOutOfPlace, RefusesFrame, IsFault}
use Rattle.rim_tape.specs.declared.faults.RimFault.{RimFault}
use Rattle.rim_tape.specs.declared.faults.RimFault.TheVariants.{BadFrame, NoTrailer, Memory}

-- how far reading is
data Outcome : Type 0 where
  Open : List (ℕ × ℕ) → List ℕ → Outcome
  Tape : List (ℕ × ℕ) → Outcome
  Refused : ℕ → ℕ → Outcome

-- the fault that an outcome tells; a tape lacks memory at most
abbrev told : Outcome → RimFault
told (Open pairs part) = NoTrailer
told (Tape pairs) = Memory
told (Refused place frame) = BadFrame place frame

-- 0200 is leader before the first word, and after it the trailer
abbrev trailer : List (ℕ × ℕ) → Outcome
trailer [] = Open [] []
trailer (pair ∷ others) = Tape (pair ∷ others)

-- one frame more after a part
abbrev longer : List (ℕ × ℕ) → List ℕ → ℕ → Outcome
longer pairs [] f = Open pairs (f ∷ [])
longer pairs (a ∷ []) f = Open pairs (a ∷ f ∷ [])
longer pairs (a ∷ b ∷ []) f = Open pairs (a ∷ b ∷ f ∷ [])
longer pairs (a ∷ b ∷ c ∷ rest) f = Open (pairs ++ (64 * (a - 64) + b, 64 * c + f) ∷ []) []

-- a frame at a place
abbrev step : ℕ → Outcome → ℕ → Outcome
step place (Open pairs []) f =
    if nat_lt f 64 then Refused place f else (if nat_lt f 128 then longer pairs [] f else (if nat_eq f 128 then trailer pairs else Refused place f))
step place (Open pairs (a ∷ rest)) f = if nat_lt f 64 then longer pairs (a ∷ rest) f else Refused place f
step place (Tape pairs) f = Tape pairs
step place (Refused at frame) f = Refused at frame

-- frames from a place on
scan : ℕ → Outcome → List ℕ → Outcome
scan place o [] = o
scan place o (f ∷ fs) = scan (suc place) (step place o f) fs

abbrev start : Outcome
start = Open [] []

-- leader frames, and words with their addresses
abbrev prefix : ℕ → List (ℕ × ℕ) → List ℕ
prefix leader pairs = replicate leader 128 ++ frames_of_pairs pairs

same_at : (p q : ℕ) (o : Outcome) (ys : List ℕ) → p ≡ q → scan p o ys ≡ scan q o ys
same_at p q o ys e = cc

scan-append : (place : ℕ) (o : Outcome) (xs ys : List ℕ) → scan place o (xs ++ ys) ≡ scan (place + length xs) (scan place o xs) ys
unfolding scan
scan-append place o [] ys = same_at place (place + 0) o ys (omega arith)
scan-append place o (x ∷ xs) ys =
    scan-append (suc place) (step place o x) xs ys ∙ same_at (suc place + length xs) (place + suc (length xs)) _ ys (omega arith)

scan-tape : (place : ℕ) (pairs : List (ℕ × ℕ)) (xs : List ℕ) → scan place (Tape pairs) xs ≡ Tape pairs
unfolding scan
scan-tape place pairs [] = refl
scan-tape place pairs (x ∷ xs) = scan-tape (suc place) pairs xs

scan-refused : (place at frame : ℕ) (xs : List ℕ) → scan place (Refused at frame) xs ≡ Refused at frame
unfolding scan
scan-refused place at frame [] = refl
scan-refused place at frame (x ∷ xs) = scan-refused (suc place) at frame xs

-- ## What is open

scan-leader : (place count : ℕ) → scan place start (replicate count 128) ≡ start
unfolding scan
scan-leader place zero = refl
scan-leader place (suc count) = scan-leader (suc place) count

first_goes : (place f : ℕ) (pairs : List (ℕ × ℕ)) → 64 ≤ f → f < 128 → step place (Open pairs []) f ≡ Open pairs (f ∷ [])
first_goes place f pairs least most = grind (arith, nat_tests)

later_goes : (place f a : ℕ) (rest : List ℕ) (pairs : List (ℕ × ℕ)) → f < 64 → step place (Open pairs (a ∷ rest)) f ≡ longer pairs (a ∷ rest) f
later_goes place f a rest pairs small = grind (arith, nat_tests)

part_goes : (place : ℕ) (pairs : List (ℕ × ℕ)) (part : List ℕ) → IsPart part → scan place (Open pairs []) part ≡ Open pairs part
unfolding scan
part_goes place pairs [] begun = refl
part_goes place pairs (a ∷ []) begun = first_goes place a pairs begun.0 begun.1
part_goes place pairs (a ∷ b ∷ []) begun =
    ap (λ o. step (suc place) o b) (first_goes place a pairs begun.0 begun.1) ∙ later_goes (suc place) b a [] pairs begun.2
part_goes place pairs (a ∷ b ∷ c ∷ []) begun =
    ap (λ o. step (suc (suc place)) o c) (part_goes place pairs (a ∷ b ∷ []) (begun.0, begun.1, begun.2))
    ∙ later_goes (suc (suc place)) c a (b ∷ []) pairs begun.3
part_goes place pairs (a ∷ b ∷ c ∷ d ∷ rest) begun = absurd begun

pair_goes : (place : ℕ) (pairs : List (ℕ × ℕ)) (pair : ℕ × ℕ) → pair.0 < 4096 → pair.1 < 4096
    → scan place (Open pairs []) (frames_of pair) ≡ Open (pairs ++ pair ∷ []) []
unfolding scan
pair_goes place pairs pair cell word =
    ap (λ o. step (suc (suc (suc place))) o (pair.1 % 64))
    (part_goes place pairs ((64 + pair.0 / 64) ∷ (pair.0 % 64) ∷ (pair.1 / 64) ∷ []) (omega arith, omega (arith, cell), omega arith, omega (arith, word)))
    ∙ later_goes (suc (suc (suc place))) (pair.1 % 64) (64 + pair.0 / 64) ((pair.0 % 64) ∷ (pair.1 / 64) ∷ []) pairs (omega arith)
    ∙ ap (λ n. Open (pairs ++ (n, 64 * (pair.1 / 64) + pair.1 % 64) ∷ []) []) whole_cell
    ∙ ap (λ n. Open (pairs ++ (pair.0, n) ∷ []) []) whole_word
  where
    whole_cell : 64 * (64 + pair.0 / 64 - 64) + pair.0 % 64 ≡ pair.0
    whole_cell = omega arith

    whole_word : 64 * (pair.1 / 64) + pair.1 % 64 ≡ pair.1
    whole_word = omega arith

pairs_go : (place : ℕ) (before pairs : List (ℕ × ℕ)) → AreOfField0 pairs → scan place (Open before []) (frames_of_pairs pairs) ≡ Open (before ++ pairs) []
unfolding scan
pairs_go place before [] words = ap (λ l. Open l []) (sym (append-nil before))
pairs_go place before (pair ∷ later) words =
    scan-append place (Open before []) (frames_of pair) (frames_of_pairs later)
    ∙ ap (λ o. scan (place + 4) o (frames_of_pairs later)) (pair_goes place before pair words.0 words.1)
    ∙ pairs_go (place + 4) (before ++ pair ∷ []) later words.2
    ∙ ap (λ l. Open l []) (append_assoc before (pair ∷ []) later)

words_go : (leader : ℕ) (pairs : List (ℕ × ℕ)) → AreOfField0 pairs → scan 0 start (prefix leader pairs) ≡ Open pairs []
words_go leader pairs words =
    let frames : List ℕ = replicate leader 128 in
    scan-append 0 start frames (frames_of_pairs pairs)
    ∙ ap (λ o. scan (0 + length frames) o (frames_of_pairs pairs)) (scan-leader 0 leader)
    ∙ pairs_go (0 + length frames) [] pairs words

open_goes : (frames : List ℕ) (pairs : List (ℕ × ℕ)) (part : List ℕ) → IsOpen frames pairs part → scan 0 start frames ≡ Open pairs part
open_goes frames pairs part o =
    ap (scan 0 start) o.frames_are
    ∙ scan-append 0 start (prefix o.leader pairs) part
    ∙ ap (λ s. scan (0 + length (prefix o.leader pairs)) s part) (words_go o.leader pairs o.words)
    ∙ part_goes (0 + length (prefix o.leader pairs)) pairs part o.begun

-- ## What ends reading

trailer_ends : (place : ℕ) (pairs : List (ℕ × ℕ)) → 0 < length pairs → step place (Open pairs []) 128 ≡ Tape pairs
trailer_ends place [] some = absurd (omega (arith, some))
trailer_ends place (pair ∷ others) some = refl

rim_goes : (frames : List ℕ) (pairs : List (ℕ × ℕ)) → IsRim frames pairs → scan 0 start frames ≡ Tape pairs
unfolding scan
rim_goes frames pairs t =
    ap (scan 0 start) t.frames_are
    ∙ scan-append 0 start (prefix t.leader pairs) (128 ∷ t.rest)
    ∙ ap (λ s. scan (0 + length (prefix t.leader pairs)) s (128 ∷ t.rest)) (words_go t.leader pairs t.words)
    ∙ ap (λ s. scan (suc (0 + length (prefix t.leader pairs))) s t.rest) (trailer_ends (0 + length (prefix t.leader pairs)) pairs t.some)
    ∙ scan-tape (suc (0 + length (prefix t.leader pairs))) pairs t.rest

refused_goes : (place f : ℕ) (pairs : List (ℕ × ℕ)) (part : List ℕ) → IsOutOfPlace part f → step place (Open pairs part) f ≡ Refused place f
refused_goes place f pairs [] (inl low) = grind (arith, nat_tests)
refused_goes place f pairs [] (inr high) = grind (arith, nat_tests)
refused_goes place f pairs (a ∷ rest) large = grind (arith, nat_tests)

scan_refused : (frames : List ℕ) (place frame : ℕ) → RefusesFrame frames place frame → scan 0 start frames ≡ Refused place frame
unfolding scan
scan_refused frames place frame r =
    ap (scan 0 start) r.split
    ∙ scan-append 0 start r.before (frame ∷ r.after)
    ∙ ap (λ s. scan (0 + length r.before) s (frame ∷ r.after)) (open_goes r.before r.pairs r.part r.is_open)
    ∙ ap (λ s. scan (suc (0 + length r.before)) s r.after) (refused_goes (0 + length r.before) frame r.pairs r.part r.out_of_place)
    ∙ scan-refused (suc (0 + length r.before)) (0 + length r.before) frame r.after
    ∙ ap (λ n. Refused n frame) (omega (arith, r.place_is))

scan_told : (frames : List ℕ) (fault : RimFault) → IsFault frames fault → told (scan 0 start frames) ≡ fault
scan_told frames (BadFrame place frame) h = ap told (scan_refused frames place frame h)
scan_told frames NoTrailer h = ap told (open_goes frames h.pairs h.part h.is_open)
scan_told frames Memory h = ap told (rim_goes frames h.pairs h.is_rim)

-- ## The laws

pub reading_is_one : (frames : List ℕ) (a b : List (ℕ × ℕ)) → IsRim frames a → IsRim frames b → a ≡ b
reading_is_one frames a b s t =
    let one : Tape a ≡ Tape b = sym (rim_goes frames a s) ∙ rim_goes frames b t
    in cc

pub fault_is_one : (frames : List ℕ) (a b : RimFault) → IsFault frames a → IsFault frames b → a ≡ b
fault_is_one frames a b s t = sym (scan_told frames a s) ∙ scan_told frames b t
