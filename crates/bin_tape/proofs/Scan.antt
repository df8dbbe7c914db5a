-- Reading frames from the first to the last, as a function: so a reading, and a fault, is one only.
use Rattle.std.proofs.Common.{◌≡◌, ◌≢◌, ℕ, suc, ◌+◌, ◌-◌, ◌*◌, ◌/◌, ◌%◌, ◌<◌, ◌≤◌, ◌⊎◌, inl, inr, Bool, true, false, nat_eq, nat_lt, if◌then◌else◌, min, ◌∙◌, ap, refl, sym, subst, arith, length, eq-eqb, List, [], ◌∷◌, ◌++◌}
use Rattle.std.proofs.lemmas.Bool.Decides.{nat_tests}
use Rattle.bin_tape.specs.Frames.{heeded_frames, frames_after, ignore_count}
use Rattle.bin_tape.specs.Items.{Item, Leader, Field, Origin, Word, frames_of_items, frames_of, has_origin, ends_in_word, IsPrefix, check_sum, words_of, words_but_last}
use Rattle.bin_tape.specs.Tape.{IsOpen, IsTape}
use Rattle.bin_tape.specs.Fault.{IsRefused, IsOutOfPlace, IsWrongSum, RefusesFrame, IsFault}
use Rattle.bin_tape.specs.Laws.{IsClosed}
use Rattle.bin_tape.specs.Progress.{Progress}
use Rattle.bin_tape.specs.Reading.{HasRead, StateIs}
use Rattle.bin_tape.specs.declared.readers.State.{State}
use Rattle.bin_tape.specs.declared.readers.State.TheVariants.{Reading, Ended, Failed}
use Rattle.bin_tape.specs.declared.faults.TapeFault.{TapeFault}
use Rattle.bin_tape.specs.declared.faults.TapeFault.TheVariants.{BadFrame, NoOrigin, CheckSum, NoTrailer, Memory}
use Rattle.bin_tape.proofs.FrameLemmas.{other_false}

-- what a heeded frame comes to
pub data Verdict : Type 0 where
  Goes : List Item → List ℕ → Verdict
  Ends : List Item → Verdict
  OutOfPlace : Verdict
  Early : Verdict
  WrongSum : ℕ → ℕ → Verdict

abbrev pub trailer : List Item → Verdict
trailer [] = OutOfPlace
trailer (Word high low ∷ older) = if nat_eq (64 * high + low) (check_sum older) then Ends older else WrongSum (64 * high + low) (check_sum older)
trailer (Leader f ∷ older) = OutOfPlace
trailer (Field n ∷ older) = OutOfPlace
trailer (Origin high low ∷ older) = OutOfPlace

abbrev pub verdict : List Item → List ℕ → ℕ → Verdict
verdict items [] f =
    if nat_lt f 64 then (if has_origin items then Goes items (f ∷ []) else (if nat_eq f 0 then Goes (Leader f ∷ items) [] else Early))
    else (if nat_lt f 128 then Goes items (f ∷ [])
    else (if nat_eq f 128 then (if has_origin items then trailer items else Goes (Leader f ∷ items) [])
    else (if nat_lt f 192 then OutOfPlace
    else (if nat_eq (f % 8) 0 then Goes (Field ((f - 192) / 8) ∷ items) [] else OutOfPlace))))
verdict items (p ∷ rest) f =
    if nat_lt f 64 then (if nat_lt p 64 then Goes (Word p f ∷ items) [] else Goes (Origin (p - 64) f ∷ items) []) else OutOfPlace

-- how far reading is
pub data Outcome : Type 0 where
  Open : List Item → List ℕ → Outcome
  Tape : List Item → Outcome
  Fault : TapeFault → Outcome

abbrev pub is_fault : Outcome → Bool
is_fault (Open items part) = false
is_fault (Tape items) = false
is_fault (Fault fault) = true

abbrev pub outcome : ℕ → Verdict → Outcome
outcome place (Goes items part) = Open items part
outcome place (Ends items) = Tape items
outcome place OutOfPlace = Fault (BadFrame (min place 18446744073709551615))
outcome place Early = Fault NoOrigin
outcome place (WrongSum found computed) = Fault (CheckSum found computed)

-- a heeded frame at a place
abbrev pub step : ℕ → Outcome → ℕ → Outcome
step place (Open items part) f = outcome place (verdict items part f)
step place (Tape items) f = Tape items
step place (Fault fault) f = Fault fault

-- heeded frames
pub run : Outcome → List ℕ → Outcome
run o [] = o
run o (f ∷ fs) = run (step 0 o f) fs

-- all frames after so many, of which so many are 0377
pub scan : ℕ → ℕ → Outcome → List ℕ → Outcome
scan place n o [] = o
scan place n o (f ∷ fs) =
    if nat_eq f 255 then scan (suc place) (n + 1) o fs
    else (if nat_eq (n % 2) 0 then scan (suc place) n (step place o f) fs else scan (suc place) n o fs)

abbrev pub start : Outcome
start = Open [] []

-- ## Parts of a list

run-append : (o : Outcome) (xs ys : List ℕ) → run o (xs ++ ys) ≡ run (run o xs) ys
unfolding run
run-append o [] ys = refl
run-append o (x ∷ xs) ys = run-append (step 0 o x) xs ys

same_at : (p q n m : ℕ) (o : Outcome) (ys : List ℕ) → p ≡ q → n ≡ m → scan p n o ys ≡ scan q m o ys
same_at p q n m o ys e f = cc

scan-append : (place n : ℕ) (o : Outcome) (xs ys : List ℕ)
    → scan place n o (xs ++ ys) ≡ scan (place + length xs) (n + ignore_count xs) (scan place n o xs) ys
unfolding scan
scan-append place n o [] ys = same_at place (place + 0) n (n + 0) o ys (omega arith) (omega arith)
scan-append place n o (x ∷ xs) ys =
    elim (nat_eq x 255) as (λ b.
    (if b then scan (suc place) (n + 1) o (xs ++ ys)
    else (if nat_eq (n % 2) 0 then scan (suc place) n (step place o x) (xs ++ ys) else scan (suc place) n o (xs ++ ys)))
    ≡ scan (place + suc (length xs)) (n + ((if b then 1 else 0) + ignore_count xs))
    (if b then scan (suc place) (n + 1) o xs
    else (if nat_eq (n % 2) 0 then scan (suc place) n (step place o x) xs else scan (suc place) n o xs))
    ys) [
      | true ↦ scan-append (suc place) (n + 1) o xs ys
          ∙ same_at (suc place + length xs) (place + suc (length xs)) (n + 1 + ignore_count xs) (n + (1 + ignore_count xs)) _ ys (omega arith) (omega arith)
      | false ↦ elim (nat_eq (n % 2) 0) as (λ b.
          (if b then scan (suc place) n (step place o x) (xs ++ ys) else scan (suc place) n o (xs ++ ys))
          ≡ scan (place + suc (length xs)) (n + (0 + ignore_count xs)) (if b then scan (suc place) n (step place o x) xs else scan (suc place) n o xs) ys) [
            | true ↦ scan-append (suc place) n (step place o x) xs ys
                ∙ same_at (suc place + length xs) (place + suc (length xs)) (n + ignore_count xs) (n + (0 + ignore_count xs)) _ ys (omega arith) (omega arith)
            | false ↦ scan-append (suc place) n o xs ys
                ∙ same_at (suc place + length xs) (place + suc (length xs)) (n + ignore_count xs) (n + (0 + ignore_count xs)) _ ys (omega arith) (omega arith)
          ]
    ]

run-fault : (fault : TapeFault) (xs : List ℕ) → run (Fault fault) xs ≡ Fault fault
unfolding run
run-fault fault [] = refl
run-fault fault (x ∷ xs) = run-fault fault xs

run-tape : (items : List Item) (xs : List ℕ) → run (Tape items) xs ≡ Tape items
unfolding run
run-tape items [] = refl
run-tape items (x ∷ xs) = run-tape items xs

scan-fault : (place n : ℕ) (fault : TapeFault) (xs : List ℕ) → scan place n (Fault fault) xs ≡ Fault fault
unfolding scan
scan-fault place n fault [] = refl
scan-fault place n fault (x ∷ xs) =
    elim (nat_eq x 255) as (λ b.
    (if b then scan (suc place) (n + 1) (Fault fault) xs
    else (if nat_eq (n % 2) 0 then scan (suc place) n (Fault fault) xs else scan (suc place) n (Fault fault) xs)) ≡ Fault fault) [
      | true ↦ scan-fault (suc place) (n + 1) fault xs
      | false ↦ elim (nat_eq (n % 2) 0) as (λ b.
          (if b then scan (suc place) n (Fault fault) xs else scan (suc place) n (Fault fault) xs) ≡ Fault fault)
          [ true ↦ scan-fault (suc place) n fault xs | false ↦ scan-fault (suc place) n fault xs ]
    ]

-- ## Kept frames alone lead as far, but for the place of a fault

outcome_same : (place : ℕ) (v : Verdict) → is_fault (outcome 0 v) ≡ false → outcome place v ≡ outcome 0 v
outcome_same place (Goes items part) h = refl
outcome_same place (Ends items) h = refl
outcome_same place OutOfPlace h = cc
outcome_same place Early h = refl
outcome_same place (WrongSum found computed) h = refl

step_same : (place : ℕ) (o : Outcome) (f : ℕ) → is_fault (step 0 o f) ≡ false → step place o f ≡ step 0 o f
step_same place (Open items part) f h = outcome_same place (verdict items part f) h
step_same place (Tape items) f h = refl
step_same place (Fault fault) f h = refl

run_not_fault : (o : Outcome) (xs : List ℕ) → is_fault (run o xs) ≡ false → is_fault o ≡ false
run_not_fault (Open items part) xs h = refl
run_not_fault (Tape items) xs h = refl
run_not_fault (Fault fault) xs h = let e : run (Fault fault) xs ≡ Fault fault = run-fault fault xs in sym (ap is_fault e) ∙ h

scan_run : (place n : ℕ) (o : Outcome) (xs : List ℕ) → is_fault (run o (frames_after n xs)) ≡ false → scan place n o xs ≡ run o (frames_after n xs)
unfolding scan run
scan_run place n o [] h = refl
scan_run place n o (x ∷ xs) h =
    (elim (nat_eq x 255) as (λ b.
    is_fault (run o (if b then frames_after (n + 1) xs else (if nat_eq (n % 2) 0 then x ∷ frames_after n xs else frames_after n xs))) ≡ false
    → (if b then scan (suc place) (n + 1) o xs
    else (if nat_eq (n % 2) 0 then scan (suc place) n (step place o x) xs else scan (suc place) n o xs))
    ≡ run o (if b then frames_after (n + 1) xs else (if nat_eq (n % 2) 0 then x ∷ frames_after n xs else frames_after n xs))) [
      | true ↦ λ fine. scan_run (suc place) (n + 1) o xs fine
      | false ↦ elim (nat_eq (n % 2) 0) as (λ b.
          is_fault (run o (if b then x ∷ frames_after n xs else frames_after n xs)) ≡ false
          → (if b then scan (suc place) n (step place o x) xs else scan (suc place) n o xs) ≡ run o (if b then x ∷ frames_after n xs else frames_after n xs)) [
            | true ↦ λ fine.
                ap (λ s. scan (suc place) n s xs) (step_same place o x (run_not_fault (step 0 o x) (frames_after n xs) fine))
                ∙ scan_run (suc place) n (step 0 o x) xs fine
            | false ↦ λ fine. scan_run (suc place) n o xs fine
          ]
    ]) h

-- ## What each item comes to

leader_goes : (items : List Item) (f : ℕ) → (f ≡ 0) ⊎ (f ≡ 128) → has_origin items ≡ false → verdict items [] f ≡ Goes (Leader f ∷ items) []
leader_goes items f (inl e) h = rw (e, h) refl
leader_goes items f (inr e) h = rw (e, h) refl

field_goes : (items : List Item) (n : ℕ) → n < 8 → verdict items [] (192 + 8 * n) ≡ Goes (Field n ∷ items) []
field_goes items n small = grind (arith, nat_tests)

first_goes : (items : List Item) (f : ℕ) → f < 128 → (64 ≤ f) ⊎ (has_origin items ≡ true) → verdict items [] f ≡ Goes items (f ∷ [])
first_goes items f small why = grind (arith, nat_tests)

origin_goes : (items : List Item) (high low : ℕ) → low < 64 → verdict items ((64 + high) ∷ []) low ≡ Goes (Origin high low ∷ items) []
origin_goes items high low small = grind (arith, nat_tests)

word_goes : (items : List Item) (high low : ℕ) → high < 64 → low < 64 → verdict items (high ∷ []) low ≡ Goes (Word high low ∷ items) []
word_goes items high low small small' = grind (arith, nat_tests)

trailer_ends : (items : List Item) (high low : ℕ) → has_origin items ≡ true → 64 * high + low ≡ check_sum items
    → verdict (Word high low ∷ items) [] 128 ≡ Ends items
trailer_ends items high low begun sum = rw (begun, eq-eqb (64 * high + low) (check_sum items) sum) refl

-- an item after whole items
one_goes : (older : List Item) (item : Item) → IsPrefix (item ∷ older) → run (Open older []) (frames_of item) ≡ Open (item ∷ older) []
unfolding run
one_goes older (Leader f) h = ap (outcome 0) (leader_goes older f h.0 h.1)
one_goes older (Field n) h = ap (outcome 0) (field_goes older n h.0)
one_goes older (Origin high low) h =
    ap (λ v. step 0 (outcome 0 v) low) (first_goes older (64 + high) (omega (arith, h.0)) (inl (omega arith)))
    ∙ ap (outcome 0) (origin_goes older high low h.1)
one_goes older (Word high low) h =
    ap (λ v. step 0 (outcome 0 v) low) (first_goes older high (omega (arith, h.0)) (inr h.2))
    ∙ ap (outcome 0) (word_goes older high low h.0 h.1)

older_prefix : (item : Item) (older : List Item) → IsPrefix (item ∷ older) → IsPrefix older
older_prefix (Leader f) older h = h.2
older_prefix (Field n) older h = h.1
older_prefix (Origin high low) older h = h.2
older_prefix (Word high low) older h = h.3

prefix_goes : (items : List Item) → IsPrefix items → run start (frames_of_items items) ≡ Open items []
unfolding run
prefix_goes [] h = refl
prefix_goes (item ∷ older) h =
    run-append start (frames_of_items older) (frames_of item)
    ∙ ap (λ o. run o (frames_of item)) (prefix_goes older (older_prefix item older h))
    ∙ one_goes older item h

open_goes : (kept_frames : List ℕ) (items : List Item) (part : List ℕ) → IsOpen kept_frames items part → run start kept_frames ≡ Open items part
unfolding run
open_goes kept_frames items [] o = ap (run start) o.frames ∙ run-append start (frames_of_items items) [] ∙ prefix_goes items o.is_prefix
open_goes kept_frames items (p ∷ []) o =
    ap (run start) o.frames
    ∙ run-append start (frames_of_items items) (p ∷ [])
    ∙ ap (λ s. run s (p ∷ [])) (prefix_goes items o.is_prefix)
    ∙ ap (outcome 0) (first_goes items p o.begun.0 o.begun.1)
open_goes kept_frames items (p ∷ q ∷ rest) o = absurd o.begun

tape_goes : (frames : List ℕ) (items : List Item) → IsTape frames items → run start (heeded_frames frames) ≡ Tape items
unfolding run
tape_goes frames items t =
    ap (run start) t.kept_frames
    ∙ run-append start (frames_of_items (Word t.high t.low ∷ items)) (128 ∷ t.rest)
    ∙ ap (λ o. run o (128 ∷ t.rest)) (prefix_goes (Word t.high t.low ∷ items) t.is_prefix)
    ∙ ap (λ v. run (outcome 0 v) t.rest) (trailer_ends items t.high t.low t.is_prefix.2 t.sum)
    ∙ run-tape items t.rest

-- ## What a refused frame comes to

no_trailer : (items : List Item) → ends_in_word items ≡ false → trailer items ≡ OutOfPlace
no_trailer [] h = refl
no_trailer (Word high low ∷ older) h = cc
no_trailer (Leader f ∷ older) h = refl
no_trailer (Field n ∷ older) h = refl
no_trailer (Origin high low ∷ older) h = refl

wrong_trailer : (items : List Item) (found computed : ℕ) → IsPrefix items → IsWrongSum items found computed
    → verdict items [] 128 ≡ WrongSum found computed
wrong_trailer [] found computed prefix h = absurd h
wrong_trailer (Word high low ∷ older) found computed prefix h =
    let differ : 64 * high + low ≢ check_sum older = λ e. h.2 (h.0 ∙ e ∙ sym h.1)
    in rw (prefix.2, other_false (64 * high + low) (check_sum older) differ, h.0, h.1) refl
wrong_trailer (Leader f ∷ older) found computed prefix h = absurd h
wrong_trailer (Field n ∷ older) found computed prefix h = absurd h
wrong_trailer (Origin high low ∷ older) found computed prefix h = absurd h

form_refused : (items : List Item) (f : ℕ) → 128 < f → (f < 192) ⊎ (0 < f % 8) → verdict items [] f ≡ OutOfPlace
form_refused items f large why = grind (arith, nat_tests)

trailer_refused : (items : List Item) (f : ℕ) → f ≡ 128 → has_origin items ≡ true → ends_in_word items ≡ false → verdict items [] f ≡ OutOfPlace
trailer_refused items f e begun no_word = rw (e, begun) (no_trailer items no_word)

second_refused : (items : List Item) (p f : ℕ) (rest : List ℕ) → 64 ≤ f → verdict items (p ∷ rest) f ≡ OutOfPlace
second_refused items p f rest large = grind (arith, nat_tests)

early_refused : (items : List Item) (f : ℕ) → has_origin items ≡ false → 0 < f → f < 64 → verdict items [] f ≡ Early
early_refused items f none positive small = grind (arith, nat_tests)

place_refused : (items : List Item) (part : List ℕ) (f : ℕ) → IsOutOfPlace items part f → verdict items part f ≡ OutOfPlace
place_refused items [] f h = elim h [ inl form ↦ form_refused items f form.0 form.1 | inr e ↦ trailer_refused items f e.0 e.1 e.2 ]
place_refused items (p ∷ rest) f h = second_refused items p f rest h

refused_goes : (items : List Item) (part : List ℕ) (f place : ℕ) (fault : TapeFault) → IsPrefix items
    → IsRefused items part f (min place 18446744073709551615) fault → step place (Open items part) f ≡ Fault fault
refused_goes items part f place (BadFrame at) prefix h =
    ap (outcome place) (place_refused items part f h.1) ∙ ap (λ n. Fault (BadFrame n)) (sym h.0)
refused_goes items part f place NoOrigin prefix h = rw h.0 (ap (outcome place) (early_refused items f h.1 h.2 h.3))
refused_goes items part f place (CheckSum found computed) prefix h = rw (h.0, h.1) (ap (outcome place) (wrong_trailer items found computed prefix h.2))
refused_goes items part f place NoTrailer prefix h = absurd h
refused_goes items part f place Memory prefix h = absurd h

-- ## Frames come to one thing only

scan_open : (frames : List ℕ) (items : List Item) (part : List ℕ) → IsOpen (heeded_frames frames) items part → scan 0 0 start frames ≡ Open items part
scan_open frames items part o =
    let here : run start (heeded_frames frames) ≡ Open items part = open_goes (heeded_frames frames) items part o
    in scan_run 0 0 start frames (ap is_fault here) ∙ here

scan_tape : (frames : List ℕ) (items : List Item) → IsTape frames items → scan 0 0 start frames ≡ Tape items
scan_tape frames items t =
    let here : run start (heeded_frames frames) ≡ Tape items = tape_goes frames items t
    in scan_run 0 0 start frames (ap is_fault here) ∙ here

-- a heeded frame, with frames before it that are open, and others after it
scan_kept : (place n : ℕ) (o : Outcome) (f : ℕ) (rest : List ℕ) → f ≢ 255 → n % 2 ≡ 0 → scan place n o (f ∷ rest) ≡ scan (suc place) n (step place o f) rest
unfolding scan
scan_kept place n o f rest other even = rw (other_false f 255 other, eq-eqb (n % 2) 0 even) refl

scan_closed : (frames rest : List ℕ) (fault : TapeFault) (r : RefusesFrame frames fault) → scan 0 0 start (r.before ++ r.frame ∷ rest) ≡ Fault fault
scan_closed frames rest fault r =
    scan-append 0 0 start r.before (r.frame ∷ rest)
    ∙ same_at (0 + length r.before) (length r.before) (0 + ignore_count r.before) (ignore_count r.before) _ (r.frame ∷ rest) (omega arith) (omega arith)
    ∙ ap (λ o. scan (length r.before) (ignore_count r.before) o (r.frame ∷ rest)) (scan_open r.before r.items r.part r.is_open)
    ∙ scan_kept (length r.before) (ignore_count r.before) (Open r.items r.part) r.frame rest r.not_ignore r.not_ignored
    ∙ ap (λ o. scan (suc (length r.before)) (ignore_count r.before) o rest)
    (refused_goes r.items r.part r.frame (length r.before) fault r.is_open.is_prefix r.refused)
    ∙ scan-fault (suc (length r.before)) (ignore_count r.before) fault rest

scan_refused : (frames : List ℕ) (fault : TapeFault) → RefusesFrame frames fault → scan 0 0 start frames ≡ Fault fault
scan_refused frames fault r = ap (scan 0 0 start) r.split ∙ scan_closed frames r.after fault r

-- the fault that an outcome tells, where it is no tape
abbrev pub told : Outcome → TapeFault
told (Open items part) = NoTrailer
told (Tape items) = Memory
told (Fault fault) = fault

scan_told : (frames : List ℕ) (fault : TapeFault) → IsFault frames fault → told (scan 0 0 start frames) ≡ fault
scan_told frames (BadFrame at) h = ap told (scan_refused frames (BadFrame at) h)
scan_told frames NoOrigin h = ap told (scan_refused frames NoOrigin h)
scan_told frames (CheckSum found computed) h = ap told (scan_refused frames (CheckSum found computed) h)
scan_told frames NoTrailer h = ap told (scan_open frames h.0 h.1 h.2)
scan_told frames Memory h = absurd h

-- ## The laws

pub reading_is_one : (frames : List ℕ) (a b : List Item) → IsTape frames a → IsTape frames b → a ≡ b
reading_is_one frames a b s t =
    let one : Tape a ≡ Tape b = sym (scan_tape frames a s) ∙ scan_tape frames b t
    in cc

pub tape_has_no_fault : (frames : List ℕ) (items : List Item) (fault : TapeFault) → IsTape frames items → IsFault frames fault → ⊥
tape_has_no_fault frames items fault t h =
    subst (λ (f : TapeFault). IsFault frames f) (sym (scan_told frames fault h) ∙ ap told (scan_tape frames items t)) h

pub fault_is_one : (frames : List ℕ) (a b : TapeFault) → IsFault frames a → IsFault frames b → a ≡ b
fault_is_one frames a b s t = sym (scan_told frames a s) ∙ scan_told frames b t

-- what a state of a reader comes to, as an outcome with the words handed out
words_told : (state : State) (frames : List ℕ) (out : List (ℕ × ℕ)) → StateIs state frames out
    → ((items : List Item) × (scan 0 0 start frames ≡ Tape items) × (out ≡ words_of items))
    ⊎ ((items : List Item) × (part : List ℕ) × (scan 0 0 start frames ≡ Open items part) × (out ≡ words_but_last items))
    ⊎ ((fault : TapeFault) × (scan 0 0 start frames ≡ Fault fault))
words_told (Reading prefix) frames out k =
    inr (inl (k.items, k.part, scan_open frames k.items k.part (record { frames = k.frames; is_prefix = k.reads.is_prefix; begun = k.reads.begun }), k.words))
words_told Ended frames out w = inl (w.items, scan_tape frames w.items w.is_tape, w.words)
words_told (Failed fault) frames out r = inr (inr (fault, scan_refused frames fault r))

pub whole_words : (reader : Progress) (frames : List ℕ) (out : List (ℕ × ℕ)) (items : List Item)
    → HasRead reader frames out → IsTape frames items → out ≡ words_of items
whole_words reader frames out items read t =
    let here : scan 0 0 start frames ≡ Tape items = scan_tape frames items t in
    elim (words_told reader.state frames out read.state) [
      | inl w ↦ let same : Tape w.0 ≡ Tape items = sym w.1 ∙ here in let one : w.0 ≡ items = cc in w.2 ∙ ap words_of one
      | inr w ↦ elim w [
        | inl o ↦ let other : Open o.0 o.1 ≡ Tape items = sym o.2 ∙ here in cc
        | inr f ↦ let other : Fault f.0 ≡ Tape items = sym f.1 ∙ here in cc
      ]
    ]

pub open_words : (reader : Progress) (frames : List ℕ) (out : List (ℕ × ℕ)) (items : List Item) (part : List ℕ)
    → HasRead reader frames out → IsOpen (heeded_frames frames) items part → out ≡ words_but_last items
open_words reader frames out items part read o =
    let here : scan 0 0 start frames ≡ Open items part = scan_open frames items part o in
    elim (words_told reader.state frames out read.state) [
      | inl w ↦ let other : Tape w.0 ≡ Open items part = sym w.1 ∙ here in cc
      | inr w ↦ elim w [
        | inl k ↦ let same : Open k.0 k.1 ≡ Open items part = sym k.2 ∙ here in let one : k.0 ≡ items = cc in k.3 ∙ ap words_but_last one
        | inr f ↦ let other : Fault f.0 ≡ Open items part = sym f.1 ∙ here in cc
      ]
    ]

pub closed_for_good : (frames rest : List ℕ) (fault : TapeFault) (r : RefusesFrame frames fault) → IsClosed (r.before ++ r.frame ∷ rest)
closed_for_good frames rest fault r = record {
  not_tape = λ items t. no_tape (scan_closed frames rest fault r) (scan_tape (r.before ++ r.frame ∷ rest) items t);
  not_open = λ items part o. no_open (scan_closed frames rest fault r) (scan_open (r.before ++ r.frame ∷ rest) items part o);
}
  where
    no_tape : {o : Outcome} {items : List Item} → o ≡ Fault fault → o ≡ Tape items → ⊥
    no_tape e f = cc

    no_open : {o : Outcome} {items : List Item} {part : List ℕ} → o ≡ Fault fault → o ≡ Open items part → ⊥
    no_open e f = cc
