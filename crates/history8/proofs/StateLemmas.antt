-- What changes leave and print.
use Rattle.std.proofs.Common.{◌≡◌, ℕ, zero, suc, ◌+◌, ◌≤◌, Bool, List, Some, None, [], ◌∷◌, ◌++◌, length, refl, ap, sym, ◌∙◌, append_assoc, append-nil, arith}
use Rattle.std.proofs.lemmas.List.{length-append}
use Rattle.cpu8.specs.State.{State}
use Rattle.cpu8.specs.declared.outcomes.Stepped.{Stepped}
use Rattle.cpu8.specs.declared.outcomes.Stepped.TheVariants.{Stopped, Interrupted, Ran, Halted, Unassigned}
use Rattle.cpu8.specs.Go.{after, answer, character_of, characters_of, printing_step}
use Rattle.history8.specs.Changes.{Change, Step, Key, Deposit, Switches, Start}
use Rattle.history8.specs.History.{state_after, characters_after, steps_before}

pub after-steps : (quick : Bool) (k : ℕ) (changes : List Change) (first : State)
    → state_after (steps_before quick k changes) first ≡ after quick k (state_after changes first)
unfolding after
after-steps quick zero changes first = refl
after-steps quick (suc k) changes first = ap (λ s. (printing_step quick s).0) (after-steps quick k changes first)

pub printed-steps : (quick : Bool) (k : ℕ) (changes : List Change) (first : State)
    → characters_after (steps_before quick k changes) first ≡ characters_after changes first ++ characters_of quick k (state_after changes first)
unfolding after characters_of
printed-steps quick zero changes first = sym (append-nil (characters_after changes first))
printed-steps quick (suc k) changes first =
    ap (λ s. characters_after (steps_before quick k changes) first ++ character_of (printing_step quick s).1) (after-steps quick k changes first)
    ∙ ap (λ xs. xs ++ character_of (answer quick k (state_after changes first))) (printed-steps quick k changes first)
    ∙ append_assoc (characters_after changes first) (characters_of quick k (state_after changes first)) (character_of (answer quick k (state_after changes first)))

pub later-steps : (quick : Bool) (a b : ℕ) (s : State) → after quick (a + b) s ≡ after quick b (after quick a s)
unfolding after
later-steps quick a zero s = let e : a + zero ≡ a = omega arith in ap (λ n. after quick n s) e
later-steps quick a (suc b) s =
    let e : a + suc b ≡ suc (a + b) = omega arith in
    ap (λ n. after quick n s) e ∙ ap (λ x. (printing_step quick x).0) (later-steps quick a b s)

pub later-printed : (quick : Bool) (a b : ℕ) (s : State)
    → characters_of quick (a + b) s ≡ characters_of quick a s ++ characters_of quick b (after quick a s)
unfolding after characters_of
later-printed quick a zero s = let e : a + zero ≡ a = omega arith in ap (λ n. characters_of quick n s) e ∙ sym (append-nil (characters_of quick a s))
later-printed quick a (suc b) s =
    let e : a + suc b ≡ suc (a + b) = omega arith in
    ap (λ n. characters_of quick n s) e
    ∙ ap (λ x. characters_of quick (a + b) s ++ character_of (printing_step quick x).1) (later-steps quick a b s)
    ∙ ap (λ xs. xs ++ character_of (answer quick b (after quick a s))) (later-printed quick a b s)
    ∙ append_assoc (characters_of quick a s) (characters_of quick b (after quick a s)) (character_of (answer quick b (after quick a s)))

-- ## A character at most

one-at-most : (did : Stepped) → length (character_of did) ≤ 1
one-at-most (Ran (Some c)) = omega arith
one-at-most (Ran None) = omega arith
one-at-most Stopped = omega arith
one-at-most Interrupted = omega arith
one-at-most Halted = omega arith
one-at-most (Unassigned word) = omega arith

pub few-printed : (quick : Bool) (k : ℕ) (s : State) → length (characters_of quick k s) ≤ k
unfolding after characters_of
few-printed quick zero s = omega arith
few-printed quick (suc k) s =
    omega (arith, few-printed quick k s, one-at-most (answer quick k s), length-append (characters_of quick k s) (character_of (answer quick k s)))

pub few-characters : (changes : List Change) (first : State) → length (characters_after changes first) ≤ length changes
few-characters [] first = omega arith
few-characters (Step quick ∷ earlier) first =
    omega (
      arith,
      few-characters earlier first,
      one-at-most (printing_step quick (state_after earlier first)).1,
      length-append (characters_after earlier first) (character_of (printing_step quick (state_after earlier first)).1),
    )
few-characters (Key character ∷ earlier) first = omega (arith, few-characters earlier first, ap (λ xs. length xs) (append-nil (characters_after earlier first)))
few-characters (Deposit cell word ∷ earlier) first = omega (arith, few-characters earlier first, ap (λ xs. length xs) (append-nil (characters_after earlier first)))
few-characters (Switches word ∷ earlier) first = omega (arith, few-characters earlier first, ap (λ xs. length xs) (append-nil (characters_after earlier first)))
few-characters (Start cell ∷ earlier) first = omega (arith, few-characters earlier first, ap (λ xs. length xs) (append-nil (characters_after earlier first)))

-- ## A step

after-one : (quick : Bool) (s : State) → after quick 1 s ≡ (printing_step quick s).0
unfolding after
after-one quick s = refl

pub printed-one : (quick : Bool) (s : State) → characters_of quick 1 s ≡ character_of (printing_step quick s).1
unfolding after characters_of
printed-one quick s = refl

pub after-step : (quick : Bool) (s now : State) → now ≡ (printing_step quick s).0 → now ≡ after quick 1 s
after-step quick s now e = e ∙ sym (after-one quick s)
