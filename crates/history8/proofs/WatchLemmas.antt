-- Steps up to one of which a condition holds.
use Rattle.std.proofs.Common.{◌≡◌, ℕ, zero, suc, ◌+◌, ◌-◌, ◌<◌, ◌≤◌, Bool, true, false, not, if◌then◌else◌, List, ◌++◌, length, Option, Some, None, refl, ap, sym, subst, ◌∙◌, append_assoc, append-nil, arith}
use Rattle.std.proofs.lemmas.List.{length-append}
use Rattle.cpu8.specs.State.{State}
use Rattle.cpu8.specs.Go as go
use Rattle.cpu8.specs.Go.{IsGo, after, answer, character_of, characters_of, printing_step}
use Rattle.cpu8.specs.declared.outcomes.Stepped.{Stepped}
use Rattle.cpu8.specs.declared.outcomes.Why.{Why}
use Rattle.history8.specs.Changes.{ready}
use Rattle.history8.specs.Stops.{Condition, at_break, ending}
use Rattle.history8.specs.Steps.{MakesSteps, RunsSteps, holds_after}
use Rattle.history8.specs.declared.outcomes.End.{End}
use Rattle.history8.specs.declared.outcomes.End.TheVariants as ends
use Rattle.history8.proofs.RunLemmas.{go-none, still-runs}
use Rattle.history8.proofs.StateLemmas.{few-printed}

-- ## One by one

-- no step so far was the last
pub record Watched (condition : Condition) (quick : Bool) (s now : State) (count : ℕ) : Type 0 where
  pub state : now ≡ after quick count s
  pub on : (k : ℕ) → k < count → ((after quick (suc k) s).running ≡ true) × (holds_after condition quick s k ≡ false)

pub watched-none : (condition : Condition) (quick : Bool) (s : State) → Watched condition quick s s 0
unfolding after
watched-none condition quick s = record { state = refl; on = λ k below. absurd (omega (arith, below)) }

next-state : (quick : Bool) (s mid now : State) (count : ℕ) → mid ≡ after quick count s → now ≡ (printing_step quick mid).0 → now ≡ after quick (suc count) s
unfolding after
next-state quick s mid now count e step = step ∙ ap (λ x. (printing_step quick x).0) e

next-met : (condition : Condition) (quick : Bool) (s mid now : State) (count : ℕ) (is_met : Bool) → mid ≡ after quick count s → now ≡ (printing_step quick mid).0
    → is_met ≡ condition (ready quick mid) (printing_step quick mid).1 now → is_met ≡ holds_after condition quick s count
unfolding after
next-met condition quick s mid now count is_met e step met =
    met ∙ ap (λ x. condition (ready quick mid) (printing_step quick mid).1 x) step
    ∙ ap (λ x. condition (ready quick x) (printing_step quick x).1 (printing_step quick x).0) e

-- by cases on how far a number is below another
last-or : (P : ℕ → Type 0) (b j d : ℕ) → d ≡ b - j → j < b + 1 → (j < b → P j) → P b → P j
last-or P b j zero e high less here = let same : b ≡ j = omega (arith, e, high) in subst P same here
last-or P b j (suc d) e high less here = less (omega (arith, e))

pub watched-next : (condition : Condition) (quick : Bool) (s mid now : State) (count next : ℕ) (is_met : Bool) → Watched condition quick s mid count
    → now ≡ (printing_step quick mid).0 → is_met ≡ condition (ready quick mid) (printing_step quick mid).1 now → is_met ≡ false → now.running ≡ true → next ≡ count + 1
    → Watched condition quick s now next
watched-next condition quick s mid now count next is_met way step met none runs e =
    let is : next ≡ suc count = omega (arith, e) in
    let state = next-state quick s mid now count way.state step in
    record {
      state = state ∙ ap (λ n. after quick n s) (sym is);
      on = λ k below. last-or (λ j. ((after quick (suc j) s).running ≡ true) × (holds_after condition quick s j ≡ false)) count k (count - k) refl (omega (arith, below, e)) (λ less. way.on k less)
          (ap (λ x. x.running) (sym state) ∙ runs, sym (next-met condition quick s mid now count is_met way.state step met) ∙ none);
    }

pub watched-end : (condition : Condition) (quick : Bool) (s mid now : State) (count next most : ℕ) (is_met : Bool) → Watched condition quick s mid count → count < most
    → now ≡ (printing_step quick mid).0 → is_met ≡ condition (ready quick mid) (printing_step quick mid).1 now → next ≡ count + 1
    → MakesSteps condition quick most s now next is_met
watched-end condition quick s mid now count next most is_met way less step met e =
    let is : next ≡ suc count = omega (arith, e) in
    record {
      made = record {
        some = omega (arith, e);
        within = omega (arith, e, less);
        state = next-state quick s mid now count way.state step ∙ ap (λ n. after quick n s) (sym is);
        on = λ k below. way.on k (omega (arith, below, e));
      };
      last = λ k last.
          let same : count ≡ k = omega (arith, last, e) in
          next-met condition quick s mid now count is_met way.state step met ∙ ap (λ n. holds_after condition quick s n) same;
    }

pub watched-all : (condition : Condition) (quick : Bool) (s now : State) (count most : ℕ) → Watched condition quick s now count → 0 < most → most ≤ count → count ≤ most
    → MakesSteps condition quick most s now count false
watched-all condition quick s now count most way some all within = record {
  made = record {
    some = omega (arith, some, all);
    within = within;
    state = way.state;
    on = λ k below. way.on k (omega (arith, below));
  };
  last = λ k last. sym (way.on k (omega (arith, last))).1;
}

pub none-printed : (quick : Bool) (s : State) (old : List ℕ) → old ≡ old ++ characters_of quick 0 s
unfolding characters_of
none-printed quick s old = sym (append-nil old)

pub printed-next : (quick : Bool) (s mid : State) (count next : ℕ) (did : Stepped) (old printed new : List ℕ) → printed ≡ old ++ characters_of quick count s → mid ≡ after quick count s
    → did ≡ (printing_step quick mid).1 → new ≡ printed ++ character_of did → next ≡ count + 1 → new ≡ old ++ characters_of quick next s
unfolding after characters_of
printed-next quick s mid count next did old printed new so_far e was push e-next =
    let is : next ≡ suc count = omega (arith, e-next) in
    push ∙ ap (λ xs. xs ++ character_of did) so_far ∙ ap (λ d. (old ++ characters_of quick count s) ++ character_of d) (was ∙ ap (λ x. (printing_step quick x).1) e)
    ∙ append_assoc old (characters_of quick count s) (character_of (answer quick count s))
    ∙ ap (λ n. old ++ characters_of quick n s) (sym is)

pub printed-few : (quick : Bool) (s : State) (count : ℕ) (old printed : List ℕ) → printed ≡ old ++ characters_of quick count s → length printed ≤ length old + count
printed-few quick s count old printed e = omega (arith, ap (λ xs. length xs) e, length-append old (characters_of quick count s), few-printed quick count s)

-- ## By a go of the processor

running-go : (runs : Bool) → (let w : Option Why = if runs then None else Some Why.Halt in w) ≡ None → runs ≡ true
running-go true e = refl
running-go false e = cc

first-runs : (quick : Bool) (breaks : List Bool) (s : State) → go.ending quick breaks s 0 ≡ None → s.running ≡ true
unfolding go.ending
first-runs quick breaks s none = running-go s.running none

not-met : (runs met : Bool) → (let e : Option End = if not runs then Some ends.Stopped else if met then Some ends.Met else None in e) ≡ None → met ≡ false
not-met true true e = cc
not-met true false e = refl
not-met false met e = cc

holds-not : (quick : Bool) (condition : Condition) (s : State) (k : ℕ) → ending quick condition s (suc k) ≡ None → holds_after condition quick s k ≡ false
holds-not quick condition s k none = not-met (after quick (suc k) s).running (holds_after condition quick s k) none

pub go-steps : (quick : Bool) (breaks : List Bool) (s now : State) (n steps : ℕ) (why : Why) → IsGo quick breaks s n steps why → now ≡ after quick steps s → 0 < steps
    → RunsSteps (at_break breaks) quick n s now steps
go-steps quick breaks s now n steps why is state some =
    let runs = first-runs quick breaks s (is.least 0 some) in
    let none = go-none quick breaks s steps runs is.least in
    record {
      some = some;
      within = is.within;
      state = state;
      on = λ k below. (still-runs quick (at_break breaks) s (suc k) (none (suc k) below), holds-not quick (at_break breaks) s k (none (suc k) below));
    }

-- a step where a go made none
pub go-step : (quick : Bool) (breaks : List Bool) (s same now : State) (n steps : ℕ) → same ≡ after quick steps s → steps ≡ 0 → now ≡ (printing_step quick same).0 → 0 < n
    → RunsSteps (at_break breaks) quick n s now 1
go-step quick breaks s same now n steps e none step some =
    record {
      some = omega arith;
      within = omega (arith, some);
      state = next-state quick s same now 0 (e ∙ ap (λ k. after quick k s) none) step;
      on = λ k below. absurd (omega (arith, below));
    }
