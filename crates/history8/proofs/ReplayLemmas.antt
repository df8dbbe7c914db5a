-- Changes that are made again.
use Rattle.std.proofs.Common.{◌≡◌, ℕ, suc, ◌+◌, ◌-◌, ◌<◌, ◌≤◌, Bool, true, false, List, [], ◌++◌, length, get_or, refl, ap, sym, subst, ◌∙◌, append-nil, arith}
use Rattle.std.proofs.lemmas.List.{length-append}
use Rattle.cpu8.specs.State.{State}
use Rattle.cpu8.specs.Go.{after, characters_of, printing_step}
use Rattle.history8.specs.Changes.{Change, ready}
use Rattle.history8.specs.History.{state_after, characters_after}
use Rattle.history8.specs.Entries.{with_entry, changes_of, oldest, IsPlace, is_no_step}
use Rattle.history8.specs.EntrySteps.{MakesAgain}
use Rattle.history8.specs.Stops.{Condition, holds_of}
use Rattle.history8.specs.Steps.{FindsNext, MakesSteps, holds_after, holds_at}
use Rattle.history8.specs.declared.entries.Entry.{Entry}
use Rattle.history8.specs.declared.entries.Entry.TheVariants as kept
use Rattle.history8.proofs.PlaceLemmas.{place-steps, place-entry}
use Rattle.history8.proofs.StateLemmas.{after-steps, printed-steps, few-printed}

pub printed-len : (old new more : List ℕ) → new ≡ old ++ more → old ≡ [] → length new ≡ length more
printed-len old new more printed none = ap (λ xs. length xs) printed ∙ ap (λ xs. length (xs ++ more)) none

-- ## Changes made

pub made-none : (entries : List Entry) (count : ℕ) (s : State) → MakesAgain entries count count s s 0
made-none entries count s = λ first e. (e, omega arith)

pub made-more : (entries : List Entry) (a b c : ℕ) (s t u : State) (n m : ℕ) → MakesAgain entries a b s t n → MakesAgain entries b c t u m
    → MakesAgain entries a c s u (n + m)
made-more entries a b c s t u n m one two = λ first e.
    let x = one first e in
    let y = two first x.0 in
    (y.0, omega (arith, x.1, y.1))

-- a part of them
pub record MadePart (condition : Condition) (entries : List Entry) (from to entry steps : ℕ) (before now : State) (characters : ℕ) (is_met : Bool) : Type 0 where
  pub place : IsPlace entries to entry steps
  pub made : MakesAgain entries from to before now characters
  pub found : FindsNext condition entries from to before is_met
  pub few : from + characters ≤ to

-- the state after so many steps from a place
steps-state : (entries : List Entry) (count n k : ℕ) (quick : Bool) (all s : ℕ) (first before : State) → IsPlace entries count n k → n < length entries
    → kept.Steps quick all ≡ get_or entries n (kept.Steps quick all) → k + s ≤ all → before ≡ state_after (oldest count (changes_of entries)) first
    → state_after (oldest (count + s) (changes_of entries)) first ≡ after quick s before
steps-state entries count n k quick all s first before place within at room e =
    ap (λ xs. state_after xs first) (place-steps entries count n k quick all s place within at room).1
    ∙ after-steps quick s (oldest count (changes_of entries)) first
    ∙ ap (λ x. after quick s x) (sym e)

steps-printed : (entries : List Entry) (count n k : ℕ) (quick : Bool) (all s : ℕ) (first before : State) → IsPlace entries count n k → n < length entries
    → kept.Steps quick all ≡ get_or entries n (kept.Steps quick all) → k + s ≤ all → before ≡ state_after (oldest count (changes_of entries)) first
    → length (characters_after (oldest (count + s) (changes_of entries)) first)
    ≡ length (characters_after (oldest count (changes_of entries)) first) + length (characters_of quick s before)
steps-printed entries count n k quick all s first before place within at room e =
    ap (λ xs. length (characters_after xs first)) (place-steps entries count n k quick all s place within at room).1
    ∙ ap (λ xs. length xs) (printed-steps quick s (oldest count (changes_of entries)) first)
    ∙ ap (λ x. length (characters_after (oldest count (changes_of entries)) first ++ characters_of quick s x)) (sym e)
    ∙ length-append (characters_after (oldest count (changes_of entries)) first) (characters_of quick s before)

-- whether a condition holds after one of them
steps-hold : (condition : Condition) (entries : List Entry) (count n k : ℕ) (quick : Bool) (all j : ℕ) (first before : State) → IsPlace entries count n k → n < length entries
    → kept.Steps quick all ≡ get_or entries n (kept.Steps quick all) → k + suc j ≤ all → before ≡ state_after (oldest count (changes_of entries)) first
    → holds_at condition entries first (count + suc j) ≡ holds_after condition quick before j
unfolding after
steps-hold condition entries count n k quick all j first before place within at room e =
    ap (λ xs. holds_of condition xs first) (place-steps entries count n k quick all (suc j) place within at room).1
    ∙ ap (λ s. condition (ready quick s) (printing_step quick s).1 (printing_step quick s).0)
    (after-steps quick j (oldest count (changes_of entries)) first ∙ ap (λ s. after quick j s) (sym e))

steps-made : (condition : Condition) (entries : List Entry) (count n k : ℕ) (quick : Bool) (all most s : ℕ) (before now : State) (characters : ℕ) (is_met : Bool)
    → IsPlace entries count n k → n < length entries → kept.Steps quick all ≡ get_or entries n (kept.Steps quick all) → k + s ≤ all
    → MakesSteps condition quick most before now s is_met → characters ≡ length (characters_of quick s before)
    → MadePart condition entries count (count + s) n (k + s) before now characters is_met
steps-made condition entries count n k quick all most s before now characters is_met place within at room steps printed = record {
  place = (place-steps entries count n k quick all s place within at room).0;
  made = λ first e. (
    steps.made.state ∙ sym (steps-state entries count n k quick all s first before place within at room e),
    steps-printed entries count n k quick all s first before place within at room e
        ∙ ap (λ m. length (characters_after (oldest count (changes_of entries)) first) + m) (sym printed),
  );
  found = λ first e. (
    λ m low high.
        let j = m - count - 1 in
        let is : count + suc j ≡ m = omega (arith, low) in
        let less : suc j < s = omega (arith, low, high) in
        let fits : k + suc j ≤ all = omega (arith, less, room) in
        ap (λ i. holds_at condition entries first i) (sym is)
        ∙ steps-hold condition entries count n k quick all j first before place within at fits e
        ∙ (steps.made.on j less).1,
    let j = s - 1 in
        let is : suc j ≡ s = omega (arith, steps.made.some) in
        let fits : k + suc j ≤ all = omega (arith, is, room) in
        steps.last j is
        ∙ sym (steps-hold condition entries count n k quick all j first before place within at fits e)
        ∙ ap (λ i. holds_at condition entries first (count + i)) is,
  );
  few = omega (arith, few-printed quick s before, printed);
}

-- as the code gives it
pub part-by-steps : (condition : Condition) (entries : List Entry) (from count n k to entry steps : ℕ) (next : Entry) (quick : Bool) (all most s : ℕ) (before now : State) (characters : ℕ) (is_met : Bool)
    → IsPlace entries count n k → n < length entries → next ≡ get_or entries n next → next ≡ kept.Steps quick all → k + s ≤ all
    → MakesSteps condition quick most before now s is_met → characters ≡ length (characters_of quick s before)
    → count ≡ from → to ≡ count + s → entry ≡ n → steps ≡ k + s
    → MadePart condition entries from to entry steps before now characters is_met
part-by-steps condition entries from count n k to entry steps next quick all most s before now characters is_met place within at is room made printed e-from e-to e-entry e-steps =
    let part = steps-made condition entries count n k quick all most s before now characters is_met place within (subst (λ x. x ≡ get_or entries n x) is at) room made printed in
    subst (λ f. MadePart condition entries f to entry steps before now characters is_met) e-from
    (subst (λ t. MadePart condition entries count t entry steps before now characters is_met) (sym e-to)
    (subst (λ i. MadePart condition entries count (count + s) i steps before now characters is_met) (sym e-entry)
    (subst (λ j. MadePart condition entries count (count + s) n j before now characters is_met) (sym e-steps) part)))

record MadeEntry (condition : Condition) (entry : Entry) (earlier : List Change) (first now : State) : Type 0 where
  state : now ≡ state_after (with_entry entry earlier) first
  printed : characters_after (with_entry entry earlier) first ≡ characters_after earlier first
  holds : false ≡ holds_of condition (with_entry entry earlier) first

entry-made : (condition : Condition) (entry : Entry) (earlier : List Change) (first before now : State) → is_no_step entry ≡ true → before ≡ state_after earlier first
    → now ≡ state_after (with_entry entry []) before → MadeEntry condition entry earlier first now
entry-made condition (kept.Steps quick count) earlier first before now no_step e made = cc
entry-made condition (kept.Key character) earlier first before now no_step e made =
    record { state = made ∙ ap (λ s. state_after (with_entry (kept.Key character) []) s) e; printed = append-nil (characters_after earlier first); holds = refl }
entry-made condition (kept.Deposit cell word) earlier first before now no_step e made =
    record { state = made ∙ ap (λ s. state_after (with_entry (kept.Deposit cell word) []) s) e; printed = append-nil (characters_after earlier first); holds = refl }
entry-made condition (kept.Switches word) earlier first before now no_step e made =
    record { state = made ∙ ap (λ s. state_after (with_entry (kept.Switches word) []) s) e; printed = append-nil (characters_after earlier first); holds = refl }
entry-made condition (kept.Start cell) earlier first before now no_step e made =
    record { state = made ∙ ap (λ s. state_after (with_entry (kept.Start cell) []) s) e; printed = append-nil (characters_after earlier first); holds = refl }

change-made : (condition : Condition) (entries : List Entry) (count n k : ℕ) (entry : Entry) (before now : State)
    → IsPlace entries count n k → n < length entries → entry ≡ get_or entries n entry → is_no_step entry ≡ true
    → now ≡ state_after (with_entry entry []) before → MadePart condition entries count (count + 1) (n + 1) 0 before now 0 false
change-made condition entries count n k entry before now place within at no_step state =
    let on = place-entry entries count n k entry place within at no_step in
    let earlier = oldest count (changes_of entries) in
    record {
      place = on.0;
      made = λ first e.
          let made = entry-made condition entry earlier first before now no_step e state in (
            made.state ∙ ap (λ xs. state_after xs first) (sym on.1),
            omega (arith, ap (λ xs. length xs) made.printed, ap (λ xs. length (characters_after xs first)) on.1),
          );
      found = λ first e. (
        λ m low high. absurd (omega (arith, low, high)),
        (entry-made condition entry earlier first before now no_step e state).holds ∙ ap (λ xs. holds_of condition xs first) (sym on.1),
      );
      few = omega arith;
    }

pub part-by-change : (condition : Condition) (entries : List Entry) (from count n k to entry steps : ℕ) (next : Entry) (before now : State)
    → IsPlace entries count n k → n < length entries → next ≡ get_or entries n next → is_no_step next ≡ true
    → now ≡ state_after (with_entry next []) before → count ≡ from → to ≡ count + 1 → entry ≡ n + 1 → steps ≡ 0
    → MadePart condition entries from to entry steps before now 0 false
part-by-change condition entries from count n k to entry steps next before now place within at no_step state e-from e-to e-entry e-steps =
    let made = change-made condition entries count n k next before now place within at no_step state in
    subst (λ f. MadePart condition entries f to entry steps before now 0 false) e-from
    (subst (λ t. MadePart condition entries count t entry steps before now 0 false) (sym e-to)
    (subst (λ i. MadePart condition entries count (count + 1) i steps before now 0 false) (sym e-entry)
    (subst (λ j. MadePart condition entries count (count + 1) (n + 1) j before now 0 false) (sym e-steps) made)))
