-- Runs up to where something ends them.
use Rattle.std.proofs.Common.{◌≡◌, ℕ, zero, suc, ◌+◌, ◌-◌, ◌<◌, ◌≤◌, Bool, true, false, not, ◌&&◌, if◌then◌else◌, List, Option, Some, None, refl, ap, sym, subst, ◌∙◌, arith}
use Rattle.cpu8.specs.State.{State, next_cell, printer_done}
use Rattle.cpu8.specs.Laws.{runs_on}
use Rattle.cpu8.specs.Go as go
use Rattle.cpu8.specs.Go.{after, answer, reason, is_break, printing_step, IsGo}
use Rattle.cpu8.specs.declared.outcomes.Stepped.{Stepped}
use Rattle.cpu8.specs.declared.outcomes.Stepped.TheVariants.{Stopped, Interrupted, Ran, Halted, Unassigned}
use Rattle.cpu8.specs.declared.outcomes.Why.{Why}
use Rattle.cpu8.proofs.StepLemmas.{step-keeps}
use Rattle.history8.specs.Changes.{ready}
use Rattle.history8.specs.History.{History, machine_of, steps_before, with_steps}
use Rattle.history8.specs.Stops.{Condition, stop_after, ending, EndsRun, IsRunTo, at_break}
use Rattle.history8.specs.Steps.{EndsPart, IsPartOfRun, MakesSteps, RunsSteps, holds_after, is_limit, end_after}
use Rattle.history8.specs.declared.outcomes.End.{End}
use Rattle.history8.specs.declared.outcomes.End.TheVariants as ends
use Rattle.history8.proofs.EntryLemmas.{steps-more}
use Rattle.history8.proofs.StateLemmas.{after-steps, later-steps}
use Rattle.history8.proofs.HaltLemmas.{is_stop, step-goes}

-- ## A machine that runs

running-of : (runs met : Bool) → (let e : Option End = if not runs then Some ends.Stopped else if met then Some ends.Met else None in e) ≡ None → runs ≡ true
running-of true met e = refl
running-of false met e = cc

running-first : (runs : Bool) → (let e : Option End = if runs then None else Some ends.Stopped in e) ≡ None → runs ≡ true
running-first true e = refl
running-first false e = cc

first-runs : (runs : Bool) → runs ≡ true → (let e : Option End = if runs then None else Some ends.Stopped in e) ≡ None
first-runs true e = refl
first-runs false e = cc

-- a machine that no reason stopped runs
pub still-runs : (quick : Bool) (condition : Condition) (s : State) (k : ℕ) → ending quick condition s k ≡ None → (after quick k s).running ≡ true
unfolding after
still-runs quick condition s zero none = running-first s.running none
still-runs quick condition s (suc k) none =
    running-of (after quick (suc k) s).running (condition (ready quick (after quick k s)) (answer quick k s) (after quick (suc k) s)) none

-- later reasons are those of the machine by then
ending-later : (quick : Bool) (condition : Condition) (s : State) (k m : ℕ) → ending quick condition s k ≡ None
    → ending quick condition s (k + m) ≡ ending quick condition (after quick k s) m
unfolding after
ending-later quick condition s k zero none =
    let e : k + zero ≡ k = omega arith in
    ap (λ n. ending quick condition s n) e ∙ none ∙ sym (first-runs (after quick k s).running (still-runs quick condition s k none))
ending-later quick condition s k (suc m) none =
    let e : k + suc m ≡ suc (k + m) = omega arith in
    ap (λ n. ending quick condition s n) e
    ∙ ap (λ x. stop_after condition (ready quick x) (printing_step quick x).1 (printing_step quick x).0) (later-steps quick k m s)

-- ## On the way

-- nothing ended a run so far
pub record OnWay (quick : Bool) (condition : Condition) (s : State) (made : ℕ) : Type 0 where
  pub none : (m : ℕ) → m < made + 1 → ending quick condition s m ≡ None

pub way-begun : (quick : Bool) (condition : Condition) (s : State) → s.running ≡ true → OnWay quick condition s 0
way-begun quick condition s runs = record {
  none = λ m below.
      let e : m ≡ 0 = omega (arith, below) in
      ap (λ n. ending quick condition s n) e ∙ first-runs s.running runs;
}

pub way-runs : (quick : Bool) (condition : Condition) (s now : State) (made : ℕ) → OnWay quick condition s made → now ≡ after quick made s → now.running ≡ true
way-runs quick condition s now made way e = ap (λ x. x.running) e ∙ still-runs quick condition s made (way.none made (omega arith))

-- by cases on how far a number is above another
up-to : (P : ℕ → Type 0) (a m d : ℕ) → d ≡ m - a → (m < a + 1 → P m) → ((j : ℕ) → 0 < j → a + j ≡ m → P (a + j)) → P m
up-to P a m zero e low high = low (omega (arith, e))
up-to P a m (suc d) e low high = let same : a + suc d ≡ m = omega (arith, e) in subst P same (high (suc d) (omega arith) same)

last-or : (P : ℕ → Type 0) (b j d : ℕ) → d ≡ b - j → j < b + 1 → (j < b → P j) → P b → P j
last-or P b j zero e high less here = let same : b ≡ j = omega (arith, e, high) in subst P same here
last-or P b j (suc d) e high less here = less (omega (arith, e))

way-on : (quick : Bool) (condition : Condition) (s : State) (made n steps : ℕ) → OnWay quick condition s made
    → IsPartOfRun quick condition (after quick made s) n steps ends.Limit → OnWay quick condition s (made + steps)
way-on quick condition s made n steps way part = record {
  none = λ m below. up-to (λ i. ending quick condition s i ≡ None) made m (m - made) refl (λ low. way.none m low)
      (λ j some is. ending-later quick condition s made j (way.none made (omega arith))
      ∙ last-or (λ i. ending quick condition (after quick made s) i ≡ None) steps j (steps - j) refl (omega (arith, below, is)) (λ less. part.least j some less) part.last.0);
}

pub way-further : (quick : Bool) (condition : Condition) (s now : State) (made n steps : ℕ) (end : End) → OnWay quick condition s made → now ≡ after quick made s
    → IsPartOfRun quick condition now n steps end → is_limit end ≡ true → OnWay quick condition s (made + steps)
way-further quick condition s now made n steps ends.Stopped way e part limit = cc
way-further quick condition s now made n steps ends.Met way e part limit = cc
way-further quick condition s now made n steps ends.Limit way e part limit =
    way-on quick condition s made n steps way (subst (λ x. IsPartOfRun quick condition x n steps ends.Limit) e part)
way-further quick condition s now made n steps ends.Memory way e part limit = cc

pub part-some : (quick : Bool) (condition : Condition) (now : State) (n steps : ℕ) (end : End) → IsPartOfRun quick condition now n steps end → is_limit end ≡ true → 0 < steps
part-some quick condition now n steps ends.Stopped part limit = cc
part-some quick condition now n steps ends.Met part limit = cc
part-some quick condition now n steps ends.Limit part limit = part.last.1
part-some quick condition now n steps ends.Memory part limit = cc

-- ## The end

least-on : (quick : Bool) (condition : Condition) (s : State) (made n steps : ℕ) (end : End) → OnWay quick condition s made
    → IsPartOfRun quick condition (after quick made s) n steps end → (m : ℕ) → m < made + steps → ending quick condition s m ≡ None
least-on quick condition s made n steps end way part m below =
    up-to (λ i. ending quick condition s i ≡ None) made m (m - made) refl (λ low. way.none m low)
    (λ j some is. ending-later quick condition s made j (way.none made (omega arith)) ∙ part.least j some (omega (arith, below, is)))

ends-run : (quick : Bool) (condition : Condition) (s : State) (made n most steps : ℕ) (end : End) → OnWay quick condition s made → made < most
    → EndsPart (ending quick condition (after quick made s) steps) steps end → is_limit end ≡ false → EndsRun (ending quick condition s (made + steps)) most (made + steps) end
ends-run quick condition s made n most steps ends.Stopped way less last fails = ending-later quick condition s made steps (way.none made (omega arith)) ∙ last
ends-run quick condition s made n most steps ends.Met way less last fails = ending-later quick condition s made steps (way.none made (omega arith)) ∙ last
ends-run quick condition s made n most steps ends.Limit way less last fails = cc
ends-run quick condition s made n most steps ends.Memory way less last fails =
    let e : made + steps ≡ made = omega (arith, last) in
    (ap (λ i. ending quick condition s i) e ∙ way.none made (omega arith), omega (arith, e, less))

pub run-ended : (quick : Bool) (condition : Condition) (s now : State) (made n most steps : ℕ) (end : End) → OnWay quick condition s made → now ≡ after quick made s
    → IsPartOfRun quick condition now n steps end → n ≡ most - made → made < most → is_limit end ≡ false → IsRunTo quick condition s most (made + steps) end
run-ended quick condition s now made n most steps end way e part rest less fails =
    let part = subst (λ x. IsPartOfRun quick condition x n steps end) e part in
    record {
      within = omega (arith, part.within, rest, less);
      least = least-on quick condition s made n steps end way part;
      last = ends-run quick condition s made n most steps end way less part.last fails;
    }

pub run-limit : (quick : Bool) (condition : Condition) (s : State) (made most : ℕ) → OnWay quick condition s made → made ≡ most → IsRunTo quick condition s most most ends.Limit
run-limit quick condition s made most way e = record {
  within = omega arith;
  least = λ m below. way.none m (omega (arith, below, e));
  last = (way.none most (omega (arith, e)), refl);
}

stopped-first : (runs : Bool) → runs ≡ false → (let e : Option End = if runs then None else Some ends.Stopped in e) ≡ Some ends.Stopped
stopped-first true e = cc
stopped-first false e = refl

pub run-stopped : (quick : Bool) (condition : Condition) (s : State) (most : ℕ) → s.running ≡ false → IsRunTo quick condition s most 0 ends.Stopped
run-stopped quick condition s most stopped = record {
  within = omega arith;
  least = λ m below. absurd (omega (arith, below));
  last = stopped-first s.running stopped;
}

-- ## A part of a run

ends-part : (runs met : Bool) (steps : ℕ) → 0 < steps
    → EndsPart (let e : Option End = if not runs then Some ends.Stopped else if met then Some ends.Met else None in e) steps (end_after runs met)
ends-part true true steps some = refl
ends-part true false steps some = (refl, some)
ends-part false met steps some = refl

no-end : (runs met : Bool) → runs ≡ true → met ≡ false → (let e : Option End = if not runs then Some ends.Stopped else if met then Some ends.Met else None in e) ≡ None
no-end true true runs none = cc
no-end true false runs none = refl
no-end false met runs none = cc

part-last : (quick : Bool) (condition : Condition) (n : ℕ) (s now : State) (steps : ℕ) (is_met : Bool) → MakesSteps condition quick n s now steps is_met
    → EndsPart (ending quick condition s steps) steps (end_after now.running is_met)
part-last quick condition n s now zero is_met made = absurd (omega (arith, made.made.some))
part-last quick condition n s now (suc k) is_met made =
    subst (λ x. EndsPart (ending quick condition s (suc k)) (suc k) (end_after x.running is_met)) (sym made.made.state)
    (subst (λ b. EndsPart (ending quick condition s (suc k)) (suc k) (end_after (after quick (suc k) s).running b)) (sym (made.last k refl))
    (ends-part (after quick (suc k) s).running (holds_after condition quick s k) (suc k) (omega arith)))

part-least : (quick : Bool) (condition : Condition) (n : ℕ) (s now : State) (steps : ℕ) → RunsSteps condition quick n s now steps
    → (m : ℕ) → 0 < m → m < steps → ending quick condition s m ≡ None
part-least quick condition n s now steps made zero some below = absurd (omega (arith, some))
part-least quick condition n s now steps made (suc k) some below =
    let on = made.on k below in no-end (after quick (suc k) s).running (holds_after condition quick s k) on.0 on.1

pub part-made : (quick : Bool) (condition : Condition) (s t now : State) (n most steps : ℕ) (runs is_met : Bool) (end : End) → s ≡ t → n ≤ most
    → MakesSteps condition quick n s now steps is_met → runs ≡ now.running → end ≡ end_after runs is_met → IsPartOfRun quick condition t most steps end
part-made quick condition s t now n most steps runs is_met end same less made e-runs e =
    subst (λ x. IsPartOfRun quick condition t most steps x) (ap (λ b. end_after b is_met) (sym e-runs) ∙ sym e)
    (subst (λ x. IsPartOfRun quick condition x most steps (end_after now.running is_met)) same
    (record {
      within = omega (arith, made.made.within, less);
      least = part-least quick condition n s now steps made.made;
      last = part-last quick condition n s now steps is_met made;
    }))

pub part-none : (quick : Bool) (condition : Condition) (s : State) (n : ℕ) → IsPartOfRun quick condition s n 0 ends.Memory
part-none quick condition s n = record {
  within = omega arith;
  least = λ m low high. absurd (omega (arith, low, high));
  last = refl;
}

-- ## A go of the processor

ready-runs : (ends : Bool) (s : State) → s.running ≡ true → (let t : State = if ends then printer_done s else s in t).running ≡ true
ready-runs true s runs = runs
ready-runs false s runs = runs

-- what a step of a machine that runs did, and whether it runs on
goes-on : (quick : Bool) (s : State) → s.running ≡ true → is_stop (printing_step quick s).1 ≡ false
goes-on quick s runs = step-goes (if quick && s.teletype.busy then printer_done s else s) (ready-runs (quick && s.teletype.busy) s runs)

on-by : (quick : Bool) (s : State) → (printing_step quick s).0.running ≡ runs_on (printing_step quick s).1
on-by quick s = (step-keeps (if quick && s.teletype.busy then printer_done s else s)).running

ahead-none : (runs ahead : Bool) → runs ≡ true → (let w : Option Why = if ahead then Some Why.Break else None in w) ≡ None
    → (let e : Option End = if not runs then Some ends.Stopped else if ahead then Some ends.Met else None in e) ≡ None
ahead-none true true runs none = cc
ahead-none true false runs none = refl
ahead-none false ahead runs none = cc

reason-none : (breaks : List Bool) (before : State) (did : Stepped) (now : State) → now.running ≡ runs_on did → is_stop did ≡ false → reason breaks did now ≡ None
    → stop_after (at_break breaks) before did now ≡ None
reason-none breaks before Stopped now runs goes none = cc
reason-none breaks before Interrupted now runs goes none = ahead-none now.running (is_break breaks (next_cell now)) runs none
reason-none breaks before (Ran printed) now runs goes none = ahead-none now.running (is_break breaks (next_cell now)) runs none
reason-none breaks before Halted now runs goes none = cc
reason-none breaks before (Unassigned word) now runs goes none = cc

-- no reason up to a step, by those of the go
pub go-none : (quick : Bool) (breaks : List Bool) (s : State) (steps : ℕ) → s.running ≡ true → ((m : ℕ) → m < steps → go.ending quick breaks s m ≡ None)
    → (m : ℕ) → m < steps → ending quick (at_break breaks) s m ≡ None
unfolding after go.ending
go-none quick breaks s steps runs none zero below = first-runs s.running runs
go-none quick breaks s steps runs none (suc m) below =
    let earlier = go-none quick breaks s steps runs none m (omega (arith, below)) in
    let here = still-runs quick (at_break breaks) s m earlier in
    reason-none breaks (ready quick (after quick m s)) (answer quick m s) (after quick (suc m) s) (on-by quick (after quick m s)) (goes-on quick (after quick m s) here)
    (none (suc m) below)

-- ## Histories of steps

pub steps-joined : (quick : Bool) (a b : ℕ) (h now next : History) → now ≡ with_steps quick a h → next ≡ with_steps quick b now → next ≡ with_steps quick (a + b) h
steps-joined quick a b h now next one two =
    let e : b + a ≡ a + b = omega arith in
    two ∙ ap (λ x. with_steps quick b x) one
    ∙ ap (λ xs. record h { changes = xs }) (sym (steps-more quick a b h.changes) ∙ ap (λ n. steps_before quick n h.changes) e)

pub machine-joined : (quick : Bool) (k : ℕ) (h now : History) → now ≡ with_steps quick k h → machine_of now ≡ after quick k (machine_of h)
machine-joined quick k h now e = ap (λ x. machine_of x) e ∙ after-steps quick k h.changes h.first
