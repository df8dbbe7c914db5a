-- A run, as far as it has come.
use Rattle.std.proofs.Common.{◌≡◌, ℕ, zero, suc, ◌+◌, ◌<◌, ◌≤◌, Bool, true, false, true≢false, ◌&&◌, if◌then◌else◌, List, [], ◌++◌, Option, Some, None, Result, Ok, Err, append-nil, append_assoc, unwrap_or, refl, ap, sym, subst, ◌∙◌, arith, below_more}
use Rattle.cpu8.specs.Go.{character_of}
use Rattle.cpu8.specs.Laws.{runs_on}
use Rattle.cpu8.specs.declared.outcomes.Stepped.{Stepped}
use Rattle.cpu8.specs.declared.outcomes.Stepped.TheVariants.{Stopped, Interrupted, Ran, Halted, Unassigned}
use Rattle.terminal8.specs.Keys.{Keyboard, fresh}
use Rattle.terminal8.specs.Terminal.{visible_characters, has_halted, is_none_left, stop_of}
use Rattle.terminal8.specs.Run.{MayFollow}
use Rattle.terminal8.specs.Absences.{with_absence_if}
use Rattle.terminal8.specs.Papers.{Passes, Holds}
use Rattle.terminal8.specs.RunSteps.{Misses}
use Rattle.terminal8.specs.declared.absences.Absence.{Absence}
use Rattle.terminal8.specs.declared.inputs.Input.{Input}
use Rattle.terminal8.specs.declared.outcomes.TerminalFault.{TerminalFault}
use Rattle.terminal8.specs.declared.outcomes.TerminalFault.TheVariants.{Reader, Writer}
use Rattle.terminal8.specs.declared.keyboards.Form.{Form}
use Rattle.terminal8.specs.declared.outcomes.Ended.{Ended}
use Rattle.terminal8.specs.declared.outcomes.TerminalEnd.{TerminalEnd}
use Rattle.terminal8.specs.declared.outcomes.TerminalEnd.TheVariants as why
use Rattle.terminal8.proofs.ByteLemmas.{consumes_none, passes-none, passes-more, passed}
use Rattle.terminal8.proofs.LookLemmas.{finds-none}
use Rattle.terminal8.proofs.RunLemmas.{IsTaken, halt-keys, limit-keys, may-join, no-keys, none-empty, stop-keys, taken-more}
use Rattle.terminal8.proofs.TerminalLemmas.{shown-more}
use Rattle.terminal8e.specs.Acts.{Acts}
use Rattle.terminal8e.specs.AnyTerminal.{Terminal, new_terminal, after_attention, after_look, after_step, next, later, last_did, characters_of, absences_of, after, GoesUnasked, starves, GoesOn, Ends}
use Rattle.terminal8e.specs.AnyRun.{HasMadeSteps, IsRunOf, IsCut, Meets, Prints, WritesPrinted, RunsProgram}
use Rattle.terminal8e.specs.AnySteps.{Attends, RunsInto}
use Rattle.terminal8e.proofs.TerminalLemmas.{absences-none, absences-next, later-none, later-next, did-none, did-next, printed-none, printed-next}

-- ## How far a run has come

-- So many steps are made, in which these looks were made, and no end came before.
pub record IsAt {S : Type 0} (acts : Acts S) (old : S) (looks : List (Option ℕ)) (over : Bool) (steps : ℕ) (new : S) (since : ℕ) : Type 0 where
  pub at : (more : List (Option ℕ)) → MayFollow over more → later acts steps (new_terminal old (looks ++ more)) ≡ record { machine = new; looks = more; since = since }
  pub goes_on : (more : List (Option ℕ)) → MayFollow over more → (m : ℕ) → m < steps → GoesOn acts (new_terminal old (looks ++ more)) m

-- the last of them is no end
abbrev pub RunsOn : {S : Type 0} → Acts S → S → List (Option ℕ) → Bool → ℕ → Type 0
RunsOn {S} acts old looks over steps = (more : List (Option ℕ)) → MayFollow over more → runs_on (last_did acts steps (new_terminal old (looks ++ more))) ≡ true

-- All that: the run goes on after so many steps.
pub record IsRunning {S : Type 0} (acts : Acts S) (form : Form) (input : Input) (old new : S) (k : Keyboard) (ahead : List ℕ) (over : Bool) (since : ℕ)
    (r r' w w' : Option (List ℕ)) (paper : List ℕ) (absences : List Absence) (steps : ℕ) : Type 0 where
  pub looks : List (Option ℕ)
  pub is_at : IsAt acts old looks over steps new since
  pub runs : RunsOn acts old looks over steps
  pub taken : IsTaken form input k ahead over r r' looks
  pub prints : Prints acts old looks over w w' paper steps
  pub met : Meets acts old looks over absences steps

abbrev is-some : {T : Type 0} → Option T → Bool
is-some None = false
is-some (Some x) = true

pub begun : {S : Type 0} (acts : Acts S) (form : Form) (input : Input) (s : S) (r w : Option (List ℕ)) → acts.is_running s ≡ true
    → IsRunning acts form input s s (fresh form) [] false 0 r r w w [] [] 0
begun {S} acts form input s r w running = record {
  looks = [];
  is_at = record {
    at = λ more _. later-none acts (new_terminal s more);
    goes_on = λ more _ m below. absurd (omega (arith, below));
  };
  runs = λ more _. ap (λ did. runs_on did) (did-none acts (new_terminal s more)) ∙ ap (λ (b : Bool). runs_on (if b then Ran None else Stopped)) running;
  taken = record {
    bytes = [];
    taken = consumes_none r;
    keyboard = refl;
    finds = finds-none input;
    none_only = λ before after is. absurd (none-empty before after is);
    at_end = λ h. absurd (true≢false (sym h));
  };
  prints = λ more _. subst (λ cs. Passes w w [] [] (visible_characters cs)) (sym (printed-none acts (new_terminal s more))) (passes-none w []);
  met = λ more _. sym (absences-none acts (new_terminal s more));
}

-- ## The operator attends

-- more looks were made
joined : {S : Type 0} (acts : Acts S) (old : S) (looks found more : List (Option ℕ)) → new_terminal old ((looks ++ found) ++ more) ≡ new_terminal old (looks ++ (found ++ more))
joined {S} acts old looks found more = ap (λ l. new_terminal old l) (append_assoc looks found more)

taken-next : {S : Type 0} (acts : Acts S) (form : Form) (input : Input) (k k' : Keyboard) (a a' : List ℕ) (over over' : Bool) (s s' : S) (since since' : ℕ) (r r' r'' : Option (List ℕ)) (looks : List (Option ℕ)) (starved : Bool)
    → IsTaken form input k a over r r' looks → (at : Attends acts input k k' a a' over over' s s' since since' r' r'' starved)
    → IsTaken form input k' a' over' r r'' (looks ++ at.found)
taken-next {S} acts form input k k' a a' over over' s s' since since' r r' r'' looks starved i at =
    taken-more form input k k' a a' over over' r r' r'' looks at.found at.keys i at.strikes at.finds at.none_only (at.at_end i.at_end)

-- the step after that
step-at : {S : Type 0} (acts : Acts S) (input : Input) (old s s' new : S) (k k' : Keyboard) (a a' : List ℕ) (over over' : Bool) (since since' : ℕ) (r r' : Option (List ℕ)) (looks : List (Option ℕ)) (steps : ℕ) (starved : Bool)
    → IsAt acts old looks over steps s since → RunsOn acts old looks over steps → (at : Attends acts input k k' a a' over over' s s' since since' r r' starved) → starved ≡ false
    → new ≡ (acts.printing_step s').0 → IsAt acts old (looks ++ at.found) over' (steps + 1) new (since' + 1)
step-at {S} acts input old s s' new k k' a a' over over' since since' r r' looks steps starved i runs at fed new_is = record {
  at = λ more may.
      let may' = may-join over over' at.found more at.stays at.over may in
      later-next acts steps (new_terminal old ((looks ++ at.found) ++ more))
      ∙ ap (λ t. next acts (later acts steps t)) (joined acts old looks at.found more)
      ∙ ap (λ t. next acts t) (i.at (at.found ++ more) may')
      ∙ ap (λ (x : Terminal S). let y : Terminal S = record x { machine = (acts.printing_step x.machine).0; since = x.since + 1 } in y) (at.attends more may)
      ∙ ap (λ (m : S). let y : Terminal S = record { machine = m; looks = more; since = since' + 1 } in y) (sym new_is);
  goes_on = λ more may.
      let may' = may-join over over' at.found more at.stays at.over may in
      subst (λ t. (m : ℕ) → m < steps + 1 → GoesOn acts t m) (sym (joined acts old looks at.found more))
      (below_more _ _ (i.goes_on (at.found ++ more) may') (record {
        runs = runs (at.found ++ more) may';
        fed = ap (λ t. starves acts t) (i.at (at.found ++ more) may') ∙ at.starves_is more may ∙ fed;
      }));
}

-- what it did
step-did : {S : Type 0} (acts : Acts S) (input : Input) (old s s' : S) (k k' : Keyboard) (a a' : List ℕ) (over over' : Bool) (since since' : ℕ) (r r' : Option (List ℕ)) (looks : List (Option ℕ)) (steps : ℕ) (starved : Bool)
    → IsAt acts old looks over steps s since → (at : Attends acts input k k' a a' over over' s s' since since' r r' starved)
    → (more : List (Option ℕ)) → MayFollow over' more → (after_step acts (later acts steps (new_terminal old ((looks ++ at.found) ++ more)))).1 ≡ (acts.printing_step s').1
step-did {S} acts input old s s' k k' a a' over over' since since' r r' looks steps starved i at more may =
    let may' = may-join over over' at.found more at.stays at.over may in
    ap (λ t. (after_step acts (later acts steps t)).1) (joined acts old looks at.found more)
    ∙ ap (λ t. (after_step acts t).1) (i.at (at.found ++ more) may')
    ∙ ap (λ (x : Terminal S). (acts.printing_step x.machine).1) (at.attends more may)

step-last : {S : Type 0} (acts : Acts S) (input : Input) (old s s' : S) (k k' : Keyboard) (a a' : List ℕ) (over over' : Bool) (since since' : ℕ) (r r' : Option (List ℕ)) (looks : List (Option ℕ)) (steps : ℕ) (starved : Bool)
    (did : Stepped) → IsAt acts old looks over steps s since → (at : Attends acts input k k' a a' over over' s s' since since' r r' starved) → did ≡ (acts.printing_step s').1
    → (more : List (Option ℕ)) → MayFollow over' more → last_did acts (steps + 1) (new_terminal old ((looks ++ at.found) ++ more)) ≡ did
step-last {S} acts input old s s' k k' a a' over over' since since' r r' looks steps starved did i at did_is more may =
    did-next acts steps (new_terminal old ((looks ++ at.found) ++ more))
    ∙ step-did acts input old s s' k k' a a' over over' since since' r r' looks steps starved i at more may
    ∙ sym did_is

-- what it printed
step-prints : {S : Type 0} (acts : Acts S) (input : Input) (old s s' : S) (k k' : Keyboard) (a a' : List ℕ) (over over' : Bool) (since since' : ℕ) (r r' w w' w'' w''' : Option (List ℕ)) (p p' p'' : List ℕ)
    (looks : List (Option ℕ)) (steps : ℕ) (starved : Bool) (did : Stepped)
    → IsAt acts old looks over steps s since → Prints acts old looks over w w' p steps → (at : Attends acts input k k' a a' over over' s s' since since' r r' starved)
    → Passes w' w'' p p' [] → did ≡ (acts.printing_step s').1 → Passes w'' w''' p' p'' (visible_characters (character_of did))
    → Prints acts old (looks ++ at.found) over' w w''' p'' (steps + 1)
step-prints {S} acts input old s s' k k' a a' over over' since since' r r' w w' w'' w''' p p' p'' looks steps starved did i prints at none did_is some more may =
    let t = new_terminal old ((looks ++ at.found) ++ more) in
    let did_all = did_is ∙ sym (step-did acts input old s s' k k' a a' over over' since since' r r' looks steps starved i at more may) in
    let before : Passes w w' [] p (visible_characters (characters_of acts steps t)) =
    subst (λ t. Passes w w' [] p (visible_characters (characters_of acts steps t))) (sym (joined acts old looks at.found more))
    (prints (at.found ++ more) (may-join over over' at.found more at.stays at.over may)) in
    subst (λ cs. Passes w w''' [] p'' cs)
    (ap (λ d. visible_characters (characters_of acts steps t) ++ visible_characters (character_of d)) did_all
    ∙ sym (shown-more (characters_of acts steps t) (character_of (after_step acts (later acts steps t)).1))
    ∙ ap (λ cs. visible_characters cs) (sym (printed-next acts steps t)))
    (passes-more w w' w''' [] p p'' (visible_characters (characters_of acts steps t)) (visible_characters (character_of did)) before
    (passes-more w' w'' w''' p p' p'' [] (visible_characters (character_of did)) none some))

-- what is found after it
step-meets : {S : Type 0} (acts : Acts S) (input : Input) (old s s' : S) (k k' : Keyboard) (a a' : List ℕ) (over over' : Bool) (since since' : ℕ) (r r' : Option (List ℕ)) (looks : List (Option ℕ)) (steps : ℕ) (starved : Bool)
    (f f' : List Absence) → IsAt acts old looks over steps s since → Meets acts old looks over f steps → (at : Attends acts input k k' a a' over over' s s' since since' r r' starved)
    → f' ≡ with_absence_if (acts.absence_at s') f → Meets acts old (looks ++ at.found) over' f' (steps + 1)
step-meets {S} acts input old s s' k k' a a' over over' since since' r r' looks steps starved f f' i met at is more may =
    let may' = may-join over over' at.found more at.stays at.over may in
    let t = new_terminal old (looks ++ (at.found ++ more)) in
    is
    ∙ ap (λ x. with_absence_if (acts.absence_at s') x) (met (at.found ++ more) may')
    ∙ ap (λ (x : Terminal S). with_absence_if (acts.absence_at x.machine) (absences_of acts steps t)) (sym (at.attends more may))
    ∙ ap (λ x. with_absence_if (acts.absence_at (after_attention acts x).machine) (absences_of acts steps t)) (sym (i.at (at.found ++ more) may'))
    ∙ sym (absences-next acts steps t)
    ∙ ap (λ x. absences_of acts (steps + 1) x) (sym (joined acts old looks at.found more))

-- ## Whether it was an end

none-some : (why : TerminalEnd) → Some why ≡ None → ⊥
none-some w h = true≢false (ap (λ o. is-some o) h)

goes-by : (did : Stepped) → stop_of did ≡ None → runs_on did ≡ true
goes-by Halted h = absurd (none-some why.Halt h)
goes-by (Unassigned word) h = absurd (none-some why.Unassigned h)
goes-by Stopped h = absurd (none-some why.Halt h)
goes-by Interrupted h = refl
goes-by (Ran printed) h = refl

why-is : (a b : TerminalEnd) → Some a ≡ Some b → a ≡ b
why-is a b h = ap (λ o. unwrap_or o a) h

ends-by : {S : Type 0} (acts : Acts S) (t : Terminal S) (n steps : ℕ) (did : Stepped) (w : TerminalEnd) → last_did acts steps t ≡ did → stop_of did ≡ Some w → Ends acts t n steps w
ends-by {S} acts t n steps Halted w last is = subst (λ x. Ends acts t n steps x) (why-is why.Halt w is) (ap (λ d. has_halted d) last)
ends-by {S} acts t n steps Stopped w last is = subst (λ x. Ends acts t n steps x) (why-is why.Halt w is) (ap (λ d. has_halted d) last)
ends-by {S} acts t n steps (Unassigned word) w last is = subst (λ x. Ends acts t n steps x) (why-is why.Unassigned w is) (word, last)
ends-by {S} acts t n steps Interrupted w last is = absurd (none-some w (sym is))
ends-by {S} acts t n steps (Ran printed) w last is = absurd (none-some w (sym is))

-- ## A run that goes on

-- after a step
pub running-next : {S : Type 0} (acts : Acts S) (form : Form) (input : Input) (old s s' new : S) (k k' : Keyboard) (a a' : List ℕ) (over over' : Bool) (since since' : ℕ)
    (r r' r'' w w' w'' w''' : Option (List ℕ)) (p p' p'' : List ℕ) (f f' : List Absence) (steps : ℕ) (did : Stepped)
    → IsRunning acts form input old s k a over since r r' w w' p f steps → Attends acts input k k' a a' over over' s s' since since' r' r'' false
    → Passes w' w'' p p' [] → new ≡ (acts.printing_step s').0 → did ≡ (acts.printing_step s').1 → Passes w'' w''' p' p'' (visible_characters (character_of did)) → stop_of did ≡ None
    → f' ≡ with_absence_if (acts.absence_at s') f → IsRunning acts form input old new k' a' over' (since' + 1) r r'' w w''' p'' f' (steps + 1)
running-next {S} acts form input old s s' new k k' a a' over over' since since' r r' r'' w w' w'' w''' p p' p'' f f' steps did i at none new_is did_is some goes found = record {
  looks = i.looks ++ at.found;
  is_at = step-at acts input old s s' new k k' a a' over over' since since' r' r'' i.looks steps false i.is_at i.runs at refl new_is;
  runs = λ more may.
      ap (λ d. runs_on d) (step-last acts input old s s' k k' a a' over over' since since' r' r'' i.looks steps false did i.is_at at did_is more may)
      ∙ goes-by did goes;
  taken = taken-next acts form input k k' a a' over over' s s' since since' r r' r'' i.looks false i.taken at;
  prints = step-prints acts input old s s' k k' a a' over over' since since' r' r'' w w' w'' w''' p p' p'' i.looks steps false did i.is_at i.prints at none did_is some;
  met = step-meets acts input old s s' k k' a a' over over' since since' r' r'' i.looks steps false f f' i.is_at i.met at found;
}

-- ## Steps between two looks

waits-not : (asks waits : Bool) → asks ≡ false → (asks && waits) ≡ false
waits-not true waits h = absurd (true≢false h)
waits-not false waits h = refl

and-false : (a b : Bool) → b ≡ false → (a && b) ≡ false
and-false true b h = h
and-false false b h = refl

-- after a step in which the program asks for no key and that prints nothing
unasked-at : {S : Type 0} (acts : Acts S) (old s : S) (looks : List (Option ℕ)) (over : Bool) (steps since : ℕ) → IsAt acts old looks over steps s since
    → RunsOn acts old looks over steps → acts.asks_for_key since s ≡ false → IsAt acts old looks over (steps + 1) (acts.printing_step s).0 (since + 1)
unasked-at {S} acts old s looks over steps since i runs asks = record {
  at = λ more may.
      later-next acts steps (new_terminal old (looks ++ more))
      ∙ ap (λ t. next acts t) (i.at more may)
      ∙ ap (λ (b : Bool). let x : Terminal S = if b then after_look acts s more else record { machine = s; looks = more; since = since } in
      let y : Terminal S = record x { machine = (acts.printing_step x.machine).0; since = x.since + 1 } in y) asks;
  goes_on = λ more may. below_more _ _ (i.goes_on more may) (record {
    runs = runs more may;
    fed = ap (λ t. starves acts t) (i.at more may)
        ∙ and-false (is_none_left more) _ (waits-not (acts.asks_for_key since s) (acts.waits_for_key s) asks);
  });
}

unasked-did : {S : Type 0} (acts : Acts S) (old s : S) (looks : List (Option ℕ)) (over : Bool) (steps since : ℕ) → IsAt acts old looks over steps s since
    → acts.asks_for_key since s ≡ false → (more : List (Option ℕ)) → MayFollow over more
    → (after_step acts (later acts steps (new_terminal old (looks ++ more)))).1 ≡ (acts.printing_step s).1
unasked-did {S} acts old s looks over steps since i asks more may =
    ap (λ t. (after_step acts t).1) (i.at more may)
    ∙ ap (λ (b : Bool). let x : Terminal S = if b then after_look acts s more else record { machine = s; looks = more; since = since } in (acts.printing_step x.machine).1) asks

unasked-prints : {S : Type 0} (acts : Acts S) (old s : S) (looks : List (Option ℕ)) (over : Bool) (steps since : ℕ) (w w' : Option (List ℕ)) (p : List ℕ)
    → IsAt acts old looks over steps s since → acts.asks_for_key since s ≡ false → (acts.printing_step s).1 ≡ Ran None
    → Prints acts old looks over w w' p steps → Prints acts old looks over w w' p (steps + 1)
unasked-prints {S} acts old s looks over steps since w w' p i asks ran prints more may =
    let t = new_terminal old (looks ++ more) in
    subst (λ cs. Passes w w' [] p (visible_characters cs))
    (sym (append-nil (characters_of acts steps t))
    ∙ ap (λ d. characters_of acts steps t ++ character_of d) (sym (unasked-did acts old s looks over steps since i asks more may ∙ ran))
    ∙ sym (printed-next acts steps t))
    (prints more may)

unasked-meets : {S : Type 0} (acts : Acts S) (old s : S) (looks : List (Option ℕ)) (over : Bool) (steps since : ℕ) (f : List Absence) → IsAt acts old looks over steps s since
    → acts.asks_for_key since s ≡ false → acts.absence_at s ≡ None → Meets acts old looks over f steps → Meets acts old looks over f (steps + 1)
unasked-meets {S} acts old s looks over steps since f i asks there met more may =
    let t = new_terminal old (looks ++ more) in
    met more may
    ∙ ap (λ (x : Option Absence). with_absence_if x (absences_of acts steps t)) (sym there)
    ∙ ap (λ (b : Bool). let x : Terminal S = if b then after_look acts s more else record { machine = s; looks = more; since = since } in
    with_absence_if (acts.absence_at x.machine) (absences_of acts steps t)) (sym asks)
    ∙ ap (λ x. with_absence_if (acts.absence_at (after_attention acts x).machine) (absences_of acts steps t)) (sym (i.at more may))
    ∙ sym (absences-next acts steps t)

unasked-next : {S : Type 0} (acts : Acts S) (form : Form) (input : Input) (old s : S) (k : Keyboard) (a : List ℕ) (over : Bool) (since : ℕ)
    (r r' w w' : Option (List ℕ)) (p : List ℕ) (f : List Absence) (steps : ℕ)
    → IsRunning acts form input old s k a over since r r' w w' p f steps → acts.asks_for_key since s ≡ false → (acts.printing_step s).1 ≡ Ran None → acts.absence_at s ≡ None
    → IsRunning acts form input old (acts.printing_step s).0 k a over (since + 1) r r' w w' p f (steps + 1)
unasked-next {S} acts form input old s k a over since r r' w w' p f steps i asks ran there = record {
  looks = i.looks;
  is_at = unasked-at acts old s i.looks over steps since i.is_at i.runs asks;
  runs = λ more may.
      ap (λ d. runs_on d) (did-next acts steps (new_terminal old (i.looks ++ more))
      ∙ unasked-did acts old s i.looks over steps since i.is_at asks more may ∙ ran);
  taken = i.taken;
  prints = unasked-prints acts old s i.looks over steps since w w' p i.is_at asks ran i.prints;
  met = unasked-meets acts old s i.looks over steps since f i.is_at asks there i.met;
}

-- after so many such steps
unasked-more : {S : Type 0} (acts : Acts S) (form : Form) (input : Input) (old s : S) (k : Keyboard) (a : List ℕ) (over : Bool) (since : ℕ)
    (r r' w w' : Option (List ℕ)) (p : List ℕ) (f : List Absence) (steps count : ℕ) → IsRunning acts form input old s k a over since r r' w w' p f steps
    → ((m : ℕ) → m < count → (acts.printing_step (after acts m s)).1 ≡ Ran None)
    → ((m : ℕ) → m < count → acts.asks_for_key (since + m) (after acts m s) ≡ false)
    → ((m : ℕ) → m < count → acts.absence_at (after acts m s) ≡ None)
    → IsRunning acts form input old (after acts count s) k a over (since + count) r r' w w' p f (steps + count)
unfolding after
unasked-more {S} acts form input old s k a over since r r' w w' p f steps zero i answers asks there =
    let e : steps ≡ steps + 0 = omega arith in
    let g : since ≡ since + 0 = omega arith in
    subst (λ (m : ℕ). IsRunning acts form input old s k a over m r r' w w' p f (steps + 0)) g
    (subst (λ (m : ℕ). IsRunning acts form input old s k a over since r r' w w' p f m) e i)
unasked-more {S} acts form input old s k a over since r r' w w' p f steps (suc count) i answers asks there =
    let e : steps + count + 1 ≡ steps + suc count = omega arith in
    let g : since + count + 1 ≡ since + suc count = omega arith in
    let t = after acts count s in
    let before = unasked-more acts form input old s k a over since r r' w w' p f steps count i
    (λ m below. answers m (omega (arith, below))) (λ m below. asks m (omega (arith, below))) (λ m below. there m (omega (arith, below))) in
    let last = unasked-next acts form input old t k a over (since + count) r r' w w' p f (steps + count) before (asks count (omega arith)) (answers count (omega arith)) (there count (omega arith)) in
    subst (λ (m : ℕ). IsRunning acts form input old (acts.printing_step t).0 k a over m r r' w w' p f (steps + suc count)) g
    (subst (λ (m : ℕ). IsRunning acts form input old (acts.printing_step t).0 k a over (since + count + 1) r r' w w' p f m) e last)

pub running-more : {S : Type 0} (acts : Acts S) (form : Form) (input : Input) (old s new : S) (k : Keyboard) (a : List ℕ) (over : Bool) (since : ℕ)
    (r r' w w' : Option (List ℕ)) (p : List ℕ) (f : List Absence) (steps count : ℕ) → IsRunning acts form input old s k a over since r r' w w' p f steps
    → GoesUnasked acts since count s new → IsRunning acts form input old new k a over (since + count) r r' w w' p f (steps + count)
running-more {S} acts form input old s new k a over since r r' w w' p f steps count i goes =
    subst (λ x. IsRunning acts form input old x k a over (since + count) r r' w w' p f (steps + count)) (sym goes.state)
    (unasked-more acts form input old s k a over since r r' w w' p f steps count i goes.answers goes.asks goes.absences)

-- ## The ends of a run

has-made : {S : Type 0} (acts : Acts S) (form : Form) (input : Input) (old new : S) (k : Keyboard) (a : List ℕ) (over : Bool) (since : ℕ) (r r' : Option (List ℕ)) (looks : List (Option ℕ)) (steps : ℕ)
    → IsAt acts old looks over steps new since → IsTaken form input k a over r r' looks → HasMadeSteps acts form input old new r r' looks over steps
has-made {S} acts form input old new k a over since r r' looks steps i t = record {
  bytes = t.bytes;
  ahead = a;
  taken = t.taken;
  finds = t.finds;
  none_only = t.none_only;
  at_end = t.at_end;
  machine = λ more may. ap (λ x. x.machine) (i.at more may);
  looks_left = λ more may. ap (λ x. x.looks) (i.at more may);
}

abbrev has-run : {S : Type 0} (acts : Acts S) (form : Form) (input : Input) (n : ℕ) (old new : S) (k : Keyboard) (a : List ℕ) (over : Bool) (since : ℕ) (r r' : Option (List ℕ)) (looks : List (Option ℕ)) (steps : ℕ) (y : TerminalEnd)
    → IsAt acts old looks over steps new since → IsTaken form input k a over r r' looks → steps ≤ n
    → ((more : List (Option ℕ)) → MayFollow over more → Ends acts (new_terminal old (looks ++ more)) n steps y) → (y ≡ why.Keys → over ≡ true)
    → IsRunOf acts form input n old new r r' (record { steps = steps; why = y })
has-run {S} acts form input n old new k a over since r r' looks steps y i t within ends none = record {
  looks = looks;
  is_over = over;
  made = has-made acts form input old new k a over since r r' looks steps i t;
  run = λ more may. record { within = within; goes_on = i.goes_on more may; ends = ends more may };
  none_left = none;
}

abbrev is-cut : {S : Type 0} (acts : Acts S) (form : Form) (input : Input) (n : ℕ) (old new : S) (k : Keyboard) (a : List ℕ) (over : Bool) (since : ℕ) (r r' : Option (List ℕ)) (looks : List (Option ℕ)) (steps : ℕ)
    → IsAt acts old looks over steps new since → IsTaken form input k a over r r' looks → steps ≤ n → IsCut acts form input n old new r r'
is-cut {S} acts form input n old new k a over since r r' looks steps i t within = record {
  looks = looks;
  is_over = over;
  steps = steps;
  made = has-made acts form input old new k a over since r r' looks steps i t;
  within = within;
  goes_on = i.goes_on;
}

-- the machine stands stopped at first
pub stopped-run : {S : Type 0} (acts : Acts S) (form : Form) (input : Input) (n : ℕ) (s : S) (r w : Option (List ℕ)) (p : List ℕ) (f : List Absence) → p ≡ [] → f ≡ [] → acts.is_running s ≡ false
    → RunsInto acts form input n s s r r w w p f (Ok (record { steps = 0; why = why.Halt }))
stopped-run {S} acts form input n s r w p f none empty stopped = (
  has-run acts form input n s s (fresh form) [] false 0 r r [] 0 why.Halt
      (record { at = λ more _. later-none acts (new_terminal s more); goes_on = λ more _ m below. absurd (omega (arith, below)) })
      (record { bytes = []; taken = consumes_none r; keyboard = refl; finds = finds-none input; none_only = λ before after is. absurd (none-empty before after is); at_end = λ h. absurd (true≢false (sym h)) })
      (omega arith)
      (λ more may.
      ap (λ did. has_halted did) (did-none acts (new_terminal s more))
      ∙ ap (λ (b : Bool). has_halted (if b then Ran None else Stopped)) stopped)
      (λ is. absurd (no-keys why.Halt halt-keys is)),
  λ more _.
      subst (λ (q : List ℕ). Passes w w [] q (visible_characters (characters_of acts 0 (new_terminal s more)))) (sym none)
      (subst (λ cs. Passes w w [] [] (visible_characters cs)) (sym (printed-none acts (new_terminal s more))) (passes-none w [])),
  λ more _. empty ∙ sym (absences-none acts (new_terminal s more)),
)

-- all steps are made
pub limit-run : {S : Type 0} (acts : Acts S) (form : Form) (input : Input) (n : ℕ) (old new : S) (k : Keyboard) (a : List ℕ) (over : Bool) (since : ℕ) (r r' w w' : Option (List ℕ)) (p : List ℕ) (f : List Absence) (steps : ℕ)
    → IsRunning acts form input old new k a over since r r' w w' p f steps → steps ≡ n
    → RunsInto acts form input n old new r r' w w' p f (Ok (record { steps = n; why = why.Limit }))
limit-run {S} acts form input n old new k a over since r r' w w' p f steps i e =
    subst (λ (m : ℕ). RunsInto acts form input n old new r r' w w' p f (Ok (record { steps = m; why = why.Limit }))) e (
      has-run acts form input n old new k a over since r r' i.looks steps why.Limit i.is_at i.taken (omega (arith, e)) (λ more may. (e, i.runs more may))
          (λ is. absurd (no-keys why.Limit limit-keys is)),
      i.prints,
      i.met,
    )

-- looks were made that found no key: the machine is where it was
moved-at : {S : Type 0} (acts : Acts S) (old s : S) (over over' : Bool) (since : ℕ) (looks found : List (Option ℕ)) (steps : ℕ) → IsAt acts old looks over steps s since → found ≡ []
    → (over ≡ true → over' ≡ true) → IsAt acts old (looks ++ found) over' steps s since
moved-at {S} acts old s over over' since looks found steps i none goes =
    subst (λ (l : List (Option ℕ)). IsAt acts old l over' steps s since) (sym (append-nil looks) ∙ ap (λ l. looks ++ l) (sym none)) (record {
      at = λ more may. i.at more (λ h. may (goes h));
      goes_on = λ more may. i.goes_on more (λ h. may (goes h));
    })

moved-prints : {S : Type 0} (acts : Acts S) (old : S) (over over' : Bool) (looks found : List (Option ℕ)) (w w' w'' : Option (List ℕ)) (p p' : List ℕ) (steps : ℕ)
    → Prints acts old looks over w w' p steps → found ≡ [] → (over ≡ true → over' ≡ true) → Passes w' w'' p p' [] → Prints acts old (looks ++ found) over' w w'' p' steps
moved-prints {S} acts old over over' looks found w w' w'' p p' steps prints none goes held =
    subst (λ (l : List (Option ℕ)). Prints acts old l over' w w'' p' steps) (sym (append-nil looks) ∙ ap (λ l. looks ++ l) (sym none))
    (λ more may.
    let printed = visible_characters (characters_of acts steps (new_terminal old (looks ++ more))) in
    subst (λ cs. Passes w w'' [] p' cs) (append-nil printed) (passes-more w w' w'' [] p p' printed [] (prints more (λ h. may (goes h))) held))

moved-meets : {S : Type 0} (acts : Acts S) (old : S) (over over' : Bool) (looks found : List (Option ℕ)) (f : List Absence) (steps : ℕ) → Meets acts old looks over f steps → found ≡ []
    → (over ≡ true → over' ≡ true) → Meets acts old (looks ++ found) over' f steps
moved-meets {S} acts old over over' looks found f steps met none goes =
    subst (λ (l : List (Option ℕ)). Meets acts old l over' f steps) (sym (append-nil looks) ∙ ap (λ l. looks ++ l) (sym none)) (λ more may. met more (λ h. may (goes h)))

-- the keys have ended for a machine that waits for one
pub starved-run : {S : Type 0} (acts : Acts S) (form : Form) (input : Input) (n : ℕ) (old s s' : S) (k k' : Keyboard) (a a' : List ℕ) (over over' : Bool) (since since' : ℕ)
    (r r' r'' w w' w'' : Option (List ℕ)) (p p' : List ℕ) (f : List Absence) (steps : ℕ)
    → IsRunning acts form input old s k a over since r r' w w' p f steps → steps < n → Attends acts input k k' a a' over over' s s' since since' r' r'' true
    → Passes w' w'' p p' [] → RunsInto acts form input n old s' r r'' w w'' p' f (Ok (record { steps = steps; why = why.Keys }))
starved-run {S} acts form input n old s s' k k' a a' over over' since since' r r' r'' w w' w'' p p' f steps i below at held =
    let none = (at.idle refl).1 in
    subst (λ (x : S). RunsInto acts form input n old x r r'' w w'' p' f (Ok (record { steps = steps; why = why.Keys }))) (sym (at.idle refl).0) (
      has-run acts form input n old s k' a' over' since r r'' (i.looks ++ at.found) steps why.Keys
          (moved-at acts old s over over' since i.looks at.found steps i.is_at none at.over)
          (taken-next acts form input k k' a a' over over' s s' since since' r r' r'' i.looks true i.taken at)
          (omega (arith, below))
          (λ more may.
          let may' = may-join over over' at.found more at.stays at.over may in (
            below,
            ap (λ t. runs_on (last_did acts steps t)) (joined acts old i.looks at.found more) ∙ i.runs (at.found ++ more) may',
            ap (λ t. starves acts (later acts steps t)) (joined acts old i.looks at.found more)
                ∙ ap (λ t. starves acts t) (i.is_at.at (at.found ++ more) may') ∙ at.starves_is more may,
          ))
          (λ _. at.none_left refl),
      moved-prints acts old over over' i.looks at.found w w' w'' p p' steps i.prints none at.over held,
      moved-meets acts old over over' i.looks at.found f steps i.met none at.over,
    )

-- a step ends the run
pub ended-run : {S : Type 0} (acts : Acts S) (form : Form) (input : Input) (n : ℕ) (old s s' new : S) (k k' : Keyboard) (a a' : List ℕ) (over over' : Bool) (since since' : ℕ)
    (r r' r'' w w' w'' w''' : Option (List ℕ)) (p p' p'' : List ℕ) (f f' : List Absence) (steps : ℕ) (did : Stepped) (y : TerminalEnd)
    → IsRunning acts form input old s k a over since r r' w w' p f steps → steps < n → Attends acts input k k' a a' over over' s s' since since' r' r'' false
    → Passes w' w'' p p' [] → new ≡ (acts.printing_step s').0 → did ≡ (acts.printing_step s').1 → Passes w'' w''' p' p'' (visible_characters (character_of did)) → stop_of did ≡ Some y
    → f' ≡ with_absence_if (acts.absence_at s') f → RunsInto acts form input n old new r r'' w w''' p'' f' (Ok (record { steps = steps + 1; why = y }))
ended-run {S} acts form input n old s s' new k k' a a' over over' since since' r r' r'' w w' w'' w''' p p' p'' f f' steps did y i below at none new_is did_is some is found = (
  has-run acts form input n old new k' a' over' (since' + 1) r r'' (i.looks ++ at.found) (steps + 1) y
      (step-at acts input old s s' new k k' a a' over over' since since' r' r'' i.looks steps false i.is_at i.runs at refl new_is)
      (taken-next acts form input k k' a a' over over' s s' since since' r r' r'' i.looks false i.taken at)
      (omega (arith, below))
      (λ more may.
      ends-by acts (new_terminal old ((i.looks ++ at.found) ++ more)) n (steps + 1) did y
      (step-last acts input old s s' k k' a a' over over' since since' r' r'' i.looks steps false did i.is_at at did_is more may) is)
      (λ keys. absurd (no-keys y (stop-keys did y is) keys)),
  step-prints acts input old s s' k k' a a' over over' since since' r' r'' w w' w'' w''' p p' p'' i.looks steps false did i.is_at i.prints at none did_is some,
  step-meets acts input old s s' k k' a a' over over' since since' r' r'' i.looks steps false f f' i.is_at i.met at found,
)

-- the writer fails at what a step printed
pub unwritten-run : {S : Type 0} (acts : Acts S) (form : Form) (input : Input) (n : ℕ) (old s s' new : S) (k k' : Keyboard) (a a' : List ℕ) (over over' : Bool) (since since' : ℕ)
    (r r' r'' w w' : Option (List ℕ)) (p : List ℕ) (f : List Absence) (steps : ℕ)
    → IsRunning acts form input old s k a over since r r' w w' p f steps → steps < n → Attends acts input k k' a a' over over' s s' since since' r' r'' false
    → new ≡ (acts.printing_step s').0 → IsCut acts form input n old new r r''
unwritten-run {S} acts form input n old s s' new k k' a a' over over' since since' r r' r'' w w' p f steps i below at new_is =
    is-cut acts form input n old new k' a' over' (since' + 1) r r'' (i.looks ++ at.found) (steps + 1)
    (step-at acts input old s s' new k k' a a' over over' since since' r' r'' i.looks steps false i.is_at i.runs at refl new_is)
    (taken-next acts form input k k' a a' over over' s s' since since' r r' r'' i.looks false i.taken at)
    (omega (arith, below))

-- the operator met a fault
abbrev missed-cut : {S : Type 0} (acts : Acts S) (form : Form) (input : Input) (n : ℕ) (old s : S) (k k' : Keyboard) (a a' : List ℕ) (over : Bool) (since : ℕ) (r r' r'' w w' : Option (List ℕ)) (p : List ℕ) (f : List Absence) (steps : ℕ)
    → (i : IsRunning acts form input old s k a over since r r' w w' p f steps) → steps ≤ n → Misses k k' a a' over r' r'' → IsCut acts form input n old s r r''
missed-cut {S} acts form input n old s k k' a a' over since r r' r'' w w' p f steps i within m =
    is-cut acts form input n old s k' a' over since r r'' (i.looks ++ []) steps
    (moved-at acts old s over over since i.looks [] steps i.is_at refl (λ h. h))
    (taken-more form input k k' a a' over over r r' r'' i.looks [] [] i.taken m.1 (finds-none input) tt (λ h. absurd (true≢false (sym h ∙ m.0))))
    within

missed-runs : {S : Type 0} (acts : Acts S) (form : Form) (input : Input) (n : ℕ) (old s : S) (k k' : Keyboard) (a a' : List ℕ) (over : Bool) (since : ℕ) (r r' r'' w w' w'' : Option (List ℕ)) (p p' : List ℕ) (f : List Absence) (steps : ℕ)
    (fault : TerminalFault) → IsRunning acts form input old s k a over since r r' w w' p f steps → steps ≤ n → Misses k k' a a' over r' r''
    → Holds {A = Bool} w' w'' p p' (Err fault) → RunsInto acts form input n old s r r'' w w'' p' f (Err fault)
missed-runs {S} acts form input n old s k k' a a' over since r r' r'' w w' w'' p p' f steps Reader i within m held = (
  missed-cut acts form input n old s k k' a a' over since r r' r'' w w' p f steps i within m,
  moved-prints acts old over over i.looks [] w w' w'' p p' steps i.prints refl (λ h. h) held,
  moved-meets acts old over over i.looks [] f steps i.met refl (λ h. h),
)
missed-runs {S} acts form input n old s k k' a a' over since r r' r'' w w' w'' p p' f steps Writer i within m held =
    missed-cut acts form input n old s k k' a a' over since r r' r'' w w' p f steps i within m

pub missed-run : {S : Type 0} (acts : Acts S) (form : Form) (input : Input) (n : ℕ) (old s new : S) (k k' : Keyboard) (a a' : List ℕ) (over : Bool) (since : ℕ) (r r' r'' w w' w'' : Option (List ℕ)) (p p' : List ℕ) (f : List Absence) (steps : ℕ)
    (fault : TerminalFault) → IsRunning acts form input old s k a over since r r' w w' p f steps → steps ≤ n → Misses k k' a a' over r' r''
    → Holds {A = Bool} w' w'' p p' (Err fault) → new ≡ s → RunsInto acts form input n old new r r'' w w'' p' f (Err fault)
missed-run {S} acts form input n old s new k k' a a' over since r r' r'' w w' w'' p p' f steps fault i within m held is =
    subst (λ (x : S). RunsInto acts form input n old x r r'' w w'' p' f (Err fault)) (sym is)
    (missed-runs acts form input n old s k k' a a' over since r r' r'' w w' w'' p p' f steps fault i within m held)

-- ## Handing on what is on the paper at last

flushed-prints : {S : Type 0} (acts : Acts S) (old : S) (looks : List (Option ℕ)) (over : Bool) (w w' w'' : Option (List ℕ)) (p p' : List ℕ) (steps : ℕ) → Prints acts old looks over w w' p steps
    → Passes w' w'' p p' [] → p' ≡ [] → WritesPrinted acts old looks over w w'' steps
flushed-prints {S} acts old looks over w w' w'' p p' steps prints held none more may =
    let printed = visible_characters (characters_of acts steps (new_terminal old (looks ++ more))) in
    passed w w'' p' printed (subst (λ cs. Passes w w'' [] p' cs) (append-nil printed) (passes-more w w' w'' [] p p' printed [] (prints more may) held)) none

pub flushed-run : {S : Type 0} (acts : Acts S) (form : Form) (input : Input) (n : ℕ) (old new : S) (r r' w w' w'' : Option (List ℕ)) (p p' : List ℕ) (f : List Absence) (ran : Result Ended TerminalFault)
    → RunsInto acts form input n old new r r' w w' p f ran → Passes w' w'' p p' [] → p' ≡ [] → RunsProgram acts form input n old new r r' w w'' f ran
flushed-run {S} acts form input n old new r r' w w' w'' p p' f (Ok ended) h held none =
    (h.0, flushed-prints acts old h.0.looks h.0.is_over w w' w'' p p' ended.steps h.1 held none, h.2)
flushed-run {S} acts form input n old new r r' w w' w'' p p' f (Err Reader) h held none =
    (h.0, flushed-prints acts old h.0.looks h.0.is_over w w' w'' p p' h.0.steps h.1 held none, h.2)
flushed-run {S} acts form input n old new r r' w w' w'' p p' f (Err Writer) h held none = h

pub cut-run : {S : Type 0} (acts : Acts S) (form : Form) (input : Input) (n : ℕ) (old new : S) (r r' w w' : Option (List ℕ)) (p : List ℕ) (f : List Absence) (ran : Result Ended TerminalFault)
    → RunsInto acts form input n old new r r' w w' p f ran → IsCut acts form input n old new r r'
cut-run {S} acts form input n old new r r' w w' p f (Ok ended) h = record {
  looks = h.0.looks;
  is_over = h.0.is_over;
  steps = ended.steps;
  made = h.0.made;
  within = (h.0.run [] (λ _. refl)).within;
  goes_on = λ more may. (h.0.run more may).goes_on;
}
cut-run {S} acts form input n old new r r' w w' p f (Err Reader) h = h.0
cut-run {S} acts form input n old new r r' w w' p f (Err Writer) h = h
