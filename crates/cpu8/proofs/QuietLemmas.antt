-- Quiet steps of a run.
use Rattle.std.proofs.Common.{◌≡◌, ℕ, zero, suc, ◌+◌, ◌<◌, Bool, true, false, true≢false, ◌&&◌, not, if◌then◌else◌, List, ◌++◌, Option, Some, None, IsSome, unwrap_or, ◌≤◌, append-nil, arith, refl, ap, sym, subst, ◌∙◌, below_more}
use Rattle.std.proofs.lemmas.Option.{none-some}
use Rattle.tty8.specs.Teletype.{is_requesting}
use Rattle.cpu8.specs.State.{State, next_cell, printer_done}
use Rattle.cpu8.specs.Step.{after_instruction, next_word, step}
use Rattle.cpu8.specs.Go.{printing_step, after, answer, break_ahead, reason, ending, IsGo, character_of, characters_of, is_break}
use Rattle.cpu8.specs.QuietSteps.{is_quiet, Stays, Does, Goes, IsQuietStep, AreQuiet}
use Rattle.cpu8.specs.declared.outcomes.Stepped.{Stepped}
use Rattle.cpu8.specs.declared.outcomes.Stepped.TheVariants.{Ran, Stopped, Interrupted, Halted, Unassigned}
use Rattle.cpu8.specs.declared.outcomes.Why.{Why}
use Rattle.cpu8.proofs.GoLemmas.{after-none, after-next, printed-next, ending-next, GoesOn, goes-next}

-- ## A step of a quiet machine is its next instruction

quiet-parts : (runs requests ends : Bool) → (runs && (not requests && not ends)) ≡ true → (runs ≡ true) × (requests ≡ false) × (ends ≡ false)
quiet-parts true false false h = (refl, refl, refl)
quiet-parts true false true h = absurd (true≢false (sym h))
quiet-parts true true ends h = absurd (true≢false (sym h))
quiet-parts false requests ends h = absurd (true≢false (sym h))

none-granted : (on waits held requests : Bool) → (on && requests) ≡ false → (on && (not waits && (not held && requests))) ≡ false
none-granted false waits held requests h = refl
none-granted true waits held true h = absurd (true≢false h)
none-granted true true held false h = refl
none-granted true false true false h = refl
none-granted true false false false h = refl

pub printing_step-quiet : (quick : Bool) (s : State) → is_quiet quick s ≡ true → printing_step quick s ≡ after_instruction s (next_word s)
unfolding step
printing_step-quiet quick s h =
    let parts = quiet-parts s.running (s.interrupts_on && is_requesting s.teletype) (quick && s.teletype.busy) h in
    let none = none-granted s.interrupts_on s.waiting s.held_off (is_requesting s.teletype) parts.1 in
    ap (λ b. step (if b then printer_done s else s)) parts.2 ∙ rw (parts.0, none) refl

-- ## One step more

pub stays-quiet : (quick : Bool) (old new : State) → is_quiet quick old ≡ true → Stays old new → is_quiet quick new ≡ true
stays-quiet quick old new h stays = rw (stays.running, stays.interrupts_on, stays.teletype) h

-- where no field waits for a jump, none does then
pub fields-same : (old new : State) → Stays old new → old.instruction_buffer ≡ old.instruction_field → new.instruction_buffer ≡ new.instruction_field
fields-same old new stays same = stays.buffer ∙ (same ∙ sym (stays.field same))

pub none-quiet : (quick : Bool) (breaks : List Bool) (s : State) → AreQuiet quick breaks s 0
none-quiet quick breaks s m below = absurd (omega (arith, below))

pub after-goes : (quick : Bool) (k : ℕ) (s old new : State) → old ≡ after quick k s → is_quiet quick old ≡ true → Goes old (next_word old) new
    → new ≡ after quick (k + 1) s
after-goes quick k s old new at h goes =
    goes.state ∙ (ap (λ p. p.0) (sym (printing_step-quiet quick old h)) ∙ (ap (λ x. (printing_step quick x).0) at ∙ sym (after-next quick k s)))

pub quiet-goes : (quick : Bool) (breaks : List Bool) (k : ℕ) (s old new : State) → old ≡ after quick k s → is_quiet quick old ≡ true
    → (0 < k → is_break breaks (next_cell old) ≡ false) → Goes old (next_word old) new → AreQuiet quick breaks s k → AreQuiet quick breaks s (k + 1)
quiet-goes quick breaks k s old new at h ahead goes before = below_more _ _ before (record {
  answer = ap (λ x. (printing_step quick x).1) (sym at) ∙ (ap (λ p. p.1) (printing_step-quiet quick old h) ∙ sym goes.answer);
  ahead = λ more. ap (λ x. is_break breaks (next_cell x)) (sym at) ∙ ahead more;
})

goes : (old new : State) (w : ℕ) → Does old w new → Goes old w new
goes old new w does = record { state = does.state; answer = does.answer; quiet = λ quick h. stays-quiet quick old new h does.stays }

pub after-quiet : (quick : Bool) (k : ℕ) (s old new : State) → old ≡ after quick k s → is_quiet quick old ≡ true → Does old (next_word old) new
    → new ≡ after quick (k + 1) s
after-quiet quick k s old new at h does = after-goes quick k s old new at h (goes old new (next_word old) does)

pub quiet-next : (quick : Bool) (breaks : List Bool) (k : ℕ) (s old new : State) → old ≡ after quick k s → is_quiet quick old ≡ true
    → (0 < k → is_break breaks (next_cell old) ≡ false) → Does old (next_word old) new → AreQuiet quick breaks s k → AreQuiet quick breaks s (k + 1)
quiet-next quick breaks k s old new at h ahead does before = quiet-goes quick breaks k s old new at h ahead (goes old new (next_word old) does) before

-- ## Quiet steps after others

pub after-add : (quick : Bool) (a b : ℕ) (s : State) → after quick (a + b) s ≡ after quick b (after quick a s)
after-add quick a zero s = let e : a + 0 ≡ a = omega arith in ap (λ k. after quick k s) e ∙ sym (after-none quick (after quick a s))
after-add quick a (suc b) s =
    let e : a + suc b ≡ a + b + 1 = omega arith in
    let f : b + 1 ≡ suc b = omega arith in
    ap (λ k. after quick k s) e ∙ (after-next quick (a + b) s ∙ (ap (λ x. (printing_step quick x).0) (after-add quick a b s)
    ∙ (sym (after-next quick b (after quick a s)) ∙ ap (λ k. after quick k (after quick a s)) f)))

-- a later step answers as it does from the state before the quiet ones
answer-add : (quick : Bool) (a b : ℕ) (s : State) → answer quick (a + b) s ≡ answer quick b (after quick a s)
answer-add quick a b s = ap (λ x. (printing_step quick x).1) (after-add quick a b s)

fewer-quiet : (quick : Bool) (breaks : List Bool) (s : State) (k : ℕ) → AreQuiet quick breaks s (suc k) → AreQuiet quick breaks s k
fewer-quiet quick breaks s k quiet m below = quiet m (omega (arith, below))

quiet-following : (quick : Bool) (breaks : List Bool) (s : State) (a b : ℕ) → (0 < a → is_break breaks (next_cell (after quick a s)) ≡ false)
    → IsQuietStep quick breaks (after quick a s) b → IsQuietStep quick breaks s (a + b)
quiet-following quick breaks s a zero ahead step =
    let e : a + 0 ≡ a = omega arith in record {
      answer = answer-add quick a zero s ∙ step.answer;
      ahead = λ more. ap (λ k. is_break breaks (next_cell (after quick k s))) e ∙ ahead (omega (arith, more));
    }
quiet-following quick breaks s a (suc b) ahead step = record {
  answer = answer-add quick a (suc b) s ∙ step.answer;
  ahead = λ _. ap (λ x. is_break breaks (next_cell x)) (after-add quick a (suc b) s) ∙ step.ahead (omega arith);
}

quiet-add : (quick : Bool) (breaks : List Bool) (s : State) (a b : ℕ) → AreQuiet quick breaks s a
    → (0 < a → is_break breaks (next_cell (after quick a s)) ≡ false) → AreQuiet quick breaks (after quick a s) b → AreQuiet quick breaks s (a + b)
quiet-add quick breaks s a zero before ahead quiet m below = before m (omega (arith, below))
quiet-add quick breaks s a (suc b) before ahead quiet m below =
    below_more (λ m. IsQuietStep quick breaks s m) (a + b)
    (quiet-add quick breaks s a b before ahead (fewer-quiet quick breaks (after quick a s) b quiet))
    (quiet-following quick breaks s a b ahead (quiet b (omega arith))) m (omega (arith, below))

-- quiet steps, and more from the state that they left
pub quiet-run : (quick : Bool) (breaks : List Bool) (a b : ℕ) (s mid : State) → mid ≡ after quick a s → AreQuiet quick breaks s a
    → (0 < a → is_break breaks (next_cell mid) ≡ false) → AreQuiet quick breaks mid b → AreQuiet quick breaks s (a + b)
quiet-run quick breaks a b s mid at before ahead quiet =
    quiet-add quick breaks s a b before (λ more. ap (λ x. is_break breaks (next_cell x)) (sym at) ∙ ahead more)
    (subst (λ x. AreQuiet quick breaks x b) at quiet)

pub printed-quiet : (quick : Bool) (breaks : List Bool) (s : State) (a k : ℕ) → AreQuiet quick breaks (after quick a s) k
    → characters_of quick (a + k) s ≡ characters_of quick a s
printed-quiet quick breaks s a zero quiet = let e : a + 0 ≡ a = omega arith in ap (λ k. characters_of quick k s) e
printed-quiet quick breaks s a (suc k) quiet =
    let e : a + suc k ≡ a + k + 1 = omega arith in
    let h : answer quick (a + k) s ≡ Ran None = answer-add quick a k s ∙ (quiet k (omega arith)).answer in
    ap (λ k. characters_of quick k s) e ∙ (printed-next quick (a + k) s
    ∙ (ap (λ x. characters_of quick (a + k) s ++ character_of x) h
    ∙ (append-nil (characters_of quick (a + k) s) ∙ printed-quiet quick breaks s a k (fewer-quiet quick breaks (after quick a s) k quiet))))

-- after a quiet step only a break is a reason to stop
ending-following : (quick : Bool) (breaks : List Bool) (s : State) (a k : ℕ) → AreQuiet quick breaks (after quick a s) (suc k)
    → ending quick breaks s (a + suc k) ≡ break_ahead breaks (after quick (a + suc k) s)
ending-following quick breaks s a k quiet =
    let e : a + k + 1 ≡ a + suc k = omega arith in
    let h : answer quick (a + k) s ≡ Ran None = answer-add quick a k s ∙ (quiet k (omega arith)).answer in
    subst (λ m. ending quick breaks s m ≡ break_ahead breaks (after quick m s)) e
    (ending-next quick breaks s (a + k) ∙ ap (λ x. reason breaks x (after quick (a + k + 1) s)) h)

pub ending-quiet : (quick : Bool) (breaks : List Bool) (s : State) (a k : ℕ) → ending quick breaks s a ≡ break_ahead breaks (after quick a s)
    → AreQuiet quick breaks (after quick a s) k → ending quick breaks s (a + k) ≡ break_ahead breaks (after quick (a + k) s)
ending-quiet quick breaks s a zero h quiet =
    let e : a ≡ a + 0 = omega arith in subst (λ m. ending quick breaks s m ≡ break_ahead breaks (after quick m s)) e h
ending-quiet quick breaks s a (suc k) h quiet = ending-following quick breaks s a k quiet

-- between quiet steps there is no reason to stop
between-quiet : (quick : Bool) (breaks : List Bool) (s : State) (a k : ℕ) → ending quick breaks s a ≡ None
    → AreQuiet quick breaks (after quick a s) (suc k) → ending quick breaks s (a + k) ≡ None
between-quiet quick breaks s a zero h quiet = let e : a + 0 ≡ a = omega arith in ap (λ m. ending quick breaks s m) e ∙ h
between-quiet quick breaks s a (suc k) h quiet =
    let none : is_break breaks (next_cell (after quick (suc k) (after quick a s))) ≡ false = (quiet (suc k) (omega arith)).ahead (omega arith) in
    let here : is_break breaks (next_cell (after quick (a + suc k) s)) ≡ false = ap (λ x. is_break breaks (next_cell x)) (after-add quick a (suc k) s) ∙ none in
    ending-following quick breaks s a k (fewer-quiet quick breaks (after quick a s) (suc k) quiet)
    ∙ ap (λ (b : Bool). let w : Option Why = if b then Some Why.Break else None in w) here

pub goes-quiet : (quick : Bool) (breaks : List Bool) (s : State) (a k : ℕ) → GoesOn quick breaks s a → AreQuiet quick breaks (after quick a s) k
    → (m : ℕ) → m < a + k → ending quick breaks s m ≡ None
goes-quiet quick breaks s a zero before quiet m below = before m (omega (arith, below))
goes-quiet quick breaks s a (suc k) before quiet m below =
    below_more (λ m. ending quick breaks s m ≡ None) (a + k) (goes-quiet quick breaks s a k before (fewer-quiet quick breaks (after quick a s) k quiet))
    (between-quiet quick breaks s a k (before a (omega arith)) quiet) m (omega (arith, below))

-- ## A run of some steps, then of quiet ones

-- where there is no reason to stop, no break is ahead
none-ahead : (breaks : List Bool) (did : Stepped) (s : State) → reason breaks did s ≡ None → break_ahead breaks s ≡ None
none-ahead breaks Stopped s h = h
none-ahead breaks Interrupted s h = h
none-ahead breaks (Ran printed) s h = h
none-ahead breaks Halted s h = absurd (none-some Why.Halt (sym h))
none-ahead breaks (Unassigned word) s h = absurd (none-some Why.Unassigned (sym h))

pub ending-ahead : (quick : Bool) (breaks : List Bool) (s : State) (k : ℕ) → reason breaks (answer quick k s) (after quick (k + 1) s) ≡ None
    → ending quick breaks s (k + 1) ≡ break_ahead breaks (after quick (k + 1) s)
ending-ahead quick breaks s k h =
    ending-next quick breaks s k ∙ (h ∙ sym (none-ahead breaks (answer quick k s) (after quick (k + 1) s) h))

pub state-run : (quick : Bool) (a k : ℕ) (s mid new : State) → mid ≡ after quick a s → new ≡ after quick k mid → new ≡ after quick (a + k) s
state-run quick a k s mid new at h = h ∙ (ap (λ x. after quick k x) at ∙ sym (after-add quick a k s))

pub printed-run : (quick : Bool) (breaks : List Bool) (a k : ℕ) (s mid : State) (old items : List ℕ) → mid ≡ after quick a s
    → AreQuiet quick breaks mid k → items ≡ old ++ characters_of quick a s → items ≡ old ++ characters_of quick (a + k) s
printed-run quick breaks a k s mid old items at quiet h =
    h ∙ ap (λ xs. old ++ xs) (sym (printed-quiet quick breaks s a k (subst (λ x. AreQuiet quick breaks x k) at quiet)))

-- what is known once quiet steps were made after the first ones
pub record HasRun (quick : Bool) (breaks : List Bool) (s : State) (k : ℕ) : Type 0 where
  pub before : (m : ℕ) → m < k → ending quick breaks s m ≡ None
  pub last : ending quick breaks s k ≡ break_ahead breaks (after quick k s)

pub has-run : (quick : Bool) (breaks : List Bool) (a k : ℕ) (s mid : State) → mid ≡ after quick (a + 1) s → GoesOn quick breaks s a
    → reason breaks (answer quick a s) (after quick (a + 1) s) ≡ None → AreQuiet quick breaks mid k → HasRun quick breaks s (a + 1 + k)
has-run quick breaks a k s mid at goes h quiet =
    let there : AreQuiet quick breaks (after quick (a + 1) s) k = subst (λ x. AreQuiet quick breaks x k) at quiet in
    record {
      before = goes-quiet quick breaks s (a + 1) k (goes-next quick breaks s a goes h) there;
      last = ending-quiet quick breaks s (a + 1) k (ending-ahead quick breaks s a h) there;
    }

pub run-broken : (quick : Bool) (breaks : List Bool) (s now : State) (n k : ℕ) (why : Why) → HasRun quick breaks s k → now ≡ after quick k s
    → k ≤ n → Some why ≡ break_ahead breaks now → IsGo quick breaks s n k why
run-broken quick breaks s now n k why run at within h =
    let e : ending quick breaks s k ≡ Some why = run.last ∙ (ap (λ x. break_ahead breaks x) (sym at) ∙ sym h) in
    record {
      within = within;
      least = run.before;
      last = λ _. subst (λ o. IsSome o) (sym e) refl;
      reason = ap (λ o. unwrap_or o Why.Limit) (sym e);
    }

pub run-goes : (quick : Bool) (breaks : List Bool) (s now : State) (k : ℕ) → HasRun quick breaks s k → now ≡ after quick k s
    → None ≡ break_ahead breaks now → GoesOn quick breaks s k
run-goes quick breaks s now k run at h = below_more _ _ run.before (run.last ∙ (ap (λ x. break_ahead breaks x) (sym at) ∙ sym h))
