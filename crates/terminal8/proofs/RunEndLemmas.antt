-- The ends of a run.
use Rattle.std.proofs.Common.{◌≡◌, ◌⊎◌, inl, inr, ℕ, zero, suc, ◌+◌, ◌<◌, ◌≤◌, Bool, true, false, true≢false, if◌then◌else◌, List, [], ◌∷◌, ◌++◌, Option, Some, None, Result, Ok, Err, append-nil, append_assoc, unwrap_or, refl, ap, sym, subst, ◌∙◌, arith, below_more}
use Rattle.std.specs.Io.KnownBytes.{Consumes}
use Rattle.cpu8.specs.State.{State}
use Rattle.cpu8.specs.Go.{printing_step, after, answer, character_of}
use Rattle.cpu8.specs.Laws.{runs_on}
use Rattle.cpu8.specs.declared.outcomes.Stepped.{Stepped}
use Rattle.cpu8.specs.declared.outcomes.Stepped.TheVariants.{Stopped, Interrupted, Ran, Halted, Unassigned}
use Rattle.terminal8.specs.Keys.{Keyboard, fresh, keys_from, keys_of}
use Rattle.terminal8.specs.KeySteps.{keyboard_after}
use Rattle.terminal8.specs.Absences.{absence_at, with_absence_if}
use Rattle.terminal8.specs.Asks.{asks_for_key}
use Rattle.terminal8.specs.Terminal.{Terminal, new_terminal, after_look, after_step, next, later, last_did, characters_of, visible_characters, starves, has_halted, stop_of, GoesOn, Ends}
use Rattle.terminal8.specs.Run.{MayFollow, FindsKey, FindsNone, HaveEnded, HasMadeSteps, IsRunOf, IsCut, Meets, WritesPrinted, RunsProgram}
use Rattle.terminal8.specs.KeyReads.{StrikesKeys, IsDry}
use Rattle.terminal8.specs.Papers.{Passes, Holds}
use Rattle.terminal8.specs.RunSteps.{IsNoneOnly, Attends, Misses, Prints, RunsInto}
use Rattle.terminal8.specs.declared.absences.Absence.{Absence}
use Rattle.terminal8.specs.declared.inputs.Input.{Input}
use Rattle.terminal8.specs.declared.outcomes.TerminalFault.{TerminalFault}
use Rattle.terminal8.specs.declared.outcomes.TerminalFault.TheVariants.{Reader, Writer}
use Rattle.terminal8.specs.declared.keyboards.Form.{Form}
use Rattle.terminal8.specs.declared.outcomes.Ended.{Ended}
use Rattle.terminal8.specs.declared.outcomes.TerminalEnd.{TerminalEnd}
use Rattle.terminal8.specs.declared.outcomes.TerminalEnd.TheVariants as why
use Rattle.terminal8.proofs.AbsenceLemmas.{absences-none}
use Rattle.terminal8.proofs.ByteLemmas.{consumes_more, consumes_none, passes-none, passes-more, passed}
use Rattle.terminal8.proofs.KeyLemmas.{keys_more, after_more}
use Rattle.terminal8.proofs.LookLemmas.{finds-none, finds-more, finds-found, starves-not}
use Rattle.terminal8.proofs.TerminalLemmas.{later-none, later-next, did-none, did-next, printed-none, printed-next, shown-more}
use Rattle.terminal8.proofs.RunLemmas.{IsAt, IsTaken, IsRunning, none-empty, joined, may-join, taken-more, taken-next, step-at, step-last, step-meets, step-prints, ends-by, no-keys, stop-keys, halt-keys, limit-keys}

-- ## The ends of a run

has-made : (form : Form) (input : Input) (old new : State) (k : Keyboard) (a : List ℕ) (over : Bool) (since : ℕ) (r r' : Option (List ℕ)) (looks : List (Option ℕ)) (steps : ℕ)
    → IsAt old looks over steps new since → IsTaken form input k a over r r' looks → HasMadeSteps form input old new r r' looks over steps
has-made form input old new k a over since r r' looks steps i t = record {
  bytes = t.bytes;
  ahead = a;
  taken = t.taken;
  finds = t.finds;
  none_only = t.none_only;
  at_end = t.at_end;
  machine = λ more may. ap (λ x. x.machine) (i.at more may);
  looks_left = λ more may. ap (λ x. x.looks) (i.at more may);
}

abbrev has-run : (form : Form) (input : Input) (n : ℕ) (old new : State) (k : Keyboard) (a : List ℕ) (over : Bool) (since : ℕ) (r r' : Option (List ℕ)) (looks : List (Option ℕ)) (steps : ℕ) (y : TerminalEnd)
    → IsAt old looks over steps new since → IsTaken form input k a over r r' looks → steps ≤ n
    → ((more : List (Option ℕ)) → MayFollow over more → Ends (new_terminal old (looks ++ more)) n steps y) → (y ≡ why.Keys → over ≡ true)
    → IsRunOf form input n old new r r' (record { steps = steps; why = y })
has-run form input n old new k a over since r r' looks steps y i t within ends none = record {
  looks = looks;
  is_over = over;
  made = has-made form input old new k a over since r r' looks steps i t;
  run = λ more may. record { within = within; goes_on = i.goes_on more may; ends = ends more may };
  none_left = none;
}

abbrev is-cut : (form : Form) (input : Input) (n : ℕ) (old new : State) (k : Keyboard) (a : List ℕ) (over : Bool) (since : ℕ) (r r' : Option (List ℕ)) (looks : List (Option ℕ)) (steps : ℕ)
    → IsAt old looks over steps new since → IsTaken form input k a over r r' looks → steps ≤ n → IsCut form input n old new r r'
is-cut form input n old new k a over since r r' looks steps i t within = record {
  looks = looks;
  is_over = over;
  steps = steps;
  made = has-made form input old new k a over since r r' looks steps i t;
  within = within;
  goes_on = i.goes_on;
}

-- the machine stands stopped at first
pub stopped-run : (form : Form) (input : Input) (n : ℕ) (s : State) (r w : Option (List ℕ)) (p : List ℕ) (f : List Absence) → p ≡ [] → f ≡ [] → s.running ≡ false
    → RunsInto form input n s s r r w w p f (Ok (record { steps = 0; why = why.Halt }))
stopped-run form input n s r w p f none empty stopped = (
  has-run form input n s s (fresh form) [] false 0 r r [] 0 why.Halt
      (record { at = λ more _. later-none (new_terminal s more); goes_on = λ more _ m below. absurd (omega (arith, below)) })
      (record { bytes = []; taken = consumes_none r; keyboard = refl; finds = finds-none input; none_only = λ before after is. absurd (none-empty before after is); at_end = λ h. absurd (true≢false (sym h)) })
      (omega arith)
      (λ more may.
      ap (λ did. has_halted did) (did-none (new_terminal s more))
      ∙ ap (λ (b : Bool). has_halted (if b then Ran None else Stopped)) stopped)
      (λ is. absurd (no-keys why.Halt halt-keys is)),
  λ more _.
      subst (λ (q : List ℕ). Passes w w [] q (visible_characters (characters_of 0 (new_terminal s more)))) (sym none)
      (subst (λ cs. Passes w w [] [] (visible_characters cs)) (sym (printed-none (new_terminal s more))) (passes-none w [])),
  λ more _. empty ∙ sym (absences-none (new_terminal s more)),
)

-- all steps are made
pub limit-run : (form : Form) (input : Input) (n : ℕ) (old new : State) (k : Keyboard) (a : List ℕ) (over : Bool) (since : ℕ) (r r' w w' : Option (List ℕ)) (p : List ℕ) (f : List Absence) (steps : ℕ)
    → IsRunning form input old new k a over since r r' w w' p f steps → steps ≡ n
    → RunsInto form input n old new r r' w w' p f (Ok (record { steps = n; why = why.Limit }))
limit-run form input n old new k a over since r r' w w' p f steps i e =
    subst (λ (m : ℕ). RunsInto form input n old new r r' w w' p f (Ok (record { steps = m; why = why.Limit }))) e (
      has-run form input n old new k a over since r r' i.looks steps why.Limit i.is_at i.taken (omega (arith, e)) (λ more may. (e, i.runs more may))
          (λ is. absurd (no-keys why.Limit limit-keys is)),
      i.prints,
      i.met,
    )

-- looks were made that found no key: the machine is where it was
moved-at : (old s : State) (over over' : Bool) (since : ℕ) (looks found : List (Option ℕ)) (steps : ℕ) → IsAt old looks over steps s since → found ≡ []
    → (over ≡ true → over' ≡ true) → IsAt old (looks ++ found) over' steps s since
moved-at old s over over' since looks found steps i none goes =
    subst (λ (l : List (Option ℕ)). IsAt old l over' steps s since) (sym (append-nil looks) ∙ ap (λ l. looks ++ l) (sym none)) (record {
      at = λ more may. i.at more (λ h. may (goes h));
      goes_on = λ more may. i.goes_on more (λ h. may (goes h));
    })

moved-prints : (old : State) (over over' : Bool) (looks found : List (Option ℕ)) (w w' w'' : Option (List ℕ)) (p p' : List ℕ) (steps : ℕ)
    → Prints old looks over w w' p steps → found ≡ [] → (over ≡ true → over' ≡ true) → Passes w' w'' p p' [] → Prints old (looks ++ found) over' w w'' p' steps
moved-prints old over over' looks found w w' w'' p p' steps prints none goes held =
    subst (λ (l : List (Option ℕ)). Prints old l over' w w'' p' steps) (sym (append-nil looks) ∙ ap (λ l. looks ++ l) (sym none))
    (λ more may.
    let printed = visible_characters (characters_of steps (new_terminal old (looks ++ more))) in
    subst (λ cs. Passes w w'' [] p' cs) (append-nil printed) (passes-more w w' w'' [] p p' printed [] (prints more (λ h. may (goes h))) held))

moved-meets : (old : State) (over over' : Bool) (looks found : List (Option ℕ)) (f : List Absence) (steps : ℕ) → Meets old looks over f steps → found ≡ []
    → (over ≡ true → over' ≡ true) → Meets old (looks ++ found) over' f steps
moved-meets old over over' looks found f steps met none goes =
    subst (λ (l : List (Option ℕ)). Meets old l over' f steps) (sym (append-nil looks) ∙ ap (λ l. looks ++ l) (sym none)) (λ more may. met more (λ h. may (goes h)))

-- the keys have ended for a machine that waits for one
pub starved-run : (form : Form) (input : Input) (n : ℕ) (old s s' : State) (k k' : Keyboard) (a a' : List ℕ) (over over' : Bool) (since since' : ℕ)
    (r r' r'' w w' w'' : Option (List ℕ)) (p p' : List ℕ) (f : List Absence) (steps : ℕ)
    → IsRunning form input old s k a over since r r' w w' p f steps → steps < n → Attends input k k' a a' over over' s s' since since' r' r'' true
    → Passes w' w'' p p' [] → RunsInto form input n old s' r r'' w w'' p' f (Ok (record { steps = steps; why = why.Keys }))
starved-run form input n old s s' k k' a a' over over' since since' r r' r'' w w' w'' p p' f steps i below at held =
    let none = (at.idle refl).1 in
    subst (λ (x : State). RunsInto form input n old x r r'' w w'' p' f (Ok (record { steps = steps; why = why.Keys }))) (sym (at.idle refl).0) (
      has-run form input n old s k' a' over' since r r'' (i.looks ++ at.found) steps why.Keys
          (moved-at old s over over' since i.looks at.found steps i.is_at none at.over)
          (taken-next form input k k' a a' over over' s s' since since' r r' r'' i.looks true i.taken at)
          (omega (arith, below))
          (λ more may.
          let may' = may-join over over' at.found more at.stays at.over may in (
            below,
            ap (λ t. runs_on (last_did steps t)) (joined old i.looks at.found more) ∙ i.runs (at.found ++ more) may',
            ap (λ t. starves (later steps t)) (joined old i.looks at.found more)
                ∙ ap (λ t. starves t) (i.is_at.at (at.found ++ more) may') ∙ at.starves_is more may,
          ))
          (λ _. at.none_left refl),
      moved-prints old over over' i.looks at.found w w' w'' p p' steps i.prints none at.over held,
      moved-meets old over over' i.looks at.found f steps i.met none at.over,
    )

-- a step ends the run
pub ended-run : (form : Form) (input : Input) (n : ℕ) (old s s' new : State) (k k' : Keyboard) (a a' : List ℕ) (over over' : Bool) (since since' : ℕ)
    (r r' r'' w w' w'' w''' : Option (List ℕ)) (p p' p'' : List ℕ) (f f' : List Absence) (steps : ℕ) (did : Stepped) (y : TerminalEnd)
    → IsRunning form input old s k a over since r r' w w' p f steps → steps < n → Attends input k k' a a' over over' s s' since since' r' r'' false
    → Passes w' w'' p p' [] → new ≡ (printing_step true s').0 → did ≡ (printing_step true s').1 → Passes w'' w''' p' p'' (visible_characters (character_of did)) → stop_of did ≡ Some y
    → f' ≡ with_absence_if (absence_at s') f → RunsInto form input n old new r r'' w w''' p'' f' (Ok (record { steps = steps + 1; why = y }))
ended-run form input n old s s' new k k' a a' over over' since since' r r' r'' w w' w'' w''' p p' p'' f f' steps did y i below at none new_is did_is some is found = (
  has-run form input n old new k' a' over' (since' + 1) r r'' (i.looks ++ at.found) (steps + 1) y
      (step-at input old s s' new k k' a a' over over' since since' r' r'' i.looks steps false i.is_at i.runs at refl new_is)
      (taken-next form input k k' a a' over over' s s' since since' r r' r'' i.looks false i.taken at)
      (omega (arith, below))
      (λ more may.
      ends-by (new_terminal old ((i.looks ++ at.found) ++ more)) n (steps + 1) did y
      (step-last input old s s' k k' a a' over over' since since' r' r'' i.looks steps false did i.is_at at did_is more may) is)
      (λ keys. absurd (no-keys y (stop-keys did y is) keys)),
  step-prints input old s s' k k' a a' over over' since since' r' r'' w w' w'' w''' p p' p'' i.looks steps false did i.is_at i.prints at none did_is some,
  step-meets input old s s' k k' a a' over over' since since' r' r'' i.looks steps false f f' i.is_at i.met at found,
)

-- the writer fails at what a step printed
pub unwritten-run : (form : Form) (input : Input) (n : ℕ) (old s s' new : State) (k k' : Keyboard) (a a' : List ℕ) (over over' : Bool) (since since' : ℕ)
    (r r' r'' w w' : Option (List ℕ)) (p : List ℕ) (f : List Absence) (steps : ℕ)
    → IsRunning form input old s k a over since r r' w w' p f steps → steps < n → Attends input k k' a a' over over' s s' since since' r' r'' false
    → new ≡ (printing_step true s').0 → IsCut form input n old new r r''
unwritten-run form input n old s s' new k k' a a' over over' since since' r r' r'' w w' p f steps i below at new_is =
    is-cut form input n old new k' a' over' (since' + 1) r r'' (i.looks ++ at.found) (steps + 1)
    (step-at input old s s' new k k' a a' over over' since since' r' r'' i.looks steps false i.is_at i.runs at refl new_is)
    (taken-next form input k k' a a' over over' s s' since since' r r' r'' i.looks false i.taken at)
    (omega (arith, below))

-- the operator met a fault
abbrev missed-cut : (form : Form) (input : Input) (n : ℕ) (old s : State) (k k' : Keyboard) (a a' : List ℕ) (over : Bool) (since : ℕ) (r r' r'' w w' : Option (List ℕ)) (p : List ℕ) (f : List Absence) (steps : ℕ)
    → (i : IsRunning form input old s k a over since r r' w w' p f steps) → steps ≤ n → Misses k k' a a' over r' r'' → IsCut form input n old s r r''
missed-cut form input n old s k k' a a' over since r r' r'' w w' p f steps i within m =
    is-cut form input n old s k' a' over since r r'' (i.looks ++ []) steps
    (moved-at old s over over since i.looks [] steps i.is_at refl (λ h. h))
    (taken-more form input k k' a a' over over r r' r'' i.looks [] [] i.taken m.1 (finds-none input) tt (λ h. absurd (true≢false (sym h ∙ m.0))))
    within

missed-runs : (form : Form) (input : Input) (n : ℕ) (old s : State) (k k' : Keyboard) (a a' : List ℕ) (over : Bool) (since : ℕ) (r r' r'' w w' w'' : Option (List ℕ)) (p p' : List ℕ) (f : List Absence) (steps : ℕ)
    (fault : TerminalFault) → IsRunning form input old s k a over since r r' w w' p f steps → steps ≤ n → Misses k k' a a' over r' r''
    → Holds {A = Bool} w' w'' p p' (Err fault) → RunsInto form input n old s r r'' w w'' p' f (Err fault)
missed-runs form input n old s k k' a a' over since r r' r'' w w' w'' p p' f steps Reader i within m held = (
  missed-cut form input n old s k k' a a' over since r r' r'' w w' p f steps i within m,
  moved-prints old over over i.looks [] w w' w'' p p' steps i.prints refl (λ h. h) held,
  moved-meets old over over i.looks [] f steps i.met refl (λ h. h),
)
missed-runs form input n old s k k' a a' over since r r' r'' w w' w'' p p' f steps Writer i within m held =
    missed-cut form input n old s k k' a a' over since r r' r'' w w' p f steps i within m

pub missed-run : (form : Form) (input : Input) (n : ℕ) (old s new : State) (k k' : Keyboard) (a a' : List ℕ) (over : Bool) (since : ℕ) (r r' r'' w w' w'' : Option (List ℕ)) (p p' : List ℕ) (f : List Absence) (steps : ℕ)
    (fault : TerminalFault) → IsRunning form input old s k a over since r r' w w' p f steps → steps ≤ n → Misses k k' a a' over r' r''
    → Holds {A = Bool} w' w'' p p' (Err fault) → new ≡ s → RunsInto form input n old new r r'' w w'' p' f (Err fault)
missed-run form input n old s new k k' a a' over since r r' r'' w w' w'' p p' f steps fault i within m held is =
    subst (λ (x : State). RunsInto form input n old x r r'' w w'' p' f (Err fault)) (sym is)
    (missed-runs form input n old s k k' a a' over since r r' r'' w w' w'' p p' f steps fault i within m held)

-- ## Handing on what is on the paper at last

flushed-prints : (old : State) (looks : List (Option ℕ)) (over : Bool) (w w' w'' : Option (List ℕ)) (p p' : List ℕ) (steps : ℕ) → Prints old looks over w w' p steps
    → Passes w' w'' p p' [] → p' ≡ [] → WritesPrinted old looks over w w'' steps
flushed-prints old looks over w w' w'' p p' steps prints held none more may =
    let printed = visible_characters (characters_of steps (new_terminal old (looks ++ more))) in
    passed w w'' p' printed (subst (λ cs. Passes w w'' [] p' cs) (append-nil printed) (passes-more w w' w'' [] p p' printed [] (prints more may) held)) none

pub flushed-run : (form : Form) (input : Input) (n : ℕ) (old new : State) (r r' w w' w'' : Option (List ℕ)) (p p' : List ℕ) (f : List Absence) (ran : Result Ended TerminalFault)
    → RunsInto form input n old new r r' w w' p f ran → Passes w' w'' p p' [] → p' ≡ [] → RunsProgram form input n old new r r' w w'' f ran
flushed-run form input n old new r r' w w' w'' p p' f (Ok ended) h held none =
    (h.0, flushed-prints old h.0.looks h.0.is_over w w' w'' p p' ended.steps h.1 held none, h.2)
flushed-run form input n old new r r' w w' w'' p p' f (Err Reader) h held none =
    (h.0, flushed-prints old h.0.looks h.0.is_over w w' w'' p p' h.0.steps h.1 held none, h.2)
flushed-run form input n old new r r' w w' w'' p p' f (Err Writer) h held none = h

pub cut-run : (form : Form) (input : Input) (n : ℕ) (old new : State) (r r' w w' : Option (List ℕ)) (p : List ℕ) (f : List Absence) (ran : Result Ended TerminalFault)
    → RunsInto form input n old new r r' w w' p f ran → IsCut form input n old new r r'
cut-run form input n old new r r' w w' p f (Ok ended) h = record {
  looks = h.0.looks;
  is_over = h.0.is_over;
  steps = ended.steps;
  made = h.0.made;
  within = (h.0.run [] (λ _. refl)).within;
  goes_on = λ more may. (h.0.run more may).goes_on;
}
cut-run form input n old new r r' w w' p f (Err Reader) h = h.0
cut-run form input n old new r r' w w' p f (Err Writer) h = h
