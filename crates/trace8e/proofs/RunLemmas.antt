-- A trace, as far as it has come.
use Rattle.std.proofs.Common.{◌≡◌, ℕ, ◌+◌, ◌<◌, ◌≤◌, Bool, true, false, if◌then◌else◌, Option, Some, None, Ok, Err, List, [], ◌∷◌, ◌++◌, add-one, refl, ap, sym, subst, ◌∙◌, arith, below_more}
use Rattle.std.specs.Io.KnownBytes.{Appends}
use Rattle.pdp8e.specs.State.{Pdp8e}
use Rattle.cpu8.specs.Laws.{runs_on}
use Rattle.cpu8.specs.declared.outcomes.Stepped.{Stepped}
use Rattle.cpu8.specs.declared.outcomes.Stepped.TheVariants.{Stopped, Interrupted, Ran, Halted, Unassigned}
use Rattle.pdp8e.specs.Asks.{asks_for_key}
use Rattle.terminal8.specs.Terminal.{has_halted, stop_of}
use Rattle.terminal8e.specs.AnyTerminal as any
use Rattle.pdp8e.specs.Terminal.{Terminal, later, next, starves, after_step, GoesOn}
use Rattle.pdp8e.specs.TerminalSteps.{last_did, after_look, Ends}
use Rattle.terminal8.specs.declared.outcomes.Ended.{Ended}
use Rattle.terminal8.specs.declared.outcomes.TerminalEnd.{TerminalEnd}
use Rattle.terminal8.specs.declared.outcomes.TerminalEnd.TheVariants as why
use Rattle.trace8e.specs.Trace.{next_line, trace_lines}
use Rattle.trace8e.specs.Tracing.{Traces}
use Rattle.trace8e.specs.TracingSteps.{AreLines, TracesInto}
use Rattle.trace8.specs.TracingSteps.{HandsOn}
use Rattle.trace8.specs.declared.faults.TraceFault.{TraceFault}
use Rattle.trace8.specs.declared.faults.TraceFault.TheVariants.{Writer}
use Rattle.trace8e.proofs.LineLemmas.{lines-next, lines-none}
use Rattle.terminal8.proofs.ByteLemmas.{appends_more, appends_none}
use Rattle.trace8.proofs.WaitingLemmas.{goes-by, handed-lines, more-lines, no-lines, no-memory, none-some, why-is}

-- ## Steps of a terminal

pub later-none : (t : Terminal) → later 0 t ≡ t
unfolding any.later
later-none t = refl

pub later-next : (k : ℕ) (t : Terminal) → later (k + 1) t ≡ next (later k t)
unfolding any.later
later-next k t = rw add-one refl

pub did-none : (t : Terminal) → last_did 0 t ≡ (if t.machine.processor.base.running then Ran None else Stopped)
unfolding any.last_did
did-none t = refl

pub did-next : (k : ℕ) (t : Terminal) → last_did (k + 1) t ≡ (after_step (later k t)).1
unfolding any.last_did
did-next k t = rw add-one refl

looked-since : (m : Pdp8e) (looks : List (Option ℕ)) → (after_look m looks).since ≡ 0
looked-since m [] = refl
looked-since m (None ∷ looks) = refl
looked-since m (Some key ∷ looks) = refl

attended-since : (b : Bool) (t : Terminal) → (if b then after_look t.machine t.looks else t).since ≤ t.since
attended-since true t = rw (looked-since t.machine t.looks) (omega arith)
attended-since false t = omega arith

pub next-since : (t : Terminal) → (next t).since ≤ t.since + 1
next-since t = omega (arith, attended-since (asks_for_key t.since t.machine) t)

-- ## Ends

pub ends-by : (t : Terminal) (n steps : ℕ) (did : Stepped) (y : TerminalEnd) → last_did steps t ≡ did → stop_of did ≡ Some y → Ends t n steps y
ends-by t n steps Halted y last is = subst (λ x. Ends t n steps x) (why-is why.Halt y is) (ap (λ d. has_halted d) last)
ends-by t n steps Stopped y last is = subst (λ x. Ends t n steps x) (why-is why.Halt y is) (ap (λ d. has_halted d) last)
ends-by t n steps (Unassigned word) y last is = subst (λ x. Ends t n steps x) (why-is why.Unassigned y is) (word, last)
ends-by t n steps Interrupted y last is = absurd (none-some y (sym is))
ends-by t n steps (Ran printed) y last is = absurd (none-some y (sym is))

-- ## A trace on the way

-- the lines of so many steps
abbrev lines_by : (ℕ → Bool) → Terminal → ℕ → List ℕ
lines_by tagged t = λ steps. trace_lines tagged steps t

-- So many steps were made, and no end came before; the last of them is no end.
pub record IsTracing (tagged : ℕ → Bool) (t t' : Terminal) (w w' : Option (List ℕ)) (lines : List ℕ) (made : ℕ) : Type 0 where
  pub terminal : t' ≡ later made t
  pub goes_on : (k : ℕ) → k < made → GoesOn t k
  pub runs : runs_on (last_did made t) ≡ true
  pub lines_are : AreLines tagged t w w' lines made
  pub sooner : t'.since ≤ t.since + made

pub begun : (tagged : ℕ → Bool) (t : Terminal) (w : Option (List ℕ)) (lines : List ℕ) → lines ≡ [] → t.machine.processor.base.running ≡ true → IsTracing tagged t t w w lines 0
begun tagged t w lines none running = record {
  terminal = sym (later-none t);
  goes_on = λ k below. absurd (omega (arith, below));
  runs = ap (λ did. runs_on did) (did-none t) ∙ ap (λ (b : Bool). runs_on (if b then Ran None else Stopped)) running;
  lines_are = no-lines (lines_by tagged t) w lines (lines-none tagged t) none;
  sooner = omega arith;
}

-- the run goes on after these steps, and one more is made
goes-further : (t t' : Terminal) (made : ℕ) → t' ≡ later made t → ((k : ℕ) → k < made → GoesOn t k) → runs_on (last_did made t) ≡ true
    → starves t' ≡ false → (k : ℕ) → k < made + 1 → GoesOn t k
goes-further t t' made is goes runs fed =
    below_more (λ k. GoesOn t k) made goes (record { runs = runs; fed = ap (λ x. starves x) (sym is) ∙ fed })

next-terminal : (t t' t'' : Terminal) (made : ℕ) → t' ≡ later made t → t'' ≡ next t' → t'' ≡ later (made + 1) t
next-terminal t t' t'' made is step = step ∙ ap (λ x. next x) is ∙ sym (later-next made t)

did-is : (t t' : Terminal) (made : ℕ) (did : Stepped) → t' ≡ later made t → did ≡ (after_step t').1 → last_did (made + 1) t ≡ did
did-is t t' made did is done = did-next made t ∙ ap (λ x. (after_step x).1) (sym is) ∙ sym done

next-sooner : (t t' t'' : Terminal) (made : ℕ) → t'.since ≤ t.since + made → t'' ≡ next t' → t''.since ≤ t.since + (made + 1)
next-sooner t t' t'' made sooner step =
    let e : t''.since ≡ (next t').since = ap (λ (x : Terminal). x.since) step in
    omega (arith, sooner, e, next-since t')

pub step-traced : (tagged : ℕ → Bool) (t t' t'' : Terminal) (w w' w'' : Option (List ℕ)) (lines lines' lines'' : List ℕ) (made : ℕ) (did : Stepped)
    → IsTracing tagged t t' w w' lines made → starves t' ≡ false → HandsOn lines lines' w' w'' → t'' ≡ next t' → did ≡ (after_step t').1
    → lines'' ≡ lines' ++ next_line tagged t' → stop_of did ≡ None → IsTracing tagged t t'' w w'' lines'' (made + 1)
step-traced tagged t t' t'' w w' w'' lines lines' lines'' made did i fed hands step done line goes = record {
  terminal = next-terminal t t' t'' made i.terminal step;
  goes_on = goes-further t t' made i.terminal i.goes_on i.runs fed;
  runs = ap (λ d. runs_on d) (did-is t t' made did i.terminal done) ∙ goes-by did goes;
  lines_are = more-lines (lines_by tagged t) w w'' lines' lines'' (next_line tagged (later made t)) made (lines-next tagged made t) (handed-lines (lines_by tagged t) w w' w'' lines lines' made i.lines_are hands)
      (line ∙ ap (λ x. lines' ++ next_line tagged x) i.terminal);
  sooner = next-sooner t t' t'' made i.sooner step;
}

-- ## Its end

pub stopped-trace : (tagged : ℕ → Bool) (n : ℕ) (t : Terminal) (w : Option (List ℕ)) (lines : List ℕ) → lines ≡ [] → t.machine.processor.base.running ≡ false
    → TracesInto tagged n t t w w lines (Ok (record { steps = 0; why = why.Halt }))
stopped-trace tagged n t w lines none stopped = record {
  run = record {
    within = omega arith;
    goes_on = λ k below. absurd (omega (arith, below));
    ends = ap (λ did. has_halted did) (did-none t) ∙ ap (λ (b : Bool). has_halted (if b then Ran None else Stopped)) stopped;
  };
  terminal = sym (later-none t);
  lines_are = no-lines (lines_by tagged t) w lines (lines-none tagged t) none;
}

pub starved-trace : (tagged : ℕ → Bool) (n : ℕ) (t t' : Terminal) (w w' : Option (List ℕ)) (lines : List ℕ) (made : ℕ) → IsTracing tagged t t' w w' lines made
    → made < n → starves t' ≡ true → TracesInto tagged n t t' w w' lines (Ok (record { steps = made; why = why.Keys }))
starved-trace tagged n t t' w w' lines made i below starved = record {
  run = record { within = omega (arith, below); goes_on = i.goes_on; ends = (below, i.runs, ap (λ x. starves x) (sym i.terminal) ∙ starved) };
  terminal = i.terminal;
  lines_are = i.lines_are;
}

pub limit-trace : (tagged : ℕ → Bool) (n : ℕ) (t t' : Terminal) (w w' : Option (List ℕ)) (lines : List ℕ) (made : ℕ) → IsTracing tagged t t' w w' lines made
    → made ≡ n → TracesInto tagged n t t' w w' lines (Ok (record { steps = n; why = why.Limit }))
limit-trace tagged n t t' w w' lines made i all =
    subst (λ (m : ℕ). TracesInto tagged n t t' w w' lines (Ok (record { steps = m; why = why.Limit }))) all (record {
      run = record { within = omega (arith, all); goes_on = i.goes_on; ends = (all, i.runs) };
      terminal = i.terminal;
      lines_are = i.lines_are;
    })

pub ended-trace : (tagged : ℕ → Bool) (n : ℕ) (t t' t'' : Terminal) (w w' w'' : Option (List ℕ)) (lines lines' lines'' : List ℕ) (made : ℕ) (did : Stepped) (y : TerminalEnd)
    → IsTracing tagged t t' w w' lines made → made < n → starves t' ≡ false → HandsOn lines lines' w' w'' → t'' ≡ next t' → did ≡ (after_step t').1
    → lines'' ≡ lines' ++ next_line tagged t' → stop_of did ≡ Some y → TracesInto tagged n t t'' w w'' lines'' (Ok (record { steps = made + 1; why = y }))
ended-trace tagged n t t' t'' w w' w'' lines lines' lines'' made did y i below fed hands step done line is = record {
  run = record {
    within = omega (arith, below);
    goes_on = goes-further t t' made i.terminal i.goes_on i.runs fed;
    ends = ends-by t n (made + 1) did y (did-is t t' made did i.terminal done) is;
  };
  terminal = next-terminal t t' t'' made i.terminal step;
  lines_are = more-lines (lines_by tagged t) w w'' lines' lines'' (next_line tagged (later made t)) made (lines-next tagged made t) (handed-lines (lines_by tagged t) w w' w'' lines lines' made i.lines_are hands)
      (line ∙ ap (λ x. lines' ++ next_line tagged x) i.terminal);
}

-- the writer failed before a step
pub unwritten-trace : (tagged : ℕ → Bool) (n : ℕ) (t t' : Terminal) (w w' w'' : Option (List ℕ)) (lines lines' : List ℕ) (made : ℕ) (fault : TraceFault)
    → IsTracing tagged t t' w w' lines made → made ≤ n → fault ≡ Writer → TracesInto tagged n t t' w w'' lines' (Err fault)
unwritten-trace tagged n t t' w w' w'' lines lines' made fault i within is = record {
  steps = made;
  within = within;
  goes_on = i.goes_on;
  terminal = i.terminal;
  written = 0;
  first = omega arith;
  lines = λ memory. absurd (no-memory fault is memory);
}

-- memory ran out after a step
pub refused-trace : (tagged : ℕ → Bool) (n : ℕ) (t t' t'' : Terminal) (w w' w'' : Option (List ℕ)) (lines lines' lines'' : List ℕ) (made : ℕ) (fault : TraceFault)
    → IsTracing tagged t t' w w' lines made → made < n → starves t' ≡ false → HandsOn lines lines' w' w'' → t'' ≡ next t'
    → TracesInto tagged n t t'' w w'' lines'' (Err fault)
refused-trace tagged n t t' t'' w w' w'' lines lines' lines'' made fault i below fed hands step =
    let are = handed-lines (lines_by tagged t) w w' w'' lines lines' made i.lines_are hands in
    record {
      steps = made + 1;
      within = omega (arith, below);
      goes_on = goes-further t t' made i.terminal i.goes_on i.runs fed;
      terminal = next-terminal t t' t'' made i.terminal step;
      written = are.written;
      first = omega (arith, are.first);
      lines = λ memory. are.handed;
    }

-- ## With the last lines

pub no-trace : (tagged : ℕ → Bool) (n : ℕ) (t : Terminal) (w : Option (List ℕ)) (fault : TraceFault) → Traces tagged n t t w w (Err fault)
no-trace tagged n t w fault = record {
  steps = 0;
  within = omega arith;
  goes_on = λ k below. absurd (omega (arith, below));
  terminal = sym (later-none t);
  written = 0;
  first = omega arith;
  lines = λ memory. subst (λ l. Appends w w l) (sym (lines-none tagged t)) (appends_none w);
}

pub written-trace : (tagged : ℕ → Bool) (n : ℕ) (t t' : Terminal) (w w' w'' : Option (List ℕ)) (lines : List ℕ) (ended : Ended)
    → TracesInto tagged n t t' w w' lines (Ok ended) → Appends w' w'' lines → Traces tagged n t t' w w'' (Ok ended)
written-trace tagged n t t' w w' w'' lines ended into last = record {
  run = into.run;
  terminal = into.terminal;
  lines = subst (λ l. Appends w w'' l) into.lines_are.in_order
      (appends_more w w' w'' (trace_lines tagged into.lines_are.written t) lines into.lines_are.handed last);
}

pub cut-trace : (tagged : ℕ → Bool) (n : ℕ) (t t' : Terminal) (w w' w'' : Option (List ℕ)) (lines : List ℕ) (ended : Ended) (fault : TraceFault)
    → TracesInto tagged n t t' w w' lines (Ok ended) → fault ≡ Writer → Traces tagged n t t' w w'' (Err fault)
cut-trace tagged n t t' w w' w'' lines ended fault into is = record {
  steps = ended.steps;
  within = into.run.within;
  goes_on = into.run.goes_on;
  terminal = into.terminal;
  written = 0;
  first = omega arith;
  lines = λ memory. absurd (no-memory fault is memory);
}
