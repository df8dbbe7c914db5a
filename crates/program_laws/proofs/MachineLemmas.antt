-- How runs and traces end where standard output takes no more, or keys can't be read.
use Rattle.std.proofs.Common.{◌≡◌, ◌∙◌, ◌<◌, ◌≤◌, ℕ, suc, Bool, true, false, true≢false, is_some, if◌then◌else◌, Option, None, Some, Result, Ok, Err, IfErr, List, [], ◌∷◌, ◌++◌, refl, sym, ap, subst, arith, inl, inr, le_refl}
use Rattle.byte_reader.specs.Readings.{Reading}
use Rattle.terminal8.specs.declared.absences.Absence.{Absence}
use Rattle.terminal8.specs.declared.outcomes.Ended.{Ended}
use Rattle.terminal8.specs.declared.outcomes.TerminalEnd.{TerminalEnd}
use Rattle.terminal8.specs.declared.outcomes.TerminalEnd.TheVariants as why
use Rattle.terminal8.specs.declared.outcomes.TerminalFault.{TerminalFault}
use Rattle.terminal8.specs.declared.outcomes.TerminalFault.TheVariants as terminal
use Rattle.trace8.specs.declared.faults.TraceFault.{TraceFault}
use Rattle.trace8.specs.declared.faults.TraceFault.TheVariants as trace
use Rattle.hosts.specs.Event.{Call, Event, Print, print_call}
use Rattle.hosts.specs.Streams.{output, with_printed}
use Rattle.hosts.specs.declared.faults.PrintFault.{PrintFault}
use Rattle.hosts.specs.declared.faults.PrintFault.TheVariants.{Abandoned, Failed}
use Rattle.host_output.specs.Printing.{ArePrinted, ArePrints, HasPrinted, last_fault}
use Rattle.refusals.specs.declared.faults.SessionFault.TheVariants as session
use Rattle.outcome.specs.declared.endings.Ending.{Ending}
use Rattle.outcome.specs.declared.endings.Ending.TheVariants.{Fault, Failure, FullOutput}
use Rattle.image_files.specs.Work.{Purely, Then}
use Rattle.run_commands.specs.Lines.{TellsRun, ending_of_output}
use Rattle.run_commands.specs.Printing.{EndsRun, EndsTrace, IsEndOf, NotesAbsences, PrintsRun, PrintsTrace, line_of_end}
use Rattle.program_laws.specs.Ends.{HasLostLine}
use Rattle.program_laws.specs.Statuses.{failed_prints}

-- ## Prints

one-more : (e : Event) (earlier : List Event) → e.call ≡ Print → output (e ∷ earlier) ≡ (e.ok, e.bytes) ∷ output earlier
one-more e earlier is = ap (λ (c : Call). with_printed c e (output earlier)) is

all-taken : (prints old : List Event) → ArePrinted prints → failed_prints (output (prints ++ old)) ≡ failed_prints (output old)
all-taken [] old all = refl
all-taken (e ∷ earlier) old all =
    ap failed_prints (one-more e (earlier ++ old) all.0)
    ∙ ap (λ (ok : Bool). failed_prints ((ok, e.bytes) ∷ output (earlier ++ old))) all.1
    ∙ all-taken earlier old all.2

fails-if : (ok : Bool) (fault : PrintFault) → is_some (if ok then None else Some fault) ≡ true → ok ≡ false
fails-if true fault is = absurd (true≢false (sym is))
fails-if false fault is = refl

lost-in : (prints old : List Event) → ArePrints prints → is_some (last_fault prints) ≡ true → failed_prints (output old) < failed_prints (output (prints ++ old))
lost-in [] old all is = absurd (true≢false (sym is))
lost-in (e ∷ earlier) old all is =
    let fails = fails-if e.ok _ is in
    let more : failed_prints (output (e ∷ earlier ++ old)) ≡ suc (failed_prints (output (earlier ++ old))) =
    ap failed_prints (one-more e (earlier ++ old) all.0) ∙ ap (λ (ok : Bool). failed_prints ((ok, e.bytes) ∷ output (earlier ++ old))) fails in
    omega (arith, more, all-taken earlier old all.1)

has-lost : (old new : List Event) (fault : Option PrintFault) → HasPrinted old new fault → is_some fault ≡ true → HasLostLine old new
has-lost old new fault p is = subst (λ (n : List Event). failed_prints (output old) < failed_prints (output n)) (sym p.calls)
    (lost-in p.prints old p.all (ap is_some (sym p.last) ∙ is))

more-or-same : (ok : Bool) (bytes : List ℕ) (earlier : List (Bool × List ℕ)) → failed_prints earlier ≤ failed_prints ((ok, bytes) ∷ earlier)
more-or-same true bytes earlier = le_refl _
more-or-same false bytes earlier = omega arith

grown-in : (prints old : List Event) → ArePrints prints → failed_prints (output old) ≤ failed_prints (output (prints ++ old))
grown-in [] old all = le_refl _
grown-in (e ∷ earlier) old all = omega (
  arith,
  all-taken earlier old all.1,
  ap failed_prints (one-more e (earlier ++ old) all.0),
  more-or-same e.ok e.bytes (output (earlier ++ old)),
)

grown : (old new : List Event) (fault : Option PrintFault) → HasPrinted old new fault → failed_prints (output old) ≤ failed_prints (output new)
grown old new fault p = subst (λ (n : List Event). failed_prints (output old) ≤ failed_prints (output n)) (sym p.calls) (grown-in p.prints old p.all)

-- ## Runs

other-end : FullOutput ≡ Failure → ⊥
other-end is = cc

not-full : (end : TerminalEnd) → IsEndOf end (Err FullOutput) → ⊥
not-full why.Halt is = is
not-full why.Keys is = is
not-full why.Unassigned is = other-end is
not-full why.Limit is = other-end is

no-memory : FullOutput ≡ Fault session.Memory → ⊥
no-memory is = cc

no-reader : FullOutput ≡ Fault session.Reader → ⊥
no-reader is = cc

-- notes of absent devices end no command but for want of memory
notes-lack : (absences : List Absence) (ending : Ending) (old new : List Event) → NotesAbsences absences old (Err ending) new → ending ≡ Fault session.Memory
notes-lack [] ending old new p = absurd p.0
notes-lack (absence ∷ others) ending old new (inl p) = p.0
notes-lack (absence ∷ others) ending old new (inr p) = notes-lack others ending p.between new p.after

full-line : (line : _) (end : TerminalEnd) (old new : List Event) → Then (TellsRun line) (λ it. Purely (IsEndOf end)) old (Err FullOutput) new → ⊥
full-line line end old new (inl p) = no-memory p.0
full-line line end old new (inr p) = not-full end p.after.0

full-run : (stand : _) (absences : List Absence) (fault : Option PrintFault) (done : Result Ended TerminalFault) (between new : List Event) → EndsRun stand absences fault done between (Err FullOutput) new
    → (done ≡ Err terminal.Writer) × (new ≡ between)
full-run stand absences fault (Ok ended) between new (inl p) = absurd (no-memory (notes-lack absences FullOutput between new p))
full-run stand absences fault (Ok ended) between new (inr p) = absurd (full-line (line_of_end stand ended.why) ended.why p.between new p.after)
full-run stand absences fault (Err terminal.Reader) between new p = absurd (no-reader p.0)
full-run stand absences fault (Err terminal.Writer) between new p = (refl, p.1)

caused : {A E : Type 0} (done : Result A E) (why : E) (holds : Type 0) → IfErr done (λ it. it ≡ why → holds) → done ≡ Err why → holds
caused {A} {E} done why holds cause is = subst (λ (d : Result A E). IfErr d (λ it. it ≡ why → holds)) is cause refl

pub run-loses : (runs_to : _ → Option (List ℕ) → Option (List ℕ) → List Absence → Result Ended TerminalFault → Type 0) (keys : Reading) (old new : List Event) → PrintsRun runs_to keys old (Err FullOutput) new → HasLostLine old new
run-loses runs_to keys old new p =
    let full = full-run p.stand p.absences p.fault p.done p.between new p.ends in
    subst (λ (n : List Event). HasLostLine old n) (sym full.1) (has-lost old p.between p.fault p.prints (caused p.done terminal.Writer (is_some p.fault ≡ true) p.cause full.0))

-- ## Traces

full-trace : (cell : ℕ) (fault : Option PrintFault) (done : Result Ended TraceFault) (old between new : List Event) → HasPrinted old between fault → IfErr done (λ it. it ≡ trace.Writer → is_some fault ≡ true)
    → EndsTrace cell fault done between (Err FullOutput) new → HasLostLine old new
full-trace cell fault (Ok ended) old between new prints cause (inl p) = absurd (no-memory p.0)
full-trace cell fault (Ok ended) old between new prints cause (inr p) =
    let is : new ≡ print_call false 0 p.given.items ∷ p.between = p.after in
    let more : failed_prints (output new) ≡ suc (failed_prints (output between)) = ap (λ (n : List Event). failed_prints (output n)) is ∙ ap (λ (n : List Event). suc (failed_prints (output n))) p.done.1 in
    omega (arith, more, grown old between fault prints)
full-trace cell fault (Err trace.Memory) old between new prints cause p = absurd (no-memory p.0)
full-trace cell fault (Err trace.Writer) old between new prints cause p = subst (λ (n : List Event). HasLostLine old n) (sym p.1) (has-lost old between fault prints (cause refl))

pub trace-loses : (traces_to : ℕ → Option (List ℕ) → Option (List ℕ) → Result Ended TraceFault → Type 0) (old new : List Event) → PrintsTrace traces_to old (Err FullOutput) new → HasLostLine old new
trace-loses traces_to old new p = full-trace p.cell p.fault p.done old p.between new p.prints p.cause p.ends

-- ## Keys

keys-end : (end : TerminalEnd) → IsEndOf end (Err (Fault session.Reader)) → ⊥
keys-end why.Halt is = is
keys-end why.Keys is = is
keys-end why.Unassigned is = cc
keys-end why.Limit is = cc

keys-memory : Fault session.Reader ≡ Fault session.Memory → ⊥
keys-memory is = cc

writer-ending : (fault : Option PrintFault) → Fault session.Reader ≡ ending_of_output fault → ⊥
writer-ending None is = cc
writer-ending (Some Abandoned) is = cc
writer-ending (Some Failed) is = cc

unread-line : (line : _) (end : TerminalEnd) (old new : List Event) → Then (TellsRun line) (λ it. Purely (IsEndOf end)) old (Err (Fault session.Reader)) new → ⊥
unread-line line end old new (inl p) = keys-memory p.0
unread-line line end old new (inr p) = keys-end end p.after.0

unread-run : (stand : _) (absences : List Absence) (fault : Option PrintFault) (done : Result Ended TerminalFault) (between new : List Event)
    → EndsRun stand absences fault done between (Err (Fault session.Reader)) new → done ≡ Err terminal.Reader
unread-run stand absences fault (Ok ended) between new (inl p) = absurd (keys-memory (notes-lack absences (Fault session.Reader) between new p))
unread-run stand absences fault (Ok ended) between new (inr p) = absurd (unread-line (line_of_end stand ended.why) ended.why p.between new p.after)
unread-run stand absences fault (Err terminal.Reader) between new p = refl
unread-run stand absences fault (Err terminal.Writer) between new p = absurd (writer-ending fault p.0)

pub run-unread : (runs_to : _ → Option (List ℕ) → Option (List ℕ) → List Absence → Result Ended TerminalFault → Type 0) (keys : Reading) (old new : List Event) → PrintsRun runs_to keys old (Err (Fault session.Reader)) new → keys.has_failed
run-unread runs_to keys old new p = caused p.done terminal.Reader keys.has_failed p.failed (unread-run p.stand p.absences p.fault p.done p.between new p.ends)
