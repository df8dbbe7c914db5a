-- A run in rounds, as far as it has come.
use Rattle.std.proofs.Common.{◌≡◌, ◌∙◌, ◌<◌, ◌≤◌, arith, ℕ, zero, suc, ◌-◌, ◌^◌, Bool, true, false, true≢false, is_some, unwrap_or, IfErr, Option, None, Some, String, Result, Ok, Err, List, [], ◌++◌, refl, ap, sym, subst, inl, inr}
use Rattle.std.specs.Global.{Global}
use Rattle.byte_reader.specs.Readings.{Reading}
use Rattle.hosts.specs.declared.faults.PrintFault.{PrintFault}
use Rattle.hosts.specs.Event.{Event}
use Rattle.hosts.specs.Streams.{output_text}
use Rattle.host_output.specs.Printing.{HasPrinted}
use Rattle.terminal8.specs.declared.absences.Absence.{Absence}
use Rattle.terminal8.specs.declared.inputs.Input.{Input}
use Rattle.terminal8.specs.declared.keyboards.Form.{Form}
use Rattle.terminal8.specs.declared.outcomes.Ended.{Ended}
use Rattle.terminal8.specs.declared.outcomes.TerminalFault.{TerminalFault}
use Rattle.terminal8.specs.declared.outcomes.TerminalFault.TheVariants as terminal
use Rattle.terminal8e.specs.AnyRun.{RunsProgram}
use Rattle.terminal8e.specs.Parts.{ComesTo, HasCome, IsPause, IsWithin}
use Rattle.terminal8e.specs.declared.sittings.Sitting.{Sitting}
use Rattle.program_tasks.specs.declared.boots.ConsoleForm.{ConsoleForm}
use Rattle.outcome.specs.declared.endings.Ending.{Ending}
use Rattle.drive_files.specs.Inputs.{form_of, input_of}
use Rattle.drive_files.specs.declared.mounting.Places.{Places}
use Rattle.drive_files.proofs.OutputLemmas.{papers-text, saves-text}
use Rattle.drive_files.specs.Rounds.{AsksAfter, AsksForEnd, DoesAfter, DoesBetween, EndsOrBreaks, FilesIfGrown, IsBroken, SavedPlaces, SavesIfDue, Rounds, RunsRounds, none_saved}
use Rattle.drive_files.specs.declared.rounds.LastSave.{LastSave}
use Rattle.drive_files.specs.declared.rounds.Unsaved.{Unsaved}
use Rattle.drive_files.specs.declared.rounds.Ran.{Ran}
use Rattle.drive_files.specs.Consoles.{console_acts}
use Rattle.drive_files.specs.declared.consoles.Console.{Console}

-- ## What is done between two rounds prints nothing

asks-text : (name : Option (String Global)) (old : List Event) (is_asked : Bool) (new : List Event) → AsksForEnd name old is_asked new → output_text new ≡ output_text old
asks-text None old is_asked new p = ap output_text p.1
asks-text (Some name) old is_asked new p = ap output_text p

asks-after-text : (name : Option (String Global)) (filed : Result (Unit {0}) Ending) (old : List Event) (result : Result Bool Unsaved) (new : List Event) → AsksAfter name filed old result new
    → output_text new ≡ output_text old
asks-after-text name (Ok it) old (Ok is_asked) new p = asks-text name old is_asked new p
asks-after-text name (Ok it) old (Err why) new p = absurd p
asks-after-text name (Err ending) old (Ok is_asked) new p = absurd p
asks-after-text name (Err ending) old (Err why) new p = ap output_text p.1

saves-if-text : (form : ConsoleForm) (steps : ℕ) (s : Console) (kept kept' : SavedPlaces) (old : List Event) (result : Result (Unit {0}) Ending) (new : List Event) → SavesIfDue form steps s kept kept' old result new
    → output_text new ≡ output_text old
saves-if-text form steps s kept kept' old result new (inl (due, is, p)) = ap output_text p.1
saves-if-text form steps s kept kept' old result new (inr there) = saves-text s.machine.disk kept.0 kept'.0 old result new there.saves

files-if-text : (s : Console) (places : Places) (last last' : LastSave) (old : List Event) (result : Result (Unit {0}) Ending) (new : List Event) → FilesIfGrown s places last last' old result new
    → output_text new ≡ output_text old
files-if-text s places last last' old result new (inl (grown, is, p)) = ap output_text p.1
files-if-text s places last last' old result new (inr there) = papers-text s.papers places.papers old result new there.saves

after-text : (name : Option (String Global)) (s : Console) (saved : Result (Unit {0}) Ending) (kept kept' : SavedPlaces) (old : List Event) (result : Result Bool Unsaved) (new : List Event)
    → DoesAfter name s saved kept kept' old result new → output_text new ≡ output_text old
after-text name s (Ok it) kept kept' old result new (filed, last, between, files, is, asks) =
    asks-after-text name filed between result new asks ∙ files-if-text s kept.0 kept.1 last old filed between files
after-text name s (Err ending) kept kept' old (Ok is_asked) new p = absurd p
after-text name s (Err ending) kept kept' old (Err why) new (is, same, p) = ap output_text p

pub between-text : (form : ConsoleForm) (steps : ℕ) (s : Console) (kept kept' : SavedPlaces) (old : List Event) (result : Result Bool Unsaved) (new : List Event) → DoesBetween form steps s kept kept' old result new
    → output_text new ≡ output_text old
between-text form steps s kept kept' old result new (saved, mid, between, saves, after) =
    after-text form.ends_with s saved mid kept' between result new after ∙ saves-if-text form steps s kept mid old saved between saves

-- ## The rounds

-- how many rounds were made, with so many steps
pub record HaveMade (form : ConsoleForm) (first : Console) (steps : ℕ) (kept kept' : SavedPlaces) (old new : List Event) : Type 0 where
  pub count : ℕ
  pub rounds : Rounds form first count steps kept kept' old new

pub none-made : (form : ConsoleForm) (first : Console) (kept : SavedPlaces) (old : List Event) → HaveMade form first 0 kept kept old old
none-made form first kept old = record { count = zero; rounds = (refl, refl, refl) }

pub next-made : (form : ConsoleForm) (keyed : Form) (input : Input) (first now : Console) (earlier : ℕ) (t : Sitting) (r r' w w' : Option (List ℕ)) (kept mid kept' : SavedPlaces) (old before printed new : List Event)
    → HaveMade form first earlier kept mid old before → earlier < t.steps → HasPrinted before printed None → HasCome console_acts keyed input first now t r r' w w'
    → DoesBetween form t.steps now mid kept' printed (Ok false) new → HaveMade form first t.steps kept kept' old new
next-made form keyed input first now earlier t r r' w w' kept mid kept' old before printed new made less prints come does = record {
  count = suc made.count;
  rounds = (
    earlier,
    mid,
    before,
    printed,
    come.looks ++ [],
    less,
    made.rounds,
    prints,
    subst (λ s. DoesBetween form t.steps s mid kept' printed (Ok false) new) (sym (ap (λ x. x.machine) (come.at [] (λ _. refl)))) does,
  );
}

-- a run goes on where what was done since prints nothing
pub come-on : (keyed : Form) (input : Input) (first now : Console) (t : Sitting) (r r' : Option (List ℕ)) (w : Option (List ℕ)) (printed new : List Event)
    → HasCome console_acts keyed input first now t r r' w (Some (output_text printed)) → output_text new ≡ output_text printed
    → HasCome console_acts keyed input first now t r r' w (Some (output_text new))
come-on keyed input first now t r r' w printed new come is = subst (λ text. HasCome console_acts keyed input first now t r r' w (Some text)) (sym is) come

-- a part of a run, whose input is that of its operator, and whose answer is this
pub part-comes : (keyed : Form) (input x : Input) (n : ℕ) (first now next : Console) (old t : Sitting) (r r' r'' w w' w'' : Option (List ℕ)) (part result : Result (Option Ended) TerminalFault) → x ≡ input → part ≡ result
    → (HasCome console_acts keyed x first now old r r' w w' → ComesTo console_acts keyed x n first next t r r'' w w'' part) → HasCome console_acts keyed input first now old r r' w w'
    → ComesTo console_acts keyed input n first next t r r'' w w'' result
part-comes keyed input x n first now next old t r r' r'' w w' w'' part result is gives go come =
    subst (λ (a : Result (Option Ended) TerminalFault). ComesTo console_acts keyed input n first next t r r'' w w'' a) gives
    (subst (λ (y : Input). ComesTo console_acts keyed y n first next t r r'' w w'' part) is (go (subst (λ (y : Input). HasCome console_acts keyed y first now old r r' w w') (sym is) come)))

-- a part after which the run goes on leaves steps to be made
pub pause-within : (n most soonest : ℕ) (old new : Sitting) (part : Result (Option Ended) TerminalFault) → part ≡ Ok None → IsPause n most soonest old new part → IsWithin n new
pause-within n most soonest old new part is p =
    let q = subst (λ (r : Result (Option Ended) TerminalFault). IsPause n most soonest old new r) is p in
    let less : new.steps < n = q.1 in
    (omega (arith, less), q.2)

-- it has made steps
pub pause-less : (n most soonest : ℕ) (old new : Sitting) (part : Result (Option Ended) TerminalFault) → part ≡ Ok None → IsPause n most soonest old new part → old.steps < new.steps
pause-less n most soonest old new part is p = (subst (λ (r : Result (Option Ended) TerminalFault). IsPause n most soonest old new r) is p).0

-- a run that is broken off, whose input is that of its operator
pub broken-runs : (keyed : Form) (input x : Input) (steps : ℕ) (first now : Console) (t : Sitting) (r l w p : Option (List ℕ)) (f : List Absence) (answer : Result Ended TerminalFault) → x ≡ input
    → (HasCome console_acts keyed x first now t r l w p → RunsProgram console_acts keyed x steps first now r l w p f answer) → HasCome console_acts keyed input first now t r l w p
    → RunsProgram console_acts keyed input steps first now r l w p f answer
broken-runs keyed input x steps first now t r l w p f answer is go come =
    subst (λ (y : Input). RunsProgram console_acts keyed y steps first now r l w p f answer) is (go (subst (λ (y : Input). HasCome console_acts keyed y first now t r l w p) (sym is) come))

-- ## The end

-- an answer that is no fault has none of which anything is to be shown
no-fault : (answer : Result Ended TerminalFault) (P : TerminalFault → Type 0) → IfErr answer (λ _. ⊥) → IfErr answer P
no-fault (Ok ended) P none = tt
no-fault (Err fault) P none = absurd none

pub none-is : (fault : Option PrintFault) → is_some fault ≡ false → fault ≡ None
none-is None is = refl
none-is (Some it) is = absurd (true≢false is)

-- the run has come to its end in a round
pub ended-rounds : (form : ConsoleForm) (first after : Console) (places : Places) (mid : SavedPlaces) (keys : Reading) (old before new : List Event) (ran : Ran) (earlier most : ℕ) (fault : Option PrintFault) (f : List Absence) (answer : Result Ended TerminalFault)
    → most ≡ unwrap_or form.steps (2 ^ 64 - 1) → earlier ≤ most → HaveMade form first earlier (places, none_saved) mid old before
    → RunsProgram console_acts (form_of form.is_raw) (input_of form.is_live) most first after keys.before keys.after (Some (output_text old)) (Some (output_text new)) f answer
    → HasPrinted before new fault → IfErr answer (λ it. it ≡ terminal.Writer → is_some fault ≡ true) → IfErr answer (λ it. it ≡ terminal.Reader → keys.has_failed)
    → ran.fault ≡ fault → ran.answer ≡ answer → ran.absences ≡ f → ran.save ≡ Ok tt → RunsRounds form first after places mid.0 keys old ran new
ended-rounds form first after places mid keys old before new ran earlier most fault f answer is within made runs prints cause failed same-fault same-answer same-absences saved = record {
  most = most;
  runs = subst (λ (x : List Absence). RunsProgram console_acts (form_of form.is_raw) (input_of form.is_live) most first after keys.before keys.after (Some (output_text old)) (Some (output_text new)) x ran.answer) (sym same-absences)
      (subst (λ a. RunsProgram console_acts (form_of form.is_raw) (input_of form.is_live) most first after keys.before keys.after (Some (output_text old)) (Some (output_text new)) f a) (sym same-answer) runs);
  count = made.count;
  steps = earlier;
  mid = mid;
  before = before;
  rounds = made.rounds;
  within = within;
  left = mid.1;
  last = inl (inl is, subst (λ f. HasPrinted before new f) (sym same-fault) prints, saved, refl);
  cause = subst (λ a. IfErr a (λ it. it ≡ terminal.Writer → is_some ran.fault ≡ true)) (sym same-answer)
      (subst (λ f. IfErr answer (λ it. it ≡ terminal.Writer → is_some f ≡ true)) (sym same-fault) cause);
  failed = subst (λ a. IfErr a (λ it. it ≡ terminal.Reader → keys.has_failed)) (sym same-answer) failed;
}

-- the run is broken off, after so many steps
broken : (form : ConsoleForm) (first after : Console) (places : Places) (mid kept' : SavedPlaces) (keys : Reading) (old before new : List Event) (ran : Ran) (earlier steps : ℕ) → earlier < steps
    → HaveMade form first earlier (places, none_saved) mid old before
    → RunsProgram console_acts (form_of form.is_raw) (input_of form.is_live) steps first after keys.before keys.after (Some (output_text old)) (Some (output_text new)) ran.absences ran.answer
    → IfErr ran.answer (λ _. ⊥) → EndsOrBreaks form after mid kept' steps before ran new → RunsRounds form first after places kept'.0 keys old ran new
broken form first after places mid kept' keys old before new ran earlier steps less made runs none last = record {
  most = steps;
  runs = runs;
  count = made.count;
  steps = earlier;
  mid = mid;
  before = before;
  rounds = made.rounds;
  within = omega (arith, less);
  left = kept'.1;
  last = last;
  cause = no-fault ran.answer _ none;
  failed = no-fault ran.answer _ none;
}

-- it is broken off since a print failed
pub broken-by-print : (form : ConsoleForm) (first after : Console) (places : Places) (mid : SavedPlaces) (keys : Reading) (old before new : List Event) (ran : Ran) (earlier steps : ℕ) (fault : Option PrintFault)
    → earlier < steps → HaveMade form first earlier (places, none_saved) mid old before
    → RunsProgram console_acts (form_of form.is_raw) (input_of form.is_live) steps first after keys.before keys.after (Some (output_text old)) (Some (output_text new)) ran.absences ran.answer
    → IfErr ran.answer (λ _. ⊥) → HasPrinted before new fault → is_some fault ≡ true → ran.fault ≡ fault → ran.save ≡ Ok tt → RunsRounds form first after places mid.0 keys old ran new
broken-by-print form first after places mid keys old before new ran earlier steps fault less made runs none prints some same saved =
    broken form first after places mid mid keys old before new ran earlier steps less made runs none
    (inl (inr (ap (λ f. is_some f) same ∙ some), subst (λ f. HasPrinted before new f) (sym same) prints, saved, refl))

-- it is broken off by what was done after a round
pub broken-between : (form : ConsoleForm) (first after : Console) (places : Places) (mid kept' : SavedPlaces) (keys : Reading) (old before printed new : List Event) (ran : Ran) (earlier steps : ℕ) (result : Result Bool Unsaved)
    → earlier < steps → HaveMade form first earlier (places, none_saved) mid old before
    → RunsProgram console_acts (form_of form.is_raw) (input_of form.is_live) steps first after keys.before keys.after (Some (output_text old)) (Some (output_text new)) ran.absences ran.answer
    → IfErr ran.answer (λ _. ⊥) → HasPrinted before printed None → DoesBetween form steps after mid kept' printed result new → IsBroken result ran.save → ran.fault ≡ None
    → RunsRounds form first after places kept'.0 keys old ran new
broken-between form first after places mid kept' keys old before printed new ran earlier steps result less made runs none prints does breaks is =
    broken form first after places mid kept' keys old before new ran earlier steps less made runs none (inr (printed, result, prints, does, breaks, is))
