-- Prints, one after another.
use Rattle.std.proofs.Common.{◌≡◌, ◌∙◌, ℕ, Bool, true, false, nat_eq, if◌then◌else◌, is_some, Option, None, Some, List, [], ◌∷◌, ◌++◌, ap, refl, sym}
use Rattle.hosts.specs.Event.{Event, Call, print_call}
use Rattle.hosts.specs.Faults.{pipe_number}
use Rattle.hosts.specs.Place.{about, with_step}
use Rattle.hosts.specs.Streams.{changes_at, errors, folders, output, read, with_folder, with_printed, with_told, with_read}
use Rattle.hosts.specs.declared.faults.PrintFault.{PrintFault}
use Rattle.hosts.specs.declared.faults.PrintFault.TheVariants.{Abandoned, Failed}
use Rattle.host_output.specs.Printing.{ArePrinted, ArePrints, AreTaken, AreTakenButLast, HasPrinted, StopsAtFailure, last_fault}

-- ## How they grow

pub printed_none : (old new : List Event) → new ≡ old → HasPrinted old new None
printed_none old new is = record { prints = []; all = tt; calls = is; last = refl }

ok_of : (ok : Bool) (why : PrintFault) → None ≡ (if ok then None else Some why) → ok ≡ true
ok_of true why none = refl
ok_of false why none = absurd (none_some why none) where
  none_some : (w : PrintFault) → None ≡ Some w → ⊥
  none_some w is = cc

-- prints of which the newest did not fail have all printed
all_printed : (prints : List Event) → ArePrints prints → None ≡ last_fault prints → ArePrinted prints
all_printed [] all none = tt
all_printed (e ∷ earlier) all none = (all.0, ok_of e.ok (if nat_eq e.number 1 then Abandoned else Failed) none, all.1)

none_of : (fault : Option PrintFault) → false ≡ is_some fault → None ≡ fault
none_of None is = refl
none_of (Some why) is = absurd (no_set is) where
  no_set : false ≡ true → ⊥
  no_set same = cc

pub printed_one : (old between new : List Event) (fault : Option PrintFault) (bytes : List ℕ) → HasPrinted old between fault → false ≡ is_some fault → new ≡ print_call true 0 bytes ∷ between → HasPrinted old new fault
printed_one old between new fault bytes p none is = record {
  prints = print_call true 0 bytes ∷ p.prints;
  all = (refl, all_printed p.prints p.all (none_of fault none ∙ p.last));
  calls = is ∙ ap (λ (events : List Event). print_call true 0 bytes ∷ events) p.calls;
  last = sym (none_of fault none);
}

last_one : (fault : PrintFault) (bytes : List ℕ) (prints : List Event) → Some fault ≡ last_fault (print_call false (pipe_number fault) bytes ∷ prints)
last_one Abandoned bytes prints = refl
last_one Failed bytes prints = refl

pub printed_fault : (old between new : List Event) (fault : Option PrintFault) (why : PrintFault) (bytes : List ℕ) → HasPrinted old between fault → false ≡ is_some fault
    → new ≡ print_call false (pipe_number why) bytes ∷ between → HasPrinted old new (Some why)
printed_fault old between new fault why bytes p none is = record {
  prints = print_call false (pipe_number why) bytes ∷ p.prints;
  all = (refl, all_printed p.prints p.all (none_of fault none ∙ p.last));
  calls = is ∙ ap (λ (events : List Event). print_call false (pipe_number why) bytes ∷ events) p.calls;
  last = last_one why bytes p.prints;
}

-- ## What they leave

changes_printed : (path : List ℕ) (prints old : List Event) → ArePrinted prints → changes_at path (prints ++ old) ≡ changes_at path old
changes_printed path [] old all = refl
changes_printed path (e ∷ earlier) old all =
    ap (λ (call : Call). (with_step call e path (about path (earlier ++ old)), with_folder call e (folders (earlier ++ old)))) all.0 ∙ changes_printed path earlier old all.2

changes_prints : (path : List ℕ) (prints old : List Event) → ArePrints prints → changes_at path (prints ++ old) ≡ changes_at path old
changes_prints path [] old all = refl
changes_prints path (e ∷ earlier) old all =
    ap (λ (call : Call). (with_step call e path (about path (earlier ++ old)), with_folder call e (folders (earlier ++ old)))) all.0 ∙ changes_printed path earlier old all.1

errors_printed : (prints old : List Event) → ArePrinted prints → errors (prints ++ old) ≡ errors old
errors_printed [] old all = refl
errors_printed (e ∷ earlier) old all = ap (λ (call : Call). with_told call e (errors (earlier ++ old))) all.0 ∙ errors_printed earlier old all.2

errors_prints : (prints old : List Event) → ArePrints prints → errors (prints ++ old) ≡ errors old
errors_prints [] old all = refl
errors_prints (e ∷ earlier) old all = ap (λ (call : Call). with_told call e (errors (earlier ++ old))) all.0 ∙ errors_printed earlier old all.1

read_printed : (prints old : List Event) → ArePrinted prints → read (prints ++ old) ≡ read old
read_printed [] old all = refl
read_printed (e ∷ earlier) old all = ap (λ (call : Call). with_read call e (read (earlier ++ old))) all.0 ∙ read_printed earlier old all.2

read_prints : (prints old : List Event) → ArePrints prints → read (prints ++ old) ≡ read old
read_prints [] old all = refl
read_prints (e ∷ earlier) old all = ap (λ (call : Call). with_read call e (read (earlier ++ old))) all.0 ∙ read_printed earlier old all.1

pub same_files : (old new : List Event) (fault : Option PrintFault) (path : List ℕ) → HasPrinted old new fault → changes_at path new ≡ changes_at path old
same_files old new fault path p = ap (λ (events : List Event). changes_at path events) p.calls ∙ changes_prints path p.prints old p.all

pub same_errors : (old new : List Event) (fault : Option PrintFault) → HasPrinted old new fault → errors new ≡ errors old
same_errors old new fault p = ap (λ (events : List Event). errors events) p.calls ∙ errors_prints p.prints old p.all

pub same_reads : (old new : List Event) (fault : Option PrintFault) → HasPrinted old new fault → read new ≡ read old
same_reads old new fault p = ap (λ (events : List Event). read events) p.calls ∙ read_prints p.prints old p.all

-- ## What is taken

abbrev told-of : List Event → List (Bool × List ℕ)
told-of [] = []
told-of (e ∷ earlier) = (e.ok, e.bytes) ∷ told-of earlier

output-printed : (prints old : List Event) → ArePrinted prints → output (prints ++ old) ≡ told-of prints ++ output old
output-printed [] old all = refl
output-printed (e ∷ earlier) old all = ap (λ (call : Call). with_printed call e (output (earlier ++ old))) all.0 ∙ ap (λ (l : List (Bool × List ℕ)). (e.ok, e.bytes) ∷ l) (output-printed earlier old all.2)

output-prints : (prints old : List Event) → ArePrints prints → output (prints ++ old) ≡ told-of prints ++ output old
output-prints [] old all = refl
output-prints (e ∷ earlier) old all = ap (λ (call : Call). with_printed call e (output (earlier ++ old))) all.0 ∙ ap (λ (l : List (Bool × List ℕ)). (e.ok, e.bytes) ∷ l) (output-printed earlier old all.1)

taken-printed : (prints : List Event) → ArePrinted prints → AreTaken (told-of prints)
taken-printed [] all = tt
taken-printed (e ∷ earlier) all = (all.1, taken-printed earlier all.2)

taken-prints : (prints : List Event) → ArePrints prints → AreTakenButLast (told-of prints)
taken-prints [] all = tt
taken-prints (e ∷ earlier) all = taken-printed earlier all.1

pub stops : (old new : List Event) (fault : Option PrintFault) → HasPrinted old new fault → StopsAtFailure old new
stops old new fault p = record {
  since = told-of p.prints;
  are = ap (λ (events : List Event). output events) p.calls ∙ output-prints p.prints old p.all;
  taken = taken-prints p.prints p.all;
}
