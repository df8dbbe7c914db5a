-- Whether an image has the change of a command, which is said where no line can be printed of it (this project's profile).
use Rattle.std.specs.Prelude.{◌≡◌, ℕ, Bool, Option, None, Some, Result, Ok, Err, List, ◌∷◌}
use Rattle.hosts.specs.Event.{Event, tell_call}
use Rattle.outcome.specs.Notes.{name_text}
use Rattle.outcome.specs.declared.notes.NameNote.TheVariants as named
use Rattle.outcome.specs.declared.endings.Ending.{Ending}
use Rattle.outcome.specs.declared.endings.Ending.TheVariants.{Line, Fault, Failure, Busy, NotWritten, FullOutput, Unreported, NoReader, Misuse}
use Rattle.image_files.specs.declared.states.ChangeState.{ChangeState}
use Rattle.image_files.specs.declared.states.ChangeState.TheVariants.{Made, AsItWas}
use Rattle.image_files.specs.declared.states.ImageNotes.{ImageNotes}

-- the notes on the image of a name
pub record AreNotesOn (name : List ℕ) (notes : ImageNotes) : Type 0 where
  pub has_change : notes.has_change.bytes.items ≡ name_text named.HasChange name
  pub as_it_was : notes.as_it_was.bytes.items ≡ name_text named.AsItWas name

abbrev pub text_of : ChangeState → ImageNotes → List ℕ
text_of Made notes = notes.has_change.bytes.items
text_of AsItWas notes = notes.as_it_was.bytes.items

-- standard error says what an image is, if that is known, and if the command may change one
abbrev pub TellsState : Option ChangeState → Option ImageNotes → List Event → List Event → Type 0
TellsState None notes old new = new ≡ old
TellsState (Some state) None old new = new ≡ old
TellsState (Some state) (Some notes) old new = (ok : Bool) × (new ≡ tell_call ok (text_of state notes) ∷ old)

-- What an image is after a command whose line standard output does not take. It has the change only where that line reports it.
abbrev pub state_at_end : Result (Unit {0}) Ending → Option ChangeState
state_at_end (Ok it) = None
state_at_end (Err Unreported) = Some Made
state_at_end (Err FullOutput) = Some AsItWas
state_at_end (Err (Line line)) = None
state_at_end (Err (Fault fault)) = None
state_at_end (Err Failure) = None
state_at_end (Err (Busy content)) = None
state_at_end (Err (NotWritten content left)) = None
state_at_end (Err NoReader) = None
state_at_end (Err Misuse) = None

-- What it is after a command whose refusal standard output does not take. Of a file that is not written a note of its own says it.
abbrev pub state_refused : Result (Unit {0}) Ending → Option ChangeState
state_refused (Ok it) = None
state_refused (Err (Line line)) = Some AsItWas
state_refused (Err (Fault fault)) = Some AsItWas
state_refused (Err (Busy content)) = Some AsItWas
state_refused (Err Failure) = None
state_refused (Err (NotWritten content left)) = None
state_refused (Err FullOutput) = None
state_refused (Err Unreported) = None
state_refused (Err NoReader) = None
state_refused (Err Misuse) = None
