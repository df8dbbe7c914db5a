-- What is printed at the end of a command, and its exit status.
use Rattle.std.specs.Prelude.{◌≡◌, ◌⊎◌, ℕ, nat_eq, if◌then◌else◌, Bool, Option, None, Some, Result, Ok, Err, List, ◌∷◌, IsUtf8, true, false}
use Rattle.hosts.specs.Event.{Event, tell_call}
use Rattle.outcome.specs.Contents.{content_name}
use Rattle.outcome.specs.Notes.{file_text}
use Rattle.outcome.specs.Outcomes.{outcome_of}
use Rattle.outcome.specs.Shown.{writing_of}
use Rattle.outcome.specs.declared.contents.Content.{Content}
use Rattle.outcome.specs.declared.notes.FileNote.{FileNote}
use Rattle.outcome.specs.declared.outcomes.Outcome.{Outcome}
use Rattle.outcome.specs.declared.outcomes.Stream.{Stream}
use Rattle.outcome.specs.declared.outcomes.Stream.TheVariants.{Output, Errors}
use Rattle.outcome.specs.declared.endings.Ending.{Ending}
use Rattle.image_files.specs.Saving.{Prints, IsDone}
use Rattle.outcome.specs.declared.endings.Ending.TheVariants.{Failure, NoReader}
use Rattle.image_files.specs.States.{TellsState, state_at_end, state_refused}
use Rattle.image_files.specs.declared.states.ChangeState.{ChangeState}
use Rattle.image_files.specs.declared.states.ImageNotes.{ImageNotes}

-- the note is printed on standard error, if there is one
abbrev pub with_note : Option (FileNote × Content) → Bool → List Event → List Event
with_note None ok old = old
with_note (Some it) ok old = tell_call ok (file_text it.0 (content_name it.1)) ∷ old

-- a line is printed on standard error, where it is a text
abbrev pub TellsLine : List ℕ → List Event → List Event → Type 0
TellsLine line old new = (IsUtf8 line × (ok : Bool) × (new ≡ tell_call ok line ∷ old)) ⊎ ((IsUtf8 line → ⊥) × (new ≡ old))

-- a line is printed on a stream
abbrev pub PrintsLine : Stream → List ℕ → List Event → Result (Unit {0}) Ending → List Event → Type 0
PrintsLine Output line old result new = Prints line old result new
PrintsLine Errors line old result new = IsDone result × TellsLine line old new

-- the note of an outcome is printed, and then its line
abbrev pub PrintsOutcome : Outcome → List Event → Result (Unit {0}) Ending → List Event → Type 0
PrintsOutcome it old result new = (ok : Bool) × PrintsLine it.stream it.line.items (with_note it.note ok old) result new

-- where standard output doesn't take the line, the outcome of that is printed in its place
abbrev pub EndsInstead : Bool → Ending → List Event → List Event → ℕ → Type 0
EndsInstead is_data ending old new status = (other : Outcome) × (writing_of other ≡ outcome_of is_data (Err ending))
    × (last : Result (Unit {0}) Ending) × PrintsOutcome other old last new × (status ≡ other.status)

-- a line that nobody reads: the status is 141 after a command whose work went well, and else that of its refusal
abbrev pub status_unread : ℕ → ℕ
status_unread status = if nat_eq status 0 then 141 else status

-- Where nobody reads the line, no more is printed. Where standard output takes no more, it is said first what the image is.
abbrev pub EndsUnread : Bool → Option ChangeState → Option ImageNotes → ℕ → Ending → List Event → List Event → ℕ → Type 0
EndsUnread is_data state notes refusal NoReader old new status = (new ≡ old) × (status ≡ status_unread refusal)
EndsUnread is_data state notes refusal ending old new status = (told : List Event) × TellsState state notes old told × EndsInstead is_data ending told new status

abbrev pub EndsAfter : Bool → Option ChangeState → Option ImageNotes → ℕ → Result (Unit {0}) Ending → List Event → List Event → ℕ → Type 0
EndsAfter is_data state notes given (Ok it) old new status = (new ≡ old) × (status ≡ given)
EndsAfter is_data state notes given (Err ending) old new status = EndsUnread is_data state notes given ending old new status

-- A command whose work came to this prints what the table of outcomes has for it, and ends with that status. Where it may change an image,
-- notes say whether that has the change, wherever standard output takes no line of it.
pub record EndsSo (is_data : Bool) (notes : Option ImageNotes) (work : Result (Unit {0}) Ending) (old new : List Event) (status : ℕ) : Type 0 where
  pub told : List Event
  pub tells : TellsState (state_at_end work) notes old told
  pub outcome : Outcome
  pub is : writing_of outcome ≡ outcome_of is_data work
  pub printed : Result (Unit {0}) Ending
  pub between : List Event
  pub prints : PrintsOutcome outcome told printed between
  pub after : EndsAfter is_data (state_refused work) notes outcome.status printed between new status

-- the command ends well where all is sound
abbrev pub EndsSound : Bool → Result (Unit {0}) Ending → Type 0
EndsSound true (Ok it) = Unit {0}
EndsSound true (Err ending) = ⊥
EndsSound false (Ok it) = ⊥
EndsSound false (Err ending) = ending ≡ Failure
