-- What a run of a script has done so far. No contract of a public function cites these.
use Rattle.std.specs.Prelude.{Option, ◌≡◌, ◌⊎◌, ℕ, List, [], ◌∷◌, ◌++◌, Bool, true, false, None, Some, Result, Ok, Err}
use Rattle.hosts.specs.Event.{Event, print_call, tell_call}
use Rattle.hosts.specs.Faults.{pipe_number}
use Rattle.hosts.specs.Place.{about}
use Rattle.hosts.specs.Saving.{KeepsFile, AnyMomentOf, IsOrdered, IsPlaceNoted}
use Rattle.hosts.specs.Streams.{errors, may_replace, output_text}
use Rattle.hosts.specs.declared.faults.Durability.{Durability}
use Rattle.hosts.specs.declared.faults.Durability.TheVariants.{Certain, Unknown}
use Rattle.hosts.specs.declared.faults.PrintFault.{PrintFault}
use Rattle.image_kind.specs.Keeping.{keeps_kind}
use Rattle.image_kind.specs.Parts.{Parts}
use Rattle.image_kind.specs.declared.judging.Judgment.{Judgment}
use Rattle.outcome.specs.Contents.{content_name}
use Rattle.outcome.specs.Notes.{file_text, name_text}
use Rattle.outcome.specs.declared.contents.Content.TheVariants as content
use Rattle.hosts.specs.declared.faults.Unwritten.TheVariants as unwritten
use Rattle.outcome.specs.declared.endings.Ending.{Ending}
use Rattle.outcome.specs.declared.endings.Ending.TheVariants.{NotWritten}
use Rattle.outcome.specs.declared.notes.FileNote.TheVariants.{NoSync}
use Rattle.outcome.specs.declared.notes.NameNote.TheVariants.{Hint}
use Rattle.program_tasks.specs.declared.tasks.Saving.TheVariants.{Never, Always}
use Rattle.script8.specs.Replies.{answer_lines}
use Rattle.system_session.specs.ShownAnswers.{ShownAnswer}
use Rattle.volume_image.specs.Image.{IsImageOf}
use Rattle.image_files.specs.Reasons.{TellsReason}
use Rattle.image_files.specs.Saving.{TouchesOnly, directory_size}
use Rattle.outcome.specs.declared.reasons.Reason.TheVariants.{NoRoom}
use Rattle.image_files.specs.declared.images.Image.{Image}
use Rattle.script_commands.specs.Steps.{Step, AreDone, AreKept, AreReplies, AreUnsaved, GetsImage, IsFileAround, IsFileOf, IsUnwritten, StaysUnsaved, changes, has_cut, has_refusal, has_saved, has_unsynced, is_refusal, is_unknown, last_image, or_else, printed_text, reply_text, print_fault, save_ending, once_note}
use Rattle.script_commands.specs.declared.progress.Progress.{Progress}

-- a run that began with an image, after these calls, and was shown these answers, has come so far
pub record HasDone (start : Image) (old : List Event) (shown : List ShownAnswer) (p : Progress) (new : List Event) : Type 0 where
  pub steps : List Step
  pub done : AreDone p.is_typed start steps old new
  pub image : p.save_ending ≡ None → p.image ≡ last_image start steps
  pub place : p.save_ending ≡ None → p.is_place_told ≡ has_saved steps
  pub sync : p.save_ending ≡ None → p.is_sync_told ≡ has_unsynced steps
  pub refused : p.is_refused ≡ has_refusal steps
  pub why : p.save_ending ≡ save_ending steps
  pub fault : p.fault ≡ print_fault steps
  pub cut : p.is_cut ≡ has_cut steps
  pub replies : AreReplies steps shown
  pub waiting : reply_text steps ≡ printed_text steps ++ p.lines.items
  pub text : output_text new ≡ output_text old ++ printed_text steps
  pub kept : p.saving ≡ Always → AreKept start steps
  pub never : p.saving ≡ Never → AreUnsaved steps

-- the held file of a path has these bytes whole, and its folder may not be synced
pub record IsFileWritten (is_told : Bool) (path file : List ℕ) (durability : Durability) (old new : List Event) : Type 0 where
  pub kept : KeepsFile (may_replace new) durability file (about path old) (about path new)
  pub moments : AnyMomentOf (may_replace new) file (about path old) (about path new)
  pub order : IsOrdered (may_replace new) directory_size file (about path old) (about path new)
  pub note : IsPlaceNoted (may_replace new) (once_note is_told) (errors old) (errors new)
  pub only : TouchesOnly path old new

-- the same of a file with these bytes of its volumes, or it has no room for them
abbrev pub WritesAround : Judgment → Bool → Option Parts → List ℕ → List ℕ → List ℕ → Result Durability Ending → Option Parts → List Event → List Event → Type 0
WritesAround judgment is_told before path name body (Ok durability) after old new = (file : List ℕ) × IsFileAround before body file after × (keeps_kind judgment file ≡ true) × IsFileWritten is_told path file durability old new
WritesAround judgment is_told before path name body (Err ending) after old new = ((ending ≡ NotWritten content.Image unwritten.AsItWas) × TellsReason NoRoom name old new)
    ⊎ ((file : List ℕ) × IsUnwritten judgment path name file ending old new)

abbrev pub WritesFile : Judgment → Bool → List ℕ → List ℕ → List ℕ → Result Durability Ending → List Event → List Event → Type 0
WritesFile judgment is_told path name file (Ok durability) old new = (keeps_kind judgment file ≡ true) × IsFileWritten is_told path file durability old new
WritesFile judgment is_told path name file (Err ending) old new = IsUnwritten judgment path name file ending old new

-- the file of an image has another one whole
pub record IsWritten (is_told : Bool) (before : Image) (bytes : List ℕ) (durability : Durability) (after : Image) (old new : List Event) : Type 0 where
  pub held : before.place.is_held ≡ true
  pub place : after.place ≡ before.place
  pub same : after.bytes ≡ before.bytes
  pub file : List ℕ
  pub is : IsFileOf before bytes file after
  pub judgment : after.judgment ≡ before.judgment
  pub kind : keeps_kind before.judgment file ≡ true
  pub wrote : IsFileWritten is_told before.place.path.bytes.items file durability old new

abbrev pub WritesImage : Bool → Image → List ℕ → Result Durability Ending → Image → List Event → List Event → Type 0
WritesImage is_told before bytes (Ok durability) after old new = IsWritten is_told before bytes durability after old new
WritesImage is_told before bytes (Err ending) after old new = StaysUnsaved before ending old new

-- the note on its folder comes once
abbrev pub NotesSync : Bool → Durability → List Event → List Event → Type 0
NotesSync true durability old new = new ≡ old
NotesSync false Certain old new = new ≡ old
NotesSync false Unknown old new = (ok : Bool) × (new ≡ tell_call ok (file_text NoSync (content_name content.Image)) ∷ old)

-- the file of an image gets another one, or has it, or the run has to end
abbrev pub Gets : Progress → Result (Unit {0}) Ending → Progress → List Event → List Event → Type 0
Gets before (Ok it) after old new = ((after ≡ before) × (new ≡ old))
    ⊎ ((durability : Durability) × GetsImage before.is_place_told before.is_sync_told before.image after.image durability old new
    × (after.is_place_told ≡ true) × (after.is_sync_told ≡ or_else (is_unknown durability) before.is_sync_told))
Gets before (Err ending) after old new = StaysUnsaved before.image ending old new

-- lines are printed; where none are, nothing is asked of the host
abbrev pub PrintsLines : List ℕ → Result (Unit {0}) PrintFault → List Event → List Event → Type 0
PrintsLines [] (Ok it) old new = new ≡ old
PrintsLines [] (Err fault) old new = ⊥
PrintsLines (byte ∷ bytes) (Ok it) old new = new ≡ print_call true 0 (byte ∷ bytes) ∷ old
PrintsLines (byte ∷ bytes) (Err fault) old new = new ≡ print_call false (pipe_number fault) (byte ∷ bytes) ∷ old

-- the lines of an answer that is shown may be printed: where each change is to be kept, the file has the image of its volume first
pub record MayPrint (is_refused : Bool) (p : Progress) (lines : List ℕ) (one : ShownAnswer) : Type 0 where
  pub saved : p.save_ending ≡ None
  pub printed : p.fault ≡ None
  pub are : lines ≡ answer_lines one.entry one.answer
  pub refused : is_refused ≡ is_refusal one.answer
  pub kept : p.saving ≡ Always → changes one.answer ≡ true → IsImageOf p.image.bytes.items one.blocks

-- no line may be printed any more
abbrev pub HasEnded : Progress → Type 0
HasEnded p = (p.save_ending ≡ None → ⊥) ⊎ (p.fault ≡ None → ⊥)

-- lines of an answer wait
abbrev pub Adds : Bool → List ℕ → Progress → Progress → Type 0
Adds is_refused lines before after = (after.lines.items ≡ before.lines.items ++ lines)
    × (after ≡ record before { lines = after.lines; is_refused = or_else is_refused before.is_refused })

abbrev pub IsAfterPrint : Bool → Result (Unit {0}) PrintFault → Progress → Progress → Type 0
IsAfterPrint is_refused (Ok it) before after = after ≡ record before { is_refused = or_else is_refused before.is_refused }
IsAfterPrint is_refused (Err fault) before after = after ≡ record before { fault = Some fault }

-- a person is shown the form of a line, unless memory is wanted for it
abbrev pub TellsForm : List ℕ → List Event → List Event → Type 0
TellsForm form old new = (new ≡ old) ⊎ ((ok : Bool) × (new ≡ tell_call ok (name_text Hint form) ∷ old))
