-- What a run of a script does at its host, step by step.
use Rattle.std.specs.Prelude.{◌≡◌, ◌⊎◌, ℕ, List, [], ◌∷◌, ◌++◌, Bool, true, false, Option, None, Some, Result, Ok, Err, codes}
use Rattle.hosts.specs.Event.{Event, print_call, tell_call}
use Rattle.hosts.specs.Faults.{pipe_number}
use Rattle.hosts.specs.Place.{about}
use Rattle.hosts.specs.Saving.{KeepsFile, AnyMomentOf, IsOrdered, IsPlaceNoted}
use Rattle.hosts.specs.Streams.{errors, may_replace}
use Rattle.hosts.specs.declared.faults.Durability.{Durability}
use Rattle.hosts.specs.declared.faults.Durability.TheVariants.{Certain, Unknown}
use Rattle.hosts.specs.declared.faults.PrintFault.{PrintFault}
use Rattle.hosts.specs.declared.faults.Unwritten.TheVariants as unwritten
use Rattle.disk_layouts.specs.Files.{Disk, HasLaid}
use Rattle.image_kind.specs.Keeping.{keeps_kind}
use Rattle.image_kind.specs.declared.judging.Judgment.{Judgment}
use Rattle.image_kind.specs.Parts.{HasBody, Parts, file_of}
use Rattle.script8.specs.Replies.{answer_lines}
use Rattle.script8.specs.declared.entries.Entry.{Entry}
use Rattle.refusals.specs.declared.faults.SessionFault.{SessionFault}
use Rattle.script8.specs.declared.replies.Reply.{Reply}
use Rattle.script8.specs.declared.replies.Reply.TheVariants as reply
use Rattle.script8.specs.declared.replies.LineReply.{LineReply}
use Rattle.script8.specs.declared.replies.LineReply.TheVariants as line
use Rattle.outcome.specs.Contents.{content_name}
use Rattle.outcome.specs.Notes.{file_text, name_text}
use Rattle.outcome.specs.declared.contents.Content.TheVariants as content
use Rattle.outcome.specs.declared.endings.Ending.{Ending}
use Rattle.outcome.specs.declared.endings.Ending.TheVariants.{NotWritten}
use Rattle.outcome.specs.declared.notes.FileNote.TheVariants.{InPlace}
use Rattle.outcome.specs.declared.notes.NameNote.TheVariants.{Hint, TooLong}
use Rattle.system_session.specs.ShownAnswers.{ShownAnswer}
use Rattle.volume_image.specs.Image.{IsImageOf}
use Rattle.image_files.specs.Work.{Lacks}
use Rattle.image_files.specs.Reasons.{TellsReason}
use Rattle.image_files.specs.Judging.{RefusesKind}
use Rattle.image_files.specs.Saving.{IsSyncTold, TouchesOnly, Writes, directory_size}
use Rattle.outcome.specs.declared.reasons.Reason.{Reason}
use Rattle.image_files.specs.declared.images.Image.{Image}

-- ## The steps

pub data Step : Type 0 where
  -- the image file got another image
  Saves : (image : Image) → (durability : Durability) → Step
  -- it could not get one, and the run ends so
  Fails : (ending : Ending) → Step
  -- the lines of an answer wait to be printed; the volume right after it has these blocks
  Replies : (entry : Option Entry) → (answer : Result Reply SessionFault) → (blocks : List (List ℕ)) → Step
  -- these were printed
  Prints : (bytes : List ℕ) → Step
  -- these were not
  Refuses : (fault : PrintFault) → (bytes : List ℕ) → Step
  -- a person at a terminal was shown the form of a line
  Shows : (form : List ℕ) → Step
  -- a note said that the script has more bytes than are read
  Cuts : Step

-- the image in the file after these steps, the newest first, that was this one before
abbrev pub last_image : Image → List Step → Image
last_image start [] = start
last_image start (Saves image durability ∷ earlier) = image
last_image start (Fails ending ∷ earlier) = last_image start earlier
last_image start (Replies entry answer blocks ∷ earlier) = last_image start earlier
last_image start (Prints bytes ∷ earlier) = last_image start earlier
last_image start (Refuses fault bytes ∷ earlier) = last_image start earlier
last_image start (Shows form ∷ earlier) = last_image start earlier
last_image start (Cuts ∷ earlier) = last_image start earlier

-- the lines of the answers
abbrev pub reply_text : List Step → List ℕ
reply_text [] = []
reply_text (Saves image durability ∷ earlier) = reply_text earlier
reply_text (Fails ending ∷ earlier) = reply_text earlier
reply_text (Replies entry answer blocks ∷ earlier) = reply_text earlier ++ answer_lines entry answer
reply_text (Prints bytes ∷ earlier) = reply_text earlier
reply_text (Refuses fault bytes ∷ earlier) = reply_text earlier
reply_text (Shows form ∷ earlier) = reply_text earlier
reply_text (Cuts ∷ earlier) = reply_text earlier

-- the answers, the first one first, each with the volume right after it
abbrev pub replies_of : List Step → List ShownAnswer
replies_of [] = []
replies_of (Saves image durability ∷ earlier) = replies_of earlier
replies_of (Fails ending ∷ earlier) = replies_of earlier
replies_of (Replies entry answer blocks ∷ earlier) = replies_of earlier ++ record { entry = entry; answer = answer; blocks = blocks } ∷ []
replies_of (Prints bytes ∷ earlier) = replies_of earlier
replies_of (Refuses fault bytes ∷ earlier) = replies_of earlier
replies_of (Shows form ∷ earlier) = replies_of earlier
replies_of (Cuts ∷ earlier) = replies_of earlier

-- what was printed of them
abbrev pub printed_text : List Step → List ℕ
printed_text [] = []
printed_text (Saves image durability ∷ earlier) = printed_text earlier
printed_text (Fails ending ∷ earlier) = printed_text earlier
printed_text (Replies entry answer blocks ∷ earlier) = printed_text earlier
printed_text (Prints bytes ∷ earlier) = printed_text earlier ++ bytes
printed_text (Refuses fault bytes ∷ earlier) = printed_text earlier
printed_text (Shows form ∷ earlier) = printed_text earlier
printed_text (Cuts ∷ earlier) = printed_text earlier

-- why the image file could not get an image, if it could not
abbrev pub save_ending : List Step → Option Ending
save_ending [] = None
save_ending (Saves image durability ∷ earlier) = save_ending earlier
save_ending (Fails ending ∷ earlier) = Some ending
save_ending (Replies entry answer blocks ∷ earlier) = save_ending earlier
save_ending (Prints bytes ∷ earlier) = save_ending earlier
save_ending (Refuses fault bytes ∷ earlier) = save_ending earlier
save_ending (Shows form ∷ earlier) = save_ending earlier
save_ending (Cuts ∷ earlier) = save_ending earlier

-- why standard output took no more, if it took no more
abbrev pub print_fault : List Step → Option PrintFault
print_fault [] = None
print_fault (Saves image durability ∷ earlier) = print_fault earlier
print_fault (Fails ending ∷ earlier) = print_fault earlier
print_fault (Replies entry answer blocks ∷ earlier) = print_fault earlier
print_fault (Prints bytes ∷ earlier) = print_fault earlier
print_fault (Refuses fault bytes ∷ earlier) = Some fault
print_fault (Shows form ∷ earlier) = print_fault earlier
print_fault (Cuts ∷ earlier) = print_fault earlier

-- an answer is a refusal, or a job that ended with a fault
abbrev pub is_refusal : Result Reply SessionFault → Bool
is_refusal (Ok reply) = false
is_refusal (Err fault) = true

abbrev pub or_else : Bool → Bool → Bool
or_else true before = true
or_else false before = before

-- there was one
abbrev pub has_refusal : List Step → Bool
has_refusal [] = false
has_refusal (Saves image durability ∷ earlier) = has_refusal earlier
has_refusal (Fails ending ∷ earlier) = has_refusal earlier
has_refusal (Replies entry answer blocks ∷ earlier) = or_else (is_refusal answer) (has_refusal earlier)
has_refusal (Prints bytes ∷ earlier) = has_refusal earlier
has_refusal (Refuses fault bytes ∷ earlier) = has_refusal earlier
has_refusal (Shows form ∷ earlier) = has_refusal earlier
has_refusal (Cuts ∷ earlier) = has_refusal earlier

-- the image file got an image
abbrev pub has_saved : List Step → Bool
has_saved [] = false
has_saved (Saves image durability ∷ earlier) = true
has_saved (Fails ending ∷ earlier) = has_saved earlier
has_saved (Replies entry answer blocks ∷ earlier) = has_saved earlier
has_saved (Prints bytes ∷ earlier) = has_saved earlier
has_saved (Refuses fault bytes ∷ earlier) = has_saved earlier
has_saved (Shows form ∷ earlier) = has_saved earlier
has_saved (Cuts ∷ earlier) = has_saved earlier

abbrev pub is_unknown : Durability → Bool
is_unknown Certain = false
is_unknown Unknown = true

-- it got one of which it is not known whether a crash keeps it
abbrev pub has_unsynced : List Step → Bool
has_unsynced [] = false
has_unsynced (Saves image durability ∷ earlier) = or_else (is_unknown durability) (has_unsynced earlier)
has_unsynced (Fails ending ∷ earlier) = has_unsynced earlier
has_unsynced (Replies entry answer blocks ∷ earlier) = has_unsynced earlier
has_unsynced (Prints bytes ∷ earlier) = has_unsynced earlier
has_unsynced (Refuses fault bytes ∷ earlier) = has_unsynced earlier
has_unsynced (Shows form ∷ earlier) = has_unsynced earlier
has_unsynced (Cuts ∷ earlier) = has_unsynced earlier

-- the note said that the script has more bytes than are read
abbrev pub has_cut : List Step → Bool
has_cut [] = false
has_cut (Saves image durability ∷ earlier) = has_cut earlier
has_cut (Fails ending ∷ earlier) = has_cut earlier
has_cut (Replies entry answer blocks ∷ earlier) = has_cut earlier
has_cut (Prints bytes ∷ earlier) = has_cut earlier
has_cut (Refuses fault bytes ∷ earlier) = has_cut earlier
has_cut (Shows form ∷ earlier) = has_cut earlier
has_cut (Cuts ∷ earlier) = true

-- ## What each does

-- the bytes of the volumes with another image: the image alone, or the disk or the DECtape with it
abbrev pub IsBodyOf : Option Disk → List ℕ → List ℕ → Option Disk → Type 0
IsBodyOf None image body after = (body ≡ image) × (after ≡ None)
IsBodyOf (Some disk) image body after = (laid : Disk) × HasLaid disk image laid × (body ≡ laid.bytes) × (after ≡ Some laid)

-- the file with these bytes of its volumes: they alone, or with those that stand before and after them
abbrev pub IsFileAround : Option Parts → List ℕ → List ℕ → Option Parts → Type 0
IsFileAround None body file after = (file ≡ body) × (after ≡ None)
IsFileAround (Some parts) body file after = (laid : Parts) × HasBody parts body laid × (file ≡ file_of laid) × (after ≡ Some laid)

-- the file of an image with another image
abbrev pub IsFileOf : Image → List ℕ → List ℕ → Image → Type 0
IsFileOf before bytes file after = (body : List ℕ) × IsBodyOf before.disk bytes body after.disk × IsFileAround before.parts body file after.parts

-- a note comes once a run
abbrev pub once_note : Bool → List ℕ
once_note true = []
once_note false = file_text InPlace (content_name content.Image)

abbrev pub IsSyncToldOnce : Bool → Durability → List (Bool × List ℕ) → List (Bool × List ℕ) → Type 0
IsSyncToldOnce true durability old new = new ≡ old
IsSyncToldOnce false durability old new = IsSyncTold content.Image durability old new

-- The file of an image that is held got another image whole, as `HasSaved` says of a file that is written once. No other file was
-- changed, and nothing was printed.
pub record GetsImage (has_saved has_unsynced : Bool) (before after : Image) (durability : Durability) (old new : List Event) : Type 0 where
  pub held : before.place.is_held ≡ true
  pub place : after.place ≡ before.place
  pub file : List ℕ
  pub is : IsFileOf before after.bytes.items file after
  pub judgment : after.judgment ≡ before.judgment
  pub kind : keeps_kind before.judgment file ≡ true
  pub kept : KeepsFile (may_replace new) durability file (about before.place.path.bytes.items old) (about before.place.path.bytes.items new)
  pub moments : AnyMomentOf (may_replace new) file (about before.place.path.bytes.items old) (about before.place.path.bytes.items new)
  pub order : IsOrdered (may_replace new) directory_size file (about before.place.path.bytes.items old) (about before.place.path.bytes.items new)
  pub noted : List (Bool × List ℕ)
  pub place_note : IsPlaceNoted (may_replace new) (once_note has_saved) (errors old) noted
  pub sync_note : IsSyncToldOnce has_unsynced durability noted (errors new)
  pub only : TouchesOnly before.place.path.bytes.items old new

-- a file would be read as something else than it was, or a call failed
abbrev pub IsUnwritten : Judgment → List ℕ → List ℕ → List ℕ → Ending → List Event → List Event → Type 0
IsUnwritten judgment path name file ending old new = ((keeps_kind judgment file ≡ false) × RefusesKind judgment.is_plain file old ending new) ⊎ Writes content.Image path name file old (Err ending) new

-- An image could not be saved: memory was wanted for it; or the file may not be written, or has no room for it. Or its file is held, and a
-- call failed, or the file would be read as something else. Why is printed.
abbrev pub StaysUnsaved : Image → Ending → List Event → List Event → Type 0
StaysUnsaved before ending old new = Lacks old ending new
    ⊎ (((ending ≡ NotWritten content.Image unwritten.AsItWas) × (why : Reason) × TellsReason why before.place.name.bytes.items old new)
    ⊎ ((before.place.is_held ≡ true) × (file : List ℕ) × IsUnwritten before.judgment before.place.path.bytes.items before.place.name.bytes.items file ending old new))

-- What a step did after earlier ones, from the calls before it to those after it. Where a save failed, none is tried again. All lines
-- that wait are printed at once. After a print that failed there is none.
abbrev pub Does : Bool → Image → List Step → Step → List Event → List Event → Type 0
Does is_typed start earlier (Saves image durability) old new = (save_ending earlier ≡ None)
    × GetsImage (has_saved earlier) (has_unsynced earlier) (last_image start earlier) image durability old new
Does is_typed start earlier (Fails ending) old new = (save_ending earlier ≡ None) × StaysUnsaved (last_image start earlier) ending old new
Does is_typed start earlier (Replies entry answer blocks) old new = new ≡ old
Does is_typed start earlier (Prints bytes) old new = (print_fault earlier ≡ None) × (reply_text earlier ≡ printed_text earlier ++ bytes) × (new ≡ print_call true 0 bytes ∷ old)
Does is_typed start earlier (Refuses fault bytes) old new = (print_fault earlier ≡ None) × (new ≡ print_call false (pipe_number fault) bytes ∷ old)
Does is_typed start earlier (Shows form) old new = (is_typed ≡ true) × (ok : Bool) × (new ≡ tell_call ok (name_text Hint form) ∷ old)
Does is_typed start earlier Cuts old new = (ok : Bool) × (new ≡ tell_call ok (name_text TooLong (codes "standard input")) ∷ old)

-- these steps were made, one after another
abbrev pub AreDone : Bool → Image → List Step → List Event → List Event → Type 0
AreDone is_typed start [] old new = new ≡ old
AreDone is_typed start (step ∷ earlier) old new = (mid : List Event) × AreDone is_typed start earlier old mid × Does is_typed start earlier step mid new

-- ## What each answer means for the image

-- the image may be another after a line
abbrev pub line_changes : LineReply → Bool
line_changes (line.Stored name blocks) = true
line_changes (line.Deleted name) = true
line_changes (line.Working number) = true
line_changes (line.Assembled number name blocks) = true
line_changes (line.Loaded number name) = true
line_changes (line.Squeezed number) = true
line_changes line.Finished = true
line_changes _ = false

-- the image may be another after an answer
abbrev pub changes : Result Reply SessionFault → Bool
changes (Ok (reply.Report it)) = false
changes (Ok (reply.Line it)) = line_changes it
changes (Err why) = true

-- before the lines of each answer after which the image may be another, the file had that of the volume right after this answer
abbrev pub AreKept : Image → List Step → Type 0
AreKept start [] = Unit {0}
AreKept start (Saves image durability ∷ earlier) = AreKept start earlier
AreKept start (Fails ending ∷ earlier) = AreKept start earlier
AreKept start (Replies entry answer blocks ∷ earlier) = (changes answer ≡ true → IsImageOf (last_image start earlier).bytes.items blocks) × AreKept start earlier
AreKept start (Prints bytes ∷ earlier) = AreKept start earlier
AreKept start (Refuses fault bytes ∷ earlier) = AreKept start earlier
AreKept start (Shows form ∷ earlier) = AreKept start earlier
AreKept start (Cuts ∷ earlier) = AreKept start earlier

-- These answers of a run are the replies, all of them unless a save or a print failed.
abbrev pub AreReplies : List Step → List ShownAnswer → Type 0
AreReplies steps shown = (rest : List ShownAnswer) × (shown ≡ replies_of steps ++ rest) × (save_ending steps ≡ None → print_fault steps ≡ None → rest ≡ [])

-- the file was left alone
abbrev pub AreUnsaved : List Step → Type 0
AreUnsaved [] = Unit {0}
AreUnsaved (Saves image durability ∷ earlier) = ⊥
AreUnsaved (Fails ending ∷ earlier) = ⊥
AreUnsaved (Replies entry answer blocks ∷ earlier) = AreUnsaved earlier
AreUnsaved (Prints bytes ∷ earlier) = AreUnsaved earlier
AreUnsaved (Refuses fault bytes ∷ earlier) = AreUnsaved earlier
AreUnsaved (Shows form ∷ earlier) = AreUnsaved earlier
AreUnsaved (Cuts ∷ earlier) = AreUnsaved earlier
