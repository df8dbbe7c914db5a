-- What a keeper of images asks of a change, in a keeper's words. They say what stands under a path, what a crash leaves there, what was read and
-- printed, and what `get` prints of a file. Besides them one page is needed, which says what a host's calls do to a file (hosts/specs/Place.antt).
use Rattle.std.specs.Prelude.{◌≡◌, ◌⊎◌, ◌&&◌, ◌==◌, ◌+◌, ◌-◌, ◌*◌, ◌/◌, nat_eq, nat_le, ℕ, Bool, true, false, if◌then◌else◌, codes, Option, None, Some, Result, Ok, Err, String, List, [], ◌∷◌, ◌++◌, length, map, replicate}
use Rattle.std.specs.Global.{Global}
use Rattle.std.specs.Str.{bytes_eq}
use Rattle.hosts.specs.Event.{Event, Call, Look, Print, Tell, Alone, Alter, DropBeside, Rename, MakeFolder}
use Rattle.hosts.specs.Place.{Place, Step, Just, Leaves, about, ever, may_leave, replay}
use Rattle.archive_files.specs.Asking.{OfName}
use Rattle.archive_files.specs.Getting.{Gets}
use Rattle.archive_files.specs.declared.forms.GetForm.{GetForm}
use Rattle.get_commands.specs.Showing.{Shows}
use Rattle.image_files.specs.Reading.{Holds}
use Rattle.image_files.specs.declared.reading.ImagePlace.{ImagePlace}
use Rattle.outcome.specs.declared.endings.Ending.{Ending}
use Rattle.outcome.specs.declared.endings.Ending.TheVariants.{Line, Fault, Failure, Busy, NotWritten, FullOutput, Unreported, NoReader, Misuse}
use Rattle.program_tasks.specs.declared.forms.ImageForm.{ImageForm}

-- ## What stands under a path

-- a path that was like that at first has a file of these bytes
abbrev pub HasFile : Place → List ℕ → List ℕ → List Event → Type 0
HasFile start path bytes history = (replay start (about path history)).seen ≡ Just (Some bytes)

-- a crash now may leave this there
abbrev pub CrashLeaves : Place → List ℕ → Option (List ℕ) → List Event → Type 0
CrashLeaves start path found history = Leaves (may_leave (replay start (about path history))) found

-- a crash at one of the moments so far may have left this there, also in the midst of a call
abbrev pub CrashLeft : Place → List ℕ → Option (List ℕ) → List Event → Type 0
CrashLeft start path found history = Leaves (ever start (about path history)) found

-- no call was about a path since, nor about the file beside it
abbrev pub IsLeftAlone : List ℕ → List Event → List Event → Type 0
IsLeftAlone path old new = about path new ≡ about path old

-- ## What was read and printed

-- a file was read under a name, and had these bytes
abbrev pub HasRead : List ℕ → List ℕ → List Event → Type 0
HasRead name bytes [] = ⊥
HasRead name bytes (e ∷ earlier) = ((e.call ≡ Look) × (e.name ≡ name) × (e.bytes ≡ bytes)) ⊎ HasRead name bytes earlier

-- each time when a file was read under a name it had these bytes
abbrev pub AlwaysHad : List ℕ → List ℕ → List Event → Type 0
AlwaysHad name bytes [] = Unit {0}
AlwaysHad name bytes (e ∷ earlier) = (e.call ≡ Look → e.name ≡ name → e.ok ≡ true → e.bytes ≡ bytes) × AlwaysHad name bytes earlier

-- this was printed on standard error
abbrev pub HasNote : List ℕ → List Event → Type 0
HasNote text [] = ⊥
HasNote text (e ∷ earlier) = ((e.call ≡ Tell) × (e.bytes ≡ text)) ⊎ HasNote text earlier

-- the host said that no new file may take the place of one: it was asked and denied it, or a rename showed that the path is a mount's
abbrev pub HasDenied : List Event → Type 0
HasDenied [] = ⊥
HasDenied (e ∷ earlier) = (((e.call ≡ Alone) ⊎ (e.call ≡ Alter Rename)) × (e.number ≡ 0)) ⊎ HasDenied earlier

-- ## If the plug is pulled

-- the note that an image can't be written beside its file first
abbrev pub in_place_note : List ℕ
in_place_note = codes "note: the image is written in its place, and is not whole if that breaks off\n"

-- the note that the disk may not have the name of the new file yet
abbrev pub no_sync_note : List ℕ
no_sync_note = codes "note: the image is written, but its folder is not synced: whether a crash keeps it isn't known\n"

abbrev pub EndsWell : Result (Unit {0}) Ending → Type 0
EndsWell (Ok it) = Unit {0}
EndsWell (Err ending) = ⊥

-- nothing is promised of a crash: a note said so, or a command that failed had been denied a new file
abbrev pub IsWarned : Result (Unit {0}) Ending → List Event → Type 0
IsWarned (Ok it) new = HasNote in_place_note new
IsWarned (Err ending) new = HasNote in_place_note new ⊎ HasDenied new

-- The image file was read under its path, and no other path is touched. A crash at any moment leaves one new file there, whole, or what it might
-- have left before, unless a note said otherwise. Where all went well, the path has the new file. A crash leaves just that, unless a note said so.
pub record IsOldOrNew (result : Result (Unit {0}) Ending) (old new : List Event) : Type 0 where
  pub path : List ℕ
  pub was : List ℕ
  pub file : List ℕ
  pub read : HasRead path was new
  pub others : (other : List ℕ) → bytes_eq path other ≡ false → IsLeftAlone other old new
  pub moments : IsWarned result new ⊎ ((start : Place) (found : Option (List ℕ)) → CrashLeft start path found new → (found ≡ Some file) ⊎ CrashLeft start path found old)
  pub now : EndsWell result → (start : Place) → HasFile start path was old → HasFile start path file new
  pub after : EndsWell result → HasNote in_place_note new ⊎ (HasNote no_sync_note new ⊎ ((start : Place) (found : Option (List ℕ)) → CrashLeaves start path found new → found ≡ Some file))

-- ## What was put, and what is got

abbrev pub has_no_slash : List ℕ → Bool
has_no_slash [] = true
has_no_slash (character ∷ text) = if character == 0o57 then false else has_no_slash text

-- a capital letter for a small one
abbrev pub capital : ℕ → ℕ
capital character = if nat_le 0o141 character && nat_le character 0o172 then character - 0o40 else character

-- the name that a file of the host gets on a volume: the one that is given, or else what stands after the last slash of its path, in capitals
abbrev pub IsNameFor : Option (String Global) → List ℕ → List ℕ → Type 0
IsNameFor (Some given) source name = name ≡ given.bytes.items
IsNameFor None source name = (folder part : List ℕ) × (source ≡ folder ++ part) × ((folder ≡ []) ⊎ ((before : List ℕ) × (folder ≡ before ++ 0o57 ∷ [])))
    × (has_no_slash part ≡ true) × (name ≡ map capital part)

-- bytes with zeros up to the end of a block, which has 384 of them
abbrev pub to_block_end : List ℕ → List ℕ
to_block_end bytes = bytes ++ replicate (384 * ((length bytes + 383) / 384) - length bytes) 0

abbrev pub is_lf_next : List ℕ → Bool
is_lf_next [] = false
is_lf_next (byte ∷ others) = nat_eq byte 0o12

-- a text whose lines end with LF alone, where they ended with CR LF or LF
abbrev pub with_lf : List ℕ → List ℕ
with_lf [] = []
with_lf (byte ∷ others) = if nat_eq byte 0o15 && is_lf_next others then with_lf others else byte ∷ with_lf others

-- the calls of a `get` that ends well: it reads the image file of a name, which has these bytes, and prints some
abbrev pub get_calls : List ℕ → List ℕ → List ℕ → List Event → List Event
get_calls name file bytes old =
    record { call = Print; ok = true; name = []; bytes = bytes; number = 0 } ∷ record { call = Look; ok = true; name = name; bytes = file; number = 0 } ∷ old

-- `get` of a name prints these bytes of an image file that has those, where it asks for the same volume of it, and ends well
abbrev pub GetPrints : ImageForm → List ℕ → List ℕ → GetForm → List ℕ → Type 0
GetPrints form file name how bytes =
    (again : ImageForm) (old new : List Event) → again.layout ≡ form.layout → again.is_plain ≡ form.is_plain → again.is_lenient ≡ false
    → Shows (λ image. Gets image (OfName name) how) again old (Ok tt) new
    → (found printed : List ℕ) × (new ≡ get_calls again.file.bytes.items found printed old) × (found ≡ file → printed ≡ bytes)

-- The image file was read under its path, and that path has a file now of which `get` prints these bytes, by the name of a file of the host.
pub record IsGotAs (form : ImageForm) (given : Option (String Global)) (source : List ℕ) (how : GetForm) (bytes : List ℕ) (old new : List Event) : Type 0 where
  pub path : List ℕ
  pub was : List ℕ
  pub file : List ℕ
  pub read : HasRead path was new
  pub left : (start : Place) → HasFile start path was old → HasFile start path file new
  pub name : List ℕ
  pub named : IsNameFor given source name
  pub gets : GetPrints form file name how bytes

-- ## What a change leaves alone

abbrev pub with_asked_folder : Call → Event → List (List ℕ) → List (List ℕ)
with_asked_folder MakeFolder e before = e.name ∷ before
with_asked_folder _ e before = before

-- the folders that were to be made
abbrev pub asked_folders : List Event → List (List ℕ)
asked_folders [] = []
asked_folders (e ∷ earlier) = with_asked_folder e.call e (asked_folders earlier)

-- no file was touched, and no folder was to be made
pub record AreUntouched (old new : List Event) : Type 0 where
  pub files : (path : List ℕ) → IsLeftAlone path old new
  pub folders : asked_folders new ≡ asked_folders old

-- A command is refused: by its words, or by what it reads. Its other ends come of an image that can't be written, and of standard output.
abbrev pub IsRefusal : Ending → Type 0
IsRefusal (Line it) = Unit {0}
IsRefusal (Fault it) = Unit {0}
IsRefusal Failure = Unit {0}
IsRefusal (Busy it) = Unit {0}
IsRefusal Misuse = Unit {0}
IsRefusal (NotWritten it left) = ⊥
IsRefusal FullOutput = ⊥
IsRefusal Unreported = ⊥
IsRefusal NoReader = ⊥

-- a file beside a path could not be taken away
abbrev pub HasFailedDrop : List Step → Type 0
HasFailedDrop [] = ⊥
HasFailedDrop (s ∷ earlier) = ((s.change ≡ DropBeside) × (s.ok ≡ false)) ⊎ HasFailedDrop earlier

-- The image file that is asked for was held, and it alone is touched, with the file beside it. None is left beside it, unless one was there, or
-- could not be taken away. No folder was to be made.
pub record IsTouchedAlone (form : ImageForm) (old new : List Event) : Type 0 where
  pub place : ImagePlace
  pub begun : List Event
  pub held : Holds form.file.bytes.items old (Ok place) begun
  pub is_held : place.is_held ≡ true
  pub others : (other : List ℕ) → bytes_eq place.path.bytes.items other ≡ false → IsLeftAlone other old new
  pub beside : (start : Place) → ((replay start (about place.path.bytes.items new)).beside ≡ Just None)
      ⊎ (((replay start (about place.path.bytes.items new)).beside ≡ (replay start (about place.path.bytes.items old)).beside) ⊎ HasFailedDrop (about place.path.bytes.items new))
  pub folders : asked_folders new ≡ asked_folders old
