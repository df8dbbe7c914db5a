-- What steps of commands leave as it was.
use Rattle.std.specs.Prelude.{◌≡◌, ◌⊎◌, ◌∷◌, ℕ, Result, List, Bool, true, false, Err}
use Rattle.hosts.specs.Event.{Event}
use Rattle.hosts.specs.Place.{about}
use Rattle.hosts.specs.Saving.{replacements}
use Rattle.hosts.specs.Streams.{changes_at, folders}
use Rattle.image_kind.specs.Keeping.{keeps_kind}
use Rattle.outcome.specs.declared.contents.Content.TheVariants as content
use Rattle.outcome.specs.declared.endings.Ending.{Ending}
use Rattle.outcome.specs.declared.endings.Ending.TheVariants.{Line, Fault, Failure, Busy, NotWritten, FullOutput, Unreported, NoReader, Misuse}
use Rattle.image_files.specs.Saving.{HasSaved, IsFileWith}
use Rattle.image_files.specs.declared.images.Image.{Image}

-- what the calls so far come to for the file of each path is as it was before the step, in whichever way it ends, and no folder was made
abbrev pub KeepsFiles : {A : Type 0} → (List Event → Result A Ending → List Event → Type 0) → Type 0
KeepsFiles {A} step = (old : List Event) (result : Result A Ending) (new : List Event) → step old result new → (path : List ℕ) → changes_at path new ≡ changes_at path old

-- A command is refused: by its words, or by what it reads. The other endings come of a file that can't be written, and of standard output.
abbrev pub is_refusal : Ending → Bool
is_refusal (Line line) = true
is_refusal (Fault fault) = true
is_refusal Failure = true
is_refusal (Busy content) = true
is_refusal (NotWritten content left) = false
is_refusal FullOutput = false
is_refusal Unreported = false
is_refusal NoReader = false
is_refusal Misuse = true

-- no call has changed a file, whatever its path, or made a folder
abbrev pub ChangesNothing : List Event → List Event → Type 0
ChangesNothing old new = (path : List ℕ) → changes_at path new ≡ changes_at path old

-- a command that is refused has changed no file and made no folder
abbrev pub LeavesFiles : {A : Type 0} → (List Event → Result A Ending → List Event → Type 0) → Type 0
LeavesFiles command = (old : List Event) (ending : Ending) (new : List Event) → command old (Err ending) new → is_refusal ending ≡ true → ChangesNothing old new

-- no file takes a path that another may have had, and none is to be written over, in whichever way a command ends
abbrev pub NeverReplaces : {A : Type 0} → (List Event → Result A Ending → List Event → Type 0) → Type 0
NeverReplaces {A} command = (old : List Event) (result : Result A Ending) (new : List Event) → command old result new
    → (path : List ℕ) → replacements (about path new) ≡ replacements (about path old)

-- no folder is made but this one, and that is tried once
abbrev pub MakesAtMost : List ℕ → List Event → List Event → Type 0
MakesAtMost folder old new = (folders new ≡ folders old) ⊎ ((ok : Bool) × (folders new ≡ (ok, folder) ∷ folders old))

-- a command makes no folder but this one, in whichever way it ends
abbrev pub MakesFolderAlone : {A : Type 0} → List ℕ → (List Event → Result A Ending → List Event → Type 0) → Type 0
MakesFolderAlone {A} folder command = (old : List Event) (result : Result A Ending) (new : List Event) → command old result new → MakesAtMost folder old new

-- What a change saves is judged as what was read: the same volumes are meant, in the same place, and the file may be read in no other way.
pub record HasKeptKind (image : Image) (bytes : List ℕ) (old new : List Event) : Type 0 where
  pub file : List ℕ
  pub is : IsFileWith image bytes file
  pub kind : keeps_kind image.judgment file ≡ true
  pub saved : HasSaved content.Image image.place.path.bytes.items file old new
