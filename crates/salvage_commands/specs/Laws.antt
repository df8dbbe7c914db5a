-- What the command that writes pieces to files leaves as it was (this project's profile).
use Rattle.std.specs.Prelude.{◌≡◌, ◌≢◌, ℕ, Result, Ok, codes, List, [], ◌∷◌, ◌++◌}
use Rattle.std.specs.Global.{Vec}
use Rattle.hosts.specs.Event.{Event}
use Rattle.hosts.specs.Place.{about}
use Rattle.outcome.specs.declared.endings.Ending.{Ending}
use Rattle.program_tasks.specs.declared.forms.ImageForm.{ImageForm}
use Rattle.image_files.specs.Reading.{LooksAt}
use Rattle.volume_salvage.specs.Scanning.{Scans, piece_name}
use Rattle.volume_salvage.specs.declared.pieces.Piece.{Piece}
use Rattle.volume_salvage.specs.declared.scans.Scan.{Scan}
use Rattle.salvage_commands.specs.ScanningBlocks.{WritesPieces}

-- a path is that of none of these pieces in a folder
abbrev pub IsOfNone : List ℕ → List ℕ → List Piece → Type 0
IsOfNone folder path [] = Unit {0}
IsOfNone folder path (piece ∷ pieces) = (path ≢ folder ++ codes "/" ++ piece_name piece) × IsOfNone folder path pieces

-- A path that is that of no piece of the image that is looked at is as it was, in whichever way the command ends.
abbrev pub ChangesPiecesAlone : Type 0
ChangesPiecesAlone = (folder : List ℕ) (form : ImageForm) (old : List Event) (result : Result (Unit {0}) Ending) (new : List Event) → WritesPieces folder form old result new
    → (path : List ℕ) → ((image : Vec ℕ) (between : List Event) (scan : Scan) → LooksAt form old (Ok image) between → Scans image.items (Ok scan) → IsOfNone folder path scan.pieces.items)
    → about path new ≡ about path old
