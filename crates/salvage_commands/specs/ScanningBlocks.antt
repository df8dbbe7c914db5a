-- The command that finds what the blocks of a volume hold by their content alone (this project's profile).
use Rattle.std.specs.Prelude.{◌≡◌, ◌⊎◌, ◌<◌, ℕ, Result, Ok, Err, codes, String, List, [], ◌∷◌, ◌++◌, length, true}
use Rattle.std.specs.Global.{Global, Vec}
use Rattle.hosts.specs.Event.{Event, MakeFolder, failed_call, folder_call, there_call}
use Rattle.hosts.specs.Faults.{class_of, fault_number}
use Rattle.hosts.specs.Place.{about}
use Rattle.hosts.specs.Saving.{Lays, replacements}
use Rattle.hosts.specs.Streams.{errors, failures, last_fault}
use Rattle.hosts.specs.declared.faults.FaultClass.{FaultClass}
use Rattle.hosts.specs.declared.faults.FaultClass.TheVariants as class
use Rattle.hosts.specs.declared.faults.HostFault.{HostFault}
use Rattle.refusals.specs.declared.faults.SessionFault.TheVariants.{Memory}
use Rattle.program_reports.specs.declared.programs.ProgramLine.TheVariants.{HostExists, HostWrite}
use Rattle.outcome.specs.declared.endings.Ending.{Ending}
use Rattle.outcome.specs.declared.endings.Ending.TheVariants.{Line, Fault}
use Rattle.program_tasks.specs.declared.forms.ImageForm.{ImageForm}
use Rattle.archive_many.specs.Raw.{GetsBlocks}
use Rattle.archive_many.specs.declared.faults.BlocksFault.{BlocksFault}
use Rattle.image_files.specs.Answers.{Answers, AreLines}
use Rattle.image_files.specs.Reading.{LooksAt}
use Rattle.image_files.specs.Reasons.{TellsFirst}
use Rattle.image_files.specs.Saving.{Prints, TouchesOnly}
use Rattle.image_files.specs.Answers.{RefusesBlocks}
use Rattle.image_files.specs.Work.{Then, Purely}
use Rattle.volume_salvage.specs.Scanning.{Scans, piece_form, piece_line, piece_name, scan_text}
use Rattle.volume_salvage.specs.declared.pieces.Piece.{Piece}
use Rattle.volume_salvage.specs.declared.scans.Scan.{Scan}

-- An image file is only looked at, and the lines of its pieces are printed.
abbrev pub ShowsPieces : ImageForm → List Event → Result (Unit {0}) Ending → List Event → Type 0
ShowsPieces form =
    Then (LooksAt form) (λ image. Then (Answers (Scans image.items) (length image.items)) (λ scan. Then (Purely (AreLines (scan_text scan))) (λ lines. Prints lines.items)))

-- ## The file of a piece

-- what a piece gives: what is got of its blocks
abbrev pub GivesPiece : List ℕ → Piece → List Event → Result (Vec ℕ) Ending → List Event → Type 0
GivesPiece image piece old (Ok bytes) new = GetsBlocks image piece.place piece.size (piece_form piece.kind) (Ok bytes) × (new ≡ old)
GivesPiece image piece old (Err ending) new =
    (fault : BlocksFault) × GetsBlocks image piece.place piece.size (piece_form piece.kind) (Err fault) × RefusesBlocks fault (length image) old ending new

-- where its file lies, unless memory is wanted for that
abbrev pub IsPath : List ℕ → Piece → Result (String Global) Ending → Type 0
IsPath folder piece (Ok path) = path.bytes.items ≡ folder ++ codes "/" ++ piece_name piece
IsPath folder piece (Err ending) = ending ≡ Fault Memory

-- the folder can't be made, or a file can't be laid: there is one of its name, or a call failed
abbrev pub laid_ending : FaultClass → Ending
laid_ending class.Busy = Line HostExists
laid_ending class.Memory = Fault Memory
laid_ending class.Other = Line HostWrite

abbrev pub ending_of_laid : HostFault → Ending
ending_of_laid fault = laid_ending (class_of fault)

-- a file of these bytes is laid, whole, where none of its name was, or there is none, or the one that was; no other file changes
pub record LaysBy (result : Result (Unit {0}) HostFault) (path file : List ℕ) (old new : List Event) : Type 0 where
  pub lays : Lays result file (about path old) (about path new)
  pub first : replacements (about path new) ≡ replacements (about path old)
  pub tells : errors new ≡ errors old
  pub only : TouchesOnly path old new

-- since there was one of its name, or a call failed; why is printed
abbrev pub IsCause : List ℕ → List Event → List Event → Type 0
IsCause path old new = (failures old < failures new) ⊎ (new ≡ there_call path true ∷ old)

abbrev pub LaysFirst : List ℕ → List ℕ → List Event → Result (Unit {0}) Ending → List Event → Type 0
LaysFirst path file old (Ok it) new = LaysBy (Ok it) path file old new
LaysFirst path file old (Err ending) new =
    (fault : HostFault) × (between : List Event) × (ending ≡ ending_of_laid fault) × LaysBy (Err fault) path file old between × IsCause path old between × (fault_number fault ≡ last_fault between) × TellsFirst fault path between new

-- ## All pieces

-- the file of a piece is laid, and only then its line is printed
abbrev pub WritesPiece : List ℕ → List ℕ → Scan → Piece → List Event → Result (Unit {0}) Ending → List Event → Type 0
WritesPiece folder image scan piece =
    Then (GivesPiece image piece) (λ bytes. Then (Purely (IsPath folder piece)) (λ path. Then (Purely (AreLines (piece_line scan.frames.items piece))) (λ line. Then (LaysFirst path.bytes.items bytes.items) (λ it. Prints line.items))))

-- one after another, up to one that is refused
abbrev pub WritesEach : List ℕ → List ℕ → Scan → List Piece → List Event → Result (Unit {0}) Ending → List Event → Type 0
WritesEach folder image scan [] = Purely (λ result. result ≡ Ok tt)
WritesEach folder image scan (piece ∷ pieces) = Then (WritesPiece folder image scan piece) (λ it. WritesEach folder image scan pieces)

-- the folder is made, unless there is one of its name
abbrev pub MakesFolder : List ℕ → List Event → Result (Unit {0}) Ending → List Event → Type 0
MakesFolder folder old (Ok it) new = new ≡ folder_call folder ∷ old
MakesFolder folder old (Err ending) new = (fault : HostFault) × (ending ≡ ending_of_laid fault) × TellsFirst fault folder (failed_call MakeFolder folder fault ∷ old) new

-- before any piece is written
abbrev pub WritesAll : List ℕ → List ℕ → Scan → List Event → Result (Unit {0}) Ending → List Event → Type 0
WritesAll folder image scan = Then (MakesFolder folder) (λ it. WritesEach folder image scan scan.pieces.items)

-- An image file is only looked at, and each of its pieces is written out to a folder.
abbrev pub WritesPieces : List ℕ → ImageForm → List Event → Result (Unit {0}) Ending → List Event → Type 0
WritesPieces folder form =
    Then (LooksAt form) (λ image. Then (Answers (Scans image.items) (length image.items)) (λ scan. WritesAll folder image.items scan))
