-- What steps of the code do. No contract of a public function cites these.
use Rattle.std.specs.Prelude.{◌≡◌, ℕ, ◌+◌, ◌*◌, Bool, true, false, Result, Ok, Err, Some, List, [], ◌∷◌, ◌++◌, length}
use Rattle.std.specs.FinMap.{get}
use Rattle.bin_tape.specs.Items.{Item}
use Rattle.bin_tape.specs.Tape.{IsTape}
use Rattle.bin_tape.specs.Fault.{IsFault}
use Rattle.bin_tape.specs.Progress.{Progress}
use Rattle.bin_tape.specs.Reading.{HasRead, IsGoing}
use Rattle.bin_tape.specs.declared.faults.TapeFault.{TapeFault}
use Rattle.word12.specs.declared.sizes.TheConstants.{BLOCK}
use Rattle.char_pack.specs.Texts.{is_storable}
use Rattle.os8_dir.specs.Files.{FileData, files_of}
use Rattle.os8_files.specs.Mounted.{MountState}
use Rattle.os8_files.specs.Service.{blocks_in}
use Rattle.archive_files.specs.HostTexts.{IsPlaceAfter}
use Rattle.archive_files.specs.declared.places.TextPlace.{TextPlace}

-- a file of so many whole blocks is there
pub record IsWhole (m : MountState) (name blocks : ℕ) : Type 0 where
  pub file : FileData
  pub there : get (files_of m.blocks) name ≡ Some file
  pub count : blocks ≡ blocks_in file
  pub whole : BLOCK * blocks ≡ length file.1

-- a reader was given frames that may go on as a tape, and are none yet
pub record IsReading (reader : Progress) (file : List ℕ) : Type 0 where
  pub out : List (ℕ × ℕ)
  pub read : HasRead reader file out
  pub going : IsGoing file out

-- after one more frame: the frames are a tape for the first time, or may still go on as one, or have a fault whatever follows
abbrev pub TakesFrame : List ℕ → ℕ → Result Bool TapeFault → Progress → Type 0
TakesFrame file frame (Ok true) reader = ((items : List Item) × IsTape (file ++ frame ∷ []) items) × ((others : List Item) → IsTape file others → ⊥)
TakesFrame file frame (Ok false) reader = IsReading reader (file ++ frame ∷ [])
TakesFrame file frame (Err fault) reader = (rest : List ℕ) → IsFault (file ++ frame ∷ rest) fault

-- so many frames are a tape for the first time
pub record IsFirstTape (file : List ℕ) (count : ℕ) : Type 0 where
  pub before : List ℕ
  pub frame : ℕ
  pub following : List ℕ
  pub items : List Item
  pub file_is : file ≡ before ++ frame ∷ following
  pub is_tape : IsTape (before ++ frame ∷ []) items
  pub none_before : (others : List Item) → IsTape before others → ⊥
  pub count_is : count ≡ length before + 1

abbrev pub FindsTape : List ℕ → Result ℕ TapeFault → Type 0
FindsTape file (Ok count) = IsFirstTape file count
FindsTape file (Err fault) = IsFault file fault

-- all bytes of a text before the rest may stand, and the rest has this place
pub record IsSoFar (bytes rest : List ℕ) (at : TextPlace) : Type 0 where
  pub before : List ℕ
  pub bytes_are : bytes ≡ before ++ rest
  pub storable : is_storable before ≡ true
  pub place : IsPlaceAfter before at
