-- What holds of files that are asked for by their first blocks.
use Rattle.std.specs.Prelude.{◌≡◌, ℕ, Some, Result, List, [], ◌∷◌}
use Rattle.std.specs.Global.{Vec}
use Rattle.std.specs.FinMap.{get}
use Rattle.volume_image.specs.Image.{IsImageOf}
use Rattle.archive_files.specs.declared.forms.GetForm.{GetForm}
use Rattle.os8_dir.specs.Names.{parsed_name}
use Rattle.os8_dir.specs.Reading.{Sound}
use Rattle.os8_dir.specs.Files.{FileData, files_of}
use Rattle.archive_files.specs.declared.faults.ArchiveFault.{ArchiveFault}
use Rattle.archive_files.specs.Asking.{Target, AtBlock, asked_name}
use Rattle.archive_files.specs.Getting.{Gets}
use Rattle.archive_files.specs.Listing.{listed_lines}
use Rattle.refusals.specs.Listed.{file_lines}

-- what has one name is got alike however it is asked for: by its first block just as by a text that spells its name
abbrev pub OneNameIsGotAlike : Type 0
OneNameIsGotAlike = (image : List ℕ) (one two : Target) (name : ℕ) (form : GetForm) (blocks : List (List ℕ)) (answer : Result (Vec ℕ) ArchiveFault) → IsImageOf image blocks
    → asked_name blocks one ≡ Some name → asked_name blocks two ≡ Some name → Gets image one form answer → Gets image two form answer

-- each file of a sound volume is asked for by a block
abbrev pub EachBeginsAtABlock : Type 0
EachBeginsAtABlock = (blocks : List (List ℕ)) (name : ℕ) (file : FileData) → Sound blocks → get (files_of blocks) name ≡ Some file → (place : ℕ) × (asked_name blocks (AtBlock place) ≡ Some name)

-- and what is asked for by a block is a file
abbrev pub WhatBeginsIsThere : Type 0
WhatBeginsIsThere = (blocks : List (List ℕ)) (place name : ℕ) → asked_name blocks (AtBlock place) ≡ Some name → (file : FileData) × (get (files_of blocks) name ≡ Some file)

-- a text of letters and digits spells each of the names
abbrev pub ArePlain : List (ℕ × ℕ) → Type 0
ArePlain [] = Unit {0}
ArePlain (file ∷ files) = ((text : List ℕ) × (parsed_name text ≡ Some file.0)) × ArePlain files

-- the lines of files of such names are those of `DIRECT`
abbrev pub PlainAreAsDirect : Type 0
PlainAreAsDirect = (files : List (ℕ × ℕ)) → ArePlain files → listed_lines files ≡ file_lines files
