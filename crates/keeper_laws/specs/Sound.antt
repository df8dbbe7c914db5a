-- What it means that a check finds an image sound, with just some files.
use Rattle.std.specs.Prelude.{◌≡◌, ℕ, Result, Ok, Err, List, map}
use Rattle.std.specs.Global.{Vec}
use Rattle.os8_dir.specs.Found.{FilePlace, files_at}
use Rattle.archive_files.specs.Checking.{IsChecked}
use Rattle.archive_files.specs.declared.faults.ArchiveFault.{ArchiveFault}
use Rattle.archive_files.specs.declared.faults.ArchiveFault.TheVariants.{Refused}
use Rattle.archive_survey.specs.Findings.{findings, files_found}
use Rattle.refusals.specs.declared.faults.SessionFault.TheVariants.{Memory}
use Rattle.volume_salvage.specs.Laws.{names_kept}
use Rattle.volume_salvage.specs.Salvaging.{IsSalvaged}
use Rattle.volume_salvage.specs.declared.salvages.Salvage.{Salvage}

-- the text of a check has the files of these names, in the order of their blocks, and no other
pub record ListsJust (image names text : List ℕ) : Type 0 where
  pub checked : IsChecked image text
  pub files : map (λ (f : FilePlace). f.name) (files_at checked.directory.first checked.directory.entries) ≡ names

-- a check finds no fault of an image and lists just these files, or memory is wanted
abbrev pub IsSoundWith : List ℕ → List ℕ → Result (Vec ℕ) ArchiveFault → Type 0
IsSoundWith image names (Ok text) = ListsJust image names text.items
IsSoundWith image names (Err fault) = fault ≡ Refused Memory

-- the names of the files that a salvage found sound and kept, in their order
abbrev pub kept_names : (image : List ℕ) (salvage : Salvage) → IsSalvaged image salvage → List ℕ
kept_names image salvage s = names_kept (files_found (findings s.blocks)) s.of_blocks.volume.refusals.items
