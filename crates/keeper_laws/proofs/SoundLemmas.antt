-- A rescued volume that has a file is sound.
use Rattle.std.proofs.Common.{◌≡◌, ◌≢◌, ◌∙◌, ℕ, Result, Ok, Err, List, [], sym, ap, map}
use Rattle.std.specs.Global.{Vec}
use Rattle.volume_image.specs.Image.{IsImageOf, WrittenIsReadBack}
use Rattle.os8_dir.specs.Entries.{DirectoryState}
use Rattle.os8_dir.specs.Found.{FilePlace}
use Rattle.os8_dir.specs.Reading.{directory_of}
use Rattle.os8_dir.specs.declared.faults.DirFault.{DirFault}
use Rattle.archive_files.specs.Checking.{Checks}
use Rattle.archive_files.specs.declared.faults.ArchiveFault.{ArchiveFault}
use Rattle.archive_files.specs.declared.faults.ArchiveFault.TheVariants.{Image, Directory, Refused}
use Rattle.volume_salvage.specs.Rows.{files_by_place}
use Rattle.keeper_laws.specs.Sound.{IsSoundWith}
use Rattle.archive_files.proofs.LawLemmas.{one_volume}

-- the names of a directory's files, by their blocks
abbrev names_by_place : Result DirectoryState DirFault → List ℕ
names_by_place read = map (λ (f : FilePlace). f.name) (files_by_place read)

pub sound-with : WrittenIsReadBack → (image names : List ℕ) (blocks : List (List ℕ)) → IsImageOf image blocks → names_by_place (directory_of blocks) ≡ names → names ≢ []
    → (answer : Result (Vec ℕ) ArchiveFault) → Checks image answer → IsSoundWith image names answer
sound-with law image names blocks is order some (Ok text) checks = record {
  checked = checks;
  files = ap names_by_place (sym checks.read) ∙ ap (λ (b : List (List ℕ)). names_by_place (directory_of b)) (one_volume law image blocks checks.blocks is checks.is_image) ∙ order;
}
sound-with law image names blocks is order some (Err (Image fault)) checks = absurd (checks.0 (law image blocks (Err fault) is checks.1))
sound-with law image names blocks is order some (Err (Directory fault)) checks =
    absurd (some (sym order ∙ ap (λ (b : List (List ℕ)). names_by_place (directory_of b)) (sym (one_volume law image blocks checks.0 is checks.1)) ∙ ap names_by_place checks.2))
sound-with law image names blocks is order some (Err (Refused fault)) checks = ap Refused checks.0
