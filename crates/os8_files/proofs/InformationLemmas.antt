-- The information words of files.
use Rattle.std.proofs.Common.{◌≡◌, ◌∙◌, ℕ, List, length, take, Option, Some, None, Ok, refl, sym, ap}
use Rattle.std.specs.FinMap.{get}
use Rattle.os8_dir.specs.Names.{with_end_zeros}
use Rattle.os8_dir.specs.Entries.{DirectoryState}
use Rattle.os8_dir.specs.Reading.{directory_of}
use Rattle.os8_dir.specs.Found.{FilePlace, IsDirectory, files_at, find}
use Rattle.os8_dir.specs.Found as found
use Rattle.os8_dir.specs.Files.{files_of, data_if_there}
use Rattle.os8_files.specs.Service.{information_of}
use Rattle.os8_files.proofs.CallLemmas.{FindsFiles}

-- what the directory has of a file is what the volume has of it
found-held : (blocks : List (List ℕ)) (info : ℕ) (o : Option FilePlace) → ((f : FilePlace) → o ≡ Some f → with_end_zeros 10 (take info f.info) ≡ f.info) → found.information_of o ≡ information_of (data_if_there blocks info o)
found-held blocks info None zeros = refl
found-held blocks info (Some f) zeros = ap Some (sym (zeros f refl))

pub information-is : FindsFiles → (words : (volume name : ℕ) (d : DirectoryState) (f : FilePlace) → IsDirectory volume d → find name (files_at d.first d.entries) ≡ Some f → with_end_zeros 10 (take d.info f.info) ≡ f.info)
    → (blocks : List (List ℕ)) (d : DirectoryState) (name : ℕ) → directory_of blocks ≡ Ok d → IsDirectory (length blocks) d
    → found.information_of (find name (files_at d.first d.entries)) ≡ information_of (get (files_of blocks) name)
information-is finds words blocks d name read is =
    found-held blocks d.info (find name (files_at d.first d.entries)) (λ f at. words (length blocks) name d f is at) ∙ ap information_of (sym (finds blocks d name read))
