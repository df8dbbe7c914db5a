-- Inputs of no byte that would replace files.
use Rattle.std.specs.Prelude.{◌&&◌, ◌||◌, Bool, false, length, List, [], ◌∷◌, nat_eq, ℕ}
use Rattle.archive_many.specs.declared.opened.VolumeFile.{VolumeFile}

-- one of the files has the name
abbrev pub is_among : ℕ → List VolumeFile → Bool
is_among name [] = false
is_among name (file ∷ files) = nat_eq file.name name || is_among name files

-- no byte is put, and the volume has a file of the name
abbrev pub empties : List VolumeFile → ℕ → List ℕ → Bool
empties files name bytes = nat_eq (length bytes) 0 && is_among name files
