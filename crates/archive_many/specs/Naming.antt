-- Files that words name, and not only choose as a pattern does, and the names of copies (this project's profile).
use Rattle.std.specs.Prelude.{ℕ, ◌||◌, Bool, false, nat_eq, Option, None, Some, List, [], ◌∷◌}
use Rattle.name_spelling.specs.Reading.{typed_name}
use Rattle.archive_files.specs.Copying.{target}
use Rattle.archive_many.specs.declared.opened.VolumeFile.{VolumeFile}

abbrev pub is_name : Option ℕ → ℕ → Bool
is_name None name = false
is_name (Some typed) name = nat_eq typed name

-- a word is typed for the name
abbrev pub spells : List ℕ → ℕ → Bool
spells word name = is_name (typed_name word) name

abbrev pub name_is_among : ℕ → List (List ℕ) → Bool
name_is_among name [] = false
name_is_among name (word ∷ words) = spells word name || name_is_among name words

abbrev pub place_is_among : ℕ → List ℕ → Bool
place_is_among place [] = false
place_is_among place (other ∷ others) = nat_eq other place || place_is_among place others

-- one of some words is the name of a file, or it begins at one of some blocks
abbrev pub is_named : VolumeFile → List (List ℕ) → List ℕ → Bool
is_named file words places = name_is_among file.name words || place_is_among file.place places

abbrev pub name_or : ℕ → Option ℕ → ℕ
name_or own None = own
name_or own (Some name) = name

-- the name that the copy of a file gets: the new one that was typed, if that is one, or else its own
abbrev pub copy_name : Option (List ℕ) → ℕ → ℕ
copy_name other own = name_or own (target own other)
