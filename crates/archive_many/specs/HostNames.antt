-- Names of files of the host for files of a volume, and the other way round (this project's profile).
use Rattle.std.specs.Prelude.{◌≡◌, ◌⊎◌, ℕ, ◌-◌, ◌==◌, ◌&&◌, nat_le, Bool, true, false, if◌then◌else◌, Option, List, [], ◌∷◌, ◌++◌, map}
use Rattle.name_spelling.specs.Reading.{typed_name}
use Rattle.name_spelling.specs.Spelling.{text_of}
use Rattle.archive_many.specs.declared.opened.VolumeFile.{VolumeFile}

-- ## For the host

-- the name of the host's file for a file of a volume: its name as it is typed
abbrev pub NamesHost : VolumeFile → List ℕ → Type 0
NamesHost file text = text ≡ text_of file.name

-- ## From the host

-- a slash parts the folders of a path
abbrev pub is_slash : ℕ → Bool
is_slash character = character == 0o57

-- none stands in a text
abbrev pub has_no_slash : List ℕ → Bool
has_no_slash [] = true
has_no_slash (character ∷ text) = if is_slash character then false else has_no_slash text

-- what a path is up to its last slash: nothing, or a text that ends with one
abbrev pub IsFolder : List ℕ → Type 0
IsFolder folder = (folder ≡ []) ⊎ ((before : List ℕ) × (folder ≡ before ++ 0o57 ∷ []))

-- what stands after the last slash of a path
pub record IsLastPart (path part : List ℕ) : Type 0 where
  pub folder : List ℕ
  pub path_is : path ≡ folder ++ part
  pub is_folder : IsFolder folder
  pub no_slash : has_no_slash part ≡ true

-- a capital letter for a small one, and any other character as it is
abbrev pub capital_of : ℕ → ℕ
capital_of character = if nat_le 0o141 character && nat_le character 0o172 then character - 0o40 else character

-- the name that the last part of a path spells with its small letters raised
abbrev pub NamesVolume : List ℕ → Option ℕ → Type 0
NamesVolume path result = (part : List ℕ) × IsLastPart path part × (result ≡ typed_name (map capital_of part))
