-- The list of entries in which a file has another name.
use Rattle.std.specs.Prelude.{ℕ, ◌==◌, if◌then◌else◌, List, [], ◌∷◌, Option, Some, None}
use Rattle.os8_dir.specs.declared.entries.DirEntry.{DirEntry}
use Rattle.os8_dir.specs.declared.entries.DirEntry.TheVariants.{File, Empty}
use Rattle.os8_dir.specs.Found.{FilePlace}

-- a name, or the new one where it is the old one
abbrev pub renamed_name : ℕ → ℕ → ℕ → ℕ
renamed_name name new other = if other == name then new else other

-- the file of a name has the new one, and keeps its information words and its length
abbrev pub renamed_entry : ℕ → ℕ → DirEntry → DirEntry
renamed_entry name new (File other info size) = File (renamed_name name new other) info size
renamed_entry name new (Empty size) = Empty size

-- a list in which the file of a name has the new one, in its place
abbrev pub with_new_name : ℕ → ℕ → List DirEntry → List DirEntry
with_new_name name new [] = []
with_new_name name new (e ∷ es) = renamed_entry name new e ∷ with_new_name name new es

-- a file under another name
abbrev pub with_name : ℕ → Option FilePlace → Option FilePlace
with_name new None = None
with_name new (Some f) = Some (record { name = new; info = f.info; place = f.place; size = f.size })
