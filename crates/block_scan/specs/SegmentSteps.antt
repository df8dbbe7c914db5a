-- How a segment is read alone, for private clauses.
use Rattle.std.specs.Prelude.{◌≡◌, ℕ, slice_set, false, Option, None, Some, Result, Ok, Err, is_ok, List}
use Rattle.os8_dir.specs.declared.faults.DirFault.{DirFault}
use Rattle.os8_dir.specs.Entries.{DirectoryState}

-- the words of a segment, which leads to no other
abbrev pub without_link : List ℕ → List ℕ
without_link words = slice_set words 2 0

-- a directory that can't be read is not sound
abbrev pub IsNone : {A E : Type 0} → Result (Option A) E → Result DirectoryState DirFault → Type 0
IsNone (Ok (Some directory)) read = ⊥
IsNone (Ok None) read = is_ok read ≡ false
IsNone (Err fault) read = Unit {0}
