-- The steps of reading to the reader's end, for private clauses.
use Rattle.std.specs.Prelude.{◌≡◌, ℕ, ◌≤◌, ◌⊎◌, Result, Ok, Err, Option, Bool, true, false, List, length}
use Rattle.std.specs.Io.KnownBytes.{Consumes}
use Rattle.script8.specs.Reading.{TakesBytes, IsReadWithin}
use Rattle.refusals.specs.declared.faults.SessionFault.{SessionFault}
use Rattle.refusals.specs.declared.faults.SessionFault.TheVariants.{Reader, Memory}

-- The result of reading so many bytes at most: the end of the reader, all those bytes, or a fault. Where that is the
-- reader's, the bytes are all that were taken.
abbrev pub ReadsWithin : ℕ → Option (List ℕ) → Option (List ℕ) → List ℕ → Result Bool SessionFault → Type 0
ReadsWithin most old new bytes (Ok true) = IsReadWithin most old new bytes
ReadsWithin most old new bytes (Ok false) = Consumes old new bytes × (length bytes ≡ most)
ReadsWithin most old new bytes (Err fault) =
    ((fault ≡ Reader) × Consumes old new bytes × (length bytes ≤ most))
    ⊎ ((fault ≡ Memory) × ((count : ℕ) × TakesBytes old new count × (count ≤ most)))
