-- The steps of reading a script, for private clauses.
use Rattle.std.specs.Prelude.{◌≡◌, ℕ, ◌+◌, ◌<◌, ◌≤◌, ◌⊎◌, Result, Ok, Err, Option, Bool, true, false, List, [], ◌++◌, length}
use Rattle.std.specs.Io.KnownBytes.{Consumes}
use Rattle.script8.specs.Items.{WaitsForLines}
use Rattle.script8.specs.Reading.{IsRead}
use Rattle.refusals.specs.declared.faults.SessionFault.{SessionFault}
use Rattle.refusals.specs.declared.faults.SessionFault.TheVariants.{Reader, Memory}

-- The result of one read where so many bytes of a script may be read, and so many were. It is the reader's end, more bytes, of
-- which so many lines are wanted, or a fault.
abbrev pub ReadsPiece : ℕ → Option (List ℕ) → Option (List ℕ) → List ℕ → ℕ → List ℕ → ℕ → ℕ
    → Result Bool SessionFault → Type 0
ReadsPiece most old new before count after lines' count' (Ok true) = IsRead old new [] × (after ≡ before)
ReadsPiece most old new before count after lines' count' (Ok false) =
    (bytes : List ℕ) × Consumes old new bytes × (after ≡ before ++ bytes) × (count' ≡ count + length bytes)
    × (count' ≤ most) × WaitsForLines after lines' × (0 < length bytes)
ReadsPiece most old new before count after lines' count' (Err fault) =
    (bytes : List ℕ) × Consumes old new bytes × (count + length bytes ≤ most)
    × (((fault ≡ Reader) × (bytes ≡ [])) ⊎ (fault ≡ Memory))
