-- What is taken of a reader's bytes.
use Rattle.std.specs.Prelude.{◌≡◌, ℕ, ◌+◌, ◌<◌, ◌≤◌, ◌⊎◌, Result, Ok, Err, Option, Bool, true, false, List, [], ◌++◌, length}
use Rattle.std.specs.Io.KnownBytes.{Consumes, IsAtEnd}
use Rattle.refusals.specs.declared.faults.SessionFault.{SessionFault}
use Rattle.refusals.specs.declared.faults.SessionFault.TheVariants.{Reader, Memory}

-- the reader was read to its end, and gave these bytes
pub record IsRead (old new : Option (List ℕ)) (bytes : List ℕ) : Type 0 where
  pub taken : Consumes old new bytes
  pub at_end : IsAtEnd new

-- so many bytes of the reader were taken
pub record TakesBytes (old new : Option (List ℕ)) (count : ℕ) : Type 0 where
  pub bytes : List ℕ
  pub taken : Consumes old new bytes
  pub count_is : length bytes ≡ count

-- the reader was read to its end, and gave so many bytes at most
pub record IsReadWithin (most : ℕ) (old new : Option (List ℕ)) (bytes : List ℕ) : Type 0 where
  pub read : IsRead old new bytes
  pub within : length bytes ≤ most

-- reading ended with a fault, the reader's where one byte more was taken than may be read
pub record IsReadFault (most : ℕ) (old new : Option (List ℕ)) (fault : SessionFault) : Type 0 where
  pub count : ℕ
  pub takes : TakesBytes old new count
  pub within : count ≤ most + 1
  pub last : count ≡ most + 1 → fault ≡ Reader
  pub kind : (fault ≡ Reader) ⊎ (fault ≡ Memory)

-- The result of one read of so many bytes at most, after bytes that were read: the end of the reader, more bytes, or a fault that
-- leaves the bytes.
abbrev pub ReadsOnce : ℕ → Option (List ℕ) → Option (List ℕ) → List ℕ → List ℕ → Result Bool SessionFault → Type 0
ReadsOnce room old new before after (Ok true) = IsRead old new [] × (after ≡ before)
ReadsOnce room old new before after (Ok false) =
    (bytes : List ℕ) × Consumes old new bytes × (after ≡ before ++ bytes) × (0 < length bytes) × (length bytes ≤ room)
ReadsOnce room old new before after (Err fault) =
    (bytes : List ℕ) × Consumes old new bytes × (after ≡ before) × (length bytes ≤ room)
    × (((fault ≡ Reader) × (bytes ≡ [])) ⊎ (fault ≡ Memory))

-- whether a reader was at its end; if not, one byte was taken to see it, or it failed
abbrev pub IsReaderEnd : Option (List ℕ) → Option (List ℕ) → Result Bool SessionFault → Type 0
IsReaderEnd old new (Ok true) = IsRead old new []
IsReaderEnd old new (Ok false) = TakesBytes old new 1
IsReaderEnd old new (Err fault) = (fault ≡ Reader) × Consumes old new []

-- why no more is read: the reader has failed, or one byte more was taken than may be read
abbrev pub MayReadNoMore : ℕ → Type 0 → Option (List ℕ) → Option (List ℕ) → Type 0
MayReadNoMore most has_failed old new = has_failed ⊎ TakesBytes old new (most + 1)
