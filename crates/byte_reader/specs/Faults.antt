-- When a call of a reader failed.
use Rattle.std.specs.Prelude.{ℕ, ◌≡◌, ◌≢◌, ◌≤◌, Result, Ok, Err, Option, List, [], length, take}
use Rattle.std.specs.Io.KnownBytes.{Consumes, IsAtEnd}
use Rattle.std.specs.IoError.{error_kind}
use Rattle.std.specs.declared.io.Error.{Error}
use Rattle.std.specs.declared.io.ErrorKind.TheVariants.{Interrupted}

-- it answered an error, and was not only interrupted
abbrev pub IsFault : {A : Type 0} → Result A Error → Type 0
IsFault (Ok count) = ⊥
IsFault (Err error) = error_kind error ≢ Interrupted

-- what a read into a buffer that has room gives: so many bytes at its prefix, none only at the reader's end; a fault took none
abbrev pub ReadsBytes : {E : Type 0} → Option (List ℕ) → Option (List ℕ) → List ℕ → Result ℕ E → Type 0
ReadsBytes old new buffer (Ok count) = (count ≤ length buffer) × Consumes old new (take count buffer) × (count ≡ 0 → IsAtEnd new)
ReadsBytes old new buffer (Err fault) = Consumes old new []
