-- The columns that are no names (this project's profile).
use Rattle.std.specs.Prelude.{ℕ, ◌+◌, ◌-◌, ◌/◌, ◌%◌, nat_lt, if◌then◌else◌, codes, decimal, Option, Some, None, List, [], ◌∷◌, ◌++◌}
use Rattle.word12.specs.Octal.{octal5}
use Rattle.file_kind.specs.declared.kinds.FileKind.{FileKind}
use Rattle.file_kind.specs.declared.kinds.FileKind.TheVariants.{Zeros, Core, Bin, Rim, Text, Unknown}

-- which volume of a disk it is; `-` for a file of one volume
abbrev pub volume_text : Option ℕ → List ℕ
volume_text None = 0o55 ∷ []
volume_text (Some volume) = decimal volume

-- what a file holds; of a core image also the cell where its program starts
abbrev pub kind_text : FileKind → List ℕ
kind_text Zeros = codes "zeros"
kind_text (Core start) = codes "core-" ++ octal5 start
kind_text Bin = codes "BIN"
kind_text Rim = codes "RIM"
kind_text Text = codes "text"
kind_text Unknown = codes "unknown"

abbrev pub hex_digit : ℕ → ℕ
hex_digit number = if nat_lt number 10 then 0o60 + number else 0o141 + (number - 10)

-- two hexadecimal digits for each byte
abbrev pub hexadecimal : List ℕ → List ℕ
hexadecimal [] = []
hexadecimal (byte ∷ bytes) = hex_digit (byte / 16) ∷ hex_digit (byte % 16) ∷ hexadecimal bytes
