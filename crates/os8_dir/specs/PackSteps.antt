-- Sixbit codes as one number, as the parsing of a name makes it. No contract of a public function cites this.
use Rattle.std.specs.Prelude.{ℕ, zero, suc, ◌+◌, ◌*◌, ◌^◌, List, [], ◌∷◌, length, Option, Some, None}
use Rattle.word12.specs.Sixbit.{sixbit_code}
use Rattle.os8_dir.specs.Names.{with_end_zeros, extension_codes}

-- codes as digits to the base 64
abbrev pub digits : List ℕ → ℕ
digits [] = 0
digits (code ∷ codes) = code * 0o100 ^ length codes + digits codes

-- codes with zeros after them up to a size, as one number
abbrev pub number_of_codes : ℕ → Option (List ℕ) → Option ℕ
number_of_codes size None = None
number_of_codes size (Some codes) = Some (digits (with_end_zeros size codes))

-- the extension of what stands from the first dot on
abbrev pub extension_from : List ℕ → Option (List ℕ)
extension_from [] = extension_codes None
extension_from (dot ∷ text) = extension_codes (Some text)

-- a code before so many that are a number
abbrev pub with_digit : ℕ → Option ℕ → Option ℕ → Option ℕ
with_digit size (Some code) (Some number) = Some (code * 0o100 ^ size + number)
with_digit size (Some code) None = None
with_digit size None number = None

-- the codes of up to so many characters, with zeros after them, a character at a time
abbrev pub packed_codes : ℕ → List ℕ → Option ℕ
packed_codes size [] = Some 0
packed_codes zero (c ∷ cs) = None
packed_codes (suc size) (c ∷ cs) = with_digit size (sixbit_code c) (packed_codes size cs)

-- the name of a stem and an extension
abbrev pub joined_name : Option ℕ → Option ℕ → Option ℕ
joined_name (Some stem) (Some extension) = Some (stem * 0o10000 + extension)
joined_name (Some stem) None = None
joined_name None extension = None
