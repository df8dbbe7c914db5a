-- References to cells and ranges, in a line whose letters are small ones.
use Rattle.std.specs.Prelude.{ℕ, Bool, false, ◌+◌, ◌-◌, ◌*◌, ◌==◌, ◌&&◌, ◌||◌, nat_le, if◌then◌else◌, List, [], ◌∷◌, position, Option, None, Some, Result, Ok, Err}
use Rattle.std.specs.List.{list_all}
use Rattle.word12.specs.Sixbit.{is_digit}
use Rattle.word12.specs.declared.sizes.TheConstants.{FIELD}
use Rattle.debug_lines.specs.Parts.{text_of, first_bytes, following_bytes, if_read}
use Rattle.debug_lines.specs.Numbers.{number_of_cell, refusal_at, word_in}
use Rattle.debug_lines.specs.declared.parts.Part.{Part}
use Rattle.debug_lines.specs.declared.references.Base.{Base}
use Rattle.debug_lines.specs.declared.references.Base.TheVariants.{Number, Name, Here}
use Rattle.debug_lines.specs.declared.references.Offset.{Offset}
use Rattle.debug_lines.specs.declared.references.Offset.TheVariants.{Plus, Minus}
use Rattle.debug_lines.specs.declared.references.Range.{Range}
use Rattle.debug_lines.specs.declared.references.Reference.{Reference}
use Rattle.debug_lines.specs.declared.faults.Refusal.{Refusal}
use Rattle.debug_lines.specs.declared.faults.Refused.TheVariants.{NotOctal, NotName}

abbrev pub is_small_letter : ℕ → Bool
is_small_letter byte = nat_le 0o141 byte && nat_le byte 0o172

abbrev pub is_of_name : ℕ → Bool
is_of_name byte = is_small_letter byte || is_digit byte

-- a name: a letter, and then letters and digits
abbrev pub is_name : List ℕ → Bool
is_name [] = false
is_name (first ∷ following) = is_small_letter first && list_all is_of_name following

abbrev pub reference : Base → Offset → Reference
reference base offset = record { base = base; offset = offset }

-- a base that is a number, or else a name
abbrev pub name_base : Part → List ℕ → Result Base Refusal
name_base part text = if is_name text then Ok (Name part) else Err (refusal_at NotName part)

abbrev pub number_base : Result ℕ Refusal → Result Base Refusal
number_base cell = if_read cell (λ number. Ok (Number number))

abbrev pub number_or_name : List ℕ → Part → List ℕ → Result Base Refusal
number_or_name line part [] = name_base part []
number_or_name line part (byte ∷ bytes) = if is_digit byte then number_base (number_of_cell line part) else name_base part (byte ∷ bytes)

-- what a reference begins with: `.`, an octal number, or a name
abbrev pub base_of : List ℕ → Part → List ℕ → Result Base Refusal
base_of line part [] = number_or_name line part []
base_of line part (byte ∷ []) = if byte == 0o56 then Ok Here else number_or_name line part (byte ∷ [])
base_of line part (byte ∷ next ∷ bytes) = number_or_name line part (byte ∷ next ∷ bytes)

abbrev pub base_in : List ℕ → Part → Result Base Refusal
base_in line part = base_of line part (text_of line part)

-- an offset of a word, by its sign: `-`, or else `+`
abbrev pub offset_of : List ℕ → ℕ → Offset
offset_of [] word = Plus word
offset_of (sign ∷ digits) word = if sign == 0o55 then Minus word else Plus word

abbrev pub offset_in : List ℕ → Part → Result Offset Refusal
offset_in line part = if_read (word_in line (following_bytes 1 part)) (λ word. Ok (offset_of (text_of line part) word))

abbrev pub is_sign : ℕ → Bool
is_sign byte = (byte == 0o53) || (byte == 0o55)

-- a base, and from the first sign on an offset
abbrev pub cell_at_sign : List ℕ → Part → Option ℕ → Result Reference Refusal
cell_at_sign line part None = if_read (base_in line part) (λ base. Ok (reference base (Plus 0)))
cell_at_sign line part (Some place) =
    if_read (base_in line (first_bytes place part)) (λ base.
    if_read (offset_in line (following_bytes place part)) (λ offset. Ok (reference base offset)))

abbrev pub cell_from_base : List ℕ → Part → Result Reference Refusal
cell_from_base line part = cell_at_sign line part (position is_sign (text_of line part))

-- the digit of a field, a colon, and an address in it
abbrev pub cell_of_field : ℕ → List ℕ → Part → Result Reference Refusal
cell_of_field field line part =
    if nat_le 0o60 field && nat_le field 0o67
    then if_read (word_in line (following_bytes 2 part)) (λ address. Ok (reference (Number (FIELD * (field - 0o60) + address)) (Plus 0)))
    else Err (refusal_at NotOctal part)

abbrev pub cell_of : List ℕ → Part → List ℕ → Result Reference Refusal
cell_of line part [] = cell_from_base line part
cell_of line part (byte ∷ []) = cell_from_base line part
cell_of line part (byte ∷ next ∷ bytes) = if next == 0o72 then cell_of_field byte line part else cell_from_base line part

-- A cell: an octal number, a name or `.`, each with an offset in octal or without, or a field, a colon and an address.
abbrev pub cell_in : List ℕ → Part → Result Reference Refusal
cell_in line part = cell_of line part (text_of line part)

-- the cell after `..`
abbrev pub last_of : List ℕ → Part → List ℕ → Result Reference Refusal
last_of line part [] = Err (refusal_at NotName part)
last_of line part (byte ∷ []) = Err (refusal_at NotName part)
last_of line part (byte ∷ next ∷ bytes) =
    if (byte == 0o56) && (next == 0o56) then cell_in line (following_bytes 2 part) else Err (refusal_at NotName part)

abbrev pub last_in : List ℕ → Part → Result Reference Refusal
last_in line part = last_of line part (text_of line part)

abbrev pub range : Reference → Option Reference → Range
range first last = record { first = first; last = last }

abbrev pub range_at_dot : List ℕ → Part → Option ℕ → Result Range Refusal
range_at_dot line part None = if_read (cell_in line part) (λ first. Ok (range first None))
range_at_dot line part (Some place) =
    if_read (cell_in line (first_bytes (place + 1) part)) (λ first.
    if_read (last_in line (following_bytes (place + 1) part)) (λ last. Ok (range first (Some last))))

abbrev pub is_dot : ℕ → Bool
is_dot byte = byte == 0o56

-- A range: a cell, or two with `..` between. Only at its head has a cell a dot.
abbrev pub range_in : List ℕ → Part → Result Range Refusal
range_in line part = range_at_dot line part (position is_dot (text_of line (following_bytes 1 part)))
