-- The names of symbols (PAL III Symbolic Assembler manual), in sixbit as the OS/8 Software Support Manual packs names.
use Rattle.std.specs.Prelude.{ℕ, Bool, true, false, ◌&&◌, if◌then◌else◌, Option, Some, None, is_some, List, [], ◌∷◌}
use Rattle.word12.specs.Sixbit.{is_letter, sixbit_code}
pub use Rattle.word12.specs.Sixbit.{code_at, name_number}

-- letters and digits
abbrev pub all_coded : List ℕ → Bool
all_coded [] = true
all_coded (character ∷ others) = is_some (sixbit_code character) && all_coded others

-- a letter followed by letters and digits
abbrev pub is_name : List ℕ → Bool
is_name [] = false
is_name (character ∷ others) = is_letter character && all_coded others

-- the name that a text spells
abbrev pub name_of : List ℕ → Option ℕ
name_of text = if is_name text then Some (name_number text) else None
