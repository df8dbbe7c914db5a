-- What the table of instructions says of the names that the assembler knows from the start.
use Rattle.std.specs.Prelude.{ℕ, nat_eq, Bool, true, ◌&&◌, not, if◌then◌else◌, Option, Some, None, List, [], ◌∷◌}
use Rattle.pal_sym.specs.Names.{is_name, name_number}
use Rattle.instructions8.specs.Instructions.{Instruction}

-- the code of a name
abbrev pub code_of : List Instruction → ℕ → Option ℕ
code_of [] name = None
code_of (one ∷ others) name = if nat_eq name (name_number one.name) then Some one.code else code_of others name

-- all of a table have names as the assembler has them
abbrev pub are_named : List Instruction → Bool
are_named [] = true
are_named (one ∷ others) = is_name one.name && are_named others

-- none of a table has this code
abbrev pub is_free : ℕ → List Instruction → Bool
is_free code [] = true
is_free code (one ∷ others) = not (nat_eq code one.code) && is_free code others

-- no two of a table have the same code
abbrev pub are_different : List Instruction → Bool
are_different [] = true
are_different (one ∷ others) = is_free one.code others && are_different others
