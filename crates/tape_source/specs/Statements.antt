-- The statement that is shown for a word (PAL III Symbolic Assembler manual, and this project's profile of it), by its
-- pieces: names, tags and octal numbers, which blanks join.
use Rattle.std.specs.Prelude.{ℕ, ◌+◌, ◌*◌, ◌/◌, ◌%◌, nat_eq, nat_lt, Bool, ◌&&◌, if◌then◌else◌, List, [], ◌∷◌, ◌++◌, codes}
use Rattle.word12.specs.declared.sizes.TheConstants.{FIELD}
use Rattle.word12.specs.Octal.{octal4}
use Rattle.tape_source.specs.Patterns.{patterns, patterns_of, or_after, names}
use Rattle.flow8.specs.Exits.{address_of_reference, referred_cell}
use Rattle.tape_source.specs.References.{operation_name, is_reference}
use Rattle.tape_source.specs.Tags.{tag}
use Rattle.tape_source.specs.Looks.{Look}

-- the cell that a memory reference names, by its tag, spelled so, where the source has it, else by its address
abbrev pub address : (ℕ → List ℕ) → (ℕ → Bool) → ℕ → ℕ → List ℕ
address name tagged cell word = if tagged (referred_cell cell word) then name (referred_cell cell word) else octal4 (address_of_reference (cell % FIELD) word)

-- the operation, `I` where the word is indirect, and the address
abbrev pub reference : (ℕ → List ℕ) → (ℕ → Bool) → ℕ → ℕ → List (List ℕ)
reference name tagged cell word =
    operation_name (word / 0o1000) ∷ (if nat_eq (word / 0o400 % 2) 1 then codes "I" ∷ [] else []) ++ address name tagged cell word ∷ []

-- whether the names of a word's patterns make the word
abbrev pub is_named : ℕ → Bool
is_named word = nat_lt 0o5777 word && nat_eq (or_after 0 (patterns_of word patterns)) word

-- the pieces of an instruction: a memory reference or names where they make the word, else its number
abbrev pub instruction_by : (ℕ → List ℕ) → (ℕ → Bool) → ℕ → ℕ → List (List ℕ)
instruction_by name tagged cell word =
    if is_reference (cell % FIELD) word then reference name tagged cell word
    else (if is_named word then names (patterns_of word patterns) else octal4 word ∷ [])

-- the same with the tags that are made of the cells
abbrev pub instruction : (ℕ → Bool) → ℕ → ℕ → List (List ℕ)
instruction tagged cell word = instruction_by tag tagged cell word

-- The pieces of a datum: the tag of the cell whose address it is, in its own field, where the source has that, else its number. A zero is
-- a number, since more cells are to begin as 0 than point to cell 0.
abbrev pub datum : (ℕ → List ℕ) → (ℕ → Bool) → ℕ → ℕ → List (List ℕ)
datum name tagged cell word =
    (if nat_eq word 0 then octal4 word else if tagged (FIELD * (cell / FIELD) + word) then name (FIELD * (cell / FIELD) + word) else octal4 word) ∷ []

-- the pieces of the statement of a cell's word: an instruction where the cell is given as one, else a datum
abbrev pub statement : Look → (ℕ → Bool) → ℕ → ℕ → List (List ℕ)
statement look tagged cell word = if look.is_code cell then instruction_by look.name tagged cell word else datum look.name tagged cell word
