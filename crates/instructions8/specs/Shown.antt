-- What the table of instructions says of the source of a tape: how the instruction of a word is spelled.
use Rattle.std.specs.Prelude.{◌≡◌, ℕ, ◌+◌, ◌*◌, ◌/◌, ◌%◌, ◌<◌, nat_eq, Bool, true, false, if◌then◌else◌, List, [], ◌∷◌}
use Rattle.word12.specs.Octal.{octal_digit}
use Rattle.tape_source.specs.References.{is_reference}
use Rattle.tape_source.specs.Statements.{instruction}
use Rattle.instructions8.specs.Instructions.{Kind, Instruction}
use Rattle.instructions8.specs.Instructions.Kind.{Reference, Group1, Group2, EitherGroup, Transfer, FieldTransfer, Keyboard, Printer, PaperTape}

-- pieces of which the first is this name
pub record BeginsWith (name : List ℕ) (pieces : List (List ℕ)) : Type 0 where
  pub others : List (List ℕ)
  pub pieces_are : pieces ≡ name ∷ others

-- the number that stands after CDF and CIF: ten, in octal, for each field, and none for field 0
abbrev pub field_pieces : ℕ → List (List ℕ)
field_pieces field = if nat_eq field 0 then [] else (octal_digit field ∷ 0o60 ∷ []) ∷ []

-- What is shown where a word is of this code, whichever cells are tagged: the name, which an address or the number of a
-- field follows.
abbrev pub ShowsName : List ℕ → ℕ → Kind → Type 0
ShowsName name code (Reference row) =
    (tagged : ℕ → Bool) (cell word : ℕ) → word / 0o1000 ≡ code / 0o1000 → is_reference (cell % 0o10000) word ≡ true
    → BeginsWith name (instruction tagged cell word)
ShowsName name code (FieldTransfer row) =
    (field : ℕ) → field < 8 → (tagged : ℕ → Bool) (cell : ℕ) → instruction tagged cell (code + 0o10 * field) ≡ name ∷ field_pieces field
ShowsName name code (Group1 bits) = (tagged : ℕ → Bool) (cell : ℕ) → instruction tagged cell code ≡ name ∷ []
ShowsName name code (Group2 bits) = (tagged : ℕ → Bool) (cell : ℕ) → instruction tagged cell code ≡ name ∷ []
ShowsName name code (EitherGroup bits) = (tagged : ℕ → Bool) (cell : ℕ) → instruction tagged cell code ≡ name ∷ []
ShowsName name code (Transfer row) = (tagged : ℕ → Bool) (cell : ℕ) → instruction tagged cell code ≡ name ∷ []
ShowsName name code (Keyboard pulses) = (tagged : ℕ → Bool) (cell : ℕ) → instruction tagged cell code ≡ name ∷ []
ShowsName name code (Printer pulses) = (tagged : ℕ → Bool) (cell : ℕ) → instruction tagged cell code ≡ name ∷ []
ShowsName name code PaperTape = (tagged : ℕ → Bool) (cell : ℕ) → instruction tagged cell code ≡ name ∷ []

-- a word of an instruction is shown by its name
abbrev pub IsShown : Instruction → Type 0
IsShown one = ShowsName one.name one.code one.kind

-- the operates of group 1
abbrev pub is_of_group_1 : Kind → Bool
is_of_group_1 (Reference row) = false
is_of_group_1 (Group1 bits) = true
is_of_group_1 (Group2 bits) = false
is_of_group_1 (EitherGroup bits) = true
is_of_group_1 (Transfer row) = false
is_of_group_1 (FieldTransfer row) = false
is_of_group_1 (Keyboard pulses) = false
is_of_group_1 (Printer pulses) = false
is_of_group_1 PaperTape = false

-- the operates of group 2
abbrev pub is_of_group_2 : Kind → Bool
is_of_group_2 (Reference row) = false
is_of_group_2 (Group1 bits) = false
is_of_group_2 (Group2 bits) = true
is_of_group_2 (EitherGroup bits) = true
is_of_group_2 (Transfer row) = false
is_of_group_2 (FieldTransfer row) = false
is_of_group_2 (Keyboard pulses) = false
is_of_group_2 (Printer pulses) = false
is_of_group_2 PaperTape = false

-- the codes of those of a kind
abbrev pub codes_where : (Kind → Bool) → List Instruction → List ℕ
codes_where is_so [] = []
codes_where is_so (one ∷ others) = if is_so one.kind then one.code ∷ codes_where is_so others else codes_where is_so others
