-- What a step stores in core (Small Computer Handbook): at most two words, an auto-index and an operand, or the return address of a
-- JMS; an interrupt stores one.
use Rattle.std.specs.Prelude.{ℕ, ◌+◌, ◌%◌, if◌then◌else◌, List, [], ◌∷◌, ◌++◌, slice_index, slice_set}
use Rattle.cpu8.specs.State.{State, place, grants_interrupt}
use Rattle.cpu8.specs.Decoding.{operation_of}
use Rattle.cpu8.specs.Reference.{is_auto_index, pointer_place, effective_address, operand_place, next_operand}
use Rattle.cpu8.specs.Step.{next_word}
use Rattle.cpu8.specs.declared.decoding.Operation.{Operation}
use Rattle.cpu8.specs.declared.decoding.Operation.TheVariants.{And, Tad, Isz, Dca, Jms, Jmp, Iot, Opr}

-- a cell and the word that is stored in it
pub record Store : Type 0 where
  pub cell : ℕ
  pub word : ℕ

-- core after words were stored, the first of the list first
abbrev pub stored : List Store → List ℕ → List ℕ
stored [] core = core
stored (first ∷ others) core = stored others (slice_set core first.cell first.word)

-- a reference to memory through an auto-index stores its word, one more
abbrev pub index_stores : State → ℕ → List Store
index_stores s w =
    if is_auto_index s w then record { cell = pointer_place s w; word = (slice_index s.core (pointer_place s w) + 1) % 0o10000 } ∷ []
    else []

-- and then ISZ its operand, one more; DCA the AC; JMS the address after it, in the first word of the subroutine
abbrev pub instruction_stores : Operation → State → ℕ → List Store
instruction_stores And s w = index_stores s w
instruction_stores Tad s w = index_stores s w
instruction_stores Isz s w = index_stores s w ++ record { cell = operand_place s w; word = next_operand s w } ∷ []
instruction_stores Dca s w = index_stores s w ++ record { cell = operand_place s w; word = s.ac } ∷ []
instruction_stores Jms s w = index_stores s w ++ record { cell = place s.instruction_buffer (effective_address s w); word = (s.pc + 1) % 0o10000 } ∷ []
instruction_stores Jmp s w = index_stores s w
instruction_stores Iot s w = []
instruction_stores Opr s w = []

-- what the next step stores: an interrupt PC in cell 0
abbrev pub stores : State → List Store
stores s =
    if s.running then
    (if grants_interrupt s then record { cell = 0; word = s.pc } ∷ []
    else instruction_stores (operation_of (next_word s)) s (next_word s))
    else []
