-- What the table of instructions says of the machine: how a step decodes a word, and what it does then.
use Rattle.std.specs.Prelude.{◌≡◌, ℕ, ◌+◌, ◌*◌, ◌/◌, ◌<◌, nat_eq, Bool, if◌then◌else◌, None, List, [], ◌∷◌, ◌++◌}
use Rattle.cpu8.specs.State.{State}
use Rattle.cpu8.specs.Decoding.{has_cla, has_cll, has_cma, has_cml, has_rar, has_ral, rotates_twice, iac_of, has_sma, has_sza, has_snl, is_reversed, has_osr, has_hlt}
use Rattle.cpu8.specs.Reference.{after_fetch}
use Rattle.cpu8.specs.Operate.{group1_done, group2_row}
use Rattle.cpu8.specs.Transfer.{keyboard_row, printer_row}
use Rattle.cpu8.specs.Step.{step}
use Rattle.cpu8.specs.Laws.{IsNextWord}
use Rattle.cpu8.specs.declared.outcomes.Stepped.TheVariants.{Ran}
use Rattle.instructions8.specs.Instructions.{Bit, Kind, Instruction}
use Rattle.instructions8.specs.Instructions.Bit.{Cla, Cll, Cma, Cml, Rar, Ral, Twice, Iac, Sma, Sza, Snl, Reverse, Osr, Hlt}
use Rattle.instructions8.specs.Instructions.Kind.{Reference, Group1, Group2, EitherGroup, Transfer, FieldTransfer, Keyboard, Printer, PaperTape}

-- a bit, where a word has it
abbrev pub where_set : Bool → Bit → List Bit
where_set is_set bit = if is_set then bit ∷ [] else []

-- the bits that the processor finds in a word of group 1, and of group 2
abbrev pub group1_bits : ℕ → List Bit
group1_bits w =
    where_set (has_cla w) Cla ++ where_set (has_cll w) Cll ++ where_set (has_cma w) Cma ++ where_set (has_cml w) Cml
    ++ where_set (has_rar w) Rar ++ where_set (has_ral w) Ral ++ where_set (rotates_twice w) Twice ++ where_set (nat_eq (iac_of w) 1) Iac

abbrev pub group2_bits : ℕ → List Bit
group2_bits w =
    where_set (has_cla w) Cla ++ where_set (has_sma w) Sma ++ where_set (has_sza w) Sza ++ where_set (has_snl w) Snl
    ++ where_set (is_reversed w) Reverse ++ where_set (has_osr w) Osr ++ where_set (has_hlt w) Hlt

-- a word is an operate of group 1 with just these bits, and a step does it as one
pub record IsGroup1 (word : ℕ) (bits : List Bit) : Type 0 where
  pub bits_are : group1_bits word ≡ bits
  pub steps : (s : State) → IsNextWord word s → step s ≡ (group1_done s word, Ran None)

-- the same of group 2
pub record IsGroup2 (word : ℕ) (bits : List Bit) : Type 0 where
  pub bits_are : group2_bits word ≡ bits
  pub steps : (s : State) → IsNextWord word s → step s ≡ group2_row s word

-- what a step does where the next word is of this code
abbrev pub StepsAs : ℕ → Kind → Type 0
StepsAs code (Reference row) =
    (word : ℕ) (s : State) → word / 0o1000 ≡ code / 0o1000 → IsNextWord word s → step s ≡ (row s word, Ran None)
StepsAs code (Group1 bits) = IsGroup1 code bits
StepsAs code (Group2 bits) = IsGroup2 code bits
StepsAs code (EitherGroup bits) = IsGroup1 code bits × IsGroup2 (code + 0o400) bits
StepsAs code (Transfer row) = (s : State) → IsNextWord code s → step s ≡ (row s, Ran None)
StepsAs code (FieldTransfer row) =
    (field : ℕ) → field < 8 → (s : State) → IsNextWord (code + 0o10 * field) s → step s ≡ (row s field, Ran None)
StepsAs code (Keyboard pulses) = (s : State) → IsNextWord code s → step s ≡ (keyboard_row s pulses, Ran None)
StepsAs code (Printer pulses) = (s : State) → IsNextWord code s → step s ≡ printer_row s pulses
StepsAs code PaperTape = (s : State) → IsNextWord code s → step s ≡ (after_fetch s, Ran None)

-- an instruction's code is decoded as its kind
abbrev pub IsDone : Instruction → Type 0
IsDone one = StepsAs one.code one.kind
