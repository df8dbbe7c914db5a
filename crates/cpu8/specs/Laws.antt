-- What the laws of the machine say, in the handbook's names.
use Rattle.std.specs.Prelude.{◌≡◌, ◌≢◌, ℕ, ◌+◌, ◌*◌, ◌%◌, ◌<◌, Bool, true, false, length, slice_index}
use Rattle.tty8.specs.Teletype.{is_requesting}
use Rattle.cpu8.specs.State.{State, place, grants_interrupt}
use Rattle.cpu8.specs.Decoding.{operation_of, is_indirect, is_group_1, is_group_2, is_reversed}
use Rattle.cpu8.specs.Reference.{direct_address, is_auto_index, pointer_place, effective_address, operand_place}
use Rattle.cpu8.specs.Step.{after_instruction, next_word, step}
use Rattle.cpu8.specs.Go as Go
use Rattle.cpu8.specs.declared.decoding.Operation.{Operation}
use Rattle.cpu8.specs.declared.decoding.Operation.TheVariants.{And, Tad, Isz, Dca, Jms, Jmp, Iot, Opr}
use Rattle.cpu8.specs.declared.outcomes.Stepped.{Stepped}
use Rattle.cpu8.specs.declared.outcomes.Stepped.TheVariants.{Stopped, Interrupted, Ran, Halted, Unassigned}

-- ## Words

abbrev pub ral : ℕ
ral = 0o7004

abbrev pub rtl : ℕ
rtl = 0o7006

abbrev pub rar : ℕ
rar = 0o7010

abbrev pub rtr : ℕ
rtr = 0o7012

abbrev pub cll_cml : ℕ
cll_cml = 0o7120

abbrev pub cia : ℕ
cia = 0o7041

abbrev pub tsf : ℕ
tsf = 0o6041

abbrev pub tls : ℕ
tls = 0o6046

abbrev pub ion : ℕ
ion = 0o6001

abbrev pub cif : ℕ → ℕ
cif n = 0o6202 + 0o10 * n

abbrev pub rmf : ℕ
rmf = 0o6244

abbrev pub jmp_i_0 : ℕ
jmp_i_0 = 0o5400

-- ## L and AC

-- the state that an instruction of this word leaves
abbrev pub after : ℕ → State → State
after word s = (after_instruction s word).0

-- L and AC as one number of thirteen bits
abbrev pub link_and_ac : State → ℕ
link_and_ac s = 0o10000 * s.l + s.ac

-- L is a bit, and AC a word
pub record HasLinkAndAc (s : State) : Type 0 where
  pub l : s.l < 2
  pub ac : s.ac < 0o10000

-- ## Runs

-- the next step is an instruction of this operation
pub record IsNext (kind : Operation) (s : State) : Type 0 where
  pub running : s.running ≡ true
  pub undisturbed : grants_interrupt s ≡ false
  pub operation : operation_of (next_word s) ≡ kind

-- whether a machine runs on after such a step
abbrev pub runs_on : Stepped → Bool
runs_on Stopped = false
runs_on Interrupted = true
runs_on (Ran printed) = true
runs_on Halted = false
runs_on (Unassigned word) = false

-- A subroutine is called, in the field of the instruction buffer, and later there is an indirect JMP there through its
-- first word. That word is still what the JMS left there, and is no auto-index. The caller's field is in the
-- instruction buffer.
pub record IsCallAndReturn (call back : State) : Type 0 where
  pub calls : IsNext Jms call
  pub first_word : place call.instruction_buffer (effective_address call (next_word call)) < length call.core
  pub returns : IsNext Jmp back
  pub fields : (back.instruction_field ≡ call.instruction_buffer) × (back.instruction_buffer ≡ call.instruction_field)
  pub indirect : is_indirect (next_word back) ≡ true
  pub through_first_word : direct_address back (next_word back) ≡ effective_address call (next_word call)
  pub no_auto_index : is_auto_index back (next_word back) ≡ false
  pub kept : slice_index back.core (pointer_place back (next_word back)) ≡ slice_index (step call).0.core (pointer_place back (next_word back))

-- A program is interrupted, and later, in field 0 with no request granted, RMF and JMP I 0 come next. Cell 0 and the
-- save field are still what the interrupt left there.
pub record IsInterruptAndReturn (program back : State) : Type 0 where
  pub running : program.running ≡ true
  pub granted : grants_interrupt program ≡ true
  pub data_field : program.data_field < 8
  pub core : 0 < length program.core
  pub back_running : back.running ≡ true
  pub undisturbed : grants_interrupt back ≡ false
  pub field_0 : back.instruction_field ≡ 0
  pub restores : slice_index back.core back.pc ≡ rmf
  pub jumps : slice_index back.core ((back.pc + 1) % 0o10000) ≡ jmp_i_0
  pub kept : slice_index back.core 0 ≡ slice_index (step program).0.core 0
  pub saved : back.save_field ≡ (step program).0.save_field

-- the state resumes where the program was, with its fields
pub record Resumes (program s : State) : Type 0 where
  pub running : s.running ≡ true
  pub pc : s.pc ≡ program.pc
  pub instruction_field : s.instruction_field ≡ program.instruction_field
  pub instruction_buffer : s.instruction_buffer ≡ program.instruction_field
  pub data_field : s.data_field ≡ program.data_field
  pub held_off : s.held_off ≡ false

-- ## Skips

-- an instruction of this word skips the next one
abbrev pub Skips : ℕ → State → Type 0
Skips word s = (after word s).pc ≡ (s.pc + 2) % 0o10000

-- the next one comes
abbrev pub SkipsNot : ℕ → State → Type 0
SkipsNot word s = (after word s).pc ≡ (s.pc + 1) % 0o10000

-- a word of group 2 of the operates that has 0010 clear
pub record IsTest (word : ℕ) : Type 0 where
  pub operation : operation_of word ≡ Opr
  pub not_group_1 : is_group_1 word ≡ false
  pub group_2 : is_group_2 word ≡ true
  pub sense : is_reversed word ≡ false

-- ## Interrupts after ION, CIF and RMF

-- the next step does ION, with interrupts off
pub record IsIon (s : State) : Type 0 where
  pub running : s.running ≡ true
  pub off : s.interrupts_on ≡ false
  pub word : next_word s ≡ ion

-- interrupts are on and not held off, and one is requested
pub record IsRequested (s : State) : Type 0 where
  pub running : s.running ≡ true
  pub on : s.interrupts_on ≡ true
  pub not_held_off : s.held_off ≡ false
  pub requested : is_requesting s.teletype ≡ true

-- an instruction is done of this word next
pub record IsNextWord (word : ℕ) (s : State) : Type 0 where
  pub running : s.running ≡ true
  pub undisturbed : grants_interrupt s ≡ false
  pub fetches : next_word s ≡ word

abbrev pub is_jump : Operation → Bool
is_jump And = false
is_jump Tad = false
is_jump Isz = false
is_jump Dca = false
is_jump Jms = true
is_jump Jmp = true
is_jump Iot = false
is_jump Opr = false

-- the state after so many steps
abbrev pub later : ℕ → State → State
later k s = Go.after false k s

-- none of the next k steps finds a JMP or JMS at PC
abbrev pub NoJump : State → ℕ → Type 0
NoJump s k = (m : ℕ) → m < k → is_jump (operation_of (next_word (later m s))) ≡ false

-- ## Auto-indexing

abbrev pub refers : Operation → Bool
refers And = true
refers Tad = true
refers Isz = true
refers Dca = true
refers Jms = true
refers Jmp = true
refers Iot = false
refers Opr = false

-- what the instruction stores goes to another cell than its pointer's
abbrev pub StoresApart : Operation → State → ℕ → Type 0
StoresApart And s w = Unit {0}
StoresApart Tad s w = Unit {0}
StoresApart Isz s w = pointer_place s w ≢ operand_place s w
StoresApart Dca s w = pointer_place s w ≢ operand_place s w
StoresApart Jms s w = pointer_place s w ≢ place s.instruction_buffer (effective_address s w)
StoresApart Jmp s w = Unit {0}
StoresApart Iot s w = Unit {0}
StoresApart Opr s w = Unit {0}

-- the next step does a reference to memory through an auto-index
pub record UsesAutoIndex (kind : Operation) (s : State) : Type 0 where
  pub next : IsNext kind s
  pub reference : refers kind ≡ true
  pub auto_index : is_auto_index s (next_word s) ≡ true
  pub core : pointer_place s (next_word s) < length s.core
  pub apart : StoresApart kind s (next_word s)

-- the word of the pointer of the next instruction, made one more
abbrev pub next_pointer : State → ℕ
next_pointer s = (slice_index s.core (pointer_place s (next_word s)) + 1) % 0o10000
