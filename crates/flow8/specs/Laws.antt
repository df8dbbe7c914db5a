-- What the law of the flow says of a step of the machine.
use Rattle.std.specs.Prelude.{◌≡◌, ℕ, ◌/◌, ◌<◌, Bool, true, false, ◌&&◌, ◌||◌, nat_eq}
use Rattle.word12.specs.declared.sizes.TheConstants.{FIELD}
use Rattle.cpu8.specs.State.{State, grants_interrupt}
use Rattle.cpu8.specs.Decoding.{is_indirect}
use Rattle.cpu8.specs.Step.{next_word}

-- a JMS or JMP through a pointer
abbrev pub jumps_through_pointer : ℕ → Bool
jumps_through_pointer word = (nat_eq (word / 0o1000) 4 || nat_eq (word / 0o1000) 5) && is_indirect word

-- the next step is an instruction that stays in its field, and no jump through a pointer
pub record IsTold (s : State) : Type 0 where
  pub running : s.running ≡ true
  pub undisturbed : grants_interrupt s ≡ false
  pub pc : s.pc < FIELD
  pub field : s.instruction_buffer ≡ s.instruction_field
  pub direct : jumps_through_pointer (next_word s) ≡ false
