-- Steps that a run makes with no look at console and devices, for private clauses.
use Rattle.std.specs.Prelude.{◌≡◌, ℕ, Bool, true, false, ◌&&◌, ◌||◌, not, nat_eq, None}
use Rattle.cpu8.specs.declared.outcomes.Stepped.TheVariants.{Ran}
use Rattle.cpu8e.specs.State.{State8e, is_requested}
use Rattle.cpu8e.specs.Step.{after_instruction}
use Rattle.cpu8e.specs.Unasked.{is_quick}

-- the processor is in user mode, or the next jump goes there
abbrev pub is_for_user : State8e → Bool
is_for_user s = s.user_flag || s.user_buffer

-- the machine runs, no interrupt request can be granted, the printer has no character to end, and user mode is off
abbrev pub is_quiet : State8e → Bool
is_quiet s =
    s.base.running && (not (s.base.interrupts_on && is_requested s) && (not s.base.teletype.busy && not (is_for_user s)))

-- no field waits for a jump, and no interrupt for an instruction
abbrev pub is_settled : State8e → Bool
is_settled s = nat_eq s.base.instruction_buffer s.base.instruction_field && (not s.base.waiting && not s.base.held_off)

-- what decides whether the machine is quiet stays
pub record Stays (old new : State8e) : Type 0 where
  pub running : new.base.running ≡ old.base.running
  pub interrupts_on : new.base.interrupts_on ≡ old.base.interrupts_on
  pub teletype : new.base.teletype ≡ old.base.teletype
  pub user_flag : new.user_flag ≡ old.user_flag
  pub user_buffer : new.user_buffer ≡ old.user_buffer
  pub user_request : new.user_request ≡ old.user_request
  pub console_enabled : new.console_enabled ≡ old.console_enabled
  pub device_request : new.device_request ≡ old.device_request

-- an instruction of this word is done, prints nothing and goes on
pub record Does (old : State8e) (w : ℕ) (new : State8e) : Type 0 where
  pub state : new ≡ (after_instruction old w).0
  pub answer : Ran None ≡ (after_instruction old w).1
  pub word : is_quick w ≡ true
  pub stays : Stays old new

-- that, or nothing
abbrev pub DoesOrNot : State8e → ℕ → Bool → State8e → Type 0
DoesOrNot old w true new = Does old w new
DoesOrNot old w false new = new ≡ old
