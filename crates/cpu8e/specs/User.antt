-- User mode of the 8/E (Small Computer Handbook).
use Rattle.std.specs.Prelude.{◌≡◌, true}
use Rattle.cpu8e.specs.State.{State8e}

-- in user mode the user buffer is set too, and no field waits for a jump
pub record IsSettled (s : State8e) : Type 0 where
  pub user_buffer : s.user_flag ≡ true → s.user_buffer ≡ true
  pub fields : s.user_flag ≡ true → s.base.instruction_buffer ≡ s.base.instruction_field

-- the console is as before, and the machine runs on
pub record LeavesDevices (old new : State8e) : Type 0 where
  pub teletype : new.base.teletype ≡ old.base.teletype
  pub console_enabled : new.console_enabled ≡ old.console_enabled
  pub running : new.base.running ≡ old.base.running

-- the fields, user mode, and whether interrupts are on are as before
pub record LeavesFields (old new : State8e) : Type 0 where
  pub instruction_field : new.base.instruction_field ≡ old.base.instruction_field
  pub instruction_buffer : new.base.instruction_buffer ≡ old.base.instruction_buffer
  pub data_field : new.base.data_field ≡ old.base.data_field
  pub user_flag : new.user_flag ≡ old.user_flag
  pub user_buffer : new.user_buffer ≡ old.user_buffer
  pub interrupts_on : new.base.interrupts_on ≡ old.base.interrupts_on
