-- What the laws of snapshots use.
use Rattle.std.specs.Prelude.{◌<◌}
use Rattle.cpu8.specs.State.{State}

-- The registers have their widths: one bit, three bits, six, eight and twelve.
pub record HasRegisters (s : State) : Type 0 where
  pub l : s.l < 2
  pub ac : s.ac < 0o10000
  pub pc : s.pc < 0o10000
  pub switches : s.switches < 0o10000
  pub instruction_field : s.instruction_field < 8
  pub instruction_buffer : s.instruction_buffer < 8
  pub data_field : s.data_field < 8
  pub save_field : s.save_field < 64
  pub buffer : s.teletype.buffer < 256
