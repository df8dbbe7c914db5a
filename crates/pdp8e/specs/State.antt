-- A whole PDP-8/E: processor, core, console, an RK8-E disk control with four drives, and the devices of paper tape, line printer and clock
-- (Small Computer Handbook).
use Rattle.std.specs.Prelude.{◌≡◌, ℕ, Bool, ◌&&◌, ◌||◌, is_none, List}
use Rattle.rk8e.specs.State.{DiskState, after_clear}
use Rattle.rk8e.specs.Command.{is_requesting}
use Rattle.rk8e.specs.Time.{least_time}
use Rattle.cpu8e.specs.State.{State8e, with_request}
use Rattle.cpu8e.specs.State as Cpu
use Rattle.pdp8e.specs.Devices as operator
use Rattle.pdp8e.specs.Devices.{DevicesState, new_devices, devices_started, are_requesting, are_idle}

pub record Pdp8e : Type 0 where
  -- the processor with core and console
  pub processor : State8e
  pub disk : DiskState
  -- reader, punch, line printer and clock
  pub devices : DevicesState

-- the disk or another device requests an interrupt
abbrev pub is_any_requesting : DiskState → DevicesState → Bool
is_any_requesting disk devices = is_requesting disk || are_requesting devices

-- the processor sees their request
abbrev pub IsJoined : Pdp8e → Type 0
IsJoined m = m.processor.device_request ≡ is_any_requesting m.disk m.devices

-- no function of the disk is under way
abbrev pub is_still : DiskState → Bool
is_still d = is_none (least_time d)

-- nothing is under way anywhere, and no clock is there
abbrev pub is_quiet : DiskState → DevicesState → Bool
is_quiet disk devices = is_still disk && are_idle devices

-- a processor, a disk and devices, whose request it sees
abbrev pub machine_of : State8e → DiskState → DevicesState → Pdp8e
machine_of processor disk devices =
    record { processor = with_request processor (is_any_requesting disk devices); disk = disk; devices = devices }

-- the machine with another processor
abbrev pub with_processor : Pdp8e → State8e → Pdp8e
with_processor m processor = record m { processor = processor }

-- the machine with other devices, whose request it sees
abbrev pub with_devices : Pdp8e → DevicesState → Pdp8e
with_devices m devices = machine_of m.processor m.disk devices

-- ## What the operator and the Teletype do

-- a new machine with this core and this disk is stopped
abbrev pub new_machine : List ℕ → DiskState → Pdp8e
new_machine core disk = machine_of (Cpu.new_machine core) disk new_devices

-- A start at a cell is the processor's, and clears disk and devices as CAF does. Packs, locks, core, MQ and the switches stay. The clock
-- counts from there.
abbrev pub after_start : Pdp8e → ℕ → Pdp8e
after_start m cell = machine_of (Cpu.after_start m.processor cell) (after_clear m.disk) (devices_started m.devices)

-- a key of this character is struck
abbrev pub key_struck : Pdp8e → ℕ → Pdp8e
key_struck m character = with_processor m (Cpu.key_struck m.processor character)

-- the printer ends its character, if it has one
abbrev pub printer_done : Pdp8e → Pdp8e
printer_done m = with_processor m (Cpu.printer_done m.processor)

-- the switches are set to this word
abbrev pub switches_set : Pdp8e → ℕ → Pdp8e
switches_set m word = with_processor m (Cpu.switches_set m.processor word)

-- a tape of these frames is put into the reader
abbrev pub with_tape : Pdp8e → List ℕ → Pdp8e
with_tape m frames = with_devices m (operator.with_tape m.devices frames)

-- paper is put into the line printer
abbrev pub with_paper : Pdp8e → Pdp8e
with_paper m = with_devices m (operator.with_paper m.devices)

-- there is a clock, which ticks after each so many instructions
abbrev pub with_clock : Pdp8e → ℕ → Pdp8e
with_clock m period = with_devices m (operator.with_clock m.devices period)
