-- A step of the whole 8/E (Small Computer Handbook; that a transfer moves its words in one moment, and that an interrupt takes no
-- time, is this project's profile).
use Rattle.std.specs.Prelude.{ℕ, ◌/◌, ◌%◌, Bool, ◌&&◌, ◌||◌, not, nat_eq, if◌then◌else◌, Option, None}
use Rattle.cpu8.specs.declared.outcomes.Stepped.{Stepped}
use Rattle.cpu8.specs.declared.outcomes.Stepped.TheVariants.{Stopped, Interrupted, Ran}
use Rattle.rk8e.specs.State.{after_clear}
use Rattle.rk8e.specs.Instructions.{instruction_row, instruction_skips, instruction_ac}
use Rattle.rk8e.specs.Time.{disk_after}
use Rattle.rk8e.specs.Transfer.{after_ends}
use Rattle.rk8e.specs.declared.moves.Moved.{Moved}
use Rattle.cpu8e.specs.State.{with_core, grants_interrupt, device_answered}
use Rattle.cpu8e.specs.Step.{next_word, after_interrupt}
use Rattle.cpu8e.specs.Step as Cpu
use Rattle.pdp8e.specs.Devices.{devices_ended, devices_after, devices_cleared}
use Rattle.pdp8e.specs.DeviceInstructions.{is_device_word, devices_row, devices_ac, devices_skip}
use Rattle.pdp8e.specs.State.{Pdp8e, machine_of, with_processor}

-- ## The beginning of a step

-- all functions of the disk that have no time left end, and then what the devices do
abbrev pub at_beginning : Pdp8e → Pdp8e
at_beginning m =
    let ended = after_ends m.disk m.processor.base.core in
    machine_of (with_core m.processor ended.core) ended.disk (devices_ended m.devices)

-- ## Instructions

-- 6740 to 6747: an IOT of device 74, the disk
abbrev pub is_disk_word : ℕ → Bool
is_disk_word w = nat_eq (w / 8) 0o674

-- CAF, 6007
abbrev pub is_caf : ℕ → Bool
is_caf w = nat_eq w 0o6007

-- an instruction that the disk does, or that clears it
abbrev pub is_for_disk : ℕ → Bool
is_for_disk w = is_disk_word w || is_caf w

-- an instruction that the disk or another device does, or that clears them
abbrev pub is_for_devices : ℕ → Bool
is_for_devices w = is_for_disk w || is_device_word w

-- the disk does its IOT: it gives AC, and says whether the next instruction is skipped
abbrev pub disk_row : Pdp8e → ℕ → Pdp8e
disk_row m w =
    let ac = m.processor.base.ac in
    machine_of
    (device_answered m.processor (instruction_ac m.disk (w % 8) ac) (instruction_skips m.disk (w % 8)))
    (instruction_row m.disk (w % 8) ac)
    m.devices

-- so does another device
abbrev pub device_row : Pdp8e → ℕ → Pdp8e
device_row m w =
    let ac = m.processor.base.ac in
    machine_of
    (device_answered m.processor (devices_ac m.devices w ac) (devices_skip m.devices w))
    m.disk
    (devices_row m.devices w ac)

-- every other instruction is the processor's, and CAF clears disk and devices too
abbrev pub processor_row : Pdp8e → ℕ → Pdp8e × Stepped
processor_row m w =
    let did = Cpu.after_instruction m.processor w in
    let clears = is_caf w && not m.processor.user_flag in
    (machine_of did.0 (if clears then after_clear m.disk else m.disk) (if clears then devices_cleared m.devices else m.devices), did.1)

-- an instruction that isn't the disk's
abbrev pub after_other : Pdp8e → ℕ → Pdp8e × Stepped
after_other m w =
    if is_device_word w && not m.processor.user_flag then (device_row m w, Ran None) else processor_row m w

-- an instruction of this word; in user mode none is a device's, as no IOT is done then
abbrev pub after_instruction : Pdp8e → ℕ → Pdp8e × Stepped
after_instruction m w =
    if is_disk_word w && not m.processor.user_flag then (disk_row m w, Ran None) else after_other m w

-- an instruction is less by one in each time left, but in what the instruction itself begins
abbrev pub passing : Pdp8e → Pdp8e
passing m = record m { disk = disk_after m.disk 1; devices = devices_after m.devices }

-- ## A step

-- what comes after the beginning: an interrupt where a request is granted, else the next instruction
abbrev pub going_on : Pdp8e → Pdp8e × Stepped
going_on m =
    if grants_interrupt m.processor then (with_processor m (after_interrupt m.processor), Interrupted)
    else after_instruction (passing m) (next_word m.processor)

-- nothing where the machine is stopped
unfoldable pub step : Pdp8e → Pdp8e × Stepped
step m = if m.processor.base.running then going_on (at_beginning m) else (m, Stopped)

-- ## Its parts

-- the machine as a step finds it: where it runs, all that has no time left ends
abbrev pub after_beginning : Pdp8e → Pdp8e
after_beginning m = if m.processor.base.running then at_beginning m else m

-- what a transfer moves there, if one ends
abbrev pub move_in : Pdp8e → Option Moved
move_in m = if m.processor.base.running then (after_ends m.disk m.processor.base.core).moved else None

-- the rest of the step
abbrev pub rest_of_step : Pdp8e → Pdp8e × Stepped
rest_of_step m = if m.processor.base.running then going_on m else (m, Stopped)
