-- What the laws say of the whole 8/E.
use Rattle.std.specs.Prelude.{◌≡◌, ◌⊎◌, ℕ, ◌<◌, ◌%◌, Bool, false, ◌&&◌, ◌||◌, not, nat_eq, if◌then◌else◌, Option, Some, None}
use Rattle.cpu8.specs.declared.outcomes.Stepped.{Stepped}
use Rattle.cpu8e.specs.State.{State8e, grants_interrupt}
use Rattle.cpu8e.specs.Runs as Cpu
use Rattle.cpu8e.specs.Step.{next_word}
use Rattle.pdp8e.specs.Devices.{DevicesState, devices_after}
use Rattle.pdp8e.specs.DeviceInstructions.{is_punch_word, is_printer_word}
use Rattle.pdp8e.specs.State.{Pdp8e}
use Rattle.pdp8e.specs.Step.{at_beginning, is_caf, is_for_devices}

-- the first k steps of a processor alone meet no instruction that is for the disk or another device
abbrev pub MeetsNoDevice : (ℕ → Option ℕ) → ℕ → State8e → Type 0
MeetsNoDevice keys k s =
    (j : ℕ) → j < k → is_for_devices (next_word (Cpu.with_key (keys j) (Cpu.after_keys keys j s))) ≡ false

-- DCLR (6742) with AC bits 10 and 11 1, and CAF (6007), end all functions of the disk; in user mode no IOT is done
abbrev pub stops_drives : Pdp8e → Bool
stops_drives m =
    let w = next_word m.processor in
    not m.processor.user_flag && (is_caf w || (nat_eq w 0o6742 && nat_eq (m.processor.base.ac % 4) 1))

-- the machine with these devices in place of its own
abbrev pub having : Pdp8e → DevicesState → Pdp8e
having m devices = record m { devices = devices }

-- and after a step that answered
abbrev pub having_after : Pdp8e × Stepped → DevicesState → Pdp8e × Stepped
having_after r devices = (having r.0 devices, r.1)

-- the instruction writes: PPC (6024) and PLS (6026) on the punch, PSTB (6664) and 6666 on the line printer
abbrev pub is_writing : ℕ → Bool
is_writing w = nat_eq (w % 8) 4 || nat_eq (w % 8) 6

-- no interrupt comes, and an IOT is done
abbrev pub does_transfers : Pdp8e → Bool
does_transfers m = not (grants_interrupt m.processor) && not m.processor.user_flag

-- what a machine punches that is at the beginning of a step
abbrev pub frame_punched : Pdp8e → Option ℕ
frame_punched m =
    let w = next_word m.processor in
    if does_transfers m && (is_punch_word w && is_writing w) then Some (m.processor.base.ac % 0o400) else None

-- and what it prints on the line printer
abbrev pub character_printed : Pdp8e → Option ℕ
character_printed m =
    let w = next_word m.processor in
    if does_transfers m && (is_printer_word w && is_writing w) then Some (m.processor.base.ac % 0o200) else None

-- devices as they were, as the beginning of a step leaves them, or with an instruction passed
abbrev pub LeavesDevices : Pdp8e → DevicesState → Type 0
LeavesDevices m d = (d ≡ m.devices) ⊎ ((d ≡ (at_beginning m).devices) ⊎ (d ≡ devices_after (at_beginning m).devices))
