-- When a program of the whole 8/E asks for a key (Small Computer Handbook; how long it may look is this project's profile).
use Rattle.std.specs.Prelude.{ℕ, Bool, ◌&&◌, ◌||◌, not}
use Rattle.rk8e.specs.State.{DiskState}
use Rattle.rk8e.specs.Time.{is_over, least_time}
use Rattle.terminal8e.specs.Asks as Cpu
use Rattle.pdp8e.specs.Devices.{devices_ended, are_requesting, are_at_rest}
use Rattle.pdp8e.specs.State.{Pdp8e, is_still}

-- a function of the disk ends in the beginning of the next step
abbrev pub is_ending : DiskState → Bool
is_ending d = is_over (least_time d)

-- an interrupt comes in the next step by what another device has done by then
abbrev pub is_interrupting : Pdp8e → Bool
is_interrupting m =
    m.processor.base.interrupts_on
    && (not m.processor.base.waiting && (not m.processor.base.held_off && are_requesting (devices_ended m.devices)))

-- As on a processor alone, but not where a function of the disk ends in the step. For that may change what the next word is, and
-- whether an interrupt comes. Nor where another device interrupts.
abbrev pub asks_for_key : ℕ → Pdp8e → Bool
asks_for_key since m = Cpu.asks_for_key since m.processor && not (is_ending m.disk || is_interrupting m)

-- No transfer is under way. Where interrupts are on, nor is a seek or anything of another device, and no clock may interrupt.
abbrev pub is_at_rest : Pdp8e → Bool
is_at_rest m =
    not m.disk.control.busy && (not m.processor.base.interrupts_on || (is_still m.disk && are_at_rest m.devices))

-- A program that asks for a key does nothing but wait for it where its processor does, and the disk is at rest.
abbrev pub waits_for_key : Pdp8e → Bool
waits_for_key m = Cpu.waits_for_key m.processor && is_at_rest m
