-- IOTs of devices that aren't there, which a program of the whole 8/E does (Small Computer Handbook; that they are noted is this
-- project's profile).
use Rattle.std.specs.Prelude.{if◌then◌else◌, Option, None}
use Rattle.cpu8e.specs.Step.{next_word}
use Rattle.terminal8.specs.declared.absences.Absence.{Absence}
use Rattle.terminal8e.specs.Absences as Cpu
use Rattle.pdp8e.specs.State.{Pdp8e}
use Rattle.pdp8e.specs.Step.{after_beginning, is_for_devices}
use Rattle.pdp8e.specs.Runs.{with_printer_done}

-- What the rest of a step does, if it is an IOT of a device that isn't there, and no interrupt. Disk, reader, punch, line printer and clock are
-- there.
abbrev pub absence_in : Pdp8e → Option Absence
absence_in m = if is_for_devices (next_word m.processor) then None else Cpu.absence_at m.processor

-- What a step does; a transfer that ends in its beginning may change the word, or interrupt.
unfoldable pub absence_of_step : Pdp8e → Option Absence
absence_of_step m = absence_in (after_beginning m)

-- what the next step does, before which the printer ends its character
abbrev pub absence_at : Pdp8e → Option Absence
absence_at m = absence_of_step (with_printer_done m)
