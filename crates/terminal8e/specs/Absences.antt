-- IOTs of devices that aren't there, which a program of the 8/E does (Small Computer Handbook; that they are noted is this project's profile).
use Rattle.std.specs.Prelude.{Bool, ◌&&◌, not, if◌then◌else◌, Option, None, Some}
use Rattle.cpu8.specs.State.{next_cell}
use Rattle.cpu8.specs.Decoding.{is_absent}
use Rattle.cpu8e.specs.State.{State8e}
use Rattle.cpu8e.specs.Step.{next_word}
use Rattle.terminal8.specs.declared.absences.Absence.{Absence}
use Rattle.terminal8e.specs.Asks.{is_undisturbed}

-- the next step is an IOT of a device that isn't there; in user mode no IOT is done
abbrev pub is_at_absent : State8e → Bool
is_at_absent s = is_absent (next_word s) && (not s.user_flag && is_undisturbed s)

-- what the next step does, if it is such an IOT, and no interrupt
abbrev pub absence_at : State8e → Option Absence
absence_at s = if is_at_absent s then Some (record { word = next_word s; cell = next_cell s.base }) else None
