-- IOTs of devices that aren't there, which a program does at a terminal (this project's profile).
use Rattle.std.specs.Prelude.{ℕ, zero, suc, ◌/◌, ◌%◌, Bool, false, ◌&&◌, ◌||◌, nat_eq, nat_le, if◌then◌else◌, List, [], ◌∷◌, ◌++◌, length, Option, None, Some}
use Rattle.cpu8.specs.State.{State, next_cell}
use Rattle.cpu8.specs.Decoding.{is_absent}
use Rattle.cpu8.specs.Step.{next_word}
use Rattle.terminal8.specs.Asks.{is_undisturbed}
use Rattle.terminal8.specs.Terminal.{Terminal, after_attention, later}
use Rattle.terminal8.specs.declared.absences.Absence.{Absence}

-- the device of an IOT: bits 3 to 8 of its word
abbrev pub device_of : ℕ → ℕ
device_of word = word / 0o10 % 0o100

-- one of these is of the device
abbrev pub has_device : ℕ → List Absence → Bool
has_device device [] = false
has_device device (a ∷ others) = nat_eq (device_of a.word) device || has_device device others

-- the first of each device counts, of eight devices at most
abbrev pub with_absence : Absence → List Absence → List Absence
with_absence a found = if has_device (device_of a.word) found || nat_le 8 (length found) then found else found ++ a ∷ []

abbrev pub with_absence_if : Option Absence → List Absence → List Absence
with_absence_if None found = found
with_absence_if (Some a) found = with_absence a found

-- what the next step of a machine does, if it is an IOT of a device that isn't there, and no interrupt
abbrev pub absence_at : State → Option Absence
absence_at s =
    if is_absent (next_word s) && is_undisturbed s then Some (record { word = next_word s; cell = next_cell s }) else None

-- those that so many steps do
unfoldable pub absences_of : ℕ → Terminal → List Absence
absences_of zero t = []
absences_of (suc k) t = with_absence_if (absence_at (after_attention (later k t)).machine) (absences_of k t)
