-- Whether a file with other bytes is still read as it was (this project's profile).
use Rattle.std.specs.Prelude.{ℕ, ◌==◌, ◌&&◌, Bool, true, false, if◌then◌else◌, Option, Some, None, List}
use Rattle.disk_layouts.specs.declared.layouts.Layout.{Layout}
use Rattle.disk_layouts.specs.declared.layouts.Layout.TheVariants as layout
use Rattle.image_kind.specs.Kinds.{readings_of}
use Rattle.image_kind.specs.declared.kinds.ImageKind.{ImageKind}
use Rattle.image_kind.specs.declared.kinds.Readings.{Readings}
use Rattle.image_kind.specs.Judging.{judged_kind}
use Rattle.image_kind.specs.Margins.{margins_by, may_be}
use Rattle.image_kind.specs.Volumes.{volumes_with}
use Rattle.image_kind.specs.declared.judging.Judgment.{Judgment}
use Rattle.image_kind.specs.declared.margins.Margins.{Margins}
use Rattle.image_kind.specs.declared.volumes.Volumes.{Volumes}
use Rattle.image_kind.specs.declared.volumes.Volumes.TheVariants.{One, Both}

-- both readings, if the file may be read at the layout that is given as the second too
abbrev pub two_by : Option Layout → Option ImageKind → Option ImageKind → Option (ImageKind × ImageKind)
two_by given None other = None
two_by given (Some one) None = None
two_by given (Some one) (Some other) = if may_be given other.form then Some (one, other) else None

abbrev pub two_of : Option Layout → Readings → Option (ImageKind × ImageKind)
two_of given readings = two_by given readings.first readings.other

-- the two that a file may be read as, if it has no one reading; a plain volume has one
abbrev pub two_readings : Option Layout → Bool → List ℕ → Option (ImageKind × ImageKind)
two_readings given is_plain file = if is_plain then None else two_of given (readings_of file)

-- which volumes are meant, as a number
abbrev pub number_of : Volumes → ℕ
number_of (One None) = 0
number_of (One (Some layout.First)) = 1
number_of (One (Some layout.Second)) = 2
number_of (One (Some layout.Dectape)) = 3
number_of Both = 4

abbrev pub is_same_place : Margins → Margins → Bool
is_same_place one other = one.before == other.before && one.after == other.after

-- the same volumes are meant in files of these two kinds, and they lie in the same place
abbrev pub is_same_reading : Option Layout → Option ImageKind → Option ImageKind → Bool
is_same_reading given one other =
    number_of (volumes_with given one) == number_of (volumes_with given other) && is_same_place (margins_by given one) (margins_by given other)

abbrev pub is_none : Option (ImageKind × ImageKind) → Bool
is_none None = true
is_none (Some two) = false

-- a file with these bytes is read as it was, and in no other way
abbrev pub keeps_kind : Judgment → List ℕ → Bool
keeps_kind judgment file =
    is_same_reading judgment.layout judgment.kind (judged_kind judgment.is_plain file) && is_none (two_readings judgment.layout judgment.is_plain file)
