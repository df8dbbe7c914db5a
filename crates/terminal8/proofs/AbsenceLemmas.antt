-- IOTs of devices that aren't there, step by step.
use Rattle.std.proofs.Common.{◌≡◌, ℕ, ◌+◌, [], add-one, refl}
use Rattle.terminal8.specs.Absences.{absence_at, absences_of, with_absence_if}
use Rattle.terminal8.specs.Terminal.{Terminal, after_attention, later}

pub absences-none : (t : Terminal) → absences_of 0 t ≡ []
unfolding absences_of
absences-none t = refl

pub absences-next : (k : ℕ) (t : Terminal) → absences_of (k + 1) t ≡ with_absence_if (absence_at (after_attention (later k t)).machine) (absences_of k t)
unfolding absences_of
absences-next k t = rw add-one refl
