-- A run at a terminal, step by step.
use Rattle.std.proofs.Common.{◌≡◌, ℕ, ◌+◌, if◌then◌else◌, [], ◌++◌, None, add-one, refl}
use Rattle.cpu8.specs.Go.{character_of}
use Rattle.cpu8.specs.declared.outcomes.Stepped.TheVariants.{Stopped, Ran}
use Rattle.terminal8.specs.Absences.{with_absence_if}
use Rattle.terminal8e.specs.Acts.{Acts}
use Rattle.terminal8e.specs.AnyTerminal.{Terminal, after_step, next, after_attention, later, last_did, characters_of, absences_of}

pub later-none : {S : Type 0} (acts : Acts S) (t : Terminal S) → later acts 0 t ≡ t
unfolding later
later-none {S} acts t = refl

pub later-next : {S : Type 0} (acts : Acts S) (k : ℕ) (t : Terminal S) → later acts (k + 1) t ≡ next acts (later acts k t)
unfolding later
later-next {S} acts k t = rw add-one refl

pub did-none : {S : Type 0} (acts : Acts S) (t : Terminal S) → last_did acts 0 t ≡ (if acts.is_running t.machine then Ran None else Stopped)
unfolding last_did
did-none {S} acts t = refl

pub did-next : {S : Type 0} (acts : Acts S) (k : ℕ) (t : Terminal S) → last_did acts (k + 1) t ≡ (after_step acts (later acts k t)).1
unfolding last_did
did-next {S} acts k t = rw add-one refl

pub printed-none : {S : Type 0} (acts : Acts S) (t : Terminal S) → characters_of acts 0 t ≡ []
unfolding characters_of
printed-none {S} acts t = refl

pub printed-next : {S : Type 0} (acts : Acts S) (k : ℕ) (t : Terminal S) → characters_of acts (k + 1) t ≡ characters_of acts k t ++ character_of (after_step acts (later acts k t)).1
unfolding characters_of
printed-next {S} acts k t = rw add-one refl

pub absences-none : {S : Type 0} (acts : Acts S) (t : Terminal S) → absences_of acts 0 t ≡ []
unfolding absences_of
absences-none {S} acts t = refl

pub absences-next : {S : Type 0} (acts : Acts S) (k : ℕ) (t : Terminal S) → absences_of acts (k + 1) t ≡ with_absence_if (acts.absence_at (after_attention acts (later acts k t)).machine) (absences_of acts k t)
unfolding absences_of
absences-next {S} acts k t = rw add-one refl
