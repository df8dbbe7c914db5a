-- A step is its beginning, and then its rest.
use Rattle.std.proofs.Common.{◌≡◌, ◌∙◌, Bool, true, false, if◌then◌else◌, Option, ap, refl, sym}
use Rattle.cpu8.specs.declared.outcomes.Stepped.{Stepped}
use Rattle.cpu8.specs.declared.outcomes.Stepped.TheVariants.{Stopped}
use Rattle.terminal8.specs.declared.absences.Absence.{Absence}
use Rattle.pdp8e.specs.Absences.{absence_in, absence_of_step}
use Rattle.pdp8e.specs.State.{Pdp8e}
use Rattle.pdp8e.specs.Step.{at_beginning, after_beginning, rest_of_step, going_on, step}

parts_by : (m : Pdp8e) (runs : Bool) → m.processor.base.running ≡ runs
    → (if runs then going_on (at_beginning m) else (m, Stopped)) ≡ rest_of_step (if runs then at_beginning m else m)
parts_by m true is = rw is refl
parts_by m false is = rw is refl

pub step_parts : (m : Pdp8e) → step m ≡ rest_of_step (after_beginning m)
unfolding step
step_parts m = parts_by m m.processor.base.running refl

-- the machine after the beginning, and at the end, of a step that is made by its parts
pub state_parts : (m begun new : Pdp8e) → begun ≡ after_beginning m → new ≡ (rest_of_step begun).0 → new ≡ (step m).0
state_parts m begun new is made = made ∙ ap (λ x. (rest_of_step x).0) is ∙ ap (λ (r : Pdp8e × Stepped). r.0) (sym (step_parts m))

pub answer_parts : (m begun : Pdp8e) (did : Stepped) → begun ≡ after_beginning m → did ≡ (rest_of_step begun).1 → did ≡ (step m).1
answer_parts m begun did is made = made ∙ ap (λ x. (rest_of_step x).1) is ∙ ap (λ (r : Pdp8e × Stepped). r.1) (sym (step_parts m))

pub absence_parts : (m begun : Pdp8e) (absence : Option Absence) → begun ≡ after_beginning m → absence ≡ absence_in begun → absence ≡ absence_of_step m
unfolding absence_of_step
absence_parts m begun absence is made = made ∙ ap (λ x. absence_in x) is
