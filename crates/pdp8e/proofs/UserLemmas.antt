-- What a step in user mode leaves of the disk.
use Rattle.std.proofs.Common.{◌≡◌, ◌⊎◌, inl, inr, Bool, true, false, true≢false, ◌&&◌, not, None, refl, sym}
use Rattle.cpu8.specs.declared.outcomes.Stepped.{Stepped}
use Rattle.cpu8.specs.declared.outcomes.Stepped.TheVariants.{Stopped, Interrupted, Ran}
use Rattle.rk8e.specs.State.{DiskState, after_clear}
use Rattle.rk8e.specs.Time.{disk_after}
use Rattle.cpu8e.specs.State.{grants_interrupt}
use Rattle.cpu8e.specs.Step.{next_word, after_interrupt}
use Rattle.pdp8e.specs.DeviceInstructions.{is_device_word}
use Rattle.pdp8e.specs.State.{Pdp8e, with_processor}
use Rattle.pdp8e.specs.Step.{at_beginning, going_on, is_disk_word, is_caf, after_instruction, after_other, disk_row, device_row, processor_row, passing, step}
use Rattle.pdp8e.proofs.StepLemmas.{pick}

-- the disk as it was, as what ends leaves it, or with an instruction passed
abbrev pub LeavesDisk : Pdp8e → DiskState → Type 0
LeavesDisk m d = (d ≡ m.disk) ⊎ ((d ≡ (at_beginning m).disk) ⊎ (d ≡ disk_after (at_beginning m).disk 1))

pub no_user : (a user : Bool) → user ≡ true → (a && not user) ≡ true → ⊥
no_user true true is h = true≢false (sym h)
no_user false user is h = true≢false (sym h)
no_user true false is h = true≢false (sym is)

pub user_leaves : (m : Pdp8e) → m.processor.user_flag ≡ true → LeavesDisk m (step m).0.disk
unfolding step
user_leaves m user =
    let r = at_beginning m in
    let p = passing r in
    let w = next_word r.processor in
    let P : Pdp8e × Stepped → Type 0 = λ did. LeavesDisk m did.0.disk in
    pick P m.processor.base.running (going_on r) (m, Stopped)
    (λ _. pick P (grants_interrupt r.processor) (with_processor r (after_interrupt r.processor), Interrupted) (after_instruction p w)
    (λ _. inr (inl refl))
    (λ _. pick P (is_disk_word w && not m.processor.user_flag) (disk_row p w, Ran None) (after_other p w)
    (λ h. absurd (no_user (is_disk_word w) m.processor.user_flag user h))
    (λ _. pick P (is_device_word w && not m.processor.user_flag) (device_row p w, Ran None) (processor_row p w)
    (λ _. inr (inr refl))
    (λ _. pick (LeavesDisk m) (is_caf w && not m.processor.user_flag) (after_clear p.disk) p.disk
    (λ h. absurd (no_user (is_caf w) m.processor.user_flag user h))
    (λ _. inr (inr refl))))))
    (λ _. inl refl)
