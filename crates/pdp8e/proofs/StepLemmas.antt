-- What a step leaves of the disk.
use Rattle.std.proofs.Common.{◌≡◌, ℕ, ◌%◌, Bool, true, false, ◌&&◌, not, if◌then◌else◌, Option, None, refl, ap}
use Rattle.cpu8.specs.declared.outcomes.Stepped.{Stepped}
use Rattle.cpu8.specs.declared.outcomes.Stepped.TheVariants.{Stopped, Interrupted, Ran}
use Rattle.rk8e.specs.Packs.{PackState, sector_word}
use Rattle.rk8e.specs.State.{DiskState, after_clear}
use Rattle.rk8e.specs.Instructions.{instruction_row}
use Rattle.rk8e.specs.Time.{disk_after}
use Rattle.rk8e.specs.Transfer.{after_ends}
use Rattle.rk8e.specs.Laws.{words_of}
use Rattle.cpu8e.specs.State.{grants_interrupt}
use Rattle.cpu8e.specs.Step.{next_word, after_interrupt}
use Rattle.pdp8e.specs.DeviceInstructions.{is_device_word}
use Rattle.pdp8e.specs.State.{Pdp8e, with_processor}
use Rattle.pdp8e.specs.Step.{at_beginning, going_on, is_disk_word, is_caf, after_instruction, after_other, disk_row, device_row, processor_row, passing, step}

pub pick : {A : Type 0} (P : A → Type 0) (b : Bool) (x y : A) → (b ≡ true → P x) → (b ≡ false → P y) → P (if b then x else y)
pick P true x y f g = f refl
pick P false x y f g = g refl

-- what ends, time, instructions and clearing keep holds of the disk after a step
pub disk_step : (Q : DiskState → Type 0) (m : Pdp8e) → (m.processor.base.running ≡ false → Q m.disk)
    → (m.processor.base.running ≡ true → Q (after_ends m.disk m.processor.base.core).disk)
    → ((d : DiskState) → Q d → Q (disk_after d 1)) → ((d : DiskState) (pulses ac : ℕ) → Q d → Q (instruction_row d pulses ac))
    → ((d : DiskState) → Q d → Q (after_clear d)) → Q (step m).0.disk
unfolding step
disk_step Q m stays ends time instructions clears =
    let r = at_beginning m in
    let p = passing r in
    let w = next_word r.processor in
    let ac = r.processor.base.ac in
    let P : Pdp8e × Stepped → Type 0 = λ did. Q did.0.disk in
    pick P m.processor.base.running (going_on r) (m, Stopped)
    (λ runs.
    let passed = time r.disk (ends runs) in
    pick P (grants_interrupt r.processor) (with_processor r (after_interrupt r.processor), Interrupted) (after_instruction p w)
    (λ _. ends runs)
    (λ _. pick P (is_disk_word w && not r.processor.user_flag) (disk_row p w, Ran None) (after_other p w)
    (λ _. instructions p.disk (w % 8) ac passed)
    (λ _. pick P (is_device_word w && not r.processor.user_flag) (device_row p w, Ran None) (processor_row p w)
    (λ _. passed)
    (λ _. pick Q (is_caf w && not r.processor.user_flag) (after_clear p.disk) p.disk (λ _. clears p.disk passed) (λ _. passed)))))
    stays

-- the same pack has the same words
pub pack_words : {a b : Option PackState} → a ≡ b → (sector k : ℕ) → sector_word (words_of a) sector k ≡ sector_word (words_of b) sector k
pack_words same sector k = ap (λ (p : Option PackState). sector_word (words_of p) sector k) same
