-- Times left, step by step.
use Rattle.std.proofs.Common.{◌≡◌, ℕ, suc, ◌/◌, ◌%◌, ◌-◌, Bool, true, false, true≢false, ◌&&◌, ◌||◌, not, nat_eq, List, Some, None, refl, ap, sym, ◌∙◌, arith}
use Rattle.std.proofs.lemmas.Bool.{and_parts, eqb-true}
use Rattle.cpu8.specs.declared.outcomes.Stepped.{Stepped}
use Rattle.cpu8.specs.declared.outcomes.Stepped.TheVariants.{Stopped, Interrupted, Ran}
use Rattle.rk8e.specs.State.{DiskState, after_clear, drive_of}
use Rattle.rk8e.specs.Instructions.{instruction_row}
use Rattle.rk8e.specs.Time.{disk_after}
use Rattle.rk8e.specs.Transfer.{after_ends}
use Rattle.cpu8e.specs.State.{grants_interrupt}
use Rattle.cpu8e.specs.Step.{next_word, after_interrupt}
use Rattle.pdp8e.specs.DeviceInstructions.{is_device_word}
use Rattle.pdp8e.specs.State.{Pdp8e, with_processor}
use Rattle.pdp8e.specs.Step.{at_beginning, going_on, is_disk_word, is_caf, after_instruction, after_other, disk_row, device_row, processor_row, passing, step}
use Rattle.pdp8e.specs.Laws.{stops_drives}
use Rattle.pdp8e.proofs.StillLemmas.{either, neither}
use Rattle.pdp8e.proofs.StepLemmas.{pick}

dclr_word : (w : ℕ) → nat_eq (w / 8) 0o674 ≡ true → nat_eq (w % 8) 2 ≡ true → nat_eq w 0o6742 ≡ true
dclr_word w disk two =
    let a = eqb-true (w / 8) 0o674 disk in
    let b = eqb-true (w % 8) 2 two in
    let e : w ≡ 0o6742 = omega (arith, a, b) in
    rw e refl

-- an IOT of the disk that doesn't stop the drives is not DCLR 1
not_dclr : (user is_one : Bool) (w : ℕ) → (is_disk_word w && not user) ≡ true
    → (not user && (is_caf w || (nat_eq w 0o6742 && is_one))) ≡ false → (nat_eq (w % 8) 2 && is_one) ≡ false
not_dclr true is_one w disk stops = absurd (true≢false (sym ((and_parts (is_disk_word w) false disk).1)))
not_dclr false is_one w disk stops =
    let is = (and_parts (is_disk_word w) true disk).0 in
    let none = (neither (is_caf w) (nat_eq w 0o6742 && is_one) stops).1 in
    either (nat_eq (w % 8) 2)
    (λ two. ap (λ b. b && is_one) two ∙ (rw (dclr_word w is two) at none))
    (λ other. ap (λ b. b && is_one) other)

not_caf : (user is_caf other : Bool) → (not user && (is_caf || other)) ≡ false → (is_caf && not user) ≡ true → ⊥
not_caf true is_caf other stops caf = true≢false (sym ((and_parts is_caf false caf).1))
not_caf false true other stops caf = true≢false stops
not_caf false false other stops caf = true≢false (sym caf)

-- what is at_beginning goes on at the beginning of a step
abbrev pub Stays : Type 0
Stays = (d : DiskState) (core : List ℕ) (n time : ℕ) → (drive_of d n).time_left ≡ Some (suc time)
    → drive_of (after_ends d core).disk n ≡ drive_of d n

abbrev pub Passes : Type 0
Passes = (d : DiskState) (count n time : ℕ) → (drive_of d n).time_left ≡ Some time
    → (drive_of (disk_after d count) n).time_left ≡ Some (time - count)

abbrev pub Keeps : Type 0
Keeps = (d : DiskState) (pulses ac n time : ℕ) → (drive_of d n).time_left ≡ Some time
    → (nat_eq pulses 2 && nat_eq (ac % 4) 1) ≡ false → (drive_of (instruction_row d pulses ac) n).time_left ≡ Some time

pub time_counts : Stays → Passes → Keeps → (m : Pdp8e) (n time : ℕ) → m.processor.base.running ≡ true
    → grants_interrupt (at_beginning m).processor ≡ false → stops_drives (at_beginning m) ≡ false → (drive_of m.disk n).time_left ≡ Some (suc time)
    → (drive_of (step m).0.disk n).time_left ≡ Some time
unfolding step
time_counts stays passes keeps m n time runs free goes is =
    let r = at_beginning m in
    let p = passing r in
    let w = next_word r.processor in
    let ac = r.processor.base.ac in
    let user = r.processor.user_flag in
    let one = nat_eq (ac % 4) 1 in
    let P : Pdp8e × Stepped → Type 0 = λ did. (drive_of did.0.disk n).time_left ≡ Some time in
    let left : (drive_of r.disk n).time_left ≡ Some (suc time) =
    ap (λ v. v.time_left) (stays m.disk m.processor.base.core n time is) ∙ is in
    let less : suc time - 1 ≡ time = omega arith in
    let passed : (drive_of p.disk n).time_left ≡ Some time = passes r.disk 1 n (suc time) left ∙ ap (λ (t : ℕ). Some t) less in
    pick P m.processor.base.running (going_on r) (m, Stopped)
    (λ _. pick P (grants_interrupt r.processor) (with_processor r (after_interrupt r.processor), Interrupted) (after_instruction p w)
    (λ grants. absurd (true≢false (sym grants ∙ free)))
    (λ _. pick P (is_disk_word w && not user) (disk_row p w, Ran None) (after_other p w)
    (λ disk. keeps p.disk (w % 8) ac n time passed (not_dclr user one w disk goes))
    (λ _. pick P (is_device_word w && not user) (device_row p w, Ran None) (processor_row p w)
    (λ _. passed)
    (λ _. pick (λ (d : DiskState). (drive_of d n).time_left ≡ Some time) (is_caf w && not user) (after_clear p.disk) p.disk
    (λ caf. absurd (not_caf user (is_caf w) (nat_eq w 0o6742 && one) goes caf))
    (λ _. passed)))))
    (λ stopped. absurd (true≢false (sym runs ∙ stopped)))

pub time_waits : Stays → (m : Pdp8e) (n time : ℕ) → m.processor.base.running ≡ true → grants_interrupt (at_beginning m).processor ≡ true
    → (drive_of m.disk n).time_left ≡ Some (suc time) → (drive_of (step m).0.disk n).time_left ≡ Some (suc time)
unfolding step
time_waits stays m n time runs grants is =
    let r = at_beginning m in
    let P : Pdp8e × Stepped → Type 0 = λ did. (drive_of did.0.disk n).time_left ≡ Some (suc time) in
    pick P m.processor.base.running (going_on r) (m, Stopped)
    (λ _. pick P (grants_interrupt r.processor) (with_processor r (after_interrupt r.processor), Interrupted)
    (after_instruction (passing r) (next_word r.processor))
    (λ _. ap (λ v. v.time_left) (stays m.disk m.processor.base.core n time is) ∙ is)
    (λ none. absurd (true≢false (sym grants ∙ none))))
    (λ stopped. absurd (true≢false (sym runs ∙ stopped)))
