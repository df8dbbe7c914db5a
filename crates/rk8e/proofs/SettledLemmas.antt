-- At most one transfer is under way.
use Rattle.std.proofs.Common.{◌≡◌, ℕ, zero, suc, ◌/◌, ◌%◌, ◌<◌, ◌≤◌, ◌⊎◌, Bool, true, false, ◌&&◌, not, nat_eq, is_some, if◌then◌else◌, List, arith, refl, ap, sym, subst, ◌∙◌, inl, inr, true≢false}
use Rattle.std.proofs.lemmas.Bool.{ltb-false}
use Rattle.rk8e.specs.State.{ControlState, DriveState, DiskState, new_disk, drive_of, with_drive, with_control, at_rest, after_clear, cleared_drive}
use Rattle.rk8e.specs.Command.{drive_number, function_of, cylinder_of, sector_of, with_status}
use Rattle.rk8e.specs.Go.{begin_on, go}
use Rattle.rk8e.specs.Instructions.{busy_error, with_no_status, status_cleared, control_cleared, after_recalibration, dclr_row, dlag_row, dlca_row, dldc_row, instruction_row}
use Rattle.rk8e.specs.Time.{is_over, drive_after, disk_after}
use Rattle.rk8e.specs.Transfer.{end_on, after_ends}
use Rattle.rk8e.specs.Laws.{has_transfer, IsUnderWay, IsSettled}
use Rattle.rk8e.proofs.LawLemmas.{chosen, joined, far0, far1, far2, change_each, time_each, begun_all, put_control, end_cases, ends_each, still, over_some}

-- ## A function begins

put_at : (d : DiskState) (c : ControlState) (m n : ℕ) (w : DriveState) → m < 4 → n < 4
    → (drive_of (with_drive (with_control d c) m w) n ≡ drive_of d n) ⊎ ((m ≡ n) × (drive_of (with_drive (with_control d c) m w) n ≡ w))
put_at d c zero zero w hm hn = inr (refl, refl)
put_at d c zero (suc zero) w hm hn = inl refl
put_at d c zero (suc (suc zero)) w hm hn = inl refl
put_at d c zero (suc (suc (suc n))) w hm hn = inl (rw (far0 n, far1 n, far2 n) refl)
put_at d c (suc zero) zero w hm hn = inl refl
put_at d c (suc zero) (suc zero) w hm hn = inr (refl, refl)
put_at d c (suc zero) (suc (suc zero)) w hm hn = inl refl
put_at d c (suc zero) (suc (suc (suc n))) w hm hn = inl (rw (far0 n, far1 n, far2 n) refl)
put_at d c (suc (suc zero)) zero w hm hn = inl refl
put_at d c (suc (suc zero)) (suc zero) w hm hn = inl refl
put_at d c (suc (suc zero)) (suc (suc zero)) w hm hn = inr (refl, refl)
put_at d c (suc (suc zero)) (suc (suc (suc n))) w hm hn = inl (rw (far0 n, far1 n, far2 n) refl)
put_at d c (suc (suc (suc m))) zero w hm hn = inl (rw (far0 m, far1 m, far2 m) refl)
put_at d c (suc (suc (suc m))) (suc zero) w hm hn = inl (rw (far0 m, far1 m, far2 m) refl)
put_at d c (suc (suc (suc m))) (suc (suc zero)) w hm hn = inl (rw (far0 m, far1 m, far2 m) refl)
put_at d c (suc (suc (suc m))) (suc (suc (suc n))) w hm hn =
    inr (omega arith, rw (far0 m, far1 m, far2 m, far0 n, far1 n, far2 n) refl)

-- what a function that begins says of a transfer
pub record Begins (c : ControlState) (f cylinder : ℕ) (e : ControlState × DriveState) : Type 0 where
  pub busy : e.0.busy ≡ true
  pub drive : drive_number e.0 ≡ drive_number c
  pub sector : sector_of e.0 ≡ sector_of c
  pub within : cylinder ≤ 202
  pub other : nat_eq f 3 ≡ false

pub no : (b : Bool) → b ≡ false → b ≡ true → ⊥
no b f t = true≢false (sym t ∙ f)

begins : (c : ControlState) (v : DriveState) (f cylinder : ℕ) → has_transfer v ≡ false → has_transfer (begin_on c v f cylinder).1 ≡ true
    → Begins c f cylinder (begin_on c v f cylinder)
begins c v f cylinder rest =
    begun_all (λ e. has_transfer e.1 ≡ true → Begins c f cylinder e) c v f cylinder
    (λ _ h. absurd (no (has_transfer v) rest h)) (λ _ h. absurd (no (has_transfer v) rest h))
    (λ _ _ _ seek h. absurd (true≢false (sym (rw seek at h))))
    (λ _ _ _ other within h. record {
      busy = refl;
      drive = refl;
      sector = refl;
      within = ltb-false 202 cylinder within;
      other = other;
    })

go_settled : (d : DiskState) (f cylinder : ℕ) → ((n : ℕ) → n < 4 → has_transfer (drive_of d n) ≡ false)
    → (nat_eq f 3 ≡ false → cylinder ≤ 202 → sector_of d.control < 6496) → IsSettled (go d f cylinder)
go_settled d f cylinder quiet whole n hn h =
    let m = drive_number d.control in
    let e = begin_on d.control (drive_of d m) f cylinder in
    let small : m < 4 = omega arith in
    elim (put_at d e.0 m n e.1 small hn) [
      | inl same ↦ absurd (no (has_transfer (drive_of d n)) (quiet n hn) (sym (ap has_transfer same) ∙ h))
      | inr is ↦ (
          let b = begins d.control (drive_of d m) f cylinder (quiet m small) (sym (ap has_transfer is.1) ∙ h) in
          let under : IsUnderWay e.0 n = record {
            busy = b.busy;
            drive = b.drive ∙ is.0;
            sector = subst (λ s. s < 6496) (sym b.sector) (whole b.other b.within);
          } in
          subst (λ c. IsUnderWay c n) (sym (put_control d e.0 m e.1)) under)
    ]

-- ## Instructions

is_false : (b : Bool) → (b ≡ true → ⊥) → b ≡ false
is_false true f = absurd (f refl)
is_false false f = refl

quiet_if : (d : DiskState) → IsSettled d → d.control.busy ≡ false → (n : ℕ) → n < 4 → has_transfer (drive_of d n) ≡ false
quiet_if d settled idle n hn =
    is_false (has_transfer (drive_of d n)) (λ h. no d.control.busy idle (settled n hn h).busy)

with_status_settled : (d : DiskState) (status : ℕ) → IsSettled d → IsSettled (with_control d (record d.control { status = status }))
with_status_settled d status settled n hn h =
    let u = settled n hn h in record { busy = u.busy; drive = u.drive; sector = u.sector }

still_quiet : (d : DiskState) (c : ControlState) → ((n : ℕ) → n < 4 → has_transfer (drive_of d n) ≡ false) → IsSettled (with_control d c)
still_quiet d c quiet n hn h = absurd (no (has_transfer (drive_of d n)) (quiet n hn) h)

pub instruction_settled : (d : DiskState) (pulses ac : ℕ) → IsSettled d → IsSettled (instruction_row d pulses ac)
instruction_settled d pulses ac settled =
    let loaded : ControlState = record d.control { disk_address = ac } in
    let idle : d.control.busy ≡ false → (n : ℕ) → n < 4 → has_transfer (drive_of d n) ≡ false = quiet_if d settled in
    let error : IsSettled (busy_error d) = with_status_settled d (busy_error d).control.status settled in
    let cleared : IsSettled (with_no_status d) = with_status_settled d 0 settled in
    let both_errors : IsSettled (busy_error (with_no_status d)) =
    with_status_settled d (busy_error (with_no_status d)).control.status settled in
    chosen IsSettled (nat_eq pulses 2) (dclr_row d ac)
    (if nat_eq pulses 3 then dlag_row d ac
    else if nat_eq pulses 4 then dlca_row d ac
    else if nat_eq pulses 6 then dldc_row d ac
    else d)
    (λ _. chosen IsSettled (nat_eq (ac % 4) 0) (status_cleared d)
    (if nat_eq (ac % 4) 1 then control_cleared d else if nat_eq (ac % 4) 2 then after_recalibration d else with_no_status d)
    (λ _. chosen IsSettled d.control.busy (busy_error (with_no_status d)) (with_no_status d) (λ _. both_errors) (λ _. cleared))
    (λ _. chosen IsSettled (nat_eq (ac % 4) 1) (control_cleared d)
    (if nat_eq (ac % 4) 2 then after_recalibration d else with_no_status d)
    (λ _ n _ h. absurd (no (has_transfer (drive_of (control_cleared d) n))
    (change_each (λ v w. has_transfer w ≡ false) at_rest (λ v. refl) d (control_cleared d).control n) h))
    (λ _. chosen IsSettled (nat_eq (ac % 4) 2) (after_recalibration d) (with_no_status d)
    (λ _. chosen IsSettled d.control.busy (busy_error (with_no_status d)) (go (with_no_status d) 3 0) (λ _. both_errors)
    (λ rest. go_settled (with_no_status d) 3 0 (idle rest) (λ seek _. absurd (true≢false seek))))
    (λ _. cleared))))
    (λ _. chosen IsSettled (nat_eq pulses 3) (dlag_row d ac)
    (if nat_eq pulses 4 then dlca_row d ac else if nat_eq pulses 6 then dldc_row d ac else d)
    (λ _. chosen IsSettled d.control.busy (busy_error d) (go (with_control d loaded) (function_of loaded) (cylinder_of loaded)) (λ _. error)
    (λ rest. go_settled (with_control d loaded) (function_of loaded) (cylinder_of loaded) (idle rest) (λ _ within. omega arith)))
    (λ _. chosen IsSettled (nat_eq pulses 4) (dlca_row d ac) (if nat_eq pulses 6 then dldc_row d ac else d)
    (λ _. chosen IsSettled d.control.busy (busy_error d) (with_control d (record d.control { memory_address = ac })) (λ _. error)
    (λ rest. still_quiet d (record d.control { memory_address = ac }) (idle rest)))
    (λ _. chosen IsSettled (nat_eq pulses 6) (dldc_row d ac) d
    (λ _. chosen IsSettled d.control.busy (busy_error d) (with_control d (record d.control { command = ac; status = 0 })) (λ _. error)
    (λ rest. still_quiet d (record d.control { command = ac; status = 0 }) (idle rest)))
    (λ _. settled))))

-- ## Time and clearing

pub new_settled : (seek_time disk_time : ℕ) → IsSettled (new_disk seek_time disk_time)
new_settled seek_time disk_time zero hn h = absurd (true≢false (sym h))
new_settled seek_time disk_time (suc zero) hn h = absurd (true≢false (sym h))
new_settled seek_time disk_time (suc (suc zero)) hn h = absurd (true≢false (sym h))
new_settled seek_time disk_time (suc (suc (suc n))) hn h = absurd (true≢false (sym (rw (far0 n, far1 n, far2 n) at h)))

pub time_settled : (d : DiskState) (count : ℕ) → IsSettled d → IsSettled (disk_after d count)
time_settled d count settled n hn h =
    settled n hn
    (time_each (λ v w. has_transfer w ≡ true → has_transfer v ≡ true) (drive_after count) (λ v g. rw (still v.time_left count) at g) d n h)

pub cleared_settled : (d : DiskState) → IsSettled (after_clear d)
cleared_settled d n hn h =
    absurd (no (has_transfer (drive_of (after_clear d) n))
    (change_each (λ v w. has_transfer w ≡ false) cleared_drive (λ v. refl) d (after_clear d).control n) h)

-- ## Ends

-- an end that is not a transfer's leaves what is under way
keeps : (c : ControlState) (m : ℕ) (v : DriveState) (core : List ℕ) (n : ℕ) → IsUnderWay c n
    → (is_over v.time_left ≡ true → nat_eq v.function 3 ≡ false → ⊥) → IsUnderWay (end_on c m v core).control n
keeps c m v core n under other =
    end_cases (λ e. IsUnderWay e.control n) c m v core (λ _. under)
    (λ _. chosen (λ (e : ControlState). IsUnderWay e n) (nat_eq (drive_number c) m && nat_eq (c.command / 0o200 % 2) 1) (with_status c 0o4000)
    c (λ _. record { busy = under.busy; drive = under.drive; sector = under.sector }) (λ _. under))
    (λ over no_seek. absurd (other over no_seek))

pub over_moves : (v : DriveState) → is_over v.time_left ≡ true → nat_eq v.function 3 ≡ false → has_transfer v ≡ true
over_moves v over other = joined (is_some v.time_left) (not (nat_eq v.function 3)) (over_some v.time_left over) (rw other refl)

pub ends_settled : (d : DiskState) (core : List ℕ) → IsSettled d → IsSettled (after_ends d core).disk
ends_settled d core settled n hn h =
    let two : (is_over (drive_of d n).time_left ≡ false) × (has_transfer (drive_of d n) ≡ true) =
    ends_each (λ v w. has_transfer w ≡ true → (is_over v.time_left ≡ false) × (has_transfer v ≡ true)) d core n
    (λ c m v words _. end_cases (λ e. has_transfer e.drive ≡ true → (is_over v.time_left ≡ false) × (has_transfer v ≡ true)) c m v words
    (λ over g. (over, g)) (λ _ g. absurd (true≢false (sym g))) (λ _ _ g. absurd (true≢false (sym g)))) h in
    let under : IsUnderWay d.control n = settled n hn two.1 in
    let other : (m : ℕ) → m < 4 → is_over (drive_of d m).time_left ≡ true → nat_eq (drive_of d m).function 3 ≡ false → ⊥ =
    λ m hm over seek.
    let same : m ≡ n = sym (settled m hm (over_moves (drive_of d m) over seek)).drive ∙ under.drive in
    no (is_over (drive_of d n).time_left) two.0 (subst (λ k. is_over (drive_of d k).time_left ≡ true) same over) in
    let a = end_on d.control 0 d.drive0 core in
    let b = end_on a.control 1 d.drive1 a.core in
    let e = end_on b.control 2 d.drive2 b.core in
    keeps e.control 3 d.drive3 e.core n
    (keeps b.control 2 d.drive2 b.core n
    (keeps a.control 1 d.drive1 a.core n (keeps d.control 0 d.drive0 core n under (other 0 (omega arith))) (other 1 (omega arith)))
    (other 2 (omega arith)))
    (other 3 (omega arith))
