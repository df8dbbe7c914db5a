-- What an instruction and an end do to each drive.
use Rattle.std.proofs.Common.{◌≡◌, ◌≢◌, ℕ, zero, suc, ◌+◌, ◌-◌, ◌*◌, ◌/◌, ◌%◌, ◌<◌, ◌≤◌, max, Bool, true, false, ◌&&◌, ◌||◌, nat_eq, nat_lt, is_some, is_none, if◌then◌else◌, Option, Some, None, List, length, slice_index, arith, refl, ap, sym, ◌∙◌, inl, inr, true≢false}
use Rattle.std.proofs.lemmas.Bool.{cases_lt}
use Rattle.std.proofs.lemmas.Bool.Decides.{nat_tests}
use Rattle.std.proofs.lemmas.List.{get_or_past}
use Rattle.rk8e.specs.Packs.{PackState, sector_word}
use Rattle.rk8e.specs.State.{ControlState, DriveState, DiskState, new_disk, drive_of, with_drive, with_control, with_each, at_rest, after_clear, cleared_drive}
use Rattle.rk8e.specs.Command.{drive_number, function_of, cylinder_of, sector_of, words_moved, is_read, is_write, with_status}
use Rattle.rk8e.specs.Go.{begin_on, go, with_function, arm_time}
use Rattle.rk8e.specs.Instructions.{busy_error, with_no_status, status_cleared, control_cleared, after_recalibration, dclr_row, dlag_row, dlca_row, dldc_row, instruction_row}
use Rattle.rk8e.specs.Time.{is_over, time_after, drive_after, disk_after}
use Rattle.rk8e.specs.Transfer.{DriveEnd, no_end, seek_end, transfer_end, end_on, after_end, after_ends, core_after, pack_after, core_read, pack_word, word_read, word_written, words_written, cell_of, place_of, is_reached}
use Rattle.rk8e.specs.Laws.{words_of, map_word, ends_write, ends_read, IsGuarded, AreGuarded, refuses}
use Rattle.rk8e.proofs.MoveLemmas.{length-numbers, get_or-numbers, within_more, without, place_is}

-- ## Tests

pub chosen : {A : Type 0} (Q : A → Type 0) (b : Bool) (x y : A) → (b ≡ true → Q x) → (b ≡ false → Q y) → Q (if b then x else y)
chosen Q true x y f g = f refl
chosen Q false x y f g = g refl

pub both : (a b : Bool) → (a && b) ≡ true → (a ≡ true) × (b ≡ true)
both true b h = (refl, h)
both false b h = absurd (true≢false (sym h))

neither : (a b : Bool) → (a || b) ≡ false → (a ≡ false) × (b ≡ false)
neither true b h = absurd (true≢false h)
neither false b h = (refl, h)

pub joined : (a b : Bool) → a ≡ true → b ≡ true → (a && b) ≡ true
joined a b p q = rw (p, q) refl

-- ## Drives by their numbers

past0 : (n : ℕ) → nat_eq (suc n) 0 ≡ false
past0 n = grind (arith, nat_tests)

pub far0 : (n : ℕ) → nat_eq (suc (suc (suc n))) 0 ≡ false
far0 n = grind (arith, nat_tests)

pub far1 : (n : ℕ) → nat_eq (suc (suc (suc n))) 1 ≡ false
far1 n = grind (arith, nat_tests)

pub far2 : (n : ℕ) → nat_eq (suc (suc (suc n))) 2 ≡ false
far2 n = grind (arith, nat_tests)

pub put_each : (P : DriveState → DriveState → Type 0) → ((v : DriveState) → P v v)
    → (d : DiskState) (c : ControlState) (m n : ℕ) (w : DriveState) → P (drive_of d m) w
    → P (drive_of d n) (drive_of (with_drive (with_control d c) m w) n)
put_each P same d c zero zero w h = h
put_each P same d c zero (suc zero) w h = same d.drive1
put_each P same d c zero (suc (suc zero)) w h = same d.drive2
put_each P same d c zero (suc (suc (suc n))) w h = rw (far0 n, far1 n, far2 n) (same d.drive3)
put_each P same d c (suc zero) zero w h = same d.drive0
put_each P same d c (suc zero) (suc zero) w h = h
put_each P same d c (suc zero) (suc (suc zero)) w h = same d.drive2
put_each P same d c (suc zero) (suc (suc (suc n))) w h = rw (far0 n, far1 n, far2 n) (same d.drive3)
put_each P same d c (suc (suc zero)) zero w h = same d.drive0
put_each P same d c (suc (suc zero)) (suc zero) w h = same d.drive1
put_each P same d c (suc (suc zero)) (suc (suc zero)) w h = h
put_each P same d c (suc (suc zero)) (suc (suc (suc n))) w h = rw (far0 n, far1 n, far2 n) (same d.drive3)
put_each P same d c (suc (suc (suc m))) zero w h = rw (far0 m, far1 m, far2 m) (same d.drive0)
put_each P same d c (suc (suc (suc m))) (suc zero) w h = rw (far0 m, far1 m, far2 m) (same d.drive1)
put_each P same d c (suc (suc (suc m))) (suc (suc zero)) w h = rw (far0 m, far1 m, far2 m) (same d.drive2)
put_each P same d c (suc (suc (suc m))) (suc (suc (suc n))) w h =
    rw (far0 m, far1 m, far2 m, far0 n, far1 n, far2 n) (rw (far0 m, far1 m, far2 m) at h)

pub put_same : (d : DiskState) (c : ControlState) (n : ℕ) (w : DriveState) → drive_of (with_drive (with_control d c) n w) n ≡ w
put_same d c zero w = refl
put_same d c (suc zero) w = refl
put_same d c (suc (suc zero)) w = refl
put_same d c (suc (suc (suc n))) w = rw (far0 n, far1 n, far2 n) refl

pub put_control : (d : DiskState) (c : ControlState) (n : ℕ) (w : DriveState) → (with_drive (with_control d c) n w).control ≡ c
put_control d c zero w = refl
put_control d c (suc zero) w = refl
put_control d c (suc (suc zero)) w = refl
put_control d c (suc (suc (suc n))) w = rw (far0 n, far1 n, far2 n) refl

pub change_each : (P : DriveState → DriveState → Type 0) (change : DriveState → DriveState) → ((v : DriveState) → P v (change v))
    → (d : DiskState) (c : ControlState) (n : ℕ) → P (drive_of d n) (drive_of (with_control (with_each change d) c) n)
change_each P change each d c zero = each d.drive0
change_each P change each d c (suc zero) = each d.drive1
change_each P change each d c (suc (suc zero)) = each d.drive2
change_each P change each d c (suc (suc (suc n))) = rw (far0 n, far1 n, far2 n) (each d.drive3)

pub time_each : (P : DriveState → DriveState → Type 0) (change : DriveState → DriveState) → ((v : DriveState) → P v (change v))
    → (d : DiskState) (n : ℕ) → P (drive_of d n) (drive_of (with_each change d) n)
time_each P change each d zero = each d.drive0
time_each P change each d (suc zero) = each d.drive1
time_each P change each d (suc (suc zero)) = each d.drive2
time_each P change each d (suc (suc (suc n))) = rw (far0 n, far1 n, far2 n) (each d.drive3)

-- ## How a function begins

pub begun_all : (Q : (ControlState × DriveState) → Type 0) (c : ControlState) (v : DriveState) (f cylinder : ℕ)
    → ((bits : ℕ) → Q (with_status c bits, v))
    → (is_some v.time_left ≡ false → Q (with_status c 0o4000, record v { locked = true }))
    → ((time : ℕ) → is_some v.time_left ≡ false → (is_write f && v.locked) ≡ false → nat_eq f 3 ≡ true
    → Q (with_status c 0o4000, with_function v f cylinder time))
    → ((time : ℕ) → is_some v.time_left ≡ false → (is_write f && v.locked) ≡ false → nat_eq f 3 ≡ false → nat_lt 202 cylinder ≡ false
    → Q (record c { busy = true }, with_function v f cylinder time))
    → Q (begin_on c v f cylinder)
unfolding begin_on
begun_all Q c v f cylinder refused locks seeks moves =
    let seek : ControlState × DriveState = (with_status c 0o4000, with_function v f cylinder (max 10 (arm_time c v cylinder))) in
    let move : ControlState × DriveState = (record c { busy = true }, with_function v f cylinder (arm_time c v cylinder + c.disk_time)) in
    let third : ControlState × DriveState = if nat_eq f 3 then seek else move in
    let lock : ControlState × DriveState = (with_status c 0o4000, record v { locked = true }) in
    let second : ControlState × DriveState = if nat_eq f 2 then lock else third in
    let first : ControlState × DriveState = if is_write f && v.locked then (with_status c 0o4020, v) else second in
    let ready : ControlState × DriveState = if is_some v.time_left || nat_lt 202 cylinder then (with_status c 0o4002, v) else first in
    chosen Q (is_none v.pack) (with_status c 0o4002, v) ready (λ _. refused 0o4002)
    (λ _. chosen Q (is_some v.time_left || nat_lt 202 cylinder) (with_status c 0o4002, v) first (λ _. refused 0o4002)
    (λ rests. let rest = neither (is_some v.time_left) (nat_lt 202 cylinder) rests in
    chosen Q (is_write f && v.locked) (with_status c 0o4020, v) second (λ _. refused 0o4020)
    (λ free. chosen Q (nat_eq f 2) lock third (λ _. locks rest.0)
    (λ _. chosen Q (nat_eq f 3) seek move (seeks (max 10 (arm_time c v cylinder)) rest.0 free)
    (λ no. moves (arm_time c v cylinder + c.disk_time) rest.0 free no rest.1)))))

pub begun_each : (Q : DriveState → Type 0) (c : ControlState) (v : DriveState) (f cylinder : ℕ) → Q v
    → (is_some v.time_left ≡ false → Q (record v { locked = true }))
    → ((time : ℕ) → is_some v.time_left ≡ false → (is_write f && v.locked) ≡ false → Q (with_function v f cylinder time))
    → Q (begin_on c v f cylinder).1
begun_each Q c v f cylinder same locks moves =
    begun_all (λ e. Q e.1) c v f cylinder (λ _. same) locks (λ time rest free _. moves time rest free) (λ time rest free _ _. moves time rest free)

pub go_each : (P : DriveState → DriveState → Type 0) → ((v : DriveState) → P v v)
    → (d : DiskState) (f cylinder n : ℕ)
    → P (drive_of d (drive_number d.control)) (begin_on d.control (drive_of d (drive_number d.control)) f cylinder).1
    → P (drive_of d n) (drive_of (go d f cylinder) n)
go_each P same d f cylinder n h =
    put_each P same d (begin_on d.control (drive_of d (drive_number d.control)) f cylinder).0 (drive_number d.control) n
    (begin_on d.control (drive_of d (drive_number d.control)) f cylinder).1 h

-- ## What an instruction does to each drive

control_each : (P : DriveState → DriveState → Type 0) → ((v : DriveState) → P v v) → (d : DiskState) (c : ControlState) (n : ℕ)
    → P (drive_of d n) (drive_of (with_control d c) n)
control_each P same d c n = same (drive_of d n)

pub instruction_each : (P : DriveState → DriveState → Type 0) → ((v : DriveState) → P v v)
    → ((c : ControlState) (v : DriveState) (f cylinder : ℕ) → P v (begin_on c v f cylinder).1)
    → (d : DiskState) (pulses ac n : ℕ)
    → ((nat_eq pulses 2 && nat_eq (ac % 4) 1) ≡ true → (v : DriveState) → P v (at_rest v))
    → P (drive_of d n) (drive_of (instruction_row d pulses ac) n)
instruction_each P same goes d pulses ac n rests =
    let Q : DiskState → Type 0 = λ e. P (drive_of d n) (drive_of e n) in
    let plain : Q d = same (drive_of d n) in
    let loaded : ControlState = record d.control { disk_address = ac } in
    chosen Q (nat_eq pulses 2) (dclr_row d ac)
    (if nat_eq pulses 3 then dlag_row d ac
    else if nat_eq pulses 4 then dlca_row d ac
    else if nat_eq pulses 6 then dldc_row d ac
    else d)
    (λ p. chosen Q (nat_eq (ac % 4) 0) (status_cleared d)
    (if nat_eq (ac % 4) 1 then control_cleared d else if nat_eq (ac % 4) 2 then after_recalibration d else with_no_status d)
    (λ _. chosen Q d.control.busy (busy_error (with_no_status d)) (with_no_status d) (λ _. plain) (λ _. plain))
    (λ _. chosen Q (nat_eq (ac % 4) 1) (control_cleared d)
    (if nat_eq (ac % 4) 2 then after_recalibration d else with_no_status d)
    (λ q. change_each P at_rest (rests (joined (nat_eq pulses 2) (nat_eq (ac % 4) 1) p q)) d (control_cleared d).control n)
    (λ _. chosen Q (nat_eq (ac % 4) 2) (after_recalibration d) (with_no_status d)
    (λ _. chosen Q d.control.busy (busy_error (with_no_status d)) (go (with_no_status d) 3 0) (λ _. plain)
    (λ _. go_each P same (with_no_status d) 3 0 n
    (goes (with_no_status d).control (drive_of d (drive_number d.control)) 3 0)))
    (λ _. plain))))
    (λ _. chosen Q (nat_eq pulses 3) (dlag_row d ac)
    (if nat_eq pulses 4 then dlca_row d ac else if nat_eq pulses 6 then dldc_row d ac else d)
    (λ _. chosen Q d.control.busy (busy_error d) (go (with_control d loaded) (function_of loaded) (cylinder_of loaded)) (λ _. plain)
    (λ _. go_each P same (with_control d loaded) (function_of loaded) (cylinder_of loaded) n
    (goes loaded (drive_of d (drive_number d.control)) (function_of loaded) (cylinder_of loaded))))
    (λ _. chosen Q (nat_eq pulses 4) (dlca_row d ac) (if nat_eq pulses 6 then dldc_row d ac else d)
    (λ _. chosen Q d.control.busy (busy_error d) (with_control d (record d.control { memory_address = ac })) (λ _. plain) (λ _. plain))
    (λ _. chosen Q (nat_eq pulses 6) (dldc_row d ac) d
    (λ _. chosen Q d.control.busy (busy_error d) (with_control d (record d.control { command = ac; status = 0 })) (λ _. plain) (λ _. plain))
    (λ _. plain))))

-- ## How a function ends

pub end_cases : (Q : DriveEnd → Type 0) (c : ControlState) (n : ℕ) (v : DriveState) (core : List ℕ)
    → (is_over v.time_left ≡ false → Q (no_end c v core))
    → (is_over v.time_left ≡ true → Q (seek_end c n v core))
    → (is_over v.time_left ≡ true → nat_eq v.function 3 ≡ false → Q (transfer_end c v core))
    → Q (end_on c n v core)
unfolding end_on
end_cases Q c n v core none seek transfer =
    chosen Q (is_over v.time_left) (if nat_eq v.function 3 then seek_end c n v core else transfer_end c v core) (no_end c v core)
    (λ over. chosen Q (nat_eq v.function 3) (seek_end c n v core) (transfer_end c v core) (λ _. seek over) (transfer over)) none

same_sector : (c : ControlState) (n : ℕ) (v : DriveState) (core : List ℕ) → sector_of (end_on c n v core).control ≡ sector_of c
same_sector c n v core =
    end_cases (λ e. sector_of e.control ≡ sector_of c) c n v core (λ _. refl)
    (λ _. chosen (λ (e : ControlState). sector_of e ≡ sector_of c) (nat_eq (drive_number c) n && nat_eq (c.command / 0o200 % 2) 1)
    (with_status c 0o4000) c (λ _. refl) (λ _. refl))
    (λ _ _. refl)

pub ends_each : (P : DriveState → DriveState → Type 0) (d : DiskState) (core : List ℕ) (n : ℕ)
    → ((c : ControlState) (m : ℕ) (v : DriveState) (words : List ℕ) → sector_of c ≡ sector_of d.control → P v (end_on c m v words).drive)
    → P (drive_of d n) (drive_of (after_ends d core).disk n)
ends_each P d core zero each = each d.control 0 d.drive0 core refl
ends_each P d core (suc zero) each =
    let a = end_on d.control 0 d.drive0 core in
    each a.control 1 d.drive1 a.core (same_sector d.control 0 d.drive0 core)
ends_each P d core (suc (suc zero)) each =
    let a = end_on d.control 0 d.drive0 core in
    let b = end_on a.control 1 d.drive1 a.core in
    each b.control 2 d.drive2 b.core (same_sector a.control 1 d.drive1 a.core ∙ same_sector d.control 0 d.drive0 core)
ends_each P d core (suc (suc (suc n))) each =
    let a = end_on d.control 0 d.drive0 core in
    let b = end_on a.control 1 d.drive1 a.core in
    let e = end_on b.control 2 d.drive2 b.core in
    rw (far0 n, far1 n, far2 n)
    (each e.control 3 d.drive3 e.core
    (same_sector b.control 2 d.drive2 b.core ∙ same_sector a.control 1 d.drive1 a.core ∙ same_sector d.control 0 d.drive0 core))

-- ## The words of packs

kept_word : (c : ControlState) (core words : List ℕ) (sector k : ℕ) → k < 256 → sector ≢ sector_of c
    → sector_word (words_written c core words) sector k ≡ sector_word words sector k
kept_word c core words sector k h ne =
    let size : length (words_written c core words) ≡ length words = length-numbers (length words) (pack_word c 256 core words) in
    let other : (256 * sector + k) / 256 ≢ sector_of c = λ (e : (256 * sector + k) / 256 ≡ sector_of c). ne (omega arith) in
    elim (cases_lt (256 * sector + k) (length words)) [
      | inl within ↦ get_or-numbers (length words) (pack_word c 256 core words) (256 * sector + k) within ∙ without _ _ _ _ _ _ other
      | inr past ↦
          get_or_past (words_written c core words) (256 * sector + k) 0 (omega arith) ∙ sym (get_or_past words (256 * sector + k) 0 past)
    ]

pack_kept : (c : ControlState) (f : ℕ) (pack : Option PackState) (core : List ℕ) (sector k : ℕ) → k < 256
    → (is_write f ≡ true → sector ≢ sector_of c)
    → sector_word (words_of (pack_after c f pack core)) sector k ≡ sector_word (words_of pack) sector k
pack_kept c f None core sector k h ne = refl
pack_kept c f (Some pack) core sector k h ne =
    chosen (λ (p : Option PackState). sector_word (words_of p) sector k ≡ sector_word pack.words sector k) (is_write f) _ (Some pack)
    (λ w. kept_word c core pack.words sector k h (ne w)) (λ _. refl)

pub sector_kept_on : (c : ControlState) (n : ℕ) (v : DriveState) (core : List ℕ) (sector k : ℕ) → k < 256
    → (ends_write v ≡ true → sector ≢ sector_of c)
    → sector_word (words_of (end_on c n v core).drive.pack) sector k ≡ sector_word (words_of v.pack) sector k
sector_kept_on c n v core sector k h ne =
    end_cases (λ e. sector_word (words_of e.drive.pack) sector k ≡ sector_word (words_of v.pack) sector k) c n v core (λ _. refl) (λ _. refl)
    (λ over _. pack_kept c v.function v.pack core sector k h (λ w. ne (joined (is_over v.time_left) (is_write v.function) over w)))

-- ## Reading and writing

pub write_is_no_seek : (f : ℕ) → is_write f ≡ true → nat_eq f 3 ≡ false
write_is_no_seek f h = grind (arith, nat_tests)

pub read_is_no_seek : (f : ℕ) → is_read f ≡ true → nat_eq f 3 ≡ false
read_is_no_seek f h = grind (arith, nat_tests)

pub ended_transfer : (c : ControlState) (n : ℕ) (v : DriveState) (core : List ℕ) → is_over v.time_left ≡ true → nat_eq v.function 3 ≡ false
    → end_on c n v core ≡ transfer_end c v core
unfolding end_on
ended_transfer c n v core over other = rw (over, other) refl

pub written : (c : ControlState) (core words : List ℕ) (k : ℕ) → length words ≡ 1662976 → sector_of c < 6496 → k < 256
    → sector_word (words_written c core words) (sector_of c) k ≡ word_written c core k
written c core words k size whole h =
    let s : (256 * sector_of c + k) / 256 ≡ sector_of c = omega arith in
    let r : (256 * sector_of c + k) % 256 ≡ k = omega arith in
    get_or-numbers (length words) (pack_word c 256 core words) (256 * sector_of c + k) (omega arith)
    ∙ within_more _ _ _ _ _ _ s (omega arith) ∙ ap (λ j. word_written c core j) r

pub written_on : (d : DiskState) (core : List ℕ) (n k : ℕ) (pack : PackState) → ends_write (drive_of d n) ≡ true
    → (drive_of d n).pack ≡ Some pack → length pack.words ≡ 1662976 → sector_of d.control < 6496 → k < 256
    → map_word (after_end d n core).disk n (sector_of d.control) k ≡ word_written d.control core k
written_on d core n k pack ends is size whole h =
    let c = d.control in
    let v = drive_of d n in
    let two = both (is_over v.time_left) (is_write v.function) ends in
    let e : end_on c n v core ≡ transfer_end c v core = ended_transfer c n v core two.0 (write_is_no_seek v.function two.1) in
    let p : pack_after c v.function v.pack core ≡ pack_after c 4 (Some pack) core = rw (is, two.1) refl in
    ap (λ (w : DriveState). sector_word (words_of w.pack) (sector_of c) k) (put_same d (end_on c n v core).control n (end_on c n v core).drive)
    ∙ ap (λ (w : DriveEnd). sector_word (words_of w.drive.pack) (sector_of c) k) e
    ∙ ap (λ (q : Option PackState). sector_word (words_of q) (sector_of c) k) p
    ∙ written c core pack.words k size whole h

pub moved_cell : (c : ControlState) (words core : List ℕ) (k : ℕ) → c.memory_address < 4096 → cell_of c k < length core → k < words_moved c
    → k < 4096 → slice_index (core_read c words core) (cell_of c k) ≡ sector_word words (sector_of c) k
moved_cell c words core k hm hc hk small =
    let p : place_of c (cell_of c k % 4096) ≡ k = place_is (c.command / 8 % 8) c.memory_address k (cell_of c k) hm small refl in
    let f : cell_of c k / 4096 ≡ c.command / 8 % 8 = omega arith in
    get_or-numbers (length core) (word_read c (words_moved c) words core) (cell_of c k) hc
    ∙ within_more _ _ _ _ _ _ f (omega arith) ∙ ap (λ j. sector_word words (sector_of c) j) p

pub few : (c : ControlState) → words_moved c ≤ 256
few c = chosen (λ (w : ℕ). w ≤ 256) (nat_eq (c.command / 0o100 % 2) 1) 128 256 (λ _. omega arith) (λ _. omega arith)

pub read_on : (d : DiskState) (core : List ℕ) (n k : ℕ) (pack : PackState) → ends_read (drive_of d n) ≡ true
    → (drive_of d n).pack ≡ Some pack → d.control.memory_address < 4096 → cell_of d.control k < length core → k < words_moved d.control
    → slice_index (after_end d n core).core (cell_of d.control k) ≡ sector_word pack.words (sector_of d.control) k
read_on d core n k pack ends is hm hc hk =
    let c = d.control in
    let v = drive_of d n in
    let two = both (is_over v.time_left) (is_read v.function) ends in
    let e : end_on c n v core ≡ transfer_end c v core = ended_transfer c n v core two.0 (read_is_no_seek v.function two.1) in
    let p : core_after c v.function v.pack core ≡ core_read c pack.words core = rw (is, two.1) refl in
    let small : words_moved c ≤ 256 = few c in
    ap (λ (w : DriveEnd). slice_index w.core (cell_of c k)) e ∙ ap (λ (w : List ℕ). slice_index w (cell_of c k)) p
    ∙ moved_cell c pack.words core k hm hc hk (omega arith)

pub other_cell : (c : ControlState) (f : ℕ) (pack : Option PackState) (core : List ℕ) (cell : ℕ) → cell < length core
    → is_reached c (words_moved c) cell ≡ false → slice_index (core_after c f pack core) cell ≡ slice_index core cell
other_cell c f None core cell h out = refl
other_cell c f (Some pack) core cell h out =
    chosen (λ (w : List ℕ). slice_index w cell ≡ slice_index core cell) (is_read f) (core_read c pack.words core) core
    (λ _. get_or-numbers (length core) (word_read c (words_moved c) pack.words core) cell h ∙ rw out refl) (λ _. refl)

pub others_on : (d : DiskState) (core : List ℕ) (n cell : ℕ) → cell < length core → is_reached d.control (words_moved d.control) cell ≡ false
    → slice_index (after_end d n core).core cell ≡ slice_index core cell
others_on d core n cell h out =
    let v = drive_of d n in
    end_cases (λ e. slice_index e.core cell ≡ slice_index core cell) d.control n v core (λ _. refl) (λ _. refl)
    (λ _ _. other_cell d.control v.function v.pack core cell h out)

same_core : (c : ControlState) (f : ℕ) (pack : Option PackState) (core : List ℕ) → is_read f ≡ false → core_after c f pack core ≡ core
same_core c f None core h = refl
same_core c f (Some pack) core h = rw h refl

second_false : (a b : Bool) → a ≡ true → (a && b) ≡ false → b ≡ false
second_false a b p h = (rw p at h)

pub kept_on : (d : DiskState) (core : List ℕ) (n : ℕ) → ends_read (drive_of d n) ≡ false → (after_end d n core).core ≡ core
kept_on d core n h =
    let v = drive_of d n in
    end_cases (λ e. e.core ≡ core) d.control n v core (λ _. refl) (λ _. refl)
    (λ over _. same_core d.control v.function v.pack core (second_false (is_over v.time_left) (is_read v.function) over h))

-- ## Locks

second_free : (w l : Bool) → (w && l) ≡ false → l ≡ true → w ≡ false
second_free true l h e = absurd (true≢false (sym e ∙ h))
second_free false l h e = refl

begun_guarded : (c : ControlState) (v : DriveState) (f cylinder : ℕ) → IsGuarded v → IsGuarded (begin_on c v f cylinder).1
begun_guarded c v f cylinder guarded =
    begun_each IsGuarded c v f cylinder guarded (λ rest _. rw rest refl) (λ _ _ free locks. second_free (is_write f) v.locked free locks)

pub instruction_guarded : (d : DiskState) (pulses ac : ℕ) → AreGuarded d → AreGuarded (instruction_row d pulses ac)
instruction_guarded d pulses ac guarded n =
    instruction_each (λ v w. IsGuarded v → IsGuarded w) (λ v h. h) begun_guarded d pulses ac n (λ _ v _ _. refl) (guarded n)

pub still : (t : Option ℕ) (count : ℕ) → is_some (time_after t count) ≡ is_some t
still None count = refl
still (Some time) count = refl

pub time_guarded : (d : DiskState) (count : ℕ) → AreGuarded d → AreGuarded (disk_after d count)
time_guarded d count guarded n =
    time_each (λ v w. IsGuarded v → IsGuarded w) (drive_after count) (λ v h locks. rw (still v.time_left count) (h locks)) d n (guarded n)

pub cleared_guarded : (d : DiskState) → AreGuarded (after_clear d)
cleared_guarded d n = change_each (λ v w. IsGuarded w) cleared_drive (λ v _. refl) d (after_clear d).control n

pub new_guarded : (seek_time disk_time : ℕ) → AreGuarded (new_disk seek_time disk_time)
new_guarded seek_time disk_time zero = λ _. refl
new_guarded seek_time disk_time (suc zero) = λ _. refl
new_guarded seek_time disk_time (suc (suc zero)) = λ _. refl
new_guarded seek_time disk_time (suc (suc (suc n))) = rw (far0 n, far1 n, far2 n) (λ _. refl)

pub ends_guarded : (d : DiskState) (core : List ℕ) → AreGuarded d → AreGuarded (after_ends d core).disk
ends_guarded d core guarded n =
    ends_each (λ v w. IsGuarded v → IsGuarded w) d core n
    (λ c m v words _ h. end_cases (λ e. IsGuarded e.drive) c m v words (λ _. h) (λ _ _. refl) (λ _ _ _. refl)) (guarded n)

pub over_some : (t : Option ℕ) → is_over t ≡ true → is_some t ≡ true
over_some None h = h
over_some (Some time) h = refl

no_write : (v : DriveState) → IsGuarded v → v.locked ≡ true → ends_write v ≡ true → ⊥
no_write v guarded locks ends =
    let two = both (is_over v.time_left) (is_write v.function) ends in
    let under : (is_some v.time_left && is_write v.function) ≡ true =
    joined (is_some v.time_left) (is_write v.function) (over_some v.time_left two.0) two.1 in
    true≢false (sym under ∙ guarded locks)

pub locked_words : (d : DiskState) (core : List ℕ) (n sector k : ℕ) → AreGuarded d → (drive_of d n).locked ≡ true → k < 256
    → map_word (after_ends d core).disk n sector k ≡ map_word d n sector k
locked_words d core n sector k guarded locks h =
    ends_each (λ v w. IsGuarded v → v.locked ≡ true → sector_word (words_of w.pack) sector k ≡ sector_word (words_of v.pack) sector k) d core n
    (λ c m v words _ g l. sector_kept_on c m v words sector k h (λ ends. absurd (no_write v g l ends))) (guarded n) locks

pub locks_stay : (d : DiskState) (pulses ac n : ℕ) → (drive_of d n).locked ≡ true → (drive_of (instruction_row d pulses ac) n).locked ≡ true
locks_stay d pulses ac n =
    instruction_each (λ v w. v.locked ≡ true → w.locked ≡ true) (λ v h. h)
    (λ c v f cylinder h. begun_each (λ w. w.locked ≡ true) c v f cylinder h (λ _. refl) (λ _ _ _. h)) d pulses ac n (λ _ v h. h)

pub locks_pass : (d : DiskState) (count n : ℕ) → (drive_of (disk_after d count) n).locked ≡ (drive_of d n).locked
locks_pass d count n = time_each (λ v w. w.locked ≡ v.locked) (drive_after count) (λ v. refl) d n

pub locks_clear : (d : DiskState) (n : ℕ) → (drive_of (after_clear d) n).locked ≡ (drive_of d n).locked
locks_clear d n = change_each (λ v w. w.locked ≡ v.locked) cleared_drive (λ v. refl) d (after_clear d).control n

pub locks_end : (d : DiskState) (core : List ℕ) (n : ℕ) → (drive_of (after_ends d core).disk n).locked ≡ (drive_of d n).locked
locks_end d core n =
    ends_each (λ v w. w.locked ≡ v.locked) d core n
    (λ c m v words _. end_cases (λ e. e.drive.locked ≡ v.locked) c m v words (λ _. refl) (λ _. refl) (λ _ _. refl))

-- ## Packs

pub packs_stay : (d : DiskState) (pulses ac n : ℕ) → (drive_of (instruction_row d pulses ac) n).pack ≡ (drive_of d n).pack
packs_stay d pulses ac n =
    instruction_each (λ v w. w.pack ≡ v.pack) (λ v. refl)
    (λ c v f cylinder. begun_each (λ w. w.pack ≡ v.pack) c v f cylinder refl (λ _. refl) (λ _ _ _. refl)) d pulses ac n (λ _ v. refl)

pub packs_pass : (d : DiskState) (count n : ℕ) → (drive_of (disk_after d count) n).pack ≡ (drive_of d n).pack
packs_pass d count n = time_each (λ v w. w.pack ≡ v.pack) (drive_after count) (λ v. refl) d n

pub packs_clear : (d : DiskState) (n : ℕ) → (drive_of (after_clear d) n).pack ≡ (drive_of d n).pack
packs_clear d n = change_each (λ v w. w.pack ≡ v.pack) cleared_drive (λ v. refl) d (after_clear d).control n

pub sectors_end : (d : DiskState) (core : List ℕ) (n sector k : ℕ) → k < 256 → (ends_write (drive_of d n) ≡ true → sector ≢ sector_of d.control)
    → map_word (after_ends d core).disk n sector k ≡ map_word d n sector k
sectors_end d core n sector k h ne =
    ends_each
    (λ v w. (ends_write v ≡ true → sector ≢ sector_of d.control)
    → sector_word (words_of w.pack) sector k ≡ sector_word (words_of v.pack) sector k) d core n
    (λ c m v words same other. sector_kept_on c m v words sector k h (λ ends e. other ends (e ∙ same))) ne

-- ## Refusals

refused_begun : (c : ControlState) (v : DriveState) (f cylinder : ℕ)
    → (is_none v.pack || ((is_some v.time_left || nat_lt 202 cylinder) || (is_write f && v.locked))) ≡ true
    → ((begin_on c v f cylinder).1 ≡ v) × ((begin_on c v f cylinder).0.busy ≡ c.busy)
unfolding begin_on
refused_begun c v f cylinder h =
    let R : (ControlState × DriveState) → Type 0 = λ e. (e.1 ≡ v) × (e.0.busy ≡ c.busy) in
    let seek : ControlState × DriveState = (with_status c 0o4000, with_function v f cylinder (max 10 (arm_time c v cylinder))) in
    let move : ControlState × DriveState = (record c { busy = true }, with_function v f cylinder (arm_time c v cylinder + c.disk_time)) in
    let third : ControlState × DriveState = if nat_eq f 3 then seek else move in
    let second : ControlState × DriveState = if nat_eq f 2 then (with_status c 0o4000, record v { locked = true }) else third in
    let first : ControlState × DriveState = if is_write f && v.locked then (with_status c 0o4020, v) else second in
    let ready : ControlState × DriveState = if is_some v.time_left || nat_lt 202 cylinder then (with_status c 0o4002, v) else first in
    chosen R (is_none v.pack) (with_status c 0o4002, v) ready (λ _. (refl, refl))
    (λ none. chosen R (is_some v.time_left || nat_lt 202 cylinder) (with_status c 0o4002, v) first (λ _. (refl, refl))
    (λ rest. chosen R (is_write f && v.locked) (with_status c 0o4020, v) second (λ _. (refl, refl))
    (λ free. absurd (true≢false (sym (rw (none, rest, free) at h))))))

pub refused_drives : (d : DiskState) (f cylinder n : ℕ) → refuses d f cylinder ≡ true → drive_of (go d f cylinder) n ≡ drive_of d n
refused_drives d f cylinder n h =
    go_each (λ v w. w ≡ v) (λ v. refl) d f cylinder n
    (refused_begun d.control (drive_of d (drive_number d.control)) f cylinder h).0

pub refused_busy : (d : DiskState) (f cylinder : ℕ) → refuses d f cylinder ≡ true → (go d f cylinder).control.busy ≡ d.control.busy
refused_busy d f cylinder h =
    let v = drive_of d (drive_number d.control) in
    ap (λ (c : ControlState). c.busy) (put_control d (begin_on d.control v f cylinder).0 (drive_number d.control) (begin_on d.control v f cylinder).1)
    ∙ (refused_begun d.control v f cylinder h).1

-- ## Time

some_rests : (t : Option ℕ) (time : ℕ) → t ≡ Some time → is_some t ≡ false → ⊥
some_rests t time e h = true≢false (rw e at h)

pub time_passes : (d : DiskState) (count n time : ℕ) → (drive_of d n).time_left ≡ Some time
    → (drive_of (disk_after d count) n).time_left ≡ Some (time - count)
time_passes d count n time =
    time_each (λ v w. v.time_left ≡ Some time → w.time_left ≡ Some (time - count)) (drive_after count)
    (λ v h. ap (λ (t : Option ℕ). time_after t count) h) d n

pub time_stays : (d : DiskState) (pulses ac n time : ℕ) → (drive_of d n).time_left ≡ Some time → (nat_eq pulses 2 && nat_eq (ac % 4) 1) ≡ false
    → (drive_of (instruction_row d pulses ac) n).time_left ≡ Some time
time_stays d pulses ac n time has other =
    instruction_each (λ v w. v.time_left ≡ Some time → w.time_left ≡ Some time) (λ v h. h)
    (λ c v f cylinder h. begun_each (λ w. w.time_left ≡ Some time) c v f cylinder h (λ _. h)
    (λ _ rest _. absurd (some_rests v.time_left time h rest)))
    d pulses ac n (λ hit. absurd (true≢false (sym hit ∙ other))) has

pub time_ends : (d : DiskState) (core : List ℕ) (n : ℕ) → (drive_of d n).time_left ≡ Some 0 → (drive_of (after_ends d core).disk n).time_left ≡ None
time_ends d core n =
    ends_each (λ v w. v.time_left ≡ Some 0 → w.time_left ≡ None) d core n
    (λ c m v words _ h. end_cases (λ e. e.drive.time_left ≡ None) c m v words (λ no. absurd (true≢false (rw h at no))) (λ _. refl) (λ _ _. refl))

no_end_yet : (t : Option ℕ) (time : ℕ) → t ≡ Some (suc time) → is_over t ≡ true → ⊥
no_end_yet t time h over = true≢false (sym (rw h at over) ∙ past0 time)

pub time_waits : (d : DiskState) (core : List ℕ) (n time : ℕ) → (drive_of d n).time_left ≡ Some (suc time)
    → drive_of (after_ends d core).disk n ≡ drive_of d n
time_waits d core n time =
    ends_each (λ v w. v.time_left ≡ Some (suc time) → w ≡ v) d core n
    (λ c m v words _ h. end_cases (λ e. e.drive ≡ v) c m v words (λ _. refl) (λ over. absurd (no_end_yet v.time_left time h over))
    (λ over _. absurd (no_end_yet v.time_left time h over)))
