-- A transfer that ends in a step's beginning, beside seeks of other drives.
use Rattle.std.proofs.Common.{◌≡◌, ℕ, zero, suc, ◌/◌, ◌%◌, ◌<◌, ◌≤◌, true, false, ◌&&◌, nat_eq, Option, Some, List, length, slice_index, arith, refl, ap, sym, subst, ◌∙◌}
use Rattle.rk8e.specs.Packs.{PackState, sector_word}
use Rattle.rk8e.specs.State.{ControlState, DriveState, DiskState, drive_of}
use Rattle.rk8e.specs.Command.{drive_number, sector_of, words_moved, is_read, is_write, with_status}
use Rattle.rk8e.specs.Time.{is_over}
use Rattle.rk8e.specs.Transfer.{end_on, transfer_end, after_ends, core_after, pack_after, core_read, cell_of, is_reached, word_written}
use Rattle.rk8e.specs.Laws.{words_of, map_word, ends_write, ends_read, IsSettled}
use Rattle.rk8e.proofs.LawLemmas.{chosen, both, end_cases, ended_transfer, write_is_no_seek, read_is_no_seek, written, moved_cell, few, other_cell}
use Rattle.rk8e.proofs.SettledLemmas.{over_moves}

-- the registers that a transfer looks at, and core, are as at first
record IsQuiet (c : ControlState) (core : List ℕ) (e : ControlState) (words : List ℕ) : Type 0 where
  command : e.command ≡ c.command
  disk_address : e.disk_address ≡ c.disk_address
  memory_address : e.memory_address ≡ c.memory_address
  same_core : words ≡ core

at_first : (c : ControlState) (core : List ℕ) → IsQuiet c core c core
at_first c core = record { command = refl; disk_address = refl; memory_address = refl; same_core = refl }

-- no transfer of a drive ends now
abbrev EndsNone : DriveState → Type 0
EndsNone v = is_over v.time_left ≡ true → nat_eq v.function 3 ≡ false → ⊥

quiet_end : (c : ControlState) (core : List ℕ) (e : ControlState) (words : List ℕ) (m : ℕ) (v : DriveState) → IsQuiet c core e words → EndsNone v
    → IsQuiet c core (end_on e m v words).control (end_on e m v words).core
quiet_end c core e words m v quiet none =
    end_cases (λ a. IsQuiet c core a.control a.core) e m v words (λ _. quiet)
    (λ _. chosen (λ (a : ControlState). IsQuiet c core a words) (nat_eq (drive_number e) m && nat_eq (e.command / 0o200 % 2) 1)
    (with_status e 0o4000) e
    (λ _. record { command = quiet.command; disk_address = quiet.disk_address; memory_address = quiet.memory_address; same_core = quiet.same_core })
    (λ _. quiet))
    (λ over other. absurd (none over other))

quiet_core : (e : ControlState) (words : List ℕ) (m : ℕ) (v : DriveState) → EndsNone v → (end_on e m v words).core ≡ words
quiet_core e words m v none = (quiet_end e words e words m v (at_first e words) none).same_core

-- what drive n leaves, when the drives before it have ended
step_drive : (P : DriveState → Type 0) (d : DiskState) (core : List ℕ) (n : ℕ) → n < 4
    → ((m : ℕ) → m < 4 → (m ≡ n → ⊥) → EndsNone (drive_of d m))
    → ((e : ControlState) (words : List ℕ) → IsQuiet d.control core e words → P (end_on e n (drive_of d n) words).drive)
    → P (drive_of (after_ends d core).disk n)
step_drive P d core zero hn none here = here d.control core (at_first d.control core)
step_drive P d core (suc zero) hn none here =
    let a = end_on d.control 0 d.drive0 core in
    here a.control a.core (quiet_end d.control core d.control core 0 d.drive0 (at_first d.control core) (none 0 (omega arith) (λ e. omega arith)))
step_drive P d core (suc (suc zero)) hn none here =
    let a = end_on d.control 0 d.drive0 core in
    let qa = quiet_end d.control core d.control core 0 d.drive0 (at_first d.control core) (none 0 (omega arith) (λ e. omega arith)) in
    let b = end_on a.control 1 d.drive1 a.core in
    here b.control b.core (quiet_end d.control core a.control a.core 1 d.drive1 qa (none 1 (omega arith) (λ e. omega arith)))
step_drive P d core (suc (suc (suc zero))) hn none here =
    let a = end_on d.control 0 d.drive0 core in
    let qa = quiet_end d.control core d.control core 0 d.drive0 (at_first d.control core) (none 0 (omega arith) (λ e. omega arith)) in
    let b = end_on a.control 1 d.drive1 a.core in
    let qb = quiet_end d.control core a.control a.core 1 d.drive1 qa (none 1 (omega arith) (λ e. omega arith)) in
    let e = end_on b.control 2 d.drive2 b.core in
    here e.control e.core (quiet_end d.control core b.control b.core 2 d.drive2 qb (none 2 (omega arith) (λ e. omega arith)))
step_drive P d core (suc (suc (suc (suc n)))) hn none here = absurd (omega arith)

-- what core is, when those after it have ended too
step_core : (P : List ℕ → Type 0) (d : DiskState) (core : List ℕ) (n : ℕ) → n < 4
    → ((m : ℕ) → m < 4 → (m ≡ n → ⊥) → EndsNone (drive_of d m))
    → ((e : ControlState) (words : List ℕ) → IsQuiet d.control core e words → P (end_on e n (drive_of d n) words).core)
    → P (after_ends d core).core
step_core P d core zero hn none here =
    let a = end_on d.control 0 d.drive0 core in
    let b = end_on a.control 1 d.drive1 a.core in
    let e = end_on b.control 2 d.drive2 b.core in
    let eb : b.core ≡ a.core = quiet_core a.control a.core 1 d.drive1 (none 1 (omega arith) (λ e. omega arith)) in
    let ee : e.core ≡ b.core = quiet_core b.control b.core 2 d.drive2 (none 2 (omega arith) (λ e. omega arith)) in
    let ef : (end_on e.control 3 d.drive3 e.core).core ≡ e.core =
    quiet_core e.control e.core 3 d.drive3 (none 3 (omega arith) (λ e. omega arith)) in
    subst P (sym (ef ∙ ee ∙ eb)) (here d.control core (at_first d.control core))
step_core P d core (suc zero) hn none here =
    let a = end_on d.control 0 d.drive0 core in
    let qa = quiet_end d.control core d.control core 0 d.drive0 (at_first d.control core) (none 0 (omega arith) (λ e. omega arith)) in
    let b = end_on a.control 1 d.drive1 a.core in
    let e = end_on b.control 2 d.drive2 b.core in
    let ee : e.core ≡ b.core = quiet_core b.control b.core 2 d.drive2 (none 2 (omega arith) (λ e. omega arith)) in
    let ef : (end_on e.control 3 d.drive3 e.core).core ≡ e.core =
    quiet_core e.control e.core 3 d.drive3 (none 3 (omega arith) (λ e. omega arith)) in
    subst P (sym (ef ∙ ee)) (here a.control a.core qa)
step_core P d core (suc (suc zero)) hn none here =
    let a = end_on d.control 0 d.drive0 core in
    let qa = quiet_end d.control core d.control core 0 d.drive0 (at_first d.control core) (none 0 (omega arith) (λ e. omega arith)) in
    let b = end_on a.control 1 d.drive1 a.core in
    let qb = quiet_end d.control core a.control a.core 1 d.drive1 qa (none 1 (omega arith) (λ e. omega arith)) in
    let e = end_on b.control 2 d.drive2 b.core in
    let ef : (end_on e.control 3 d.drive3 e.core).core ≡ e.core =
    quiet_core e.control e.core 3 d.drive3 (none 3 (omega arith) (λ e. omega arith)) in
    subst P (sym ef) (here b.control b.core qb)
step_core P d core (suc (suc (suc zero))) hn none here =
    let a = end_on d.control 0 d.drive0 core in
    let qa = quiet_end d.control core d.control core 0 d.drive0 (at_first d.control core) (none 0 (omega arith) (λ e. omega arith)) in
    let b = end_on a.control 1 d.drive1 a.core in
    let qb = quiet_end d.control core a.control a.core 1 d.drive1 qa (none 1 (omega arith) (λ e. omega arith)) in
    let e = end_on b.control 2 d.drive2 b.core in
    here e.control e.core (quiet_end d.control core b.control b.core 2 d.drive2 qb (none 2 (omega arith) (λ e. omega arith)))
step_core P d core (suc (suc (suc (suc n)))) hn none here = absurd (omega arith)

-- ## One drive

same_sector_of : (c e : ControlState) → e.command ≡ c.command → e.disk_address ≡ c.disk_address → sector_of e ≡ sector_of c
same_sector_of c e h a = rw (h, a) refl

same_word : (c e : ControlState) (core words : List ℕ) (k : ℕ) → e.command ≡ c.command → e.memory_address ≡ c.memory_address → words ≡ core
    → word_written e words k ≡ word_written c core k
same_word c e core words k h a w = rw (h, a, w) refl

same_cell : (c e : ControlState) (k : ℕ) → e.command ≡ c.command → e.memory_address ≡ c.memory_address → cell_of e k ≡ cell_of c k
same_cell c e k h a = rw (h, a) refl

same_moved : (c e : ControlState) → e.command ≡ c.command → words_moved e ≡ words_moved c
same_moved c e h = rw h refl

same_reached : (c e : ControlState) (cell : ℕ) → e.command ≡ c.command → e.memory_address ≡ c.memory_address
    → is_reached e (words_moved e) cell ≡ is_reached c (words_moved c) cell
same_reached c e cell h a = rw (h, a) refl

written_here : (c : ControlState) (core : List ℕ) (e : ControlState) (words : List ℕ) (n : ℕ) (v : DriveState) (k : ℕ) (pack : PackState)
    → IsQuiet c core e words → ends_write v ≡ true → v.pack ≡ Some pack → length pack.words ≡ 1662976 → sector_of c < 6496 → k < 256
    → sector_word (words_of (end_on e n v words).drive.pack) (sector_of c) k ≡ word_written c core k
written_here c core e words n v k pack quiet ends is size whole h =
    let two = both (is_over v.time_left) (is_write v.function) ends in
    let t : end_on e n v words ≡ transfer_end e v words = ended_transfer e n v words two.0 (write_is_no_seek v.function two.1) in
    let p : pack_after e v.function v.pack words ≡ pack_after e 4 (Some pack) words = rw (is, two.1) refl in
    let s : sector_of e ≡ sector_of c = same_sector_of c e quiet.command quiet.disk_address in
    ap (λ s. sector_word (words_of (end_on e n v words).drive.pack) s k) (sym s)
    ∙ ap (λ w. sector_word (words_of w.drive.pack) (sector_of e) k) t
    ∙ ap (λ (q : Option PackState). sector_word (words_of q) (sector_of e) k) p
    ∙ written e words pack.words k size (subst (λ s. s < 6496) (sym s) whole) h
    ∙ same_word c e core words k quiet.command quiet.memory_address quiet.same_core

read_here : (c : ControlState) (core : List ℕ) (e : ControlState) (words : List ℕ) (n : ℕ) (v : DriveState) (k : ℕ) (pack : PackState)
    → IsQuiet c core e words → ends_read v ≡ true → v.pack ≡ Some pack → c.memory_address < 4096 → cell_of c k < length core
    → k < words_moved c → slice_index (end_on e n v words).core (cell_of c k) ≡ sector_word pack.words (sector_of c) k
read_here c core e words n v k pack quiet ends is hm hc hk =
    let two = both (is_over v.time_left) (is_read v.function) ends in
    let t : end_on e n v words ≡ transfer_end e v words = ended_transfer e n v words two.0 (read_is_no_seek v.function two.1) in
    let p : core_after e v.function v.pack words ≡ core_read e pack.words words = rw (is, two.1) refl in
    let s : sector_of e ≡ sector_of c = same_sector_of c e quiet.command quiet.disk_address in
    let x : cell_of e k ≡ cell_of c k = same_cell c e k quiet.command quiet.memory_address in
    let w : words_moved e ≡ words_moved c = same_moved c e quiet.command in
    let small : words_moved e ≤ 256 = few e in
    let few_words : k < words_moved e = subst (λ j. k < j) (sym w) hk in
    let inside : cell_of e k < length words = subst (λ j. j < length words) (sym x) (subst (λ l. cell_of c k < length l) (sym quiet.same_core) hc) in
    let low : e.memory_address < 4096 = subst (λ j. j < 4096) (sym quiet.memory_address) hm in
    let tiny : k < 4096 = omega arith in
    ap (λ j. slice_index (end_on e n v words).core j) (sym x) ∙ ap (λ a. slice_index a.core (cell_of e k)) t
    ∙ ap (λ (l : List ℕ). slice_index l (cell_of e k)) p ∙ moved_cell e pack.words words k low inside few_words tiny
    ∙ ap (λ j. sector_word pack.words j k) s

other_here : (c : ControlState) (core : List ℕ) (e : ControlState) (words : List ℕ) (n : ℕ) (v : DriveState) (cell : ℕ)
    → IsQuiet c core e words → cell < length core → is_reached c (words_moved c) cell ≡ false
    → slice_index (end_on e n v words).core cell ≡ slice_index core cell
other_here c core e words n v cell quiet h out =
    let same : slice_index words cell ≡ slice_index core cell = ap (λ (l : List ℕ). slice_index l cell) quiet.same_core in
    let inside : cell < length words = subst (λ l. cell < length l) (sym quiet.same_core) h in
    end_cases (λ a. slice_index a.core cell ≡ slice_index core cell) e n v words (λ _. same) (λ _. same)
    (λ _ _. other_cell e v.function v.pack words cell inside
    (same_reached c e cell quiet.command quiet.memory_address ∙ out) ∙ same)

-- ## The step

-- where a transfer of drive n is under way, or none is, no transfer of another drive ends
others_end_none : (d : DiskState) (n : ℕ) → IsSettled d → drive_number d.control ≡ n → (m : ℕ) → m < 4 → (m ≡ n → ⊥)
    → EndsNone (drive_of d m)
others_end_none d n settled number m hm other = λ over seek.
    other (sym (settled m hm (over_moves (drive_of d m) over seek)).drive ∙ number)

pub written_in_step : (d : DiskState) (core : List ℕ) (n k : ℕ) (pack : PackState) → IsSettled d → n < 4 → ends_write (drive_of d n) ≡ true
    → (drive_of d n).pack ≡ Some pack → length pack.words ≡ 1662976 → k < 256
    → map_word (after_ends d core).disk n (sector_of d.control) k ≡ word_written d.control core k
written_in_step d core n k pack settled hn ends is size h =
    let v = drive_of d n in
    let two = both (is_over v.time_left) (is_write v.function) ends in
    let under = settled n hn (over_moves v two.0 (write_is_no_seek v.function two.1)) in
    step_drive (λ w. sector_word (words_of w.pack) (sector_of d.control) k ≡ word_written d.control core k) d core n hn
    (others_end_none d n settled under.drive)
    (λ e words quiet. written_here d.control core e words n v k pack quiet ends is size under.sector h)

pub read_in_step : (d : DiskState) (core : List ℕ) (n k : ℕ) (pack : PackState) → IsSettled d → n < 4 → ends_read (drive_of d n) ≡ true
    → (drive_of d n).pack ≡ Some pack → d.control.memory_address < 4096 → cell_of d.control k < length core → k < words_moved d.control
    → slice_index (after_ends d core).core (cell_of d.control k) ≡ sector_word pack.words (sector_of d.control) k
read_in_step d core n k pack settled hn ends is hm hc hk =
    let v = drive_of d n in
    let two = both (is_over v.time_left) (is_read v.function) ends in
    let under = settled n hn (over_moves v two.0 (read_is_no_seek v.function two.1)) in
    step_core (λ l. slice_index l (cell_of d.control k) ≡ sector_word pack.words (sector_of d.control) k) d core n hn
    (others_end_none d n settled under.drive)
    (λ e words quiet. read_here d.control core e words n v k pack quiet ends is hm hc hk)

pub others_in_step : (d : DiskState) (core : List ℕ) (cell : ℕ) → IsSettled d → cell < length core
    → is_reached d.control (words_moved d.control) cell ≡ false → slice_index (after_ends d core).core cell ≡ slice_index core cell
others_in_step d core cell settled h out =
    let n = drive_number d.control in
    let hn : n < 4 = omega arith in
    step_core (λ l. slice_index l cell ≡ slice_index core cell) d core n hn (others_end_none d n settled refl)
    (λ e words quiet. other_here d.control core e words n (drive_of d n) cell quiet h out)
