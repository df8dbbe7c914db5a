-- The operate instructions (Small Computer Handbook). Which words are unassigned, and that they stop the machine, is
-- this project's profile.
use Rattle.std.specs.Prelude.{ℕ, ◌+◌, ◌-◌, ◌*◌, ◌/◌, ◌%◌, Bool, false, ◌&&◌, ◌||◌, not, nat_eq, if◌then◌else◌, bit_or, List, None}
use Rattle.tty8.specs.Bits.{has}
use Rattle.cpu8.specs.State.{State}
use Rattle.cpu8.specs.Decoding.{is_group_1, is_group_2, has_cla, has_cll, has_cma, has_cml, has_rar, has_ral, rotates_twice, iac_of, has_sma, has_sza, has_snl, is_reversed, has_osr, has_hlt}
use Rattle.cpu8.specs.Reference.{after_fetch}
use Rattle.cpu8.specs.Rotation.{thirteen_bits, number_of, rotation_left, rotated_right}
use Rattle.cpu8.specs.declared.outcomes.Stepped.{Stepped}
use Rattle.cpu8.specs.declared.outcomes.Stepped.TheVariants.{Ran, Halted, Unassigned}

-- an unassigned word stops the machine, with PC at that word, and changes nothing else
abbrev pub unassigned_row : State → ℕ → State × Stepped
unassigned_row s w = (record s { running = false }, Unassigned w)

-- ## Group 1

-- a rotation both ways, or twice without a rotation
abbrev pub is_group1_unassigned : ℕ → Bool
is_group1_unassigned w = (has_rar w && has_ral w) || (rotates_twice w && not (has_rar w || has_ral w))

-- CLA clears AC, then CMA complements it
abbrev pub group1_ac : ℕ → ℕ → ℕ
group1_ac w ac =
    let cleared = if has_cla w then 0 else ac in
    if has_cma w then 0o7777 - cleared else cleared

-- CLL clears L, then CML complements it
abbrev pub group1_l : ℕ → ℕ → ℕ
group1_l w l =
    let cleared = if has_cll w then 0 else l in
    if has_cml w then 1 - cleared else cleared

-- then IAC adds one to L and AC as a number of thirteen bits
abbrev pub group1_sum : ℕ → ℕ → ℕ → ℕ
group1_sum w l ac = (0o10000 * group1_l w l + group1_ac w ac + iac_of w) % 0o20000

-- then RAR rotates L and AC right, and RAL left
abbrev pub rotation_of : ℕ → List ℕ → List ℕ
rotation_of w bs =
    if has_rar w then (if rotates_twice w then rotated_right (rotated_right bs) else rotated_right bs)
    else if has_ral w then (if rotates_twice w then rotation_left (rotation_left bs) else rotation_left bs)
    else bs

-- L and AC after group 1, as one number of thirteen bits
unfoldable pub group1_number : ℕ → ℕ → ℕ → ℕ
group1_number w l ac = number_of (rotation_of w (thirteen_bits (group1_sum w l ac)))

abbrev pub group1_done : State → ℕ → State
group1_done s w = record (after_fetch s) {
  l = group1_number w s.l s.ac / 0o10000;
  ac = group1_number w s.l s.ac % 0o10000;
}

abbrev pub group1_row : State → ℕ → State × Stepped
group1_row s w = if is_group1_unassigned w then unassigned_row s w else (group1_done s w, Ran None)

-- ## Group 2

-- a chosen condition holds: SMA that AC is negative, SZA that AC is 0, SNL that L is 1
abbrev pub is_met : ℕ → ℕ → ℕ → Bool
is_met w l ac = (has_sma w && has ac 0o4000) || ((has_sza w && nat_eq ac 0) || (has_snl w && nat_eq l 1))

-- the skip: if a chosen condition holds, or in the reversed sense if none does
abbrev pub group2_skips : ℕ → ℕ → ℕ → Bool
group2_skips w l ac = if is_reversed w then not (is_met w l ac) else is_met w l ac

-- then CLA clears AC, then OSR ors the switches into it
abbrev pub group2_ac : ℕ → ℕ → ℕ → ℕ
group2_ac w ac switches =
    let cleared = if has_cla w then 0 else ac in
    if has_osr w then bit_or cleared switches else cleared

-- then HLT halts
abbrev pub group2_done : State → ℕ → State
group2_done s w = record (after_fetch s) {
  pc = (s.pc + (if group2_skips w s.l s.ac then 2 else 1)) % 0o10000;
  ac = group2_ac w s.ac s.switches;
  running = if has_hlt w then false else s.running;
}

abbrev pub group2_row : State → ℕ → State × Stepped
group2_row s w = (group2_done s w, if has_hlt w then Halted else Ran None)

-- ## All groups; group 3 is unassigned

abbrev pub operate_row : State → ℕ → State × Stepped
operate_row s w =
    if is_group_1 w then group1_row s w
    else if is_group_2 w then group2_row s w
    else unassigned_row s w
