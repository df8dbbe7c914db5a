-- The operate instructions of the 8/E (Small Computer Handbook). What the handbook leaves open is as in SIMH's PDP-8.
use Rattle.std.specs.Prelude.{ℕ, ◌+◌, ◌*◌, ◌/◌, ◌%◌, Bool, true, ◌&&◌, ◌||◌, not, if◌then◌else◌, bit_and, bit_or, None}
use Rattle.word12.specs.declared.sizes.TheConstants.{PAGE}
use Rattle.tty8.specs.Bits.{has}
use Rattle.cpu8.specs.State.{State}
use Rattle.cpu8.specs.Decoding.{is_group_1, is_group_2, offset_of, has_cla, has_rar, rotates_twice, has_osr, has_hlt}
use Rattle.cpu8.specs.Reference.{after_fetch}
use Rattle.cpu8.specs.Transfer.{after_skip}
use Rattle.cpu8.specs.Operate.{is_group1_unassigned, group1_sum, group2_skips}
use Rattle.cpu8.specs.Operate as Pdp8i
use Rattle.cpu8.specs.declared.outcomes.Stepped.{Stepped}
use Rattle.cpu8.specs.declared.outcomes.Stepped.TheVariants.{Ran}
use Rattle.cpu8e.specs.State.{State8e, with_base, as_8i}

-- ## Group 1

-- bits 0 to 5 and 6 to 11 change places
abbrev pub byte_swap : ℕ → ℕ
byte_swap ac = 0o100 * (ac % 0o100) + ac / 0o100

-- AC after the last part of a word that is unassigned on the 8/I, by its bits 0010, 0004 and 0002. With 0002 alone that is BSW.
-- 0014 ands the instruction's own word into AC, and 0016 gives the direct address in the current page.
abbrev pub last_part : State → ℕ → ℕ → ℕ
last_part s w ac =
    if not (has_rar w) then byte_swap ac
    else if rotates_twice w then s.pc / PAGE * PAGE + offset_of w
    else bit_and ac w

-- such a word: clearing, complementing and IAC come first, as on the 8/I, and L stays then
abbrev pub bsw_result : State → ℕ → State
bsw_result s w = record (after_fetch s) {
  l = group1_sum w s.l s.ac / 0o10000;
  ac = last_part s w (group1_sum w s.l s.ac % 0o10000);
}

abbrev pub group1_row : State8e → ℕ → State8e × Stepped
group1_row s w =
    if is_group1_unassigned w then (with_base s (bsw_result s.base w), Ran None)
    else as_8i s (Pdp8i.group1_row s.base w)

-- ## Group 2

-- OSR and HLT are privileged
abbrev pub is_privileged : ℕ → Bool
is_privileged w = has_osr w || has_hlt w

-- in user mode skip and CLA are done, OSR and HLT are not, and the user request is set
abbrev pub refusal_of : State8e → ℕ → State8e
refusal_of s w = record s {
  base = record (after_skip s.base (group2_skips w s.base.l s.base.ac)) {
    ac = if has_cla w then 0 else s.base.ac;
  };
  user_request = true;
}

abbrev pub group2_row : State8e → ℕ → State8e × Stepped
group2_row s w =
    if s.user_flag && is_privileged w then (refusal_of s w, Ran None)
    else as_8i s (Pdp8i.group2_row s.base w)

-- ## Group 3. The other bits are an EAE's, and do nothing.

-- 0100: MQ is or'ed into AC
abbrev pub has_mqa : ℕ → Bool
has_mqa w = has w 0o100

-- 0020: AC is loaded into MQ, and cleared
abbrev pub has_mql : ℕ → Bool
has_mql w = has w 0o20

-- CLA comes first. MQA and MQL both look at AC and MQ as they are then: together they exchange them.
abbrev pub group3_done : State8e → ℕ → State8e
group3_done s w =
    let cleared = if has_cla w then 0 else s.base.ac in
    let kept = if has_mql w then 0 else cleared in
    record s {
      base = record (after_fetch s.base) { ac = if has_mqa w then bit_or kept s.mq else kept };
      mq = if has_mql w then cleared else s.mq;
    }

-- ## All groups

abbrev pub operate_row : State8e → ℕ → State8e × Stepped
operate_row s w =
    if is_group_1 w then group1_row s w
    else if is_group_2 w then group2_row s w
    else (group3_done s w, Ran None)
