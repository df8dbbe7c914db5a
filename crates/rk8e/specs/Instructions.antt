-- The instructions 6741 to 6747 (RK8-E, Small Computer Handbook), by their last octal digit. What the handbook leaves open is as
-- in SIMH's PDP-8.
use Rattle.std.specs.Prelude.{ℕ, ◌%◌, Bool, ◌&&◌, nat_eq, nat_le, is_some, is_none, if◌then◌else◌, bit_or}
use Rattle.rk8e.specs.State.{DiskState, new_control, drive_of, with_control, with_each, at_rest}
use Rattle.rk8e.specs.Command.{function_of, drive_number, cylinder_of, is_flagged, with_status}
use Rattle.rk8e.specs.Go.{go}

-- the busy error: a transfer is under way
abbrev pub busy_error : DiskState → DiskState
busy_error d = with_control d (with_status d.control 0o100)

-- the status becomes 0
abbrev pub with_no_status : DiskState → DiskState
with_no_status d = with_control d (record d.control { status = 0 })

-- ## DCLR (6742), by AC bits 10 and 11

-- 0: the status becomes 0; where a transfer is under way it becomes the busy error
abbrev pub status_cleared : DiskState → DiskState
status_cleared d = if d.control.busy then busy_error (with_no_status d) else with_no_status d

-- 1: all registers become 0, and each drive is at rest. A transfer then moves no word. Arms and locks stay.
abbrev pub control_cleared : DiskState → DiskState
control_cleared d = with_control (with_each at_rest d) (new_control d.control.seek_time d.control.disk_time)

-- 2: the status becomes 0, and the command's drive seeks cylinder 0, if no transfer is under way
abbrev pub after_recalibration : DiskState → DiskState
after_recalibration d = if d.control.busy then busy_error (with_no_status d) else go (with_no_status d) 3 0

-- 3: the status becomes 0
abbrev pub dclr_row : DiskState → ℕ → DiskState
dclr_row d ac =
    if nat_eq (ac % 4) 0 then status_cleared d
    else if nat_eq (ac % 4) 1 then control_cleared d
    else if nat_eq (ac % 4) 2 then after_recalibration d
    else with_no_status d

-- ## DLAG (6743), DLCA (6744) and DLDC (6746), which load a register from AC if no transfer is under way

-- DA is loaded, and the command's function begins
abbrev pub dlag_row : DiskState → ℕ → DiskState
dlag_row d ac =
    if d.control.busy then busy_error d
    else
    let loaded = record d.control { disk_address = ac } in
    go (with_control d loaded) (function_of loaded) (cylinder_of loaded)

-- MA is loaded
abbrev pub dlca_row : DiskState → ℕ → DiskState
dlca_row d ac = if d.control.busy then busy_error d else with_control d (record d.control { memory_address = ac })

-- the command is loaded, and the status becomes 0
abbrev pub dldc_row : DiskState → ℕ → DiskState
dldc_row d ac = if d.control.busy then busy_error d else with_control d (record d.control { command = ac; status = 0 })

-- ## All seven

-- DSKP (6741), DRST (6745), DMAN (6747) and 6740 leave the disk as it is
abbrev pub instruction_row : DiskState → ℕ → ℕ → DiskState
instruction_row d pulses ac =
    if nat_eq pulses 2 then dclr_row d ac
    else if nat_eq pulses 3 then dlag_row d ac
    else if nat_eq pulses 4 then dlca_row d ac
    else if nat_eq pulses 6 then dldc_row d ac
    else d

-- DSKP skips where the disk is flagged
abbrev pub instruction_skips : DiskState → ℕ → Bool
instruction_skips d pulses = nat_eq pulses 1 && is_flagged d.control

-- 0200 in what DRST gives: the command's drive has no pack
abbrev pub with_absence : DiskState → ℕ → ℕ
with_absence d status = if is_none (drive_of d (drive_number d.control)).pack then bit_or status 0o200 else status

-- DRST (6745) gives the status, and 2000 in it: the command's drive is not at rest
abbrev pub status_word : DiskState → ℕ
status_word d =
    if is_some (drive_of d (drive_number d.control)).time_left then bit_or (with_absence d d.control.status) 0o2000
    else with_absence d d.control.status

-- AC becomes what DRST gives. DSKP and 6740 leave it, and all others make it 0.
abbrev pub instruction_ac : DiskState → ℕ → ℕ → ℕ
instruction_ac d pulses ac =
    if nat_eq pulses 5 then status_word d
    else if nat_le pulses 1 then ac
    else 0
