-- The words that the 8/E and the 8/I have in common.
use Rattle.std.specs.Prelude.{◌≡◌, ℕ, ◌/◌, ◌%◌, Bool, true, false, ◌&&◌, ◌||◌, not, nat_eq, nat_le, if◌then◌else◌}
use Rattle.cpu8.specs.State.{State, grants_interrupt}
use Rattle.cpu8.specs.Decoding.{pulses_of, field_of, is_group_1, is_group_2}
use Rattle.cpu8.specs.Operate.{is_group1_unassigned}
use Rattle.cpu8.specs.Step.{next_word}
use Rattle.cpu8e.specs.Control.{is_control_of_8i}
use Rattle.cpu8e.specs.Console.{is_console_of_8i}
use Rattle.cpu8e.specs.Step.{is_jump, is_transfer}

-- of the memory extension all but CINT, SINT, CUF and SUF
abbrev pub is_common_field : ℕ → Bool
is_common_field w = not (nat_eq (pulses_of w) 4) || (nat_le 1 (field_of w) && nat_le (field_of w) 4)

-- Of the IOTs: ION, IOF and 6006. Of the console 6031, 6032, 6034, 6036, 6041, 6042, 6044, 6046. Of the memory extension those
-- above. All of devices that are not there.
abbrev pub is_common_transfer : ℕ → Bool
is_common_transfer w =
    if nat_eq (w / 0o10 % 0o100) 0 then is_control_of_8i w
    else if nat_eq (w / 0o10 % 0o100) 3 then is_console_of_8i w
    else if nat_eq (w / 0o10 % 0o100) 4 then is_console_of_8i w
    else if nat_eq (w / 0o100 % 8) 2 then is_common_field w
    else true

-- of the operates: group 1 without the words that are unassigned on the 8/I, and group 2
abbrev pub is_common_operate : ℕ → Bool
is_common_operate w = if is_group_1 w then not (is_group1_unassigned w) else is_group_2 w

-- whether a word is common: all references to memory and jumps are
abbrev pub is_common : ℕ → Bool
is_common w = if is_jump w then true else if is_transfer w then is_common_transfer w else is_common_operate w

-- the next step of an 8/I does nothing, is an interrupt, or has a common word
abbrev pub MeetsCommon : State → Type 0
MeetsCommon s = s.running ≡ true → grants_interrupt s ≡ false → is_common (next_word s) ≡ true
