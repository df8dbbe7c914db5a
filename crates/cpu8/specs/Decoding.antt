-- What an instruction is known by (Small Computer Handbook). A bit is called by what it is worth.
use Rattle.std.specs.Prelude.{ℕ, ◌/◌, ◌%◌, Bool, true, false, ◌&&◌, nat_eq, if◌then◌else◌}
use Rattle.word12.specs.declared.sizes.TheConstants.{PAGE}
use Rattle.tty8.specs.Bits.{has}
use Rattle.cpu8.specs.declared.decoding.Operation.{Operation}
use Rattle.cpu8.specs.declared.decoding.Operation.TheVariants.{And, Tad, Isz, Dca, Jms, Jmp, Iot, Opr}
use Rattle.cpu8.specs.declared.decoding.Device.{Device}
use Rattle.cpu8.specs.declared.decoding.Device.TheVariants.{Interrupts, Keyboard, Printer, Fields, Other}

-- the operation: bits 0 to 2 of the word
abbrev pub operation_of : ℕ → Operation
operation_of word =
    if nat_eq (word / 0o1000) 0 then And
    else if nat_eq (word / 0o1000) 1 then Tad
    else if nat_eq (word / 0o1000) 2 then Isz
    else if nat_eq (word / 0o1000) 3 then Dca
    else if nat_eq (word / 0o1000) 4 then Jms
    else if nat_eq (word / 0o1000) 5 then Jmp
    else if nat_eq (word / 0o1000) 6 then Iot
    else Opr

-- ## References to memory

-- 0400: the reference is indirect
abbrev pub is_indirect : ℕ → Bool
is_indirect w = has w 0o400

-- 0200: the offset is in the current page, else in page zero
abbrev pub is_in_current_page : ℕ → Bool
is_in_current_page w = has w 0o200

-- the offset in the page: bits 5 to 11 of the word
abbrev pub offset_of : ℕ → ℕ
offset_of w = w % PAGE

-- ## Operate instructions. Group 1 has 0400 clear; group 2 has it set and 0001 clear; group 3 has both set.

abbrev pub is_group_1 : ℕ → Bool
is_group_1 w = nat_eq (w / 0o400 % 2) 0

abbrev pub is_group_2 : ℕ → Bool
is_group_2 w = nat_eq (w % 2) 0

-- 0200, of groups 1 and 2: AC is cleared
abbrev pub has_cla : ℕ → Bool
has_cla w = has w 0o200

-- 0100, of group 1: L is cleared
abbrev pub has_cll : ℕ → Bool
has_cll w = has w 0o100

-- 0040, of group 1: AC is complemented
abbrev pub has_cma : ℕ → Bool
has_cma w = has w 0o40

-- 0020, of group 1: L is complemented
abbrev pub has_cml : ℕ → Bool
has_cml w = has w 0o20

-- 0010, of group 1: L and AC are rotated right
abbrev pub has_rar : ℕ → Bool
has_rar w = has w 0o10

-- 0004, of group 1: L and AC are rotated left
abbrev pub has_ral : ℕ → Bool
has_ral w = has w 4

-- 0002, of group 1: twice
abbrev pub rotates_twice : ℕ → Bool
rotates_twice w = has w 2

-- 0001, of group 1: one is added, or none
abbrev pub iac_of : ℕ → ℕ
iac_of w = w % 2

-- 0100, of group 2: the condition that AC is negative
abbrev pub has_sma : ℕ → Bool
has_sma w = has w 0o100

-- 0040, of group 2: the condition that AC is 0
abbrev pub has_sza : ℕ → Bool
has_sza w = has w 0o40

-- 0020, of group 2: the condition that L is 1
abbrev pub has_snl : ℕ → Bool
has_snl w = has w 0o20

-- 0010, of group 2: the sense of the skip is reversed
abbrev pub is_reversed : ℕ → Bool
is_reversed w = has w 0o10

-- 0004, of group 2: the switches are or'ed into AC
abbrev pub has_osr : ℕ → Bool
has_osr w = has w 4

-- 0002, of group 2: the machine halts
abbrev pub has_hlt : ℕ → Bool
has_hlt w = has w 2

-- ## Input and output

-- the pulses of an IOT: bits 9 to 11 of the word
abbrev pub pulses_of : ℕ → ℕ
pulses_of word = word % 8

-- the device of an IOT, bits 3 to 8 of the word: 00 the interrupts, 03 the keyboard, 04 the printer, 20 to 27 the
-- extended memory
abbrev pub device_of : ℕ → Device
device_of word =
    if nat_eq (word / 0o10 % 0o100) 0 then Interrupts
    else if nat_eq (word / 0o10 % 0o100) 3 then Keyboard
    else if nat_eq (word / 0o10 % 0o100) 4 then Printer
    else if nat_eq (word / 0o100 % 8) 2 then Fields
    else Other

-- none of these is the device
abbrev pub is_other : Device → Bool
is_other Interrupts = false
is_other Keyboard = false
is_other Printer = false
is_other Fields = false
is_other Other = true

-- an IOT of a device that isn't there
abbrev pub is_absent : ℕ → Bool
is_absent w = nat_eq (w / 0o1000) 6 && is_other (device_of w)

-- the field that an IOT of the extended memory names: bits 6 to 8 of the word
abbrev pub field_of : ℕ → ℕ
field_of word = word / 0o10 % 8
