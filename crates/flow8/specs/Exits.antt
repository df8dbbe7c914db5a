-- Where a program goes on after an instruction, as far as its word shows (Small Computer Handbook): at most two cells.
use Rattle.std.specs.Prelude.{◌≡◌, ◌⊎◌, ℕ, ◌+◌, ◌*◌, ◌/◌, ◌%◌, ◌||◌, nat_eq, if◌then◌else◌, Option, Some, None}
use Rattle.word12.specs.declared.sizes.TheConstants.{FIELD, PAGE}
use Rattle.tty8.specs.Bits.{has}
use Rattle.cpu8.specs.State.{place}
use Rattle.cpu8.specs.Decoding.{pulses_of, is_indirect, is_group_1, is_group_2, has_sma, has_sza, has_snl, is_reversed, has_hlt}
use Rattle.cpu8.specs.Operate.{is_group1_unassigned}

-- the cell so many words after this one, in its field
abbrev pub cell_after : ℕ → ℕ → ℕ
cell_after count cell = place (cell / FIELD) ((cell % FIELD + count) % FIELD)

-- the address that a memory reference at an address has: on page zero, or on its own page where the page bit, 0200, is set
abbrev pub address_of_reference : ℕ → ℕ → ℕ
address_of_reference at word = if nat_eq (word / 0o200 % 2) 0 then word % PAGE else PAGE * (at / PAGE) + word % PAGE

-- the cell that a memory reference in a cell names: the one of its field at that address
abbrev pub referred_cell : ℕ → ℕ → ℕ
referred_cell cell word = place (cell / FIELD) (address_of_reference (cell % FIELD) word)

-- ## Kinds of ends

abbrev pub stops : Option ℕ × Option ℕ
stops = (None, None)

abbrev pub goes_on : ℕ → Option ℕ × Option ℕ
goes_on cell = (Some (cell_after 1 cell), None)

abbrev pub may_skip : ℕ → Option ℕ × Option ℕ
may_skip cell = (Some (cell_after 1 cell), Some (cell_after 2 cell))

abbrev pub skips : ℕ → Option ℕ × Option ℕ
skips cell = (Some (cell_after 2 cell), None)

-- ## Instructions

-- a subroutine begins after the cell that the JMS names, and comes back after the JMS
abbrev pub jms_exits : ℕ → ℕ → Option ℕ × Option ℕ
jms_exits cell word = (Some (cell_after 1 cell), if is_indirect word then None else Some (cell_after 1 (referred_cell cell word)))

abbrev pub jmp_exits : ℕ → ℕ → Option ℕ × Option ℕ
jmp_exits cell word = (if is_indirect word then None else Some (referred_cell cell word), None)

-- once ION turned interrupts on, one may come: it goes to cell 1 of field 0
abbrev pub ion_exits : ℕ → Option ℕ × Option ℕ
ion_exits cell = (Some (cell_after 1 cell), Some 1)

-- 6001 is ION; pulse 1 of the keyboard, 603, and of the printer, 604, skips where the flag is set (KSF, TSF)
abbrev pub iot_exits : ℕ → ℕ → Option ℕ × Option ℕ
iot_exits cell word =
    if nat_eq (word / 0o10 % 0o100) 0 then (if nat_eq (pulses_of word) 1 then ion_exits cell else goes_on cell)
    else if nat_eq (word / 0o10 % 0o100) 3 then (if has (pulses_of word) 1 then may_skip cell else goes_on cell)
    else if nat_eq (word / 0o10 % 0o100) 4 then (if has (pulses_of word) 1 then may_skip cell else goes_on cell)
    else goes_on cell

-- an operate of group 2 skips where a condition of SMA, SZA and SNL holds; SKP always does; after HLT nothing comes
abbrev pub group2_exits : ℕ → ℕ → Option ℕ × Option ℕ
group2_exits cell word =
    if has_hlt word then stops
    else (if has_sma word || (has_sza word || has_snl word) then may_skip cell
    else (if is_reversed word then skips cell else goes_on cell))

-- an unassigned word stops the machine
abbrev pub operate_exits : ℕ → ℕ → Option ℕ × Option ℕ
operate_exits cell word =
    if is_group_1 word then (if is_group1_unassigned word then stops else goes_on cell)
    else (if is_group_2 word then group2_exits cell word else stops)

-- The cells at which the program goes on after the instruction of this word in this cell. The operations are AND, TAD, ISZ, DCA,
-- JMS, JMP, IOT and OPR.
abbrev pub exits : ℕ → ℕ → Option ℕ × Option ℕ
exits cell word =
    if nat_eq (word / 0o1000) 0 then goes_on cell
    else if nat_eq (word / 0o1000) 1 then goes_on cell
    else if nat_eq (word / 0o1000) 2 then may_skip cell
    else if nat_eq (word / 0o1000) 3 then goes_on cell
    else if nat_eq (word / 0o1000) 4 then jms_exits cell word
    else if nat_eq (word / 0o1000) 5 then jmp_exits cell word
    else if nat_eq (word / 0o1000) 6 then iot_exits cell word
    else operate_exits cell word

-- one of them
abbrev pub IsExit : ℕ → ℕ → ℕ → Type 0
IsExit cell word next = ((exits cell word).0 ≡ Some next) ⊎ ((exits cell word).1 ≡ Some next)
