-- The command, the sector that it names, and the status (RK8-E, Small Computer Handbook).
use Rattle.std.specs.Prelude.{ℕ, ◌+◌, ◌*◌, ◌/◌, ◌%◌, Bool, ◌&&◌, ◌||◌, nat_eq, nat_le, if◌then◌else◌, bit_or}
use Rattle.rk8e.specs.State.{ControlState, DiskState}

-- whether the bit that is worth this much is set in a word
abbrev pub has : ℕ → ℕ → Bool
has word worth = nat_eq (word / worth % 2) 1

-- ## The command

-- 7000: 0 read, 1 read all, 2 write protect, 3 seek, 4 write, 5 write all. 6 and 7 move no word, as in SIMH's PDP-8.
abbrev pub function_of : ControlState → ℕ
function_of c = c.command / 0o1000

-- 0400: the disk may request an interrupt
abbrev pub has_interrupt : ControlState → Bool
has_interrupt c = has c.command 0o400

-- 0200: a seek sets done at its end too
abbrev pub has_seek_done : ControlState → Bool
has_seek_done c = has c.command 0o200

-- 0100: half a sector
abbrev pub words_moved : ControlState → ℕ
words_moved c = if has c.command 0o100 then 0o200 else 0o400

-- 0070: the field of memory
abbrev pub field_of : ControlState → ℕ
field_of c = c.command / 0o10 % 8

-- 0006: the drive
abbrev pub drive_number : ControlState → ℕ
drive_number c = c.command / 2 % 4

-- the number of the sector: 0001 of the command is its high bit, and DA the others
abbrev pub sector_of : ControlState → ℕ
sector_of c = 0o10000 * (c.command % 2) + c.disk_address

-- its cylinder has 32 sectors
abbrev pub cylinder_of : ControlState → ℕ
cylinder_of c = sector_of c / 32

abbrev pub is_read : ℕ → Bool
is_read function = nat_le function 1

abbrev pub is_write : ℕ → Bool
is_write function = nat_eq function 4 || nat_eq function 5

-- ## The status

-- a bit of the status is set: 4000 done, 0100 busy error, 0020 write lock error, 0002 the drive is not ready or has no such
-- cylinder
abbrev pub with_status : ControlState → ℕ → ControlState
with_status c bits = record c { status = bit_or c.status bits }

-- done, or an error
abbrev pub is_flagged : ControlState → Bool
is_flagged c = has c.status 0o4000 || (has c.status 0o100 || (has c.status 0o20 || has c.status 2))

-- the disk requests an interrupt: a level, by status and command alone
abbrev pub is_requesting : DiskState → Bool
is_requesting d = is_flagged d.control && has_interrupt d.control
