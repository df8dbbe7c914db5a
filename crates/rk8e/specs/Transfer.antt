-- How a function ends (RK8-E, Small Computer Handbook). All words of a transfer move in this one moment (this project's profile).
use Rattle.std.specs.Prelude.{ℕ, zero, suc, ◌+◌, ◌-◌, ◌*◌, ◌/◌, ◌%◌, min, max, Bool, true, false, ◌&&◌, ◌||◌, nat_eq, nat_lt, if◌then◌else◌, Option, Some, None, List, [], ◌∷◌, length, slice_index}
use Rattle.word12.specs.declared.sizes.TheConstants.{FIELD}
use Rattle.rk8e.specs.declared.sizes.TheConstants.{SECTOR, SECTORS}
use Rattle.rk8e.specs.declared.moves.Moved.{Moved}
use Rattle.rk8e.specs.Packs.{PackState, sector_word}
use Rattle.rk8e.specs.State.{ControlState, DriveState, DiskState, drive_of, with_drive, with_control, at_rest, with_pack}
use Rattle.rk8e.specs.Command.{has_seek_done, words_moved, field_of, drive_number, sector_of, is_read, is_write, with_status}
use Rattle.rk8e.specs.Time.{is_over}

-- the list of so many numbers, each by its index
unfoldable pub numbers : ℕ → (ℕ → ℕ) → List ℕ
numbers zero number = []
numbers (suc count) number = number 0 ∷ numbers count (λ k. number (suc k))

-- ## Which cells and words belong together

-- the cell of word k: a transfer that passes 7777 goes on at 0000 of the same field
abbrev pub cell_of : ControlState → ℕ → ℕ
cell_of c k = FIELD * field_of c + (c.memory_address + k) % FIELD

-- the word of an address of the field
abbrev pub place_of : ControlState → ℕ → ℕ
place_of c address = (address + FIELD - c.memory_address) % FIELD

-- whether a cell belongs to one of the first words, so many
abbrev pub is_reached : ControlState → ℕ → ℕ → Bool
is_reached c count cell = nat_eq (cell / FIELD) (field_of c) && nat_lt (place_of c (cell % FIELD)) count

-- ## Functions 0 and 1 give the cells the sector's words

-- the word of a cell, where so many words are moved
abbrev pub word_read : ControlState → ℕ → List ℕ → List ℕ → ℕ → ℕ
word_read c count words core cell =
    if is_reached c count cell then sector_word words (sector_of c) (place_of c (cell % FIELD)) else slice_index core cell

abbrev pub core_read : ControlState → List ℕ → List ℕ → List ℕ
core_read c words core = numbers (length core) (word_read c (words_moved c) words core)

-- ## Functions 4 and 5 give the sector the cells' words. Where half a sector is moved, the other half is zeros.

-- word k of the sector
abbrev pub word_written : ControlState → List ℕ → ℕ → ℕ
word_written c core k = if nat_lt k (words_moved c) then slice_index core (cell_of c k) else 0

-- word i of the pack, where so many words of the sector are written
abbrev pub pack_word : ControlState → ℕ → List ℕ → List ℕ → ℕ → ℕ
pack_word c count core words i =
    if nat_eq (i / SECTOR) (sector_of c) && nat_lt (i % SECTOR) count then word_written c core (i % SECTOR)
    else slice_index words i

abbrev pub words_written : ControlState → List ℕ → List ℕ → List ℕ
words_written c core words = numbers (length words) (pack_word c SECTOR core words)

-- the file has the sector too
abbrev pub pack_written : ControlState → PackState → List ℕ → PackState
pack_written c pack core = record {
  words = words_written c core pack.words;
  sectors = min (max pack.sectors (sector_of c + 1)) SECTORS;
  changed = true;
}

-- ## The end of a function

-- the core after a transfer
abbrev pub core_after : ControlState → ℕ → Option PackState → List ℕ → List ℕ
core_after c function None core = core
core_after c function (Some pack) core = if is_read function then core_read c pack.words core else core

-- the pack after it
abbrev pub pack_after : ControlState → ℕ → Option PackState → List ℕ → Option PackState
pack_after c function None core = None
pack_after c function (Some pack) core = if is_write function then Some (pack_written c pack core) else Some pack

-- what it moved, if it moves words: sector, first cell, how many
abbrev pub transfer_of : ControlState → ℕ → Option Moved
transfer_of c function =
    if is_read function || is_write function then
    Some (record {
      drive = drive_number c;
      sector = sector_of c;
      cell = cell_of c 0;
      words = words_moved c;
      is_write = is_write function;
    })
    else None

-- MA is past the words, no transfer is under way, and the status has done
abbrev pub transfer_done : ControlState → ControlState
transfer_done c = record (with_status c 0o4000) {
  memory_address = (c.memory_address + words_moved c) % FIELD;
  busy = false;
}

-- A seek sets done at its end only where the command has 0200, and this drive.
abbrev pub seek_done : ControlState → ℕ → ControlState
seek_done c n = if nat_eq (drive_number c) n && has_seek_done c then with_status c 0o4000 else c

-- what an end leaves
pub record DriveEnd : Type 0 where
  pub control : ControlState
  pub drive : DriveState
  pub core : List ℕ
  pub moved : Option Moved

abbrev pub no_end : ControlState → DriveState → List ℕ → DriveEnd
no_end c drive core = record { control = c; drive = drive; core = core; moved = None }

abbrev pub seek_end : ControlState → ℕ → DriveState → List ℕ → DriveEnd
seek_end c n drive core = record { control = seek_done c n; drive = at_rest drive; core = core; moved = None }

abbrev pub transfer_end : ControlState → DriveState → List ℕ → DriveEnd
transfer_end c drive core = record {
  control = transfer_done c;
  drive = with_pack (at_rest drive) (pack_after c drive.function drive.pack core);
  core = core_after c drive.function drive.pack core;
  moved = transfer_of c drive.function;
}

-- the end of the function of drive n, if no time is left of it
unfoldable pub end_on : ControlState → ℕ → DriveState → List ℕ → DriveEnd
end_on c n drive core =
    if is_over drive.time_left then
    (if nat_eq drive.function 3 then seek_end c n drive core else transfer_end c drive core)
    else no_end c drive core

-- what an end leaves of the whole disk
pub record DiskEnd : Type 0 where
  pub disk : DiskState
  pub core : List ℕ
  pub moved : Option Moved

abbrev pub after_end : DiskState → ℕ → List ℕ → DiskEnd
after_end d n core =
    let ended = end_on d.control n (drive_of d n) core in
    record { disk = with_drive (with_control d ended.control) n ended.drive; core = ended.core; moved = ended.moved }

-- of two transfers the first, if there is one
abbrev pub first_of : Option Moved → Option Moved → Option Moved
first_of None b = b
first_of (Some a) b = Some a

-- All that has no time left ends, the drives in rising order.
abbrev pub after_ends : DiskState → List ℕ → DiskEnd
after_ends d core =
    let a = after_end d 0 core in
    let b = after_end a.disk 1 a.core in
    let c = after_end b.disk 2 b.core in
    let e = after_end c.disk 3 c.core in
    record { disk = e.disk; core = e.core; moved = first_of (first_of a.moved b.moved) (first_of c.moved e.moved) }
