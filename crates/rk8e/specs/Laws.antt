-- What the laws say of every disk.
use Rattle.std.specs.Prelude.{◌≡◌, ℕ, ◌<◌, Bool, true, false, ◌&&◌, ◌||◌, not, nat_eq, nat_lt, is_some, is_none, Option, Some, None, List, []}
use Rattle.rk8e.specs.declared.sizes.TheConstants.{SECTORS}
use Rattle.rk8e.specs.Packs.{PackState, sector_word}
use Rattle.rk8e.specs.State.{ControlState, DriveState, DiskState, drive_of}
use Rattle.rk8e.specs.Command.{drive_number, sector_of, is_read, is_write}
use Rattle.rk8e.specs.Time.{is_over}

-- the words of a pack; without one there are none
abbrev pub words_of : Option PackState → List ℕ
words_of None = []
words_of (Some pack) = pack.words

-- word k of a sector of drive n
abbrev pub map_word : DiskState → ℕ → ℕ → ℕ → ℕ
map_word d n sector k = sector_word (words_of (drive_of d n).pack) sector k

-- a function that writes ends now
abbrev pub ends_write : DriveState → Bool
ends_write drive = is_over drive.time_left && is_write drive.function

-- a function that reads ends now
abbrev pub ends_read : DriveState → Bool
ends_read drive = is_over drive.time_left && is_read drive.function

-- a write is under way on a drive
abbrev pub is_writing : DriveState → Bool
is_writing drive = is_some drive.time_left && is_write drive.function

-- no write is under way on a locked drive
abbrev pub IsGuarded : DriveState → Type 0
IsGuarded drive = drive.locked ≡ true → is_writing drive ≡ false

abbrev pub AreGuarded : DiskState → Type 0
AreGuarded d = (n : ℕ) → IsGuarded (drive_of d n)

-- The command's drive refuses a function at a cylinder. It has no pack, it is not at rest, it has no such cylinder, or it is locked
-- and the function writes.
abbrev pub refuses : DiskState → ℕ → ℕ → Bool
refuses d function cylinder =
    let drive = drive_of d (drive_number d.control) in
    is_none drive.pack || ((is_some drive.time_left || nat_lt 202 cylinder) || (is_write function && drive.locked))

-- a transfer is under way on a drive
abbrev pub has_transfer : DriveState → Bool
has_transfer drive = is_some drive.time_left && not (nat_eq drive.function 3)

-- what the registers say of a transfer that is under way on drive n
pub record IsUnderWay (c : ControlState) (n : ℕ) : Type 0 where
  pub busy : c.busy ≡ true
  pub drive : drive_number c ≡ n
  pub sector : sector_of c < SECTORS

-- a transfer that is under way is that of the registers: so there is one at most
abbrev pub IsSettled : DiskState → Type 0
IsSettled d = (n : ℕ) → n < 4 → has_transfer (drive_of d n) ≡ true → IsUnderWay d.control n
