-- What a run of the 8/E puts on paper: the frames that its steps punch, the characters that they print on the line printer, and lines of
-- transfers.
use Rattle.std.specs.Prelude.{◌≡◌, ℕ, zero, suc, Bool, true, if◌then◌else◌, option_to_list, List, [], ◌++◌, Result, Ok, Err}
use Rattle.pdp8e.specs.Papers.{PaperState, PapersState}
use Rattle.pdp8e.specs.State.{Pdp8e}
use Rattle.pdp8e.specs.Terminal.{Terminal, later, after_step, move_at}
use Rattle.pdp8e.specs.Transfers.{moved_text}
use Rattle.terminal8.specs.declared.outcomes.Ended.{Ended}
use Rattle.trace8.specs.declared.faults.TraceFault.{TraceFault}

-- the frame that a step punched, and the character that it printed on the line printer, if it did
abbrev pub frame_in : Pdp8e → List ℕ
frame_in m = option_to_list m.devices.punch.writing

abbrev pub character_in : Pdp8e → List ℕ
character_in m = option_to_list m.devices.printer.writing

-- the frames of so many steps, in their order
unfoldable pub frames_of : ℕ → Terminal → List ℕ
frames_of zero t = []
frames_of (suc k) t = frames_of k t ++ frame_in (after_step (later k t)).0

-- and the characters
unfoldable pub characters_of : ℕ → Terminal → List ℕ
characters_of zero t = []
characters_of (suc k) t = characters_of k t ++ character_in (after_step (later k t)).0

-- and the lines of transfers
unfoldable pub transfers_of : ℕ → Terminal → List ℕ
transfers_of zero t = []
transfers_of (suc k) t = transfers_of k t ++ moved_text (move_at (later k t))

-- A paper got these bytes after its own, where it keeps any and has room for all.
pub record GetsBytes (old new : PaperState) (bytes : List ℕ) : Type 0 where
  pub kept : new.kept ≡ old.kept
  pub sooner : new.whole ≡ true → old.whole ≡ true
  pub all : new.whole ≡ true → new.bytes ≡ old.bytes ++ (if old.kept then bytes else [])

-- Punch and line printer got what so many steps of a terminal wrote, and the third paper the lines of their transfers.
pub record GetSteps (steps : ℕ) (t : Terminal) (old new : PapersState) : Type 0 where
  pub punch : GetsBytes old.punch new.punch (frames_of steps t)
  pub printer : GetsBytes old.printer new.printer (characters_of steps t)
  pub transfers : GetsBytes old.transfers new.transfers (transfers_of steps t)

-- The terminal stands after so many steps, and they got what these wrote.
pub record GetSome (t t' : Terminal) (old new : PapersState) : Type 0 where
  pub steps : ℕ
  pub terminal : t' ≡ later steps t
  pub papers : GetSteps steps t old new

-- They got what the steps of a trace wrote, however it ended.
abbrev pub GetTraced : Terminal → Terminal → PapersState → PapersState → Result Ended TraceFault → Type 0
GetTraced t t' old new (Ok ended) = GetSteps ended.steps t old new
GetTraced t t' old new (Err fault) = GetSome t t' old new
