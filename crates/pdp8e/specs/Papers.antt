-- What a run puts on paper: the frames of the punch, the characters of the line printer, and a line of each transfer of a disk (this
-- project's profile).
use Rattle.std.specs.Prelude.{ℕ, ◌+◌, Bool, true, false, nat_le, if◌then◌else◌, Option, Some, None, List, [], ◌∷◌, ◌++◌, length}
use Rattle.rk8e.specs.declared.moves.Moved.{Moved}
use Rattle.pdp8e.specs.State.{Pdp8e}
use Rattle.pdp8e.specs.Transfers.{transfer_line}

pub record PaperState : Type 0 where
  -- what is put on it is kept; else it is dropped
  pub kept : Bool
  pub bytes : List ℕ
  -- no byte was lost for want of room
  pub whole : Bool

pub record PapersState : Type 0 where
  pub punch : PaperState
  pub printer : PaperState
  pub transfers : PaperState

-- a new paper is empty
abbrev pub new_paper : Bool → PaperState
new_paper kept = record { kept = kept; bytes = []; whole = true }

abbrev pub new_papers : Bool → Bool → Bool → PapersState
new_papers has_punch has_printer has_transfers =
    record { punch = new_paper has_punch; printer = new_paper has_printer; transfers = new_paper has_transfers }

-- so many bytes are on all three
abbrev pub papers_length : PapersState → ℕ
papers_length p = length p.punch.bytes + length p.printer.bytes + length p.transfers.bytes

-- a text more, where there is room for all of it: of 16777216 bytes
abbrev pub with_kept_text : List ℕ → PaperState → PaperState
with_kept_text text p = if nat_le (length p.bytes + length text) 16777216 then record p { bytes = p.bytes ++ text } else record p { whole = false }

-- a text is put on it, whole or not at all
abbrev pub with_text : List ℕ → PaperState → PaperState
with_text text p = if p.kept then with_kept_text text p else p

-- a byte is put on it, if there is one
abbrev pub with_byte_if : Option ℕ → PaperState → PaperState
with_byte_if None p = p
with_byte_if (Some byte) p = with_text (byte ∷ []) p

-- the line of a transfer is put on it, if one ended
abbrev pub with_line_if : Option Moved → PaperState → PaperState
with_line_if None p = p
with_line_if (Some moved) p = with_text (transfer_line moved) p

-- They get the frame that a step punched, and the character that it printed on the line printer. They get the line of the transfer that ended
-- in its beginning.
abbrev pub papers_after : Option Moved → Pdp8e → PapersState → PapersState
papers_after moved m p = record {
  punch = with_byte_if m.devices.punch.writing p.punch;
  printer = with_byte_if m.devices.printer.writing p.printer;
  transfers = with_line_if moved p.transfers;
}
