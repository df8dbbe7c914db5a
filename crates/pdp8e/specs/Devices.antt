-- The other devices of a PDP-8/E: a PC8-E reader and punch of paper tape, an LE8 line printer and a DK8-EA clock (Small Computer
-- Handbook). That a frame and a character take no time is this project's profile.
use Rattle.std.specs.Prelude.{ℕ, Bool, true, false, ◌&&◌, ◌||◌, not, if◌then◌else◌, is_some, is_none, List, [], ◌∷◌, Option, None, Some}
use Rattle.rk8e.specs.Time.{time_after, is_over}

pub record ReaderState : Type 0 where
  -- the frames of the tape that are still to be read, if there is a tape
  pub tape : Option (List ℕ)
  -- the next frame is asked for, and comes in the beginning of the next step
  pub asked : Bool
  pub buffer : ℕ
  pub flag : Bool

-- the punch, or the line printer
pub record WriterState : Type 0 where
  -- the frame or character that the last step wrote; its end comes in the beginning of the next step
  pub writing : Option ℕ
  pub flag : Bool

pub record ClockState : Type 0 where
  pub flag : Bool
  -- CE: the flag requests interrupts
  pub enabled : Bool
  -- N: the instructions from tick to tick
  pub period : ℕ
  -- The instructions until the next tick. A clock that isn't there has none.
  pub time_left : Option ℕ

pub record DevicesState : Type 0 where
  pub reader : ReaderState
  pub punch : WriterState
  -- PE: the flags of reader and punch request interrupts
  pub tape_enabled : Bool
  pub printer : WriterState
  -- LE: the flag of the line printer requests interrupts
  pub printer_enabled : Bool
  -- the line printer has paper
  pub has_paper : Bool
  pub clock : ClockState

abbrev pub new_reader : ReaderState
new_reader = record { tape = None; asked = false; buffer = 0; flag = false }

abbrev pub new_writer : WriterState
new_writer = record { writing = None; flag = false }

abbrev pub new_clock : ClockState
new_clock = record { flag = false; enabled = false; period = 0; time_left = None }

-- devices with no tape to read, no paper and no clock
abbrev pub new_devices : DevicesState
new_devices = record {
  reader = new_reader;
  punch = new_writer;
  tape_enabled = true;
  printer = new_writer;
  printer_enabled = true;
  has_paper = false;
  clock = new_clock;
}

-- ## What the operator does

-- a tape of these frames is put into the reader
abbrev pub with_tape : DevicesState → List ℕ → DevicesState
with_tape d frames = record d { reader = record d.reader { tape = Some frames } }

-- paper is put into the line printer
abbrev pub with_paper : DevicesState → DevicesState
with_paper d = record d { has_paper = true }

-- there is a clock, which ticks after each so many instructions
abbrev pub with_clock : DevicesState → ℕ → DevicesState
with_clock d period = record d { clock = record d.clock { period = period; time_left = Some period } }

-- ## Clearing

abbrev pub reader_cleared : ReaderState → ReaderState
reader_cleared r = record { tape = r.tape; asked = false; buffer = 0; flag = false }

abbrev pub clock_cleared : ClockState → ClockState
clock_cleared c = record c { flag = false; enabled = false }

-- CAF makes flags and buffers 0. A frame that was asked for doesn't come, and PE and LE are 1. The tape stays where it is, and the
-- clock goes on.
abbrev pub devices_cleared : DevicesState → DevicesState
devices_cleared d = record {
  reader = reader_cleared d.reader;
  punch = new_writer;
  tape_enabled = true;
  printer = new_writer;
  printer_enabled = true;
  has_paper = d.has_paper;
  clock = clock_cleared d.clock;
}

-- a clock that begins to count anew, if it is there
abbrev pub clock_restarted : ClockState → ClockState
clock_restarted c = record { flag = false; enabled = false; period = c.period; time_left = if is_some c.time_left then Some c.period else None }

-- a start clears too, and the clock counts from there
abbrev pub devices_started : DevicesState → DevicesState
devices_started d = record (devices_cleared d) { clock = clock_restarted d.clock }

-- ## The beginning of a step

-- the first of these frames, if there is one
abbrev pub first_frame : List ℕ → Option ℕ
first_frame [] = None
first_frame (frame ∷ others) = Some frame

abbrev pub other_frames : List ℕ → List ℕ
other_frames [] = []
other_frames (frame ∷ others) = others

-- the next frame of the tape in the reader, if there is one, and the tape after it
abbrev pub frame_on : Option (List ℕ) → Option ℕ
frame_on None = None
frame_on (Some frames) = first_frame frames

abbrev pub rest_of : Option (List ℕ) → Option (List ℕ)
rest_of None = None
rest_of (Some frames) = Some (other_frames frames)

-- buffer and flag where a frame comes, and where none does
abbrev pub with_frame : ReaderState → Option ℕ → ReaderState
with_frame r None = r
with_frame r (Some frame) = record r { buffer = frame; flag = true }

-- the frame that was asked for comes, if the tape has one
abbrev pub reader_ended : ReaderState → ReaderState
reader_ended r = if r.asked then with_frame (record r { tape = rest_of r.tape; asked = false }) (frame_on r.tape) else r

-- what punch or line printer wrote is done
abbrev pub writer_ended : WriterState → WriterState
writer_ended w = if is_some w.writing then record { writing = None; flag = true } else w

-- the clock ticks where no instruction is left until then
abbrev pub clock_ended : ClockState → ClockState
clock_ended c = if is_over c.time_left then record c { flag = true; time_left = Some c.period } else c

abbrev pub devices_ended : DevicesState → DevicesState
devices_ended d = record d {
  reader = reader_ended d.reader;
  punch = writer_ended d.punch;
  printer = writer_ended d.printer;
  clock = clock_ended d.clock;
}

-- ## Time and requests

-- so many instructions pass for the clock
abbrev pub instructions_after : DevicesState → ℕ → DevicesState
instructions_after d count = record d { clock = record d.clock { time_left = time_after d.clock.time_left count } }

-- one does
abbrev pub devices_after : DevicesState → DevicesState
devices_after d = instructions_after d 1

-- a device requests an interrupt
abbrev pub are_requesting : DevicesState → Bool
are_requesting d =
    (d.tape_enabled && (d.reader.flag || d.punch.flag)) || ((d.printer_enabled && d.printer.flag) || (d.clock.enabled && d.clock.flag))

-- nothing ends by itself, and no clock is there
abbrev pub are_idle : DevicesState → Bool
are_idle d = not d.reader.asked && (is_none d.punch.writing && (is_none d.printer.writing && is_none d.clock.time_left))

-- nothing is under way, and no clock may interrupt
abbrev pub are_at_rest : DevicesState → Bool
are_at_rest d = not d.reader.asked && (is_none d.punch.writing && (is_none d.printer.writing && not (d.clock.enabled && is_some d.clock.time_left)))
