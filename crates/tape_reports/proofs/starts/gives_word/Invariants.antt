use Rattle.std.proofs.Common.{◌≡◌, ℕ, List, take}
use Rattle.bin_tape.specs.Reading.{HasRead}
use Rattle.tape_reports.specs.Starts.{gives_word}
use Rattle.tape_reports.proofs.starts.gives_word.Given as goal

-- the reader was given the frames so far, and one of the words that it handed out goes to the cell, or none
abbrev pub invariant-loop-frame : goal.invariant-loop-frame
invariant-loop-frame l = (out : List (ℕ × ℕ)) × HasRead l.reader (take l.frame-index l.frames) out × (l.is_given ≡ gives_word out l.cell)
