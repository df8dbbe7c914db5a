use Rattle.std.proofs.Common.{◌≡◌, ◌≤◌, length, take}
use Rattle.pal_lex.specs.Text.{text_of}
use Rattle.pal8_lex.specs.Text.{live}
use Rattle.pal8_tape.proofs.pauses.is_line_open.Given as goal

abbrev pub invariant-loop-left : goal.invariant-loop-left
invariant-loop-left l = record {
  same : live (text_of l.text) ≡ live (text_of (take l.left l.text));
  inside : l.left ≤ length l.text;
}

abbrev pub decreases-loop-left : goal.decreases-loop-left
decreases-loop-left l = l.left
