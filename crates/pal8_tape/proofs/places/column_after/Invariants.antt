use Rattle.std.proofs.Common.{◌≡◌, ◌+◌, ◌≤◌, take}
use Rattle.pal_lex.specs.Text.{text_of}
use Rattle.pal8_tape.specs.Places.{column_after}
use Rattle.pal8_tape.proofs.places.column_after.Given as goal

abbrev pub invariant-loop-byte : goal.invariant-loop-byte
invariant-loop-byte l = record {
  same : l.column ≡ column_after (text_of (take l.byte-index l.text));
  bound : l.column ≤ l.byte-index + 1;
}
