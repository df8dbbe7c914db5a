use Rattle.std.proofs.Common.{◌≡◌, ◌+◌, ◌≤◌, take}
use Rattle.pal_lex.specs.Text.{text_of}
use Rattle.source_places.specs.Places.{next_column}
use Rattle.source_places.proofs.places.next_column.Given as goal

abbrev pub invariant-loop-byte : goal.invariant-loop-byte
invariant-loop-byte l = record {
  same : l.column ≡ next_column (text_of (take l.byte-index l.text));
  bound : l.column ≤ l.byte-index + 1;
}
