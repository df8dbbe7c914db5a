use Rattle.std.proofs.Common.{◌≡◌, ◌+◌, ◌*◌, ◌≤◌, length, drop}
use Rattle.os8_dir.specs.Entries.{total}
use Rattle.os8_dir.specs.Segments.{words_of_entries}
use Rattle.os8_dir.specs.Steps.{with_words_from}
use Rattle.os8_dir.proofs.segments.put_entries.Given as goal

abbrev pub invariant-loop-entry : goal.invariant-loop-entry
invariant-loop-entry l = record {
  words : with_words_from l.segment l.at (words_of_entries l.info (drop l.entry-index l.entries)) ≡ with_words_from l.fn.segment 5 (words_of_entries l.info l.entries);
  fits : l.at + length (drop l.entry-index l.entries) * (5 + l.info) ≤ 256;
  small : total (drop l.entry-index l.entries) ≤ 4095;
}
