use Rattle.std.proofs.Common.{◌≡◌, ◌++◌, take, drop}
use Rattle.os8_dir.specs.Changes.{gap_below, with_file_lower}
use Rattle.os8_dir.proofs.found.gap_place.Given as goal

abbrev pub invariant-loop-place : goal.invariant-loop-place
invariant-loop-place l = record {
  list : with_file_lower l.name l.entries ≡ take l.place l.entries ++ with_file_lower l.name (drop l.place l.entries);
  gap : gap_below l.name l.entries ≡ gap_below l.name (drop l.place l.entries);
}
