use Rattle.std.proofs.Common.{◌≡◌, ◌+◌, []}
use Rattle.os8_dir.specs.Files.{above_of}
use Rattle.os8_files.specs.Calls.{IsReady}
use Rattle.archive_files.specs.Squeezing.{AreMoved}
use Rattle.archive_files.proofs.squeezing.move_all.Given as goal

abbrev pub invariant-loop-moved : goal.invariant-loop-moved
invariant-loop-moved l = record {
  ready : IsReady l.files;
  free : l.files.holds ≡ [];
  moved : AreMoved l.moved l.fn.files l.files;
  above : l.moved + above_of l.files.blocks ≡ above_of l.fn.files.blocks;
}

abbrev pub decreases-loop-moved : goal.decreases-loop-moved
decreases-loop-moved l = above_of l.files.blocks
