use Rattle.os8_files.specs.Calls.{IsOf}
use Rattle.library_tests.proofs.files.write_blocks.Given as goal

abbrev pub invariant-loop-block : goal.invariant-loop-block
invariant-loop-block g l = IsOf l.files l.tentative
