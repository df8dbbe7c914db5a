use Rattle.std.proofs.Common.{sym, subst}
use Rattle.os8_files.specs.Calls.{IsOf}
use Rattle.library_tests.proofs.Tokens.{written-of}
use Rattle.library_tests.proofs.files.write_blocks.Goals as goal

pub loop-block-preserved : goal.loop-block-preserved
loop-block-preserved g c = subst (λ token. IsOf c.write.new.self token) (sym c.in-Ok.ensures.token) (written-of _ _ _ _ c.in-Ok.ensures.call c.loop-block.invariant)
