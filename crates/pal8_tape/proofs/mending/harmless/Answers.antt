use Rattle.pal8_tape.proofs.mending.harmless.Goals as goal

pub loop-taken-preserved : goal.loop-taken-preserved
loop-taken-preserved c =
    let looked = c.in_ok-look.ensures c.loop-taken.invariant.read c.loop-taken.invariant.found in
    record { read = looked.1; found = looked.0 }
