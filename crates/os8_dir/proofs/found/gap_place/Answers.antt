use Rattle.std.proofs.Common.{◌≤◌, length, drop, arith, length-drop}
use Rattle.os8_dir.proofs.FoundLemmas.{gap_below-short}
use Rattle.os8_dir.proofs.found.gap_place.Goals as goal

pub returns-clause-range : goal.returns-clause-range
returns-clause-range c =
    let rest = drop c.loop-place.place c.args.entries.now in
    let short : length rest ≤ 1 = omega (arith, length-drop c.loop-place.place c.args.entries.now) in
    absurd (omega (arith, c.requires, c.loop-place.invariant.gap, gap_below-short c.args.name rest short))

pub returns-clause-list : goal.returns-clause-list
returns-clause-list c =
    let rest = drop c.loop-place.place c.args.entries.now in
    let short : length rest ≤ 1 = omega (arith, length-drop c.loop-place.place c.args.entries.now) in
    absurd (omega (arith, c.requires, c.loop-place.invariant.gap, gap_below-short c.args.name rest short))
