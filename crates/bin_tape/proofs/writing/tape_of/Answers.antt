use Rattle.std.proofs.Common.{◌<◌, ◌≤◌, arith, ap, ◌∙◌, length, reverse}
use Rattle.std.proofs.lemmas.List.{take_all}
use Rattle.bin_tape.specs.Writing.{items_of, tape_of, tape_with}
use Rattle.bin_tape.proofs.WritingLemmas.{take_one, newest_one, are_pairs_one}
use Rattle.bin_tape.proofs.writing.tape_of.Goals as goal

pub loop-cell-preserved : goal.loop-cell-preserved
loop-cell-preserved c =
    let within : c.loop-cell.cell-index < length c.args.pairs.now = omega arith in
    let newest = newest_one c.args.pairs.now c.loop-cell.cell-index c.loop-cell-item.result within c.loop-cell-item.is in
    let pairs = take_one c.args.pairs.now c.loop-cell.cell-index c.loop-cell-item.result within c.loop-cell-item.is in
    record {
      holds = rw (newest, ← c.loop-cell.invariant.last) (c.in_ok-put_pair.ensures.put _ c.loop-cell.invariant.holds);
      last = rw newest;
      pairs = rw pairs (are_pairs_one _ c.loop-cell-item.result c.loop-cell.invariant.pairs c.put_pair.ensures.pair.0 c.put_pair.ensures.pair.1);
    }

pub returns-clause-tape : goal.returns-clause-tape
unfolding tape_of
returns-clause-tape c =
    let whole : length c.args.pairs.now ≤ c.loop-cell.cell-index = omega arith in
    c.in_ok-frames.ensures _ c.loop-cell.invariant.holds
    ∙ ap (λ pairs. tape_with (items_of (reverse pairs))) (take_all c.loop-cell.cell-index c.args.pairs.now whole)
