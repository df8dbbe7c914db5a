use Rattle.std.proofs.Common.{arith}
use Rattle.history8.proofs.CopyLemmas.{copied-next, copied-all}
use Rattle.history8.proofs.checkpoints.copy_words.Goals as goal

pub loop-number-init : goal.loop-number-init
loop-number-init c = record { same = λ k below. absurd (omega (arith, below)); size = λ some. absurd (omega (arith, some)) }

pub loop-number-preserved : goal.loop-number-preserved
loop-number-preserved c =
    let i = c.loop-number.invariant in
    record {
      same = copied-next c.args.from.now c.loop-number.to c.set.new.self c.loop-number.number c.of-cell.result c.get.result i.same c.of-cell.ensures.number
          c.get.ensures.value c.set.ensures.value c.set.ensures.size c.loop-number-test.true;
      size = λ _. (c.get.ensures.size, c.set.ensures.size);
    }

pub returns : goal.returns
returns c =
    let i = c.loop-number.invariant in
    copied-all c.args.from.now c.loop-number.to c.loop-number.number c.loop-number-test.false (i.size (omega (arith, c.loop-number-test.false))) i.same
