use Rattle.std.proofs.Common.{length, ap, sym, ◌∙◌, arith, false, true}
use Rattle.pal8_pools.specs.Cells.{pairs_left}
use Rattle.pal8_pools.proofs.CellLemmas.{comes, first_same, is_used_now, none_left, passes_one, passes}
use Rattle.pal8_pools.proofs.cells.CellsIterator.next.Goals as goal

pub loop-self-preserved-then-used-cell : goal.loop-self-preserved-then-used-cell
unfolding pairs_left
loop-self-preserved-then-used-cell c =
    let it = c.loop-self.self in
    record {
      same = sym (passes it.values.now it.counts.now it.punched.now (length it.punched.now) it.at c.from-used.result c.loop-self-test.true it.punched_are c.from-used.ensures c.if-used-cell.true)
          ∙ c.loop-self.invariant.same;
      values_stay = c.loop-self.invariant.values_stay;
      counts_stay = c.loop-self.invariant.counts_stay;
      punched_stay = c.loop-self.invariant.punched_stay;
    }

pub overflow_cast-cell : goal.overflow_cast-cell
overflow_cast-cell c = omega (arith, c.loop-self-test.true, c.loop-self.self.punched_are, c.loop-self.self.few)

pub of-requires : goal.of-requires
of-requires c = omega (arith, c.loop-self-test.true, c.loop-self.self.punched_are, c.loop-self.self.few)

pub returns-then-self-cell-clause-steps : goal.returns-then-self-cell-clause-steps
unfolding pairs_left
returns-then-self-cell-clause-steps c =
    let it = c.loop-self.self in
    sym c.loop-self.invariant.same
    ∙ comes it.values.now it.counts.now it.punched.now (length it.punched.now) it.at c.loop-self-test.true
    (is_used_now it.values.now it.counts.now it.punched.now it.at c.from-used.result c.from-used.ensures c.if-used-cell.false true c.if-self-cell.true)
    ∙ first_same (sym c.of.ensures.number) (sym c.word_of.ensures.value)

pub returns-then-self-cell-clause-goes : goal.returns-then-self-cell-clause-goes
returns-then-self-cell-clause-goes c =
    record { on = λ _. (tt, tt, omega (arith, ap length (returns-then-self-cell-clause-steps c))); keeps = tt; rests = λ _. tt }

pub loop-self-preserved : goal.loop-self-preserved
unfolding pairs_left
loop-self-preserved c =
    let it = c.loop-self.self in
    record {
      same = sym (passes_one it.values.now it.counts.now it.punched.now (length it.punched.now) it.at c.loop-self-test.true
          (is_used_now it.values.now it.counts.now it.punched.now it.at c.from-used.result c.from-used.ensures c.if-used-cell.false false c.if-self-cell.false)) ∙ c.loop-self.invariant.same;
      values_stay = c.loop-self.invariant.values_stay;
      counts_stay = c.loop-self.invariant.counts_stay;
      punched_stay = c.loop-self.invariant.punched_stay;
    }

pub returns-clause-steps : goal.returns-clause-steps
unfolding pairs_left
returns-clause-steps c =
    let it = c.loop-self.self in
    let none = none_left it.values.now it.counts.now it.punched.now (length it.punched.now) it.at c.loop-self-test.false in
    (sym c.loop-self.invariant.same ∙ none, none)
