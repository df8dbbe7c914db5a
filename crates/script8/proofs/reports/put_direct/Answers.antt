use Rattle.std.proofs.Common.{arith}
use Rattle.script8.proofs.ReplyLemmas.{line_err, all_pieces, more_err, more_pieces}
use Rattle.script8.proofs.reports.put_direct.Goals as goal

pub returns-in_err-put_file-clause-err : goal.returns-in_err-put_file-clause-err
returns-in_err-put_file-clause-err c = line_err _ _ _ _ _ c.in_err-put_file.ensures.err c.loop-file.invariant.lines

pub returns-in_err-put_file-clause-capacity : goal.returns-in_err-put_file-clause-capacity
returns-in_err-put_file-clause-capacity c = omega (arith, c.loop-file.invariant.capacity, c.in_err-put_file.ensures.capacity)

pub returns-clause-ok : goal.returns-clause-ok
returns-clause-ok c = all_pieces _ _ _ _ _ _ _ _ c.loop-file-test.false c.put_free.ensures.ok c.loop-file.invariant.lines

pub returns-clause-err : goal.returns-clause-err
returns-clause-err c = more_err _ _ _ _ _ c.put_free.ensures.err c.loop-file.invariant.lines

pub returns-clause-capacity : goal.returns-clause-capacity
returns-clause-capacity c = omega (arith, c.loop-file.invariant.capacity, c.put_free.ensures.capacity)

pub loop-file-preserved : goal.loop-file-preserved
loop-file-preserved c = record {
  lines = more_pieces _ _ _ _ _ _ _ _ c.loop-file-test.true c.file-item.is c.loop-file.invariant.lines c.in_ok-put_file.ensures.ok;
  capacity = omega (arith, c.loop-file.invariant.capacity, c.in_ok-put_file.ensures.capacity);
}
