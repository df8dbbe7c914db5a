use Rattle.std.proofs.Common.{arith}
use Rattle.file_kind.proofs.KindLemmas.{ended-tape, refused-none, whole-tape}
use Rattle.file_kind.proofs.judges.is_bin.Goals as goal

pub returns-in-Err : goal.returns-in-Err
returns-in-Err c =
    let read = c.loop-frame.invariant in
    refused-none c.first_closing.ensures c.args.frames.now c.loop-frame.frame-index c.in-Err.field-0 (omega (arith, c.loop-frame-test.true)) (c.in-Err.ensures.answer _ read.0 read.1)

pub returns-in-End : goal.returns-in-End
returns-in-End c =
    let read = c.loop-frame.invariant in
    ended-tape c.longer_tape.ensures c.args.frames.now c.loop-frame.frame-index read.0 c.in-Ok.tape (omega (arith, c.loop-frame-test.true)) c.in-End.is (c.in-Ok.ensures.answer _ read.0 read.1)

pub returns : goal.returns
returns c =
    let read = c.loop-frame.invariant in
    whole-tape c.args.frames.now c.loop-frame.frame-index read.0 c.end.result c.is_ok.result (omega (arith, c.loop-frame-test.false)) (c.end.ensures _ read.0 read.1) c.no_fault.ensures c.is_ok.ensures.value
