use Rattle.std.proofs.Common.{[], ◌≤◌, ◌+◌, length, sym, arith}
use Rattle.std.proofs.lemmas.Result.{err_from_is_err_and}
use Rattle.rim_tape.specs.ReadSteps.{HasReadSome}
use Rattle.rim_tape.proofs.FrameLemmas.{some_read, none_read}
use Rattle.rim_tape.proofs.reading.judge.Goals as goal

pub loop-place-init : goal.loop-place-init
loop-place-init c = record { pairs = []; read = c.requires }

pub returns-in_err-next : goal.returns-in_err-next
returns-in_err-next c =
    let p = err_from_is_err_and c.from_residual.result c.from_residual.ensures.1 in
    rw (p.1, p.2) (c.in_err-next.ensures c.loop-place.invariant.pairs c.loop-place.invariant.read)

one_more : (c : goal.Then-is_some) → HasReadSome c.args.frames.now (c.loop-place.place + 4)
one_more c =
    some_read c.args.frames.now c.loop-place.place c.in_ok-next.field-0 (sym c.if-is_some.ensures) c.loop-place.invariant
    (c.in_ok-next.ensures c.loop-place.invariant.pairs c.loop-place.invariant.read)

pub loop-place-smaller : goal.loop-place-smaller
loop-place-smaller c = let within : c.loop-place.place + 4 ≤ length c.args.frames.now = (one_more c).read.within in omega arith

pub loop-place-preserved : goal.loop-place-preserved
loop-place-preserved c = one_more c

pub returns : goal.returns
returns c =
    none_read c.args.frames.now c.loop-place.place c.in_ok-next.field-0 (sym c.if-is_some.ensures) c.loop-place.invariant
    (c.in_ok-next.ensures c.loop-place.invariant.pairs c.loop-place.invariant.read)
