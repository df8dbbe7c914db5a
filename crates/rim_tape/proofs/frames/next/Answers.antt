use Rattle.std.proofs.Common.{[], refl, arith}
use Rattle.std.proofs.lemmas.Result.{err_from_is_err_and}
use Rattle.rim_tape.proofs.FrameLemmas.{trailer_ends, address_part, read_more, none_past}
use Rattle.rim_tape.proofs.frames.next.Goals as goal
use Rattle.rim_tape.proofs.frames.next.Goals.{else-place-frames-via-then-place-frames+else-frames-place, else-place-frames-via-else-place-frames}

pub returns-then-frames-place : goal.returns-then-frames-place
returns-then-frames-place c = λ pairs read. trailer_ends c.args.frames.now c.args.place pairs c.if-place-frames.true c.if-frames-place.true read

pub returns-in_err-address : goal.returns-in_err-address
returns-in_err-address c = λ pairs read.
    let p = err_from_is_err_and c.from_residual.result c.from_residual.ensures.1 in rw (p.1, p.2)
    (c.in_err-address.ensures.fault pairs [] read.is_open refl (omega arith)
    (λ is. elim c.else-place-frames.branch [
      | else-place-frames-via-then-place-frames+else-frames-place w ↦ absurd (w.if-frames-place.false is)
      | else-place-frames-via-else-place-frames w ↦ absurd (omega (arith, none_past c.args.frames.now c.args.place w.if-place-frames.false, is))
    ]))

pub returns-in_err-word : goal.returns-in_err-word
returns-in_err-word c = λ pairs read.
    let p = err_from_is_err_and c.from_residual-in_err-word.result c.from_residual-in_err-word.ensures.1 in rw (p.1, p.2)
    (c.in_err-word.ensures.fault pairs _
    (address_part c.args.frames.now c.args.place c.in_ok-address.address pairs read.is_open c.in_ok-address.ensures.word)
    refl (omega arith) (λ _. omega arith))

pub returns : goal.returns
returns c = λ pairs read.
    read_more c.args.frames.now c.args.place c.at.result c.in_ok-address.address c.in_ok-word.word pairs (omega arith) read
    c.in_ok-address.ensures.word c.in_ok-word.ensures.word
