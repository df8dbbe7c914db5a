use Rattle.std.proofs.Common.{◌+◌, ◌++◌, ◌∷◌, [], sym}
use Rattle.std.proofs.lemmas.Result.{err_from_is_err_and}
use Rattle.rim_tape.proofs.FrameLemmas.{open_more, mark_more, some_part}
use Rattle.rim_tape.proofs.frames.word_at.Goals as goal

pub returns-in_err-high-clause-fault : goal.returns-in_err-high-clause-fault
returns-in_err-high-clause-fault c = λ pairs part opened is short trailer.
    let p = err_from_is_err_and c.from_residual.result c.from_residual.ensures.1 in
    rw (p.1, p.2) (c.in_err-high.ensures.fault pairs part opened is trailer)

pub returns-in_err-low-clause-fault : goal.returns-in_err-low-clause-fault
returns-in_err-low-clause-fault c = λ pairs part opened is short trailer.
    let p = err_from_is_err_and c.from_residual-in_err-low.result c.from_residual-in_err-low.ensures.1 in rw (p.1, p.2)
    (c.in_err-low.ensures.fault pairs (part ++ (c.args.mark + c.in_ok-high.high) ∷ [])
    (open_more c.args.frames.now c.args.place c.args.mark c.in_ok-high.high pairs part opened is short c.in_ok-high.ensures.bits)
    (sym (mark_more part (c.args.mark + c.in_ok-high.high)))
    (λ _. some_part part (c.args.mark + c.in_ok-high.high)))
