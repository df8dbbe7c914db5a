use Rattle.std.proofs.Common.{inl, inr, arith}
use Rattle.rim_tape.proofs.FrameLemmas.{refused}
use Rattle.rim_tape.proofs.frames.bits_at.Goals as goal
use Rattle.rim_tape.proofs.frames.bits_at.Goals.{then-frame-mark-via-then-frame-mark, then-frame-mark-via-else-frame-mark+then-mark-frame}

pub returns-then-frame-mark-clause-fault : goal.returns-then-frame-mark-clause-fault
returns-then-frame-mark-clause-fault c = λ pairs part opened is trailer.
    refused c.args.frames.now c.args.place c.args.mark pairs part (omega arith) opened is trailer
    (elim c.then-frame-mark.branch [
      | then-frame-mark-via-then-frame-mark w ↦ inl (omega arith)
      | then-frame-mark-via-else-frame-mark+then-mark-frame w ↦ inr (omega arith)
    ])
