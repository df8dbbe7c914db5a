use Rattle.std.proofs.Common.{inl, inr}
use Rattle.tape_reports.proofs.rims.lines_of.Goals as goal

pub unreachable-requires : goal.unreachable-requires
unreachable-requires c =
    elim c.in-Err.ensures [
      | inl is ↦ c.in_default.not-Memory is
      | inr is ↦ c.no_fault.ensures c.args.frames.now c.requires.0 c.in-Err.fault c.requires.1 is
    ]
