use Rattle.file_kind.proofs.judges.is_rim.Goals as goal

pub returns : goal.returns
returns c = c.is_want_of_memory.ensures c.args.frames.now c.in-Err.ensures
