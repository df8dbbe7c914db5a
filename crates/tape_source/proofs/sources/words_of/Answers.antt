use Rattle.tape_source.proofs.sources.words_of.Goals as goal

pub returns-in-Err-clause-fault : goal.returns-in-Err-clause-fault
returns-in-Err-clause-fault c = c.fault_of.ensures c.args.frames.now c.in-Err.ensures
