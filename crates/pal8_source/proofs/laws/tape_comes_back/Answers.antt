use Rattle.pal8_source.proofs.AgainLemmas.{comes_back, no_fault}
use Rattle.pal8_source.proofs.laws.tape_comes_back.Goals as goal

pub returns-clause-tape : goal.returns-clause-tape
returns-clause-tape c = comes_back c.one_is_itself.ensures c.one_reading.ensures c.written_tape.ensures

pub returns-clause-fault : goal.returns-clause-fault
returns-clause-fault c = no_fault c.one_is_itself.ensures
