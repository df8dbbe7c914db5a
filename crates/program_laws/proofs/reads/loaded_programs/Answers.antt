use Rattle.program_laws.proofs.ReadLemmas.{traced-program, typed-program}
use Rattle.program_laws.proofs.reads.loaded_programs.Goals as goal

pub returns-clause-typed : goal.returns-clause-typed
returns-clause-typed c form program old new p = typed-program form old program new p

pub returns-clause-traced : goal.returns-clause-traced
returns-clause-traced c form run old new p = traced-program form old run new p
