use Rattle.program_laws.proofs.AssembleLemmas.{assemble-ends}
use Rattle.program_laws.proofs.laws.ended_assemblies.Goals as goal

pub returns : goal.returns
returns c form named name old result new from onto list p =
    assemble-ends c.found_again.ensures.saved c.found_again.ensures.unsaved form named name from onto list old result new p
