use Rattle.program_laws.proofs.DiskLemmas.{filed-rest, grown, grown-then}
use Rattle.program_laws.proofs.disks.saved_papers.Goals as goal

pub returns-clause-when : goal.returns-clause-when
returns-clause-when g c = grown

pub returns-clause-grown : goal.returns-clause-grown
returns-clause-grown g c = grown-then

pub returns-clause-end : goal.returns-clause-end
returns-clause-end g c form first places before after old result new r done = filed-rest r.after r.mid r.left r.ran.save r.between r.saved r.kept r.saves done
