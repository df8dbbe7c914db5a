use Rattle.program_laws.proofs.DiskLemmas.{due, idle-then, saved-rest, saved-then}
use Rattle.program_laws.proofs.disks.saved_disks.Goals as goal

pub returns-clause-when : goal.returns-clause-when
returns-clause-when g c = due

pub returns-clause-due : goal.returns-clause-due
returns-clause-due g c = saved-then

pub returns-clause-idle : goal.returns-clause-idle
returns-clause-idle g c = idle-then

pub returns-clause-end : goal.returns-clause-end
returns-clause-end g c form first places before after old result new r done = saved-rest r.after r.mid r.left r.ran.save r.between r.saved r.kept r.saves done
