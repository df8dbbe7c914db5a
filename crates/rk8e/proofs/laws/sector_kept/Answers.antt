use Rattle.rk8e.proofs.LawLemmas.{packs_stay, packs_pass, packs_clear, sectors_end}
use Rattle.rk8e.proofs.laws.sector_kept.Goals as goal

pub returns-clause-instructions : goal.returns-clause-instructions
returns-clause-instructions c = packs_stay

pub returns-clause-time : goal.returns-clause-time
returns-clause-time c = packs_pass

pub returns-clause-clearing : goal.returns-clause-clearing
returns-clause-clearing c = packs_clear

pub returns-clause-ends : goal.returns-clause-ends
returns-clause-ends c = sectors_end
