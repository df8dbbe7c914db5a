use Rattle.rk8e.proofs.LawLemmas.{refused_drives, refused_busy}
use Rattle.rk8e.proofs.laws.refused_moves_nothing.Goals as goal

pub returns-clause-drives : goal.returns-clause-drives
returns-clause-drives c = refused_drives

pub returns-clause-busy : goal.returns-clause-busy
returns-clause-busy c = refused_busy
