use Rattle.std.proofs.Common.{refl}
use Rattle.program_laws.proofs.numbers.known_numbers.Goals as goal

pub returns-clause-memory : goal.returns-clause-memory
returns-clause-memory c = (refl, refl, refl)

pub returns-clause-blocks : goal.returns-clause-blocks
returns-clause-blocks c = (refl, refl, refl, refl)

pub returns-clause-volumes : goal.returns-clause-volumes
returns-clause-volumes c = (refl, refl)

pub returns-clause-files : goal.returns-clause-files
returns-clause-files c = (refl, refl, refl, refl, refl, refl)

pub returns-clause-packs : goal.returns-clause-packs
returns-clause-packs c = (refl, refl, refl)

pub returns-clause-sources : goal.returns-clause-sources
returns-clause-sources c = (refl, refl, refl, refl)

pub returns-clause-dates : goal.returns-clause-dates
returns-clause-dates c = (refl, refl, refl, refl)

pub returns-clause-lines : goal.returns-clause-lines
returns-clause-lines c = (refl, refl, refl)

pub returns-clause-tries : goal.returns-clause-tries
returns-clause-tries c = refl
