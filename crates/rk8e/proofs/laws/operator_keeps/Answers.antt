use Rattle.rk8e.proofs.OperatorLemmas.{pack_settles, pack_guards, lock_settles, lock_guards}
use Rattle.rk8e.proofs.laws.operator_keeps.Goals as goal

pub returns-clause-pack_settles : goal.returns-clause-pack_settles
returns-clause-pack_settles c = pack_settles

pub returns-clause-pack_guards : goal.returns-clause-pack_guards
returns-clause-pack_guards c = pack_guards

pub returns-clause-lock_settles : goal.returns-clause-lock_settles
returns-clause-lock_settles c = lock_settles

pub returns-clause-lock_guards : goal.returns-clause-lock_guards
returns-clause-lock_guards c = lock_guards
