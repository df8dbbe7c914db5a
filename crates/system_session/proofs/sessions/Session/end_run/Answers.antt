use Rattle.std.proofs.lemmas.Result.{err_from_is_err_and}
use Rattle.system_session.specs.RunSteps.{watch}
use Rattle.system_session.proofs.TextLemmas.{ended_so, ended_stopped}
use Rattle.system_session.proofs.sessions.Session.end_run.Goals as goal

pub returns-in_default-clause-ended : goal.returns-in_default-clause-ended
returns-in_default-clause-ended g c first = (c.in_default.is, c.in_ok-flush.ensures.ok first)

pub returns-in_err-end_with-clause-ended : goal.returns-in_err-end_with-clause-ended
returns-in_err-end_with-clause-ended g c first =
    let p = err_from_is_err_and c.from_residual-in_err-end_with.result c.from_residual-in_err-end_with.ensures.1 in
    rw (p.1) (ended_stopped _ c.args.run c.in-Err.ending c.in_err-end_with.field-0.0 p.0 (watch g.K.Watcher.contents g.K.Watcher.was_shown first c.args.watcher.now) (watch g.K.Watcher.contents g.K.Watcher.was_shown first c.end_with.new.watcher) (c.in_err-end_with.ensures.told first) p.2)

pub returns-clause-ended : goal.returns-clause-ended
returns-clause-ended g c first = ended_so _ c.args.run c.in-Err.ending c.from-why.result (watch g.K.Watcher.contents g.K.Watcher.was_shown first c.args.watcher.now) (watch g.K.Watcher.contents g.K.Watcher.was_shown first c.end_with.new.watcher) (c.in_ok-end_with.ensures.told first) c.in-Err.is c.from-why.ensures
