use Rattle.std.proofs.lemmas.Result.{err_from_is_err_and}
use Rattle.system_session.specs.RunSteps.{watch}
use Rattle.system_session.proofs.TextLemmas.{end_done, end_stopped}
use Rattle.system_session.proofs.sessions.Session.run_end.Goals as goal

pub returns-in_err-_rest-clause-told : goal.returns-in_err-_rest-clause-told
returns-in_err-_rest-clause-told g c first quiet =
    let p = err_from_is_err_and c.from_residual.result c.from_residual.ensures.1 in
    rw (p.1, p.2) (end_stopped c.args.text.now _ _ (watch g.K.Watcher.contents g.K.Watcher.was_shown first c.args.watcher.now) (watch g.K.Watcher.contents g.K.Watcher.was_shown first c.run_items.new.watcher) c.in_err-_rest.field-0.0 (c.in_err-_rest.ensures.told first quiet))

pub returns-clause-told : goal.returns-clause-told
returns-clause-told g c first quiet = end_done c.args.text.now _ _ _ _ (watch g.K.Watcher.contents g.K.Watcher.was_shown first c.args.watcher.now) (watch g.K.Watcher.contents g.K.Watcher.was_shown first c.run_items.new.watcher) (c.in_ok-_rest.ensures.told first quiet)
