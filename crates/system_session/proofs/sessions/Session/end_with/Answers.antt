use Rattle.std.proofs.lemmas.Result.{err_from_is_err_and}
use Rattle.system_session.specs.RunSteps.{watch}
use Rattle.system_session.proofs.EntryLemmas.{on_ok}
use Rattle.system_session.proofs.TextLemmas.{refuse_done, refuse_stopped}
use Rattle.system_session.proofs.sessions.Session.end_with.Goals as goal

pub returns-in_err-refuse-in_default : goal.returns-in_err-refuse-in_default
returns-in_err-refuse-in_default g c =
    let p = err_from_is_err_and c.from_residual.result c.from_residual.ensures.1 in
    record {
      other = rw (p.1) tt;
      told = λ first. rw (p.1, p.2) (refuse_stopped _ c.args.why c.from.result c.in_err-refuse-in_default.field-0.0 (watch g.K.Watcher.contents g.K.Watcher.was_shown first c.args.watcher.now) (watch g.K.Watcher.contents g.K.Watcher.was_shown first c.refuse.new.watcher) (c.in_err-refuse-in_default.ensures.told first));
      same = c.refuse.ensures.same;
      stopped = rw (p.1, p.2) c.in_err-refuse-in_default.ensures.stopped;
      kept = c.refuse.ensures.kept;
    }

pub returns-in_ok-refuse-in_default : goal.returns-in_ok-refuse-in_default
returns-in_ok-refuse-in_default g c = record {
  other = on_ok c.flush.result c.in_default.not-Writer;
  told = λ first. refuse_done _ c.args.why c.from.result (watch g.K.Watcher.contents g.K.Watcher.was_shown first c.args.watcher.now) (watch g.K.Watcher.contents g.K.Watcher.was_shown first c.refuse.new.watcher) (watch g.K.Watcher.contents g.K.Watcher.was_shown first c.flush.new.watcher) c.flush.result
      (c.in_ok-refuse-in_default.ensures.told first) c.from.ensures (c.flush.ensures.ok first) c.flush.ensures.err (c.flush.ensures.shown first);
  same = c.refuse.ensures.same;
  stopped = c.flush.ensures.stopped;
  kept = λ first follows. c.flush.ensures.kept first (c.refuse.ensures.kept first follows);
}
