use Rattle.std.proofs.Common.{ℕ, List, Ok, Err, false, subst}
use Rattle.std.proofs.lemmas.Result.{err_from_is_err_and}
use Rattle.system_session.specs.Session.{state_of}
use Rattle.system_session.specs.RunSteps.{RunsPrefix, watch}
use Rattle.system_session.proofs.TextLemmas.{given_done, given_stopped}
use Rattle.system_session.proofs.sessions.Session.run_given.Goals as goal

pub returns-clause-told : goal.returns-clause-told
returns-clause-told g c first quiet =
    given_done c.args.pending.now.bytes.items c.consume.new.self.bytes.items c.in_ok-bytes.bytes c.in_ok-bytes.lines _ _ _ (watch g.K.Watcher.contents g.K.Watcher.was_shown first c.run_items.new.watcher) _ c.flush.result
    c.consume.ensures.bytes
    (subst (λ (l : List ℕ). RunsPrefix l false (state_of c.args.self.now) (state_of c.run_items.new.self) (watch g.K.Watcher.contents g.K.Watcher.was_shown first c.args.watcher.now) (watch g.K.Watcher.contents g.K.Watcher.was_shown first c.run_items.new.watcher) (Ok (c.in_ok-bytes.bytes, c.in_ok-bytes.lines))) c.deref.ensures.value (c.in_ok-bytes.ensures.told first quiet))
    (c.flush.ensures.ok first) c.flush.ensures.err (c.flush.ensures.shown first)

pub returns-in_err-bytes-clause-told : goal.returns-in_err-bytes-clause-told
returns-in_err-bytes-clause-told g c first quiet =
    let p = err_from_is_err_and c.from_residual.result c.from_residual.ensures.1 in
    rw (p.1, p.2) (given_stopped c.args.pending.now.bytes.items c.args.pending.now.bytes.items _ _ (watch g.K.Watcher.contents g.K.Watcher.was_shown first c.args.watcher.now) (watch g.K.Watcher.contents g.K.Watcher.was_shown first c.run_items.new.watcher) c.in_err-bytes.field-0.0
    (subst (λ (l : List ℕ). RunsPrefix l false (state_of c.args.self.now) (state_of c.run_items.new.self) (watch g.K.Watcher.contents g.K.Watcher.was_shown first c.args.watcher.now) (watch g.K.Watcher.contents g.K.Watcher.was_shown first c.run_items.new.watcher) (Err c.in_err-bytes.field-0.0)) c.deref.ensures.value (c.in_err-bytes.ensures.told first quiet)))
