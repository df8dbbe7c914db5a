use Rattle.std.proofs.Common.{◌≤◌, ◌<◌, Ok, subst, arith, length}
use Rattle.std.proofs.lemmas.Result.{err_from_is_err_and}
use Rattle.system_session.specs.Session.{state_of}
use Rattle.system_session.specs.RunSteps.{RunsNext, IsBegun, watch}
use Rattle.system_session.specs.declared.pending.Begun.{Begun}
use Rattle.system_session.proofs.QuietLemmas.{quiet_first, quiet_second, later_trans}
use Rattle.system_session.proofs.TextLemmas.{up_to_next, up_to_stopped, up_to_waiting}
use Rattle.system_session.proofs.sessions.Session.run_items.Goals as goal

pub returns-in_err-lines-clause-told : goal.returns-in_err-lines-clause-told
returns-in_err-lines-clause-told g c first quiet =
    let p = err_from_is_err_and c.from_residual.result c.from_residual.ensures.1 in
    let before = quiet_first _ c.loop-lines.self _ quiet c.loop-lines.invariant.later c.run_next.ensures.later in
    let following = quiet_second _ c.loop-lines.self _ quiet c.loop-lines.invariant.later c.run_next.ensures.later (c.loop-lines.invariant.running before) in
    rw (p.1, p.2) (up_to_stopped c.args.text.now c.split_at.result.1.now c.args.is_end c.loop-lines.done (state_of c.args.self.now) (state_of c.loop-lines.self) (state_of c.run_next.new.self)
    (watch g.K.Watcher.contents g.K.Watcher.was_shown first c.args.watcher.now) (watch g.K.Watcher.contents g.K.Watcher.was_shown first c.loop-lines.watcher) (watch g.K.Watcher.contents g.K.Watcher.was_shown first c.run_next.new.watcher) c.in_err-lines.field-0.0
    c.split_at.ensures.back (c.loop-lines.invariant.told first before) (c.in_err-lines.ensures.told first following))

pub returns-in-Waiting-clause-told : goal.returns-in-Waiting-clause-told
returns-in-Waiting-clause-told g c first quiet =
    let before = quiet_first _ c.loop-lines.self _ quiet c.loop-lines.invariant.later c.run_next.ensures.later in
    let following = quiet_second _ c.loop-lines.self _ quiet c.loop-lines.invariant.later c.run_next.ensures.later (c.loop-lines.invariant.running before) in
    up_to_waiting c.args.text.now c.split_at.result.1.now c.args.is_end c.loop-lines.done c.in-Waiting.lines (state_of c.args.self.now) (state_of c.loop-lines.self) (state_of c.run_next.new.self)
    (watch g.K.Watcher.contents g.K.Watcher.was_shown first c.args.watcher.now) (watch g.K.Watcher.contents g.K.Watcher.was_shown first c.loop-lines.watcher) (watch g.K.Watcher.contents g.K.Watcher.was_shown first c.run_next.new.watcher)
    c.split_at.ensures.back (c.loop-lines.invariant.told first before)
    (subst (λ (o : Begun). RunsNext c.split_at.result.1.now c.args.is_end (state_of c.loop-lines.self) (state_of c.run_next.new.self) (watch g.K.Watcher.contents g.K.Watcher.was_shown first c.loop-lines.watcher) (watch g.K.Watcher.contents g.K.Watcher.was_shown first c.run_next.new.watcher) (Ok o)) c.in-Waiting.is (c.in_ok-lines.ensures.told first following))

pub loop-lines-preserved : goal.loop-lines-preserved
loop-lines-preserved g c =
    let inside : (0 < c.in-Ran.bytes) × (c.in-Ran.bytes ≤ length c.split_at.result.1.now) = subst (λ (o : Begun). IsBegun c.split_at.result.1.now c.args.is_end o) c.in-Ran.is c.in_ok-lines.ensures.begun in
    record {
      told = λ first quiet.
          let before = quiet_first _ c.loop-lines.self _ quiet c.loop-lines.invariant.later c.run_next.ensures.later in
          let following = quiet_second _ c.loop-lines.self _ quiet c.loop-lines.invariant.later c.run_next.ensures.later (c.loop-lines.invariant.running before) in
          up_to_next c.args.text.now c.split_at.result.1.now c.args.is_end c.loop-lines.done c.in-Ran.bytes (state_of c.args.self.now) (state_of c.loop-lines.self) (state_of c.run_next.new.self)
          (watch g.K.Watcher.contents g.K.Watcher.was_shown first c.args.watcher.now) (watch g.K.Watcher.contents g.K.Watcher.was_shown first c.loop-lines.watcher) (watch g.K.Watcher.contents g.K.Watcher.was_shown first c.run_next.new.watcher)
          c.split_at.ensures.back (c.loop-lines.invariant.told first before)
          (subst (λ (o : Begun). RunsNext c.split_at.result.1.now c.args.is_end (state_of c.loop-lines.self) (state_of c.run_next.new.self) (watch g.K.Watcher.contents g.K.Watcher.was_shown first c.loop-lines.watcher) (watch g.K.Watcher.contents g.K.Watcher.was_shown first c.run_next.new.watcher) (Ok o)) c.in-Ran.is (c.in_ok-lines.ensures.told first following));
      within = omega (arith, c.loop-lines.invariant.within, c.split_at.ensures.back_len, inside.1);
      later = later_trans _ _ _ c.loop-lines.invariant.later c.run_next.ensures.later;
      kept = λ first follows. c.run_next.ensures.kept first (c.loop-lines.invariant.kept first follows);
      running = λ quiet.
          let before = quiet_first _ c.loop-lines.self _ quiet c.loop-lines.invariant.later c.run_next.ensures.later in
          c.run_next.ensures.running (quiet_second _ c.loop-lines.self _ quiet c.loop-lines.invariant.later c.run_next.ensures.later (c.loop-lines.invariant.running before));
    }
