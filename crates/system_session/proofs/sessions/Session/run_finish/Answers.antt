use Rattle.std.proofs.Common.{◌≡◌, ◌∙◌, [], ap, arith, refl, sym, subst, Some, None, Ok}
use Rattle.std.proofs.lemmas.Result.{err_from_is_err_and}
use Rattle.volume_jobs.specs.Jobs.{lowest_job}
use Rattle.system_session.specs.Session.{state_of, NoCallFailed, SessionView}
use Rattle.script8.specs.declared.replies.Reply.TheVariants.{Line}
use Rattle.script8.specs.declared.replies.LineReply.TheVariants.{Finished}
use Rattle.system_session.specs.RunSteps.{watch}
use Rattle.system_session.specs.ShownAnswers.{ShowsOne, ShowsTurns}
use Rattle.system_session.proofs.QuietLemmas.{quiet_first, quiet_second, later_trans}
use Rattle.system_session.proofs.ToldLemmas.{tells_none, turns_more, finish_ended, finish_told}
use Rattle.system_session.proofs.sessions.Session.run_finish.Goals as goal

pub loop-number-init : goal.loop-number-init
loop-number-init g c = record {
  told = λ first quiet. ([], [], refl, tells_none _);
  later = record { reads = omega arith; writes = omega arith };
  kept = λ first follows. follows;
  running = λ quiet. quiet.running;
}

pub loop-number-preserved : goal.loop-number-preserved
loop-number-preserved g c = record {
  told = λ first quiet.
      let before = quiet_first _ c.loop-number.self _ quiet c.loop-number.invariant.later c.run_turn.ensures.later in
      let following = quiet_second _ c.loop-number.self _ quiet c.loop-number.invariant.later c.run_turn.ensures.later (c.loop-number.invariant.running before) in
      let low : lowest_job c.loop-number.self.jobs ≡ Some c.in-Some.number = ap (λ (s : SessionView). lowest_job s.jobs) (sym c.self.view_is) ∙ sym c.lowest.ensures ∙ c.in-Some.is in
      turns_more c.in-Some.number _ (state_of c.loop-number.self) _ _ (watch g.K.Watcher.contents g.K.Watcher.was_shown first c.loop-number.watcher) (watch g.K.Watcher.contents g.K.Watcher.was_shown first c.run_turn.new.watcher) (c.loop-number.invariant.told first before) low (c.in_ok-run_turn.ensures.told first following);
  later = later_trans _ _ _ c.loop-number.invariant.later c.run_turn.ensures.later;
  kept = λ first follows. c.run_turn.ensures.kept first (c.loop-number.invariant.kept first follows);
  running = λ quiet.
      let before = quiet_first _ c.loop-number.self _ quiet c.loop-number.invariant.later c.run_turn.ensures.later in
      c.run_turn.ensures.running (quiet_second _ c.loop-number.self _ quiet c.loop-number.invariant.later c.run_turn.ensures.later (c.loop-number.invariant.running before));
}

pub returns-in_err-run_turn-clause-told : goal.returns-in_err-run_turn-clause-told
returns-in_err-run_turn-clause-told g c first quiet =
    let p = err_from_is_err_and c.from_residual.result c.from_residual.ensures.1 in
    let before = quiet_first _ c.loop-number.self _ quiet c.loop-number.invariant.later c.run_turn.ensures.later in
    let following = quiet_second _ c.loop-number.self _ quiet c.loop-number.invariant.later c.run_turn.ensures.later (c.loop-number.invariant.running before) in
    let low : lowest_job c.loop-number.self.jobs ≡ Some c.in-Some.number = ap (λ (s : SessionView). lowest_job s.jobs) (sym c.self.view_is) ∙ sym c.lowest.ensures ∙ c.in-Some.is in
    rw (p.1, p.2) (finish_ended c.in-Some.number _ (state_of c.loop-number.self) _ _ (watch g.K.Watcher.contents g.K.Watcher.was_shown first c.loop-number.watcher) (watch g.K.Watcher.contents g.K.Watcher.was_shown first c.run_turn.new.watcher) c.in_err-run_turn.field-0.0 (c.loop-number.invariant.told first before) low (c.in_err-run_turn.ensures.told first following))

pub returns-clause-told : goal.returns-clause-told
returns-clause-told g c first quiet =
    let before = subst (λ (s : SessionView). NoCallFailed c.args.self.now s) c.tell.ensures.same quiet in
    let t = c.loop-number.invariant.told first before in
    let told = c.tell.ensures.told first in
    finish_told (state_of c.args.self.now) (state_of c.tell.new.self) (watch g.K.Watcher.contents g.K.Watcher.was_shown first c.args.watcher.now) (watch g.K.Watcher.contents g.K.Watcher.was_shown first c.loop-number.watcher) _ told.0 c.tell.result
    (t.0, t.1, subst (λ (s : SessionView). ShowsTurns (state_of c.args.self.now) t.0 t.1 (state_of s)) (sym c.tell.ensures.same) t.2, t.3)
    (ap (λ (s : SessionView). lowest_job s.jobs) (c.tell.ensures.same ∙ sym c.self.view_is) ∙ sym c.lowest.ensures ∙ c.in_default.is)
    (subst (λ (s : SessionView). ShowsOne None (Ok (Line Finished)) (state_of s) told.0) (sym c.tell.ensures.same) told.1)
    told.2
