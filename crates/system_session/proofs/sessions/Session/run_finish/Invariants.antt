use Rattle.std.proofs.Common.{◌≡◌, false}
use Rattle.volume_jobs.specs.Jobs.{turns_left}
use Rattle.system_session.specs.Session.{state_of, NoCallFailed, IsLater}
use Rattle.system_session.specs.RunSteps.{TakesTurns, watch}
use Rattle.system_session.proofs.sessions.Session.run_finish.Given as goal

-- turns of the lowest jobs are taken
abbrev pub invariant-loop-number : goal.invariant-loop-number
invariant-loop-number g l = record {
  told : (first : _) → NoCallFailed l.fn.self l.self → TakesTurns (state_of l.fn.self) (state_of l.self)
      (watch g.K.Watcher.contents g.K.Watcher.was_shown first l.fn.watcher) (watch g.K.Watcher.contents g.K.Watcher.was_shown first l.watcher);
  later : IsLater l.fn.self l.self;
  kept : (first : _) → g.K.Watcher.follows first l.fn.watcher → g.K.Watcher.follows first l.watcher;
  running : NoCallFailed l.fn.self l.self → l.self.volume.stopped ≡ false;
}

abbrev pub decreases-loop-number : goal.decreases-loop-number
decreases-loop-number g l = turns_left l.self.jobs
