use Rattle.std.proofs.Common.{◌≡◌, ◌-◌, ◌≤◌, [], List, false, length, drop}
use Rattle.script8.specs.declared.items.Item.{Item}
use Rattle.system_session.specs.Session.{state_of, NoCallFailed, IsLater}
use Rattle.system_session.specs.RunSteps.{StartsWithItems, WritesShown, watch}
use Rattle.system_session.proofs.sessions.Session.run_items.Given as goal

-- the items so far are answered
abbrev pub invariant-loop-lines : goal.invariant-loop-lines
invariant-loop-lines g l = record {
  told : (first : _) → NoCallFailed l.fn.self l.self → (prefix : List Item) × StartsWithItems l.text l.is_end prefix (drop l.done l.text)
      × WritesShown (state_of l.fn.self) prefix (state_of l.self) (watch g.K.Watcher.contents g.K.Watcher.was_shown first l.fn.watcher) (watch g.K.Watcher.contents g.K.Watcher.was_shown first l.watcher) [];
  within : l.done ≤ length l.text;
  later : IsLater l.fn.self l.self;
  kept : (first : _) → g.K.Watcher.follows first l.fn.watcher → g.K.Watcher.follows first l.watcher;
  running : NoCallFailed l.fn.self l.self → l.self.volume.stopped ≡ false;
}

abbrev pub decreases-loop-lines : goal.decreases-loop-lines
decreases-loop-lines g l = length l.text - l.done
