use Rattle.std.proofs.Common.{◌≡◌, ◌≤◌, false, take, length, vec_len, vec_capacity}
use Rattle.system_session.specs.System.{Run}
use Rattle.system_session.specs.Session.{state_of, NoCallFailed, IsLater}
use Rattle.system_session.proofs.sessions.Session.run.Given as goal

-- the answers so far are a run of the entries so far, and there is room for the others
abbrev pub invariant-loop-entry : goal.invariant-loop-entry
invariant-loop-entry g l = record {
  told : NoCallFailed l.fn.self l.self → Run (state_of l.fn.self) (take l.entry-index l.entries) l.replies.items false (state_of l.self);
  later : IsLater l.fn.self l.self;
  running : NoCallFailed l.fn.self l.self → l.self.volume.stopped ≡ false;
  count : vec_len l.replies ≡ l.entry-index;
  room : length l.entries ≤ vec_capacity l.replies;
  first : l.entry-index ≡ 0 → l.self ≡ l.fn.self;
}
