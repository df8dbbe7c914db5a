use Rattle.std.proofs.Common.{◌≡◌, ◌-◌, ◌<◌, ◌≤◌, false, vec_len}
use Rattle.script8.specs.Items.{WaitsForLines}
use Rattle.script8.specs.Reading.{TakesBytes}
use Rattle.system_session.specs.RunSteps.{IsRunTo, watch}
use Rattle.system_session.specs.Session.{state_of, NoCallFailed, IsLater}
use Rattle.system_session.proofs.sessions.Session.run_read.Given as goal

-- the items of what was taken are answered, up to those of the bytes that are left, of which none is whole
abbrev pub invariant-loop-pending : goal.invariant-loop-pending
invariant-loop-pending g l = record {
  told : (first : _) → NoCallFailed l.fn.self l.self → IsRunTo (state_of l.fn.self) (state_of l.self) (g.R.ByteReader.remaining l.fn.reader) (g.R.ByteReader.remaining l.reader)
      (watch g.K.Watcher.contents g.K.Watcher.was_shown first l.fn.watcher) (watch g.K.Watcher.contents g.K.Watcher.was_shown first l.watcher) l.pending.count l.pending.bytes.items;
  flushed : g.K.Watcher.is_flushed l.watcher;
  waits : (0 < l.pending.lines) × WaitsForLines l.pending.bytes.items l.pending.lines;
  taken : TakesBytes (g.R.ByteReader.remaining l.fn.reader) (g.R.ByteReader.remaining l.reader) l.pending.count;
  within : l.pending.count ≤ 16777216;
  piece : 0 < vec_len l.piece;
  later : IsLater l.fn.self l.self;
  kept : (first : _) → g.K.Watcher.follows first l.fn.watcher → g.K.Watcher.follows first l.watcher;
  reader : (first : _) → g.R.ByteReader.follows first l.fn.reader → g.R.ByteReader.follows first l.reader;
  running : NoCallFailed l.fn.self l.self → l.self.volume.stopped ≡ false;
}

-- each read gives one byte at least
abbrev pub decreases-loop-pending : goal.decreases-loop-pending
decreases-loop-pending g l = 16777216 - l.pending.count
