use Rattle.std.proofs.Common.{◌+◌, ◌*◌, [], length}
use Rattle.terminal8.specs.KeyReads.{StrikesKeys}
use Rattle.terminal8.specs.Papers.{Passes}
use Rattle.terminal8.proofs.readings.next_key.Given as goal

-- what was struck is no key, and nothing was printed
abbrev pub invariant-loop-byte : goal.invariant-loop-byte
invariant-loop-byte g l = record {
  keys : StrikesKeys l.fn.keyboard l.keyboard l.fn.ahead l.ahead (g.R.ByteReader.remaining l.fn.reader) (g.R.ByteReader.remaining l.reader) [];
  paper : Passes (g.O.Output.contents l.fn.writer) (g.O.Output.contents l.writer) l.fn.paper l.paper [];
}

-- each byte is one of those ahead, or takes one of the calls that are left
abbrev pub decreases-loop-byte : goal.decreases-loop-byte
decreases-loop-byte g l = g.R.ByteReader.calls_left l.reader * 0o10001 + length l.ahead
