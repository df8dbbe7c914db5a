use Rattle.std.proofs.Common.{◌≡◌, ◌≤◌, [], length}
use Rattle.std.specs.Io.KnownBytes.{Consumes}
use Rattle.byte_reader.proofs.reading.read_bytes.Given as goal

-- calls were interrupted: nothing was taken
abbrev pub invariant-loop-count : goal.invariant-loop-count
invariant-loop-count g l = record {
  taken : Consumes (g.R.ByteReader.remaining l.fn.reader) (g.R.ByteReader.remaining l.reader) [];
  room : length l.buffer ≡ length l.fn.buffer;
  unfailed : g.R.ByteReader.has_failed l.reader → g.R.ByteReader.has_failed l.fn.reader;
  calls : g.R.ByteReader.calls_left l.reader ≤ g.R.ByteReader.calls_left l.fn.reader;
  kept : (first : _) → g.R.ByteReader.follows first l.fn.reader → g.R.ByteReader.follows first l.reader;
}

-- each takes one of the calls that are left
abbrev pub decreases-loop-count : goal.decreases-loop-count
decreases-loop-count g l = g.R.ByteReader.calls_left l.reader
