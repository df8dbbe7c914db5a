use Rattle.std.proofs.Common.{◌≡◌, ◌-◌, ◌≤◌, vec_len}
use Rattle.std.specs.Io.KnownBytes.{Consumes}
use Rattle.script8.proofs.readings.read_within.Given as goal

-- the bytes are those that were taken
abbrev pub invariant-loop-bytes : goal.invariant-loop-bytes
invariant-loop-bytes g l = record {
  taken : Consumes (g.R.ByteReader.remaining l.fn.reader) (g.R.ByteReader.remaining l.reader) l.bytes.items;
  within : vec_len l.bytes ≤ 16777216;
  piece : vec_len l.piece ≡ 65536;
  kept : (first : _) → g.R.ByteReader.follows first l.fn.reader → g.R.ByteReader.follows first l.reader;
}

abbrev pub decreases-loop-bytes : goal.decreases-loop-bytes
decreases-loop-bytes g l = 16777216 - vec_len l.bytes
