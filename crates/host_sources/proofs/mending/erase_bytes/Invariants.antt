use Rattle.std.proofs.Common.{◌≡◌, ◌-◌, length, take}
use Rattle.pal_lex.specs.Text.{text_of}
use Rattle.host_sources.specs.Mending as mending
use Rattle.host_sources.proofs.mending.erase_bytes.Given as goal

abbrev pub invariant-loop-taken : goal.invariant-loop-taken
invariant-loop-taken l = text_of l.new.items ≡ mending.with_erasure l.from l.end (text_of (take l.taken l.text))

abbrev pub decreases-loop-taken : goal.decreases-loop-taken
decreases-loop-taken l = length l.text - l.taken
