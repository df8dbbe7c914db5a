use Rattle.std.proofs.Common.{arith}
use Rattle.pal_sym.proofs.PlaceLemmas.{put_in_gap}
use Rattle.pal_sym.proofs.entries.insert.Goals as goal

pub returns : goal.returns
returns c = (
  rw (c.in_ok-insert.ensures.items, c.in_ok-reserve.ensures.items) (put_in_gap c.args.entries.now.items c.args.name c.args.place c.requires.gap c.args.symbol c.requires.rise),
  omega (arith, c.in_ok-insert.ensures.len, c.in_ok-insert.ensures.capacity, c.in_ok-reserve.ensures.len, c.in_ok-reserve.ensures.capacity),
)
