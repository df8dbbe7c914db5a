use Rattle.std.proofs.Common.{arith}
use Rattle.pal_sym.proofs.TableLemmas.{roomed}
use Rattle.pal_sym.proofs.tables.Symbols.room.Goals as goal

pub returns : goal.returns
returns c =
    rw c.in_ok-reserve.ensures.items (roomed c.self.inside.entries.items c.args.names _ _ c.args.self.now c.self.view_is
    (omega (arith, c.in_ok-reserve.ensures.ok)) (omega (arith, c.in_ok-reserve.ensures.capacity, c.in_ok-reserve.ensures.len)))
