use Rattle.std.proofs.Common.{sym, arith, refl}
use Rattle.std.proofs.lemmas.Result.{err_from_is_err_and}
use Rattle.pal8_pools.proofs.TableLemmas.{is_none, makes_table, no_room}
use Rattle.pal8_pools.proofs.pools.Pools.make.Goals as goal

pub returns-in_err-counts : goal.returns-in_err-counts
returns-in_err-counts c =
    let p = err_from_is_err_and c.from_residual-in_err-counts.result c.from_residual-in_err-counts.ensures.1 in
    rw p.1 (refl, no_room c.args.self.now _ _ _ c.self.view_is (is_none c.self.inside.counts.items _ _ (sym c.self.inside.counts.ok.0) c.is_empty.ensures c.if-is_empty.true))

pub returns-in_err-punched : goal.returns-in_err-punched
returns-in_err-punched c =
    let p = err_from_is_err_and c.from_residual-in_err-punched.result c.from_residual-in_err-punched.ensures.1 in
    rw p.1 (refl, no_room c.args.self.now _ _ _ c.self.view_is (is_none c.self.inside.counts.items _ _ (sym c.self.inside.counts.ok.0) c.is_empty.ensures c.if-is_empty.true))

pub returns-in_ok-punched : goal.returns-in_ok-punched
returns-in_ok-punched c =
    makes_table c.args.self.now _ _ _ c.self.view_is c.self.invariant (is_none c.self.inside.counts.items _ _ (sym c.self.inside.counts.ok.0) c.is_empty.ensures c.if-is_empty.true)
    c.in_ok-values.values.items _ _ 0o400 0o100000 c.in_ok-counts.ensures c.in_ok-punched.ensures (omega arith)
