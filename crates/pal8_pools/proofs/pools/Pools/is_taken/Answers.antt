use Rattle.std.proofs.Common.{sym, ◌∙◌, arith, ◌≡◌, length}
use Rattle.std.proofs.lemmas.List.{get_or_read}
use Rattle.pal8_pools.proofs.TableLemmas.{full_size, is_none}
use Rattle.pal8_pools.proofs.CellLemmas.{taken_is, not_taken}
use Rattle.pal8_pools.proofs.pools.Pools.is_taken.Goals as goal

pub returns-then-is_empty : goal.returns-then-is_empty
returns-then-is_empty c = λ asks words holds.
    not_taken c.args.self.now _ _ _ c.self.view_is asks words holds c.args.cell (is_none c.self.inside.counts.items _ _ (sym c.self.inside.counts.ok.0) c.is_empty.ensures c.if-is_empty.true)

pub returns : goal.returns
returns c = λ asks words holds.
    let size : length c.self.inside.counts.items ≡ 0o400 = full_size c.self.inside.counts.items _ _ (sym c.self.inside.counts.ok.0) c.is_empty.ensures c.if-is_empty.false c.self.invariant.whole_or_none in
    taken_is c.args.self.now _ _ _ c.self.view_is asks words holds c.args.cell c.index-number.result c.from.result c.index-number.ensures.value
    (omega (arith, c.index-number.ensures.value, c.index-number.ensures.range))
    (c.from.ensures ∙ get_or_read c.self.inside.counts.items _ c.index.result.now (omega (arith, size, c.index-number.ensures.range)) c.index.ensures 0)
