use Rattle.std.proofs.Common.{sym, ◌∙◌, ◌≡◌, ◌+◌, ◌*◌, ap, arith, length, slice_index}
use Rattle.std.proofs.lemmas.List.{get_or_read}
use Rattle.pal8_pools.proofs.TableLemmas.{counted, full_size, is_none}
use Rattle.pal8_pools.proofs.pools.Pools.count.Goals as goal

pub returns-then-is_empty : goal.returns-then-is_empty
returns-then-is_empty c = λ asks words holds.
    ap (λ l. slice_index l (32 * c.args.field + c.args.page)) (sym (is_none c.self.inside.counts.items _ _ (sym c.self.inside.counts.ok.0) c.is_empty.ensures c.if-is_empty.true))
    ∙ counted c.args.self.now _ _ _ c.self.view_is asks words holds c.args.field c.args.page c.requires.field c.requires.page

pub returns : goal.returns
returns c = λ asks words holds.
    let size : length c.self.inside.counts.items ≡ 0o400 = full_size c.self.inside.counts.items _ _ (sym c.self.inside.counts.ok.0) c.is_empty.ensures c.if-is_empty.false c.self.invariant.whole_or_none in
    c.from-3.ensures
    ∙ get_or_read c.self.inside.counts.items _ c.index.result.now (omega (arith, size, c.from.ensures, c.from-2.ensures, c.requires.field, c.requires.page)) c.index.ensures 0
    ∙ ap (λ i. slice_index c.self.inside.counts.items (32 * i + c.from-2.result)) c.from.ensures
    ∙ ap (λ i. slice_index c.self.inside.counts.items (32 * c.args.field + i)) c.from-2.ensures
    ∙ counted c.args.self.now _ _ _ c.self.view_is asks words holds c.args.field c.args.page c.requires.field c.requires.page
