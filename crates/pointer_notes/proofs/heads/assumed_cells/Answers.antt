use Rattle.std.proofs.Common.{◌≡◌, ap, sym, ◌∙◌, arith}
use Rattle.word12.specs.declared.sizes.TheConstants.{CORE}
use Rattle.source_notes.specs.Referrers.{cells_below}
use Rattle.pointer_notes.specs.Heads.{is_assumed}
use Rattle.pointer_notes.specs.Steps.{view_in}
use Rattle.pointer_notes.proofs.ChainLemmas.{below_none}
use Rattle.pointer_notes.proofs.ListLemmas.{listed_more}
use Rattle.pointer_notes.proofs.heads.assumed_cells.Goals as goal

pub loop-number-init : goal.loop-number-init
loop-number-init c = c.new-cells.ensures.items ∙ sym (below_none (is_assumed (view_in c.args.views.now)))

pub loop-number-preserved : goal.loop-number-preserved
loop-number-preserved c =
    listed_more (is_assumed (view_in c.args.views.now)) c.loop-number.cells.items c.push_if.new.cells.items c.loop-number.number c.of-cell.result
    c.is_assumed.result c.of-cell.ensures.number c.is_assumed.ensures c.in_ok-push_if.ensures c.loop-number.invariant

pub returns : goal.returns
returns c =
    let end : c.loop-number.number ≡ CORE = omega (arith, c.loop-number-test.false, c.loop-number.auto.number-end) in
    c.loop-number.invariant ∙ ap (cells_below (is_assumed (view_in c.args.views.now))) end
