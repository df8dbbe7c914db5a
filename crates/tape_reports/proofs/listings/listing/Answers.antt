use Rattle.std.proofs.Common.{None, slice_index_or, ap, sym, ◌∙◌, ◌++◌, arith}
use Rattle.bin_tape.specs.Items.{tape_map}
use Rattle.tape_reports.specs.Listing.{lines_below, line_of}
use Rattle.tape_reports.proofs.LineLemmas.{lines_none, lines_more}
use Rattle.tape_reports.proofs.listings.listing.Goals as goal

pub loop-number-init : goal.loop-number-init
loop-number-init c = λ frames of. c.new-text.ensures.items ∙ sym (lines_none of.items)

pub loop-number-preserved : goal.loop-number-preserved
loop-number-preserved c = λ frames of.
    let n = c.loop-number.number in
    let word = c.get.ensures ∙ ap (λ cell. slice_index_or c.args.map.now cell None) c.of-cell.ensures.number ∙ of.cells n c.loop-number-test.true in
    c.in_ok-put_cell.ensures
    ∙ ap (λ cell. c.loop-number.text.items ++ line_of c.get.result cell) c.of-cell.ensures.number
    ∙ ap (λ w. c.loop-number.text.items ++ line_of w n) word
    ∙ ap (λ text. text ++ line_of (tape_map of.items n) n) (c.loop-number.invariant frames of)
    ∙ sym (lines_more of.items n)

pub returns : goal.returns
returns c = λ frames of. c.loop-number.invariant frames of ∙ ap (λ n. lines_below of.items n) (omega arith)
