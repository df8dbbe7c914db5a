use Rattle.std.proofs.Common.{◌∙◌, ap, not, sym}
use Rattle.pal8_source.specs.Steps.{ends_text, sheet_of}
use Rattle.pal8_source.specs.Texts.{goes_on}
use Rattle.pal8_source.proofs.TextLemmas.{goes_further, neither, not_other, stops}
use Rattle.pal8_source.proofs.texts.length_from.Goals as goal

pub returns-then-breaks_off-clause-value : goal.returns-then-breaks_off-clause-value
returns-then-breaks_off-clause-value c =
    let s = sheet_of c.args.sheet.now in
    sym
    (c.loop-count.invariant
    ∙ stops s c.args.first c.loop-count.count c.args.most c.loop-count-test.true
    (sym (c.ends_text.ensures ∙ ap (ends_text s) c.of-cell.ensures.number) ∙ c.if-ends_text.false)
    (neither _ (sym (c.breaks_off.ensures ∙ ap (λ cell. not (goes_on s cell)) c.of-cell.ensures.number) ∙ c.if-breaks_off.true)))

pub loop-count-preserved : goal.loop-count-preserved
loop-count-preserved c =
    let s = sheet_of c.args.sheet.now in
    c.loop-count.invariant
    ∙ goes_further s c.args.first c.loop-count.count c.args.most c.loop-count-test.true
    (not_other _ (sym (c.breaks_off.ensures ∙ ap (λ cell. not (goes_on s cell)) c.of-cell.ensures.number) ∙ c.if-breaks_off.false))
