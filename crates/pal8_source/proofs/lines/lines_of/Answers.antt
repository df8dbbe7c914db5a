use Rattle.std.proofs.Common.{◌∙◌, refl, sym}
use Rattle.pal8_source.specs.Steps.{sheet_of}
use Rattle.pal8_source.proofs.LineLemmas.{more_left, more_lines, more_newest, none_below}
use Rattle.pal8_source.proofs.lines.lines_of.Goals as goal

pub loop-number-init : goal.loop-number-init
loop-number-init c = (c.new-text.ensures.items ∙ sym (none_below (sheet_of c.args.sheet.now)), refl, refl)

pub loop-number-preserved : goal.loop-number-preserved
loop-number-preserved c =
    let s = sheet_of c.args.sheet.now in
    let n = c.loop-number.number in
    let before = c.loop-number.reached.before in
    let rest = c.loop-number.reached.rest in
    let is = c.loop-number.invariant in (
      more_lines s n c.of.result rest before c.loop-number.text.items c.put_next.new.text.items is.0 is.1 is.2 c.of.ensures.number c.in_ok-reached.ensures.text,
      more_newest s n c.of.result before c.in_ok-reached.reached.before is.1 c.of.ensures.number c.in_ok-reached.ensures.before,
      more_left s n c.of.result rest c.in_ok-reached.reached.rest is.2 c.of.ensures.number c.in_ok-reached.ensures.rest,
    )
