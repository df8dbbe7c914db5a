use Rattle.std.proofs.Common.{◌++◌, ◌∙◌, ap, subst, sym}
use Rattle.pal8_source.specs.Lines.{heading, lines_with}
use Rattle.pal8_source.specs.Steps.{IsText, quoted_line, sheet_of}
use Rattle.pal8_source.proofs.LineLemmas.{more, text_lines}
use Rattle.pal8_source.proofs.lines.put_lines.Goals as goal

pub returns-in_ok-put_text-in-Some : goal.returns-in_ok-put_text-in-Some
returns-in_ok-put_text-in-Some c =
    let s = sheet_of c.args.sheet.now in
    let t = c.in-Some.found in
    let is = subst (IsText s c.args.cell) c.in-Some.is c.requires in
    more c.args.text.now.items (heading c.args.before c.args.cell) (quoted_line t.mark t.characters.items c.args.cell c.args.word) c.put_heading.new.text.items c.put_text.new.text.items
    c.in_ok-put_heading.ensures c.in_ok-put_text-in-Some.ensures
    ∙ ap (λ l. c.args.text.now.items ++ l)
    (sym (text_lines s c.args.before c.args.cell c.args.word t.size t.mark t.characters.items is.1 is.2 is.3)
    ∙ ap (lines_with s c.args.before c.args.cell c.args.word) (sym is.0))
