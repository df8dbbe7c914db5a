use Rattle.std.proofs.Common.{◌∷◌, ◌++◌}
use Rattle.tape_source.specs.Lines.{comment, line_end, tag_part}
use Rattle.pal8_source.specs.Lines.{statement_part}
use Rattle.pal8_source.specs.Steps.{sheet_of}
use Rattle.pal8_source.proofs.LineLemmas.{whole_line}
use Rattle.pal8_source.proofs.lines.put_word.Goals as goal

pub returns : goal.returns
returns c =
    let s = sheet_of c.args.sheet.now in
    let cell = c.args.cell in
    let word = c.args.word in
    whole_line c.args.text.now.items (tag_part s.look.name s.is_tagged cell ++ statement_part s cell word) (0o11 ∷ comment cell word) (s.look.remark cell) line_end
    c.put_head.new.text.items c.put_comment.new.text.items c.put_tail.new.text.items c.in_ok-put_head.ensures c.in_ok-put_comment.ensures c.in_ok-put_tail.ensures
