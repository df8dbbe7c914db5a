use Rattle.std.proofs.Common.{◌++◌, ap, ◌∙◌}
use Rattle.std.specs.Prelude.{codes}
use Rattle.flow8.specs.Flow.{word_in}
use Rattle.source_notes.specs.Notes.{above, cells_line, is_flagged, note_lines, Notes}
use Rattle.source_notes.specs.Referrers.{callers, referrers}
use Rattle.source_notes.specs.Tables.{names_by}
use Rattle.source_notes.specs.declared.references.Kind.TheVariants.{Call, Other}
use Rattle.source_notes.proofs.CommentLemmas.{both_lines}
use Rattle.source_notes.proofs.notes.Notes.put_above.Goals as goal

pub returns : goal.returns
returns c =
    let words = word_in c.self.inside.words.now in
    let is_code = is_flagged c.self.inside.code.now in
    both_lines c.args.text.now.items c.put_line.new.text.items c.put_line-2.new.text.items
    (cells_line (codes " SUBROUTINE, CALLED FROM") (callers words is_code c.args.cell))
    (cells_line (codes " FROM") (referrers words is_code c.args.cell))
    (c.in_ok-put_line.ensures (names_by Call words is_code) c.self.invariant.callers)
    (c.in_ok-put_line-2.ensures (names_by Other words is_code) c.self.invariant.referrers)
    ∙ ap (λ (n : Notes). c.args.text.now.items ++ note_lines (above (word_in n.words) (is_flagged n.code) c.args.cell)) c.self.view_is
