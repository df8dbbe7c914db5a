use Rattle.std.proofs.Common.{◌++◌, ap, ◌∙◌}
use Rattle.std.specs.Prelude.{codes}
use Rattle.source_notes.specs.Notes.{cells_line, note_lines}
use Rattle.pointer_notes.specs.Notes.{above}
use Rattle.pointer_notes.specs.References.{callers, referrers}
use Rattle.pointer_notes.specs.Tables.{NotesTables, names_by, notes_view, view_of}
use Rattle.pointer_notes.specs.declared.references.Kind.TheVariants.{Call, Reference}
use Rattle.pointer_notes.proofs.CommentLemmas.{both_lines}
use Rattle.pointer_notes.proofs.notes.PointerNotes.put_above.Goals as goal

pub returns : goal.returns
returns c =
    let view = view_of c.self.inside.words.now c.self.inside.code.now c.self.inside.answers.items in
    both_lines c.args.text.now.items c.put_line.new.text.items c.put_line-2.new.text.items
    (cells_line (codes " SUBROUTINE, CALLED FROM") (callers view c.args.cell))
    (cells_line (codes " FROM") (referrers view c.args.cell))
    (c.in_ok-put_line.ensures (names_by Call view) c.self.invariant.tied.callers)
    (c.in_ok-put_line-2.ensures (names_by Reference view) c.self.invariant.tied.referrers)
    ∙ ap (λ (n : NotesTables). c.args.text.now.items ++ note_lines (above (notes_view n) c.args.cell)) c.self.view_is
