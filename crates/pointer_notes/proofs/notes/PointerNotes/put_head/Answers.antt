use Rattle.std.proofs.Common.{[], ◌∷◌, ◌++◌, ap, ◌∙◌}
use Rattle.std.specs.Prelude.{codes}
use Rattle.source_notes.specs.Notes.{cells_line, note_lines, some_cells}
use Rattle.pointer_notes.specs.Heads.{assumed_cells, head}
use Rattle.pointer_notes.specs.Tables.{NotesTables, notes_view, view_of}
use Rattle.pointer_notes.proofs.CommentLemmas.{both_lines}
use Rattle.pointer_notes.proofs.notes.PointerNotes.put_head.Goals as goal

pub returns : goal.returns
returns c =
    let view = view_of c.self.inside.words.now c.self.inside.code.now c.self.inside.answers.items in
    let words = codes " ASSUMED: STORES CHANGE NO POINTER AT" in
    both_lines c.args.text.now.items c.put_list.new.text.items c.put_assumed.new.text.items
    ((codes " BY POINTERS FROM" ++ some_cells 8 c.self.inside.starts.now) ∷ []) (cells_line words (assumed_cells view))
    c.in_ok-put_list.ensures
    (c.in_ok-put_assumed.ensures
    ∙ ap (λ l. c.put_list.new.text.items ++ note_lines (cells_line words l)) (c.deref.ensures.value ∙ c.self.invariant.assumed_are))
    ∙ ap (λ (n : NotesTables). c.args.text.now.items ++ note_lines (head (notes_view n) n.starts)) c.self.view_is
