use Rattle.std.proofs.Common.{ap, ◌∙◌}
use Rattle.flow8.specs.Flow.{word_in}
use Rattle.source_notes.specs.Notes as old
use Rattle.source_notes.specs.Notes.{is_flagged}
use Rattle.pointer_notes.specs.Notes.{has_gap}
use Rattle.pointer_notes.specs.Tables.{NotesTables, notes_view}
use Rattle.pointer_notes.proofs.notes.PointerNotes.has_gap.Goals as goal

pub returns : goal.returns
returns c =
    c.has_gap.ensures
    ∙ ap (λ words. old.has_gap (word_in words) (is_flagged c.self.inside.notes.code) c.args.cell) c.self.invariant.noted_words
    ∙ ap (λ code. old.has_gap (word_in c.self.inside.words.now) (is_flagged code) c.args.cell) c.self.invariant.noted_code
    ∙ ap (λ (n : NotesTables). has_gap (notes_view n) c.args.cell) c.self.view_is
