use Rattle.std.proofs.Common.{ap, ◌∙◌, arith}
use Rattle.std.proofs.lemmas.List.{get_or_read}
use Rattle.pointer_notes.specs.References.{datum_target, target_of}
use Rattle.pointer_notes.specs.Tables.{NotesTables, answers_in, names_by, no_answers, notes_view, view_of}
use Rattle.pointer_notes.specs.declared.answers.CellAnswers.{CellAnswers}
use Rattle.pointer_notes.specs.declared.references.Kind.TheVariants.{Pointer}
use Rattle.pointer_notes.proofs.notes.PointerNotes.datum_target.Goals as goal

pub returns-in_err-from : goal.returns-in_err-from
returns-in_err-from c =
    let view = view_of c.self.inside.words.now c.self.inside.code.now c.self.inside.answers.items in
    c.from_residual.ensures
    ∙ ap (target_of view) (c.in_err-from.ensures (names_by Pointer view) c.self.invariant.tied.pointed)
    ∙ ap (λ (n : NotesTables). datum_target (notes_view n) c.args.cell) c.self.view_is

pub returns : goal.returns
returns c =
    let answers = c.self.inside.answers.items in
    let view = view_of c.self.inside.words.now c.self.inside.code.now answers in
    ap (λ (a : CellAnswers). a.target)
    (get_or_read answers c.index.result c.index-2.result.now (omega (arith, c.index.ensures.range, c.self.invariant.answers_size)) c.index-2.ensures no_answers
    ∙ ap (answers_in answers) c.index.ensures.value)
    ∙ ap (target_of view) (c.in_ok-from.ensures (names_by Pointer view) c.self.invariant.tied.pointed)
    ∙ ap (λ (n : NotesTables). datum_target (notes_view n) c.args.cell) c.self.view_is
