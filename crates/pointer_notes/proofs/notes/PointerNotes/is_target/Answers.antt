use Rattle.std.proofs.Common.{◌&&◌, ℕ, is_some, None, Option, ap, sym, ◌∙◌, arith}
use Rattle.std.proofs.lemmas.List.{get_or_read}
use Rattle.word12.specs.declared.sizes.TheConstants.{CORE}
use Rattle.flow8.specs.Flow.{word_in}
use Rattle.pointer_flow.specs.Programs.{is_some_below}
use Rattle.pointer_notes.specs.References.{is_target, leads_to}
use Rattle.pointer_notes.specs.Tables.{NotesTables, names_by, notes_view, view_of}
use Rattle.pointer_notes.specs.declared.references.Kind.TheVariants.{Target}
use Rattle.pointer_notes.proofs.ArgumentLemmas.{some_below}
use Rattle.pointer_notes.proofs.notes.PointerNotes.is_target.Goals as goal

pub returns-then-is_some : goal.returns-then-is_some
returns-then-is_some c =
    let words = c.self.inside.words.now in
    let view = view_of words c.self.inside.code.now c.self.inside.answers.items in
    let found = c.index-self-index.is in
    let word =
    sym found
    ∙ get_or_read words c.index.result c.index-self-index.result (omega (arith, c.index.ensures.range, c.self.invariant.words_size)) found None
    ∙ ap (word_in words) c.index.ensures.value in
    c.is_some-then-is_some.ensures
    ∙ ap (λ (o : Option ℕ). is_some o) (c.lowest.ensures (names_by Target view) c.self.invariant.tied.targeted)
    ∙ some_below (leads_to view c.args.cell) CORE
    ∙ ap (λ b. b && is_some_below (leads_to view c.args.cell) CORE) (c.if-is_some.ensures ∙ ap (λ (o : Option ℕ). is_some o) word)
    ∙ ap (λ (n : NotesTables). is_target (notes_view n) c.args.cell) c.self.view_is
