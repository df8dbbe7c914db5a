use Rattle.std.proofs.Common.{ℕ, Option, is_some, ap, sym, ◌∙◌, arith}
use Rattle.std.proofs.lemmas.Bool.{false≢true}
use Rattle.flow8.specs.Flow.{word_in}
use Rattle.pointer_flow.proofs.WriteLemmas.{none_from, notes_had, notes_one}
use Rattle.pointer_flow.proofs.writes.note_writer.Goals as goal

pub returns-then-is_some : goal.returns-then-is_some
returns-then-is_some c =
    notes_had c.args.writers.now c.args.other c.args.cell
    (λ none. false≢true (sym (ap (λ (o : Option ℕ). is_some o) (c.cell_at.ensures.value ∙ none)) ∙ sym c.is_some.ensures ∙ c.if-is_some.true))

pub returns : goal.returns
returns c =
    notes_one c.args.writers.now c.args.other c.args.cell c.index.result c.index.ensures.value
    (ap (word_in c.args.writers.now) c.index.ensures.value ∙ sym c.cell_at.ensures.value
    ∙ none_from c.cell_at.result (sym c.is_some.ensures ∙ c.if-is_some.false)) (omega (arith, c.index.ensures.range, c.requires))
