use Rattle.std.proofs.Common.{sym, subst, refl, ◌∙◌}
use Rattle.flow8.specs.Flow.{IsAmong}
use Rattle.pointer_flow.specs.Steps.{IsStateWriter, listed_cells}
use Rattle.pointer_flow.proofs.WriteLemmas.{notes_as}
use Rattle.pointer_flow.proofs.writes.note_state.Goals as goal

pub returns : goal.returns
returns c = λ p facts.
    let s = c.args.state.now in
    let cells = c.written_cells.ensures.cells p facts in
    notes_as c.args.writers.now c.note_all.new.writers s.cell (λ other. IsAmong other (listed_cells s c.written_cells.result))
    (IsStateWriter p c.args.rules.now.pointers.now c.args.reached.now.bits.items s c.args.word)
    (λ other is. (sym c.has.ensures ∙ c.if-not-has.false, subst (IsAmong other) cells is))
    (λ other is. subst (IsAmong other) (sym cells) is.1) (c.note_all.ensures s refl)
