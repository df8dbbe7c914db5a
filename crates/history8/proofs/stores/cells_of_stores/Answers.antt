use Rattle.std.proofs.Common.{◌∷◌, [], ap, sym, ◌∙◌}
use Rattle.cpu8.specs.Decoding.{operation_of}
use Rattle.cpu8.specs.Stores.{instruction_stores}
use Rattle.history8.proofs.StoreLemmas.{cells_of, stores-stopped, stores-interrupt, stores-instruction}
use Rattle.history8.proofs.stores.cells_of_stores.Goals as goal

pub returns-then-not-is_running : goal.returns-then-not-is_running
returns-then-not-is_running c = sym (stores-stopped c.args.machine.now (sym c.is_running.ensures ∙ c.if-not-is_running.true))

pub returns-then-grants_interrupt : goal.returns-then-grants_interrupt
returns-then-grants_interrupt c =
    ap (λ n. n ∷ []) c.of.ensures.number
    ∙ sym (stores-interrupt c.args.machine.now (sym c.is_running.ensures ∙ c.if-not-is_running.false) (sym c.grants_interrupt.ensures ∙ c.if-grants_interrupt.true))

pub returns : goal.returns
returns c =
    c.instruction_cells.ensures
    ∙ ap (λ w. cells_of (instruction_stores (operation_of w) c.args.machine.now w)) c.next_word.ensures.value
    ∙ sym (stores-instruction c.args.machine.now (sym c.is_running.ensures ∙ c.if-not-is_running.false) (sym c.grants_interrupt.ensures ∙ c.if-grants_interrupt.false))
