use Rattle.std.proofs.Common.{ℕ, Option, is_some, ap, sym, ◌∙◌, arith}
use Rattle.pointer_flow.proofs.StateLemmas.{state_at_is}
use Rattle.pointer_flow.proofs.WalkLemmas.{given_inside}
use Rattle.pointer_flow.proofs.WriteLemmas.{IsWriterBelow, below_all, below_more, notes_none}
use Rattle.pointer_flow.proofs.writes.note_cell.Goals as goal

pub loop-number-init : goal.loop-number-init
loop-number-init c = λ p facts.
    notes_none c.args.writers.now c.args.cell (IsWriterBelow p c.args.rules.now.pointers.now c.args.reached.now.bits.items c.args.cell c.in-Some.word 0)
    (λ other is. omega (arith, is.1))

pub loop-number-preserved : goal.loop-number-preserved
loop-number-preserved c = λ p facts.
    below_more p c.args.rules.now.pointers.now c.args.reached.now.bits.items c.args.writers.now c.loop-number.writers c.note_state.new.writers c.args.cell
    c.in-Some.word c.loop-number.number c.state_at.result c.state_at.ensures.value (c.loop-number.invariant p facts) (c.note_state.ensures p facts)

pub returns : goal.returns
returns c = λ p facts.
    let given = sym c.in-Some.ensures in
    below_all p c.args.rules.now.pointers.now c.args.reached.now.bits.items c.args.writers.now c.loop-number.writers c.args.cell c.in-Some.word
    c.loop-number.number (omega (arith, c.loop-number-test.false, c.loop-number.auto.number-end))
    (ap (λ (f : ℕ → Option ℕ). f c.args.cell) facts.words_are ∙ given)
    (λ k small. state_at_is c.args.cell k
    (given_inside c.args.rules.now.facts.now.words.now c.args.cell facts.size (ap (λ (o : Option ℕ). is_some o) given)) small)
    (c.loop-number.invariant p facts)
