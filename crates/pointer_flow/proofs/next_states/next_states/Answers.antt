use Rattle.std.proofs.Common.{◌≡◌, ◌/◌, sym, ◌∙◌, arith}
use Rattle.pointer_flow.specs.Steps.{pointer_word, skips_into}
use Rattle.pointer_flow.proofs.NextLemmas.{next_operate}
use Rattle.pointer_flow.proofs.next_states.next_states.Goals as goal

pub returns-in_default-clause-states : goal.returns-in_default-clause-states
returns-in_default-clause-states c = λ p facts.
    let s = c.args.state.now in
    let seven : c.args.word / 512 ≡ 7 = omega (arith, c.get.ensures.value, c.get.ensures.range) in
    c.operate_states.ensures.states
    ∙ sym (next_operate p s c.args.word (pointer_word c.args.rules.now.pointers.now s c.args.word) (skips_into c.args.rules.now.no_skip_cells.now s) seven)
