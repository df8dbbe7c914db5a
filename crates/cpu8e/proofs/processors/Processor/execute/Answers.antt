use Rattle.std.proofs.Common.{◌≡◌, ◌/◌, ap, sym, ◌∙◌, arith}
use Rattle.cpu8e.specs.State.{with_core}
use Rattle.cpu8e.proofs.RowLemmas.{transfers, operates}
use Rattle.cpu8e.proofs.processors.Processor.execute.Goals as goal

pub returns-then-operation-eq6-clause-state : goal.returns-then-operation-eq6-clause-state
returns-then-operation-eq6-clause-state c =
    let e : c.args.word / 0o1000 ≡ 6 = omega (arith, c.get-operation.ensures.value, c.if-operation-eq6.true) in
    ap (λ s. with_core s c.args.core.now) c.transfer.ensures.state
    ∙ sym (ap (λ r. r.0) (transfers c.args.self.now c.args.core.now c.args.word e))

pub returns-then-operation-eq6-clause-answer : goal.returns-then-operation-eq6-clause-answer
returns-then-operation-eq6-clause-answer c =
    let e : c.args.word / 0o1000 ≡ 6 = omega (arith, c.get-operation.ensures.value, c.if-operation-eq6.true) in
    c.transfer.ensures.answer ∙ sym (ap (λ r. r.1) (transfers c.args.self.now c.args.core.now c.args.word e))

pub returns-then-operation-eq7-clause-state : goal.returns-then-operation-eq7-clause-state
returns-then-operation-eq7-clause-state c =
    let e : c.args.word / 0o1000 ≡ 7 = omega (arith, c.get-operation.ensures.value, c.if-operation-eq7.true) in
    ap (λ s. with_core s c.args.core.now) c.operate.ensures.state
    ∙ sym (ap (λ r. r.0) (operates c.args.self.now c.args.core.now c.args.word e))

pub returns-then-operation-eq7-clause-answer : goal.returns-then-operation-eq7-clause-answer
returns-then-operation-eq7-clause-answer c =
    let e : c.args.word / 0o1000 ≡ 7 = omega (arith, c.get-operation.ensures.value, c.if-operation-eq7.true) in
    c.operate.ensures.answer ∙ sym (ap (λ r. r.1) (operates c.args.self.now c.args.core.now c.args.word e))
