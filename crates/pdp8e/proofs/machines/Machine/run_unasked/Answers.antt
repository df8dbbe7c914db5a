use Rattle.std.proofs.Common.{refl, sym, subst, arith, ◌∙◌}
use Rattle.cpu8e.specs.Unasked as Cpu
use Rattle.pdp8e.specs.State.{Pdp8e, IsJoined}
use Rattle.pdp8e.proofs.QuickLemmas.{after_none, none_unasked, state_passed, state_quiet, unasked_steps}
use Rattle.pdp8e.proofs.machines.Machine.run_unasked.Goals as goal

pub returns-in_default-clause-state : goal.returns-in_default-clause-state
returns-in_default-clause-state c = after_none c.args.self.now

pub returns-in_default-clause-unasked : goal.returns-in_default-clause-unasked
returns-in_default-clause-unasked c = none_unasked c.args.looks c.args.self.now

pub returns-then-not-self-clause-unasked : goal.returns-then-not-self-clause-unasked
returns-then-not-self-clause-unasked c =
    let ran = c.run_unasked-made in
    unasked_steps c.request_stays.ensures c.args.looks c.args.self.now (subst (λ (m : Pdp8e). IsJoined m) c.self.view_is c.self.invariant.0) ran.result c.in-Some.most
    (omega (arith, ran.ensures.within, c.min.ensures)) (c.in-Some.ensures c.in-Some.most refl)
    (subst (λ (m : Pdp8e). Cpu.AreUnasked c.args.looks m.processor ran.result) c.self.view_is ran.ensures.unasked)

pub returns-then-not-self-clause-state : goal.returns-then-not-self-clause-state
returns-then-not-self-clause-state c =
    let i = c.self.inside in
    let ran = c.run_unasked-made in
    state_passed c.args.looks (record { processor = i.processor; disk = i.disk; devices = i.devices }) c.args.self.now c.self.view_is ran.new.self c.pass.new.self
    c.pass-then-not-self.new.self ran.result (returns-then-not-self-clause-unasked c) ran.ensures.state c.pass.ensures c.pass-then-not-self.ensures

pub returns-else-not-self-clause-unasked : goal.returns-else-not-self-clause-unasked
returns-else-not-self-clause-unasked c =
    let ran = c.run_unasked-made in
    unasked_steps c.request_stays.ensures c.args.looks c.args.self.now (subst (λ (m : Pdp8e). IsJoined m) c.self.view_is c.self.invariant.0) ran.result c.in-Some.most
    (omega (arith, ran.ensures.within, c.min.ensures)) (c.in-Some.ensures c.in-Some.most refl)
    (subst (λ (m : Pdp8e). Cpu.AreUnasked c.args.looks m.processor ran.result) c.self.view_is ran.ensures.unasked)

pub returns-else-not-self-clause-state : goal.returns-else-not-self-clause-state
returns-else-not-self-clause-state c =
    let i = c.self.inside in
    let ran = c.run_unasked-made in
    state_quiet c.args.looks (record { processor = i.processor; disk = i.disk; devices = i.devices }) c.args.self.now c.self.view_is ran.new.self ran.result
    (returns-else-not-self-clause-unasked c) (sym c.self.invariant.1 ∙ c.if-not-self.false) ran.ensures.state
