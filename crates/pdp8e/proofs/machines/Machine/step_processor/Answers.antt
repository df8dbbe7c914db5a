use Rattle.std.proofs.Common.{ap, ◌∙◌, subst, sym}
use Rattle.cpu8.specs.declared.outcomes.Stepped.{Stepped}
use Rattle.cpu8e.specs.State.{State8e}
use Rattle.cpu8e.specs.Step as Cpu
use Rattle.pdp8e.specs.State.{Pdp8e, IsJoined, with_processor}
use Rattle.pdp8e.proofs.StillLemmas.{going_still, quiet_is}
use Rattle.pdp8e.proofs.machines.Machine.step_processor.Goals as goal

pub returns-clause-state : goal.returns-clause-state
returns-clause-state c =
    let sees = subst (λ (m : Pdp8e). IsJoined m) c.self.view_is c.self.invariant.0 in
    ap (λ (p : State8e). let m : Pdp8e = record { processor = p; disk = c.self.inside.disk; devices = c.self.inside.devices } in m) c.step.ensures.state
    ∙ ap (λ (m : Pdp8e). with_processor m (Cpu.step m.processor).0) c.self.view_is
    ∙ sym (ap (λ (r : Pdp8e × Stepped). r.0)
    (going_still c.args.self.now sees (quiet_is c.args.self.now c.requires.quiet) c.requires.running c.requires.other c.request_stays.ensures))

pub returns-clause-answer : goal.returns-clause-answer
returns-clause-answer c =
    let sees = subst (λ (m : Pdp8e). IsJoined m) c.self.view_is c.self.invariant.0 in
    c.step.ensures.answer
    ∙ ap (λ (m : Pdp8e). (Cpu.step m.processor).1) c.self.view_is
    ∙ sym (ap (λ (r : Pdp8e × Stepped). r.1)
    (going_still c.args.self.now sees (quiet_is c.args.self.now c.requires.quiet) c.requires.running c.requires.other c.request_stays.ensures))
