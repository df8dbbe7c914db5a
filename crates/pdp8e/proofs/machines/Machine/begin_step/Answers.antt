use Rattle.std.proofs.Common.{◌≡◌, ◌∙◌, true, subst, sym}
use Rattle.pdp8e.specs.State.{Pdp8e, IsJoined, is_quiet}
use Rattle.pdp8e.proofs.StillLemmas.{begins_still, moves_still}
use Rattle.pdp8e.proofs.machines.Machine.begin_step.Goals as goal

pub returns-then-self-clause-state : goal.returns-then-self-clause-state
returns-then-self-clause-state c =
    begins_still c.args.self.now (subst (λ (m : Pdp8e). IsJoined m) c.self.view_is c.self.invariant.0)
    (subst (λ (m : Pdp8e). is_quiet m.disk m.devices ≡ true) c.self.view_is (sym c.self.invariant.1 ∙ c.if-self.true))

pub returns-then-self-clause-moved : goal.returns-then-self-clause-moved
returns-then-self-clause-moved c =
    moves_still c.args.self.now (subst (λ (m : Pdp8e). is_quiet m.disk m.devices ≡ true) c.self.view_is (sym c.self.invariant.1 ∙ c.if-self.true))
