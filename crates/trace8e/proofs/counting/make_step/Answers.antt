use Rattle.std.proofs.Common.{ap, ◌∙◌}
use Rattle.cpu8.specs.declared.outcomes.Stepped.{Stepped}
use Rattle.pdp8e.specs.State.{Pdp8e}
use Rattle.pdp8e.specs.Terminal.{Terminal, out_of_step}
use Rattle.pdp8e.specs.Step.{rest_of_step}
use Rattle.trace8e.proofs.LineLemmas.{next-of, rest-of}
use Rattle.trace8e.proofs.counting.make_step.Goals as goal

pub returns-clause-state : goal.returns-clause-state
returns-clause-state c =
    c.finish_step-did.ensures.state ∙ ap (λ (x : Terminal). out_of_step x) c.begin_step-moved.ensures.state ∙ next-of c.step_has_parts.ensures c.args.terminal.now

pub returns-clause-answer : goal.returns-clause-answer
returns-clause-answer c =
    c.finish_step-did.ensures.answer ∙ ap (λ (x : Terminal). (rest_of_step x.machine).1) c.begin_step-moved.ensures.state
    ∙ ap (λ (r : Pdp8e × Stepped). r.1) (rest-of c.step_has_parts.ensures c.args.terminal.now)
