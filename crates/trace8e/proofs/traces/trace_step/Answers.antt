use Rattle.std.proofs.Common.{ap, ◌∙◌}
use Rattle.cpu8.specs.declared.outcomes.Stepped.{Stepped}
use Rattle.tape_source.specs.Tags.{is_flagged}
use Rattle.pdp8e.specs.State.{Pdp8e}
use Rattle.pdp8e.specs.Terminal.{Terminal, out_of_step}
use Rattle.pdp8e.specs.Step.{rest_of_step}
use Rattle.trace8e.proofs.LineLemmas.{appended, next-of, rest-of}
use Rattle.trace8e.proofs.traces.trace_step.Goals as goal

pub returns-clause-terminal : goal.returns-clause-terminal
returns-clause-terminal c =
    c.finish_step-did.ensures.state ∙ ap (λ (x : Terminal). out_of_step x) c.begin_step-moved.ensures.state ∙ next-of c.step_has_parts.ensures c.args.terminal.now

pub returns-clause-did : goal.returns-clause-did
returns-clause-did c =
    c.finish_step-did.ensures.answer ∙ ap (λ (x : Terminal). (rest_of_step x.machine).1) c.begin_step-moved.ensures.state
    ∙ ap (λ (r : Pdp8e × Stepped). r.1) (rest-of c.step_has_parts.ensures c.args.terminal.now)

pub returns-clause-line : goal.returns-clause-line
returns-clause-line c =
    appended c.step_has_parts.ensures (is_flagged c.args.tags.now) c.args.terminal.now c.begin_step-moved.new.self c.finish_step-did.new.self
    c.machine.result.now c.machine-3.result.now c.processor.result.now c.processor-2.result.now c.of-before.result c.finish_step-did.result c.begin_step-moved.result
    c.args.lines.now.items c.put_moved.new.lines.items c.put_line.new.lines.items
    c.begin_step-moved.ensures.moved c.begin_step-moved.ensures.state c.machine.ensures c.processor.ensures.processor c.of-before.ensures c.finish_step-did.ensures.state
    c.finish_step-did.ensures.answer c.machine-3.ensures c.processor-2.ensures.processor c.in_ok-put_moved.ensures c.in_ok-put_line.ensures
