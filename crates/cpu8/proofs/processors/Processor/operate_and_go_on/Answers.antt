use Rattle.std.proofs.Common.{rules}
use Rattle.cpu8.specs.Step.{after_instruction}
use Rattle.cpu8.proofs.processors.Processor.operate_and_go_on.Goals as goal

pub returns-then-has : goal.returns-then-has
unfolding after_instruction
returns-then-has c = record {
  state = search rules;
  answer = search rules;
  stays = record {
    running = search rules;
    interrupts_on = search rules;
    teletype = search rules;
    buffer = search rules;
    field = λ same. search rules;
  };
}
