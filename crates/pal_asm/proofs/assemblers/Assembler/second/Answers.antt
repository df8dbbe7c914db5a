use Rattle.std.proofs.Common.{ap}
use Rattle.pal_lex.specs.Reading.{with_tokens}
use Rattle.pal_asm.specs.Progress.{Progress}
use Rattle.pal_asm.proofs.SecondLemmas.{second_more, second_fault_more}
use Rattle.pal_asm.proofs.assemblers.Assembler.second.Goals as goal

pub returns-in-Ok-clause-answers : goal.returns-in-Ok-clause-answers
returns-in-Ok-clause-answers c = λ whole later older tokens goes split second.
    second_more whole later older (with_tokens tokens c.args.statement.now) c.args.self.now c.self.inside.is_second c.self.inside.symbols c.set_tags.new.symbols c.spot_and_word.new.symbols c.self.inside.spot c.in-Ok.spot
    c.self.inside.line c.self.inside.fault c.names.result.now c.in-Ok.pair c.self.view_is c.names.ensures (rw c.low.ensures.value at c.set_tags.ensures) c.in-Ok.ensures.made split second

pub returns-in-Err-clause-answers : goal.returns-in-Err-clause-answers
returns-in-Err-clause-answers c = λ whole later older tokens goes split second.
    second_fault_more whole later older (with_tokens tokens c.args.statement.now) c.args.self.now c.fail.new.self c.self.inside.is_second c.self.inside.symbols c.set_tags.new.symbols c.self.inside.spot c.self.inside.line
    c.self.inside.fault c.names.result.now c.in-Err.code c.fail.result c.self.view_is c.names.ensures (rw c.low.ensures.value at c.set_tags.ensures) c.in-Err.ensures.made c.fail.ensures.fault
    (ap (λ (p : Progress). p.fault) c.fail.ensures.failed) split second
