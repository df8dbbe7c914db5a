use Rattle.std.proofs.Common.{◌+◌, [], take, sym, subst}
use Rattle.pal_lex.specs.Text.{text_of}
use Rattle.pal_lex.specs.Statements.{statements}
use Rattle.pal_asm.specs.Passes.{IsSecond}
use Rattle.host_sources.specs.Steps.{Passes}
use Rattle.host_sources.proofs.LocateLemmas.{same_statements, over_whole, fine_whole, wordless, turned}
use Rattle.host_sources.proofs.locating.fault_end.Goals as goal

pub second_pass-requires-clause-second : goal.second_pass-requires-clause-second
second_pass-requires-clause-second c =
    let passes = subst (λ p. Passes c.args.text.now p c.first_pass.new.assembler) c.in-Over.is c.in_ok-end.ensures.passes in
    subst (λ s. IsSecond c.begin_second.new.self s []) (sym (same_statements c.args.text.now c.in-Over.end c.first_pass.new.assembler c.dollar_ends_source.ensures passes))
    (c.in-Ok.ensures.turns (statements (text_of (take (c.in-Over.end + 1) c.args.text.now))) passes.1)

pub second_pass-requires-clause-over : goal.second_pass-requires-clause-over
second_pass-requires-clause-over c =
    over_whole c.args.text.now c.in-Over.end c.first_pass.new.assembler (subst (λ p. Passes c.args.text.now p c.first_pass.new.assembler) c.in-Over.is c.in_ok-end.ensures.passes)

pub returns-in-Ok-clause-met : goal.returns-in-Ok-clause-met
returns-in-Ok-clause-met c =
    let passes = subst (λ p. Passes c.args.text.now p c.first_pass.new.assembler) c.in-Over.is c.in_ok-end.ensures.passes in (
      c.in_ok-end-in-Ok.ensures.settled,
      fine_whole c.args.text.now c.in-Over.end c.first_pass.new.assembler c.dollar_ends_source.ensures passes,
      over_whole c.args.text.now c.in-Over.end c.first_pass.new.assembler passes,
    )

pub returns-clause-met : goal.returns-clause-met
returns-clause-met c =
    let text = c.args.text.now in
    let end = c.in-Over.end in
    let assembler = c.first_pass.new.assembler in
    let passes = subst (λ p. Passes text p assembler) c.in-Over.is c.in_ok-end.ensures.passes in
    let ends = c.dollar_ends_source.ensures in
    let whole = statements (text_of (take (end + 1) text)) in
    let none = turned whole c.in-Err.field-0 assembler c.begin_second.new.self (c.in-Err.ensures.turns whole passes.1) in
    (wordless text end assembler c.in-Err.field-0 ends passes none, fine_whole text end assembler ends passes, over_whole text end assembler passes)
