use Rattle.std.proofs.Common.{Bool, false, not, ◌||◌, ap, sym, subst, ◌∙◌}
use Rattle.pal_lex.specs.Text.{text_of, is_over}
use Rattle.host_sources.specs.Steps.{Passes}
use Rattle.host_sources.proofs.LocateLemmas.{refused_whole, over_whole, fine_whole}
use Rattle.host_sources.proofs.locating.is_passed.Goals as goal

pub returns-in-Over-clause-passed : goal.returns-in-Over-clause-passed
returns-in-Over-clause-passed c =
    let text = c.args.text.now in
    let assembler = c.first_pass.new.assembler in
    let passes = subst (λ p. Passes text p assembler) c.in-Over.is c.in_ok-first_pass.ensures.passes in
    sym
    (ap (λ (r : Bool). not (r || not (is_over (text_of text)))) (fine_whole text c.in-Over.field-0 assembler c.dollar_ends_source.ensures passes)
    ∙ ap (λ (o : Bool). not (false || not o)) (over_whole text c.in-Over.field-0 assembler passes))

pub returns-in-Refused-clause-passed : goal.returns-in-Refused-clause-passed
returns-in-Refused-clause-passed c =
    let text = c.args.text.now in
    let assembler = c.first_pass.new.assembler in
    let passes = subst (λ p. Passes text p assembler) c.in-Refused.is c.in_ok-first_pass.ensures.passes in
    sym (ap (λ (r : Bool). not (r || not (is_over (text_of text)))) (refused_whole text c.in-Refused.field-0 passes))
