use Rattle.std.proofs.Common.{sym, subst}
use Rattle.host_sources.specs.Steps.{Passes}
use Rattle.host_sources.proofs.LocateLemmas.{refused_whole, fine_whole}
use Rattle.host_sources.proofs.locating.is_refused.Goals as goal

pub returns-in-Over-clause-refused : goal.returns-in-Over-clause-refused
returns-in-Over-clause-refused c =
    let text = c.args.text.now in
    let assembler = c.first_pass.new.assembler in
    let passes = subst (λ p. Passes text p assembler) c.in-Over.is c.in_ok-first_pass.ensures.passes in
    sym (fine_whole text c.in-Over.field-0 assembler c.dollar_ends_source.ensures passes)

pub returns-in-Refused-clause-refused : goal.returns-in-Refused-clause-refused
returns-in-Refused-clause-refused c =
    let text = c.args.text.now in
    let assembler = c.first_pass.new.assembler in
    let passes = subst (λ p. Passes text p assembler) c.in-Refused.is c.in_ok-first_pass.ensures.passes in
    sym (refused_whole text c.in-Refused.field-0 passes)
