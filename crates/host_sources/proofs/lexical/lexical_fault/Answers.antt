use Rattle.std.proofs.Common.{subst}
use Rattle.pal_lex.specs.Text.{text_of}
use Rattle.source_places.specs.Places.{place_in, place_by}
use Rattle.host_sources.specs.Steps.{IsMetAt}
use Rattle.host_sources.proofs.LocateLemmas.{refused_whole}
use Rattle.host_sources.proofs.MendLemmas.{lexical_found}
use Rattle.host_sources.proofs.lexical.lexical_fault.Goals as goal

pub returns-in_ok-fault-in-Some-clause-found : goal.returns-in_ok-fault-in-Some-clause-found
returns-in_ok-fault-in-Some-clause-found c =
    let text = c.args.text.now in
    let met = subst (IsMetAt text) c.in-Refused.is c.in_ok-end.ensures.met in
    lexical_found (λ at. place_by c.args.sources.now (place_in c.args.counts.now at)) (text_of text) c.in_ok-code-in-Refused.field-0 c.in-Some.code c.in-Some.line
    c.in_ok-fault-in-Some.fault (refused_whole text c.in-Refused.end met) c.in_ok-code-in-Refused.ensures.found c.in-Some.is c.in_ok-fault-in-Some.ensures.found
