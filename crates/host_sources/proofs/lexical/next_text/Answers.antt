use Rattle.std.proofs.Common.{is_some, sym, ap, subst, ◌∙◌}
use Rattle.pal_lex.specs.Text.{text_of}
use Rattle.host_sources.specs.Steps.{IsMetAt}
use Rattle.host_sources.proofs.LocateLemmas.{refused_whole}
use Rattle.host_sources.proofs.MendLemmas.{by_refused, goes_mended}
use Rattle.host_sources.proofs.lexical.next_text.Goals as goal

pub returns-in_ok-next-in-Some-clause-goes : goal.returns-in_ok-next-in-Some-clause-goes
returns-in_ok-next-in-Some-clause-goes c =
    let text = c.args.text.now in
    let met = subst (IsMetAt text) c.in-Refused.is c.in_ok-end.ensures.met in
    goes_mended (text_of text) c.in_ok-next-in-Some.next
    (ap is_some (sym (by_refused (text_of text) (refused_whole text c.in-Refused.end met)) ∙ sym c.in_ok-code_of-in-Refused.ensures.found ∙ c.in-Some.is))
    c.in_ok-next-in-Some.ensures.mended
