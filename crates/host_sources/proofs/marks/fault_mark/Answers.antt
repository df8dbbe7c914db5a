use Rattle.std.proofs.Common.{ap, sym, subst, ◌∙◌}
use Rattle.pal_lex.specs.Text.{text_of}
use Rattle.pal_asm.specs.Faults.{first_order}
use Rattle.pal_lex.specs.Statements.{statements}
use Rattle.host_sources.specs.Marks.{mark_of}
use Rattle.host_sources.specs.Steps.{IsMetAt}
use Rattle.host_sources.proofs.MarkLemmas.{refused_mark, settled_mark, open_mark, refused_fine}
use Rattle.host_sources.proofs.UnknownLemmas.{fine_before}
use Rattle.host_sources.proofs.marks.fault_mark.Goals as goal

pub mark_of-requires : goal.mark_of-requires
mark_of-requires c =
    ap (λ b. first_order (statements (text_of b))) c.first_bytes.ensures ∙ refused_fine c.args.text.now c.in-Refused.end (subst (IsMetAt c.args.text.now) c.in-Refused.is c.requires)

pub mark_of-requires-in-Over : goal.mark_of-requires-in-Over
mark_of-requires-in-Over c =
    ap (λ b. first_order (statements (text_of b))) c.first_bytes-in-Over.ensures
    ∙ fine_before c.args.text.now c.in-Over.end c.statements_stay.ensures c.no_fault_before.ensures (subst (IsMetAt c.args.text.now) c.in-Over.is c.requires).1

pub returns-in_ok-mark-in-Refused-clause-mark : goal.returns-in_ok-mark-in-Refused-clause-mark
returns-in_ok-mark-in-Refused-clause-mark c =
    c.in_ok-mark-in-Refused.ensures.mark ∙ ap (λ b. mark_of c.args.code c.args.name (text_of b)) c.first_bytes.ensures
    ∙ refused_mark c.args.code c.args.name c.args.text.now c.in-Refused.end (subst (IsMetAt c.args.text.now) c.in-Refused.is c.requires)

pub returns-in_ok-mark-in-Over-clause-mark : goal.returns-in_ok-mark-in-Over-clause-mark
returns-in_ok-mark-in-Over-clause-mark c =
    c.in_ok-mark-in-Over.ensures.mark ∙ ap (λ b. mark_of c.args.code c.args.name (text_of b)) c.first_bytes-in-Over.ensures
    ∙ settled_mark c.args.code c.args.name c.args.text.now c.in-Over.end (subst (IsMetAt c.args.text.now) c.in-Over.is c.requires)

pub returns-in-Open-clause-mark : goal.returns-in-Open-clause-mark
returns-in-Open-clause-mark c = sym (open_mark c.args.code c.args.name c.args.text.now (subst (IsMetAt c.args.text.now) c.in-Open.is c.requires))
