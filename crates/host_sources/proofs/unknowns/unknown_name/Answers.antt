use Rattle.std.proofs.Common.{subst, ◌∙◌}
use Rattle.pal_lex.specs.Text.{text_of}
use Rattle.pal_lex.specs.Statements.{statements}
use Rattle.pal_asm.specs.Places.{values, values_at}
use Rattle.pal_asm.specs.Words.{word_values}
use Rattle.host_sources.specs.Steps.{IsMetAt}
use Rattle.host_sources.proofs.UnknownLemmas.{stands_first, stands_last, fine_before, refused_name, settled_name}
use Rattle.host_sources.proofs.unknowns.unknown_name.Goals as goal

pub unknown_ended-requires-in-Over-clause-fine : goal.unknown_ended-requires-in-Over-clause-fine
unknown_ended-requires-in-Over-clause-fine c =
    fine_before c.args.text.now c.in-Over.end c.statements_stay.ensures c.no_fault_before.ensures (subst (IsMetAt c.args.text.now) c.in-Over.is c.requires).1

pub returns-in_ok-name-in-Refused-clause-name : goal.returns-in_ok-name-in-Refused-clause-name
returns-in_ok-name-in-Refused-clause-name c =
    let none = c.no_names-none.result in
    c.in_ok-name-in-Refused.ensures.name values_at (stands_first none.symbols none.place c.no_names-none.ensures)
    ∙ refused_name c.args.text.now c.in-Refused.end (subst (IsMetAt c.args.text.now) c.in-Refused.is c.requires)

pub returns-in_ok-name-in-Over-clause-name : goal.returns-in_ok-name-in-Over-clause-name
returns-in_ok-name-in-Over-clause-name c =
    let text = c.args.text.now in
    let last = c.in_ok-last-in-Over.last in
    let whole = statements (text_of text) in
    c.in_ok-name-in-Over.ensures.name (word_values (values whole)) (stands_last last.symbols last.place whole c.in_ok-last-in-Over.ensures.names)
    ∙ settled_name text c.in-Over.end (subst (IsMetAt text) c.in-Over.is c.requires)
