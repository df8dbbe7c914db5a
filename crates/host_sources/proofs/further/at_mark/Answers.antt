use Rattle.std.proofs.Common.{is_some, take, ap, ◌∙◌}
use Rattle.pal_lex.specs.Text.{text_of}
use Rattle.pal_lex.specs.Statements.{statements}
use Rattle.pal_asm.specs.Faults.{first_order}
use Rattle.host_sources.proofs.UnknownLemmas.{fine_before}
use Rattle.host_sources.proofs.further.at_mark.Goals as goal

pub mark_of-requires : goal.mark_of-requires
mark_of-requires c =
    let text = c.args.join.now.text.items in
    let end = c.args.found.now.end in
    ap (λ b. first_order (statements (text_of b))) (c.first_bytes-before.ensures ∙ ap (take end) c.deref.ensures.value)
    ∙ fine_before text end c.statements_stay.ensures c.no_fault_before.ensures (ap is_some c.requires)
