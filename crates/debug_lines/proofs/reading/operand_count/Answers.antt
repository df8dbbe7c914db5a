use Rattle.std.proofs.Common.{◌∙◌, ap, sym, take}
use Rattle.debug_lines.proofs.LineLemmas.{taken, own_words}
use Rattle.debug_lines.proofs.reading.operand_count.Goals as goal

pub returns-else-is_named-clause-operands : goal.returns-else-is_named-clause-operands
returns-else-is_named-clause-operands c =
    ap (λ count. take count c.args.words.now) c.place_of_end.ensures.place ∙ taken c.args.line.now c.args.words.now
    ∙ own_words _ c.args.verb _ (sym c.is_named.ensures ∙ c.if-is_named.false)
