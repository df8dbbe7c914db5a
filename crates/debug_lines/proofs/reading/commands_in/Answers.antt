use Rattle.std.proofs.Common.{◌∙◌, ap, arith, sym}
use Rattle.debug_lines.specs.Lines.{commands_from}
use Rattle.debug_lines.proofs.LineLemmas.{next_command, onto}
use Rattle.debug_lines.proofs.reading.commands_in.Goals as goal

pub loop-rest-preserved : goal.loop-rest-preserved
loop-rest-preserved c =
    c.loop-rest.invariant
    ∙ next_command c.args.line.now c.loop-rest.commands.items c.put.new.items.items c.loop-rest.rest.now c.split_at.result.1.now c.in_ok-verb.verb
    c.in_ok-command.command c.operand_count.result c.split_at-else-is_word.result.0.now c.command_of.result
    (first_of (omega (arith, c.loop-rest-test.true), grind (arith, c.is_empty.ensures, c.loop-rest-test.true)))
    c.split_at.ensures.back (sym c.is_word.ensures ∙ c.if-is_word.false) (sym c.verb_in.ensures ∙ c.in_ok-verb.was)
    (c.split_at-else-is_word.ensures.front ∙ c.operand_count.ensures.operands) c.operand_count.ensures.count
    c.command_of.ensures c.in_ok-command.was c.in_ok-put.ensures
    ∙ ap (λ those. onto c.put.new.items.items (commands_from c.args.line.now 0 those)) (sym c.split_at-else-is_word.ensures.back)
