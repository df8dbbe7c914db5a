use Rattle.std.proofs.Common.{inl}
use Rattle.script8.proofs.LineLemmas.{many_words}
use Rattle.script8.proofs.parsing.parse_words.Goals as goal

pub returns : goal.returns
returns c = inl (many_words c.args.command.now c.first_part-is_last.result.2.now c.first_part-is_last-2.result.2.now c.first_part-is_last-3.result.2.now _ _ _ _ _ _ c.first_part-is_last.ensures.parts c.if-is_last.false c.first_part-is_last-2.ensures.parts c.if-is_last-2.false c.first_part-is_last-3.ensures.parts c.if-is_last-3.false)
