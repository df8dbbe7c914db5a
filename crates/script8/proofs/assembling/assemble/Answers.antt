use Rattle.std.proofs.Common.{inl}
use Rattle.script8.proofs.LineLemmas.{many_targets}
use Rattle.script8.proofs.assembling.assemble.Goals as goal

pub returns-then-not-is_last : goal.returns-then-not-is_last
returns-then-not-is_last c = inl (many_targets c.args.word.now c.first_part-is_last.result.2.now c.first_part-is_last-2.result.2.now _ _ _ _ c.first_part-is_last.ensures.parts c.if-is_last.false c.first_part-is_last-2.ensures.parts c.if-not-is_last.true)
