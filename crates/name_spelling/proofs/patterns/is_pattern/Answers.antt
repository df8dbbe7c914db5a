use Rattle.name_spelling.proofs.PatternLemmas.{parts-hold, part-fails}
use Rattle.name_spelling.proofs.patterns.is_pattern.Goals as goal

pub returns-then-are_within : goal.returns-then-are_within
returns-then-are_within c =
    parts-hold c.args.word.now c.split_at.result.0.now c.split_at.result.1.now c.dot_in.result c.are_within.result c.is_extension_pattern.result
    c.dot_in.ensures.place c.split_at.ensures.front c.split_at.ensures.back c.are_within.ensures c.if-are_within.true c.is_extension_pattern.ensures

pub returns-else-are_within : goal.returns-else-are_within
returns-else-are_within c =
    part-fails c.args.word.now c.split_at.result.0.now c.split_at.result.1.now c.dot_in.result c.are_within.result
    c.dot_in.ensures.place c.split_at.ensures.front c.split_at.ensures.back c.are_within.ensures c.if-are_within.false
