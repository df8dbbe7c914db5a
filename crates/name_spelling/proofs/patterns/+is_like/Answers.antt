use Rattle.name_spelling.proofs.PatternLemmas.{any-here, any-none, any-more, one-none, one-fits, one-not}
use Rattle.name_spelling.proofs.patterns.+is_like.Goals as goal

pub returns-then-is_like : goal.returns-then-is_like
returns-then-is_like t c = any-here c.args.pattern.now c.args.codes.now c.is_like.result c.in-len1-up.len_at_least c.if-character-eq-ANY.true c.is_like.ensures c.if-is_like.true

pub returns-in-empty-codes : goal.returns-in-empty-codes
returns-in-empty-codes t c = any-none c.args.pattern.now c.args.codes.now c.is_like.result c.in-len1-up.len_at_least c.if-character-eq-ANY.true c.is_like.ensures c.if-is_like.false c.in-empty-codes.len_below

pub returns-in-len1-up-codes : goal.returns-in-len1-up-codes
returns-in-len1-up-codes t c =
    any-more c.args.pattern.now c.args.codes.now c.is_like.result c.is_like-in-len1-up-codes.result c.in-len1-up.len_at_least c.if-character-eq-ANY.true c.is_like.ensures c.if-is_like.false
    c.in-len1-up-codes.len_at_least c.is_like-in-len1-up-codes.ensures

pub returns-in-empty-codes-2 : goal.returns-in-empty-codes-2
returns-in-empty-codes-2 t c = one-none c.args.pattern.now c.args.codes.now c.in-len1-up.len_at_least c.if-character-eq-ANY.false c.in-empty-codes-2.len_below

pub returns-then-stands_for : goal.returns-then-stands_for
returns-then-stands_for t c =
    one-fits c.args.pattern.now c.args.codes.now c.stands_for.result c.is_like-then-stands_for.result c.in-len1-up.len_at_least c.if-character-eq-ANY.false c.in-len1-up-codes-2.len_at_least
    c.stands_for.ensures c.if-stands_for.true c.is_like-then-stands_for.ensures

pub returns-else-stands_for : goal.returns-else-stands_for
returns-else-stands_for t c =
    one-not c.args.pattern.now c.args.codes.now c.stands_for.result c.in-len1-up.len_at_least c.if-character-eq-ANY.false c.in-len1-up-codes-2.len_at_least c.stands_for.ensures c.if-stands_for.false
