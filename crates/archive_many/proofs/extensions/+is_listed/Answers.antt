use Rattle.archive_many.proofs.ExtensionLemmas.{listed-here, listed-more, listed-none}
use Rattle.archive_many.proofs.extensions.+is_listed.Goals as goal

pub returns-then-spells : goal.returns-then-spells
returns-then-spells t c =
    listed-here c.args.list.now c.split_at.result.0.now c.split_at.result.1.now c.comma_in.result c.args.extension c.spells.result
    c.comma_in.ensures.place c.split_at.ensures.front c.split_at.ensures.back c.spells.ensures c.if-spells.true

pub returns-in-empty : goal.returns-in-empty
returns-in-empty t c =
    listed-none c.args.list.now c.split_at.result.0.now c.split_at.result.1.now c.comma_in.result c.args.extension c.spells.result
    c.comma_in.ensures.place c.split_at.ensures.front c.split_at.ensures.back c.spells.ensures c.if-spells.false c.in-empty.len_below

pub returns-in-len1-up : goal.returns-in-len1-up
returns-in-len1-up t c =
    listed-more c.args.list.now c.split_at.result.0.now c.split_at.result.1.now c.comma_in.result c.args.extension c.spells.result c.is_listed.result
    c.comma_in.ensures.place c.split_at.ensures.front c.split_at.ensures.back c.spells.ensures c.if-spells.false c.in-len1-up.len_at_least c.is_listed.ensures
