use Rattle.std.proofs.Common.{◌-◌, length, get_or, refl, arith}
use Rattle.source_names.proofs.NameLemmas.{others_stay, return_goes}
use Rattle.source_names.proofs.lines.without_return.Goals as goal

pub returns-then-last-eq13 : goal.returns-then-last-eq13
returns-then-last-eq13 c =
    let count = length c.args.line.now - 1 in
    return_goes c.args.line.now count (get_or c.args.line.now count 0) (omega (arith, c.in-len1-up.len_at_least)) refl c.if-last-eq13.true

pub returns-else-last-eq13 : goal.returns-else-last-eq13
returns-else-last-eq13 c =
    let count = length c.args.line.now - 1 in
    others_stay c.args.line.now count (get_or c.args.line.now count 0) (omega (arith, c.in-len1-up.len_at_least)) refl c.if-last-eq13.false
