use Rattle.std.proofs.Common.{◌-◌, length}
use Rattle.history8.proofs.ListLemmas.{last-len, ends-in}
use Rattle.history8.proofs.lists.last_steps.Goals as goal

pub returns-then-is_quick-quick : goal.returns-then-is_quick-quick
returns-then-is_quick-quick c =
    let entries = c.args.entries.now in
    ends-in entries (length entries - 1) c.index-entries-entries.result c.in-Steps.is_quick c.args.quick c.in-Steps.count
    (last-len (length entries) c.is_empty.result c.is_empty.ensures c.if-is_empty.false) c.index-entries-entries.is c.in-Steps.is c.if-is_quick-quick.true
