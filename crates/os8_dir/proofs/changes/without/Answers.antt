use Rattle.std.proofs.Common.{◌+◌, take, ◌∙◌, arith}
use Rattle.os8_dir.specs.Changes.{entries_without}
use Rattle.os8_dir.proofs.ChangeLemmas.{emptied-item, size-emptied, total-emptied, total-item, tidied-neat, tidied-total, tidy-more}
use Rattle.os8_dir.proofs.changes.without.Goals as goal

pub append-requires-clause-neat : goal.append-requires-clause-neat
append-requires-clause-neat c = tidied-neat c.loop-entry.kept.items (entries_without c.args.name (take c.loop-entry.entry-index c.args.entries.now)) c.loop-entry.invariant

pub append-requires-clause-fits : goal.append-requires-clause-fits
append-requires-clause-fits c =
    let k = c.loop-entry.entry-index in
    let prefix = take k c.args.entries.now in
    rw (c.entry_without.ensures, size-emptied c.args.name c.entry-item.result) (omega (arith, tidied-total c.loop-entry.kept.items (entries_without c.args.name prefix) c.loop-entry.invariant, total-emptied c.args.name prefix, total-item k c.args.entries.now c.entry-item.result c.loop-entry-test.true c.entry-item.is))

pub loop-entry-preserved : goal.loop-entry-preserved
loop-entry-preserved c =
    let k = c.loop-entry.entry-index in
    let es = c.args.entries.now in
    c.in_ok-append.ensures ∙ rw c.entry_without.ensures (tidy-more c.loop-entry.kept.items (entries_without c.args.name (take k es)) _ (entries_without c.args.name (take (k + 1) es)) c.loop-entry.invariant (emptied-item c.args.name k es c.entry-item.result c.loop-entry-test.true c.entry-item.is))
