use Rattle.std.proofs.Common.{◌+◌, ◌≤◌, take, ◌∙◌, arith}
use Rattle.os8_dir.specs.Entries.{size_of}
use Rattle.os8_dir.specs.Changes.{entries_without, put}
use Rattle.os8_dir.proofs.ChangeLemmas.{put-item, total-put, size-emptied, total-emptied, total-item, total-take-item, tidied-neat, tidied-total, tidy-more}
use Rattle.os8_dir.proofs.changes.with_file.Goals as goal

pub append_laid-requires-clause-neat : goal.append_laid-requires-clause-neat
append_laid-requires-clause-neat c = tidied-neat c.loop-entry.kept.items (put c.args.first c.args.from c.args.file.now (entries_without c.args.name (take c.loop-entry.entry-index c.args.entries.now))) c.loop-entry.invariant.list

pub append_laid-requires-clause-fits : goal.append_laid-requires-clause-fits
append_laid-requires-clause-fits c =
    let k = c.loop-entry.entry-index in
    let prefix = take k c.args.entries.now in
    rw (c.entry_without.ensures, size-emptied c.args.name c.entry-item.result) (omega (arith, tidied-total c.loop-entry.kept.items (put c.args.first c.args.from c.args.file.now (entries_without c.args.name prefix)) c.loop-entry.invariant.list, total-put c.args.first c.args.from c.args.file.now (entries_without c.args.name prefix), total-emptied c.args.name prefix, total-item k c.args.entries.now c.entry-item.result c.loop-entry-test.true c.entry-item.is, c.requires.inside))

pub append_laid-requires-clause-inside : goal.append_laid-requires-clause-inside
append_laid-requires-clause-inside c =
    rw (c.entry_without.ensures, size-emptied c.args.name c.entry-item.result) (omega (arith, c.loop-entry.invariant.place, total-item c.loop-entry.entry-index c.args.entries.now c.entry-item.result c.loop-entry-test.true c.entry-item.is, c.requires.inside))

pub overflow_add-place : goal.overflow_add-place
overflow_add-place c =
    let fits : c.loop-entry.place + size_of c.entry-item.result ≤ 4095 = omega (arith, c.loop-entry.invariant.place, total-item c.loop-entry.entry-index c.args.entries.now c.entry-item.result c.loop-entry-test.true c.entry-item.is, c.requires.inside) in
    omega (arith, c.length-place.ensures)

pub loop-entry-preserved : goal.loop-entry-preserved
loop-entry-preserved c =
    let k = c.loop-entry.entry-index in
    let es = c.args.entries.now in
    record {
      list = c.in_ok-append_laid.ensures ∙ rw c.entry_without.ensures (tidy-more c.loop-entry.kept.items (put c.args.first c.args.from c.args.file.now (entries_without c.args.name (take k es))) _ (put c.args.first c.args.from c.args.file.now (entries_without c.args.name (take (k + 1) es))) c.loop-entry.invariant.list (put-item c.args.first c.args.from c.args.name k c.args.file.now es c.entry-item.result c.loop-entry.place c.loop-entry.invariant.place c.loop-entry-test.true c.entry-item.is));
      place = omega (arith, c.loop-entry.invariant.place, c.length-place.ensures, total-take-item k es c.entry-item.result c.loop-entry-test.true c.entry-item.is);
    }
