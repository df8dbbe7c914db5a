use Rattle.os8_dir.proofs.RenamingLemmas.{pushed}
use Rattle.os8_dir.proofs.renaming.with_name.Goals as goal

pub loop-entry-preserved : goal.loop-entry-preserved
loop-entry-preserved c =
    pushed c.args.name c.args.new_name c.loop-entry.entry-index c.args.entries.now c.entry-item.result c.renamed_entry.result c.loop-entry.kept.items c.push.new.self.items
    c.in_ok-push.ensures.items c.renamed_entry.ensures c.loop-entry.invariant c.loop-entry-test.true c.entry-item.is
