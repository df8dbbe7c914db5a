use Rattle.history8.proofs.ListLemmas.{adds-entry, more-no-step}
use Rattle.history8.proofs.journals.Journal.note_change.Goals as goal

pub returns-clause-changes : goal.returns-clause-changes
returns-clause-changes c =
    (adds-entry c.args.self.now.entries.items c.push_reserved.new.self.items c.args.entry c.requires.some
    (more-no-step c.args.entry c.requires.no_step) c.push_reserved.ensures.items).is

pub returns-clause-some : goal.returns-clause-some
returns-clause-some c =
    (adds-entry c.args.self.now.entries.items c.push_reserved.new.self.items c.args.entry c.requires.some
    (more-no-step c.args.entry c.requires.no_step) c.push_reserved.ensures.items).some

pub returns-clause-places : goal.returns-clause-places
returns-clause-places c =
    (adds-entry c.args.self.now.entries.items c.push_reserved.new.self.items c.args.entry c.requires.some
    (more-no-step c.args.entry c.requires.no_step) c.push_reserved.ensures.items).places
