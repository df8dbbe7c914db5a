use Rattle.drive_files.proofs.KeepLemmas.{drives-keep, drives-unplaced, saves-none}
use Rattle.drive_files.proofs.laws.unchanged_files.Goals as goal

pub returns-clause-opened : goal.returns-clause-opened
returns-clause-opened c = drives-keep

pub returns-clause-unsaved : goal.returns-clause-unsaved
returns-clause-unsaved c form drives before between is opens disk places old result new saves = saves-none disk drives places old result new (drives-unplaced form is drives before between opens) saves
