use Rattle.std.proofs.Common.{◌-◌, length, refl}
use Rattle.history8.proofs.ListLemmas.{last-len, end-steps, end-other, no-step-of}
use Rattle.history8.proofs.lists.end_of.Goals as goal

pub returns-in-Steps-clause-place : goal.returns-in-Steps-clause-place
returns-in-Steps-clause-place c =
    let entries = c.args.entries.now in
    end-steps entries c.args.count (length entries - 1) c.in-Steps.quick c.in-Steps.steps c.index-entries-last.result c.requires.count c.requires.some
    (last-len (length entries) c.is_empty.result c.is_empty.ensures c.if-is_empty.false) c.index-entries-last.is c.in-Steps.is

pub returns-in_default : goal.returns-in_default
returns-in_default c =
    let entries = c.args.entries.now in
    record {
      place = end-other entries c.args.count (length entries - 1) c.index-entries-last.result c.requires.count
          (last-len (length entries) c.is_empty.result c.is_empty.ensures c.if-is_empty.false) c.index-entries-last.is
          (no-step-of c.index-entries-last.result c.in_default.not-Steps);
      count = refl;
    }
