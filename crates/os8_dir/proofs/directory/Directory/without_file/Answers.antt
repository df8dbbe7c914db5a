use Rattle.std.proofs.Common.{◌≡◌, ap, ◌∙◌}
use Rattle.os8_dir.specs.Changes.{entries_without, without_file, directory_with}
use Rattle.os8_dir.proofs.ChangeLemmas.{tidied-neat, tidied-total, total-emptied}
use Rattle.os8_dir.proofs.directory.Directory.without_file.Goals as goal

pub with_list-requires : goal.with_list-requires
with_list-requires c =
    let d = c.args.self.now in
    let kept = c.in_ok-entries.entries.items in
    let is : kept ≡ without_file c.args.name.now d.entries = rw (← c.entries.ensures.list) c.in_ok-entries.ensures in
    record {
      neat = tidied-neat kept (entries_without c.args.name.now d.entries) is;
      same = tidied-total kept (entries_without c.args.name.now d.entries) is ∙ total-emptied c.args.name.now d.entries;
    }

pub returns : goal.returns
returns c = record {
  list = c.with_list.ensures ∙ ap (directory_with c.args.self.now) (rw (← c.entries.ensures.list) c.in_ok-entries.ensures);
  err = tt;
}
