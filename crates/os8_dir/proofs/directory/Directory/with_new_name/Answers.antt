use Rattle.std.proofs.Common.{◌≡◌, ap, ◌∙◌}
use Rattle.os8_dir.specs.Changes.{directory_with}
use Rattle.os8_dir.specs.Renaming.{with_new_name}
use Rattle.os8_dir.proofs.RenamingLemmas.{tidy-renamed, total-renamed}
use Rattle.os8_dir.proofs.directory.Directory.with_new_name.Goals as goal

pub with_list-requires : goal.with_list-requires
with_list-requires c =
    let d = c.args.self.now in
    let kept = c.in_ok-entries.entries.items in
    let is : kept ≡ with_new_name c.args.name.now c.args.new_name d.entries = rw (← c.entries.ensures.list) c.in_ok-entries.ensures in
    record {
      neat = rw is (tidy-renamed c.args.name.now c.args.new_name d.entries c.entries.ensures.neat);
      same = rw is (total-renamed c.args.name.now c.args.new_name d.entries);
    }

pub returns : goal.returns
returns c = record {
  list = c.with_list.ensures ∙ ap (directory_with c.args.self.now) (rw (← c.entries.ensures.list) c.in_ok-entries.ensures);
  err = tt;
}
