use Rattle.std.proofs.Common.{◌≡◌, ◌∙◌}
use Rattle.os8_dir.specs.Changes.{with_file_lower, moved_down}
use Rattle.os8_dir.proofs.ChangeLemmas.{tidied-neat, tidied-total, total-swapped}
use Rattle.os8_dir.proofs.directory.Directory.moved_down.Goals as goal

pub with_list-requires-clause-neat : goal.with_list-requires-clause-neat
with_list-requires-clause-neat c =
    let es = c.args.self.now.entries in
    let is : c.in_ok-entries.entries.items ≡ moved_down c.args.name.now es = rw (← c.entries.ensures.list) c.in_ok-entries.ensures in
    tidied-neat c.in_ok-entries.entries.items (with_file_lower c.args.name.now es) is

pub with_list-requires-clause-same : goal.with_list-requires-clause-same
with_list-requires-clause-same c =
    let es = c.args.self.now.entries in
    let is : c.in_ok-entries.entries.items ≡ moved_down c.args.name.now es = rw (← c.entries.ensures.list) c.in_ok-entries.ensures in
    tidied-total c.in_ok-entries.entries.items (with_file_lower c.args.name.now es) is ∙ total-swapped c.args.name.now es
