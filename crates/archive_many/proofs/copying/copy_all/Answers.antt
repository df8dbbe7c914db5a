use Rattle.std.proofs.Common.{List, ℕ, subst}
use Rattle.std.specs.Option.{option_copied}
use Rattle.archive_many.specs.CopySteps.{CopiesEach}
use Rattle.archive_many.proofs.CopyLemmas.{all-or-none}
use Rattle.archive_many.proofs.copying.copy_all.Goals as goal

pub returns : goal.returns
returns c =
    all-or-none c.args.from.now c.args.to.now (option_copied c.args.new_name) c.args.files.now c.args.is_forced c.copy_each.result c.in_ok-refuse_older.ensures
    (subst (λ (to : List ℕ). CopiesEach c.args.from.now to (option_copied c.args.new_name) c.args.files.now c.copy_each.result) c.in_ok-image.ensures c.copy_each.ensures)
