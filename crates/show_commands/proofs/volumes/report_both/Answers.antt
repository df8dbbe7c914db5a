use Rattle.std.proofs.Common.{inl, inr, refl}
use Rattle.disk_layouts.specs.declared.layouts.Layout.TheVariants.{First, Second}
use Rattle.show_commands.specs.Volumes.{ReportsNumbered}
use Rattle.image_files.specs.Work.{After}
use Rattle.image_files.proofs.WorkLemmas.{ends_with, part_after}
use Rattle.show_commands.proofs.volumes.report_both.Goals as goal

pub returns-in_err-one : goal.returns-in_err-one
returns-in_err-one g c = inl (ends_with (ReportsNumbered c.args.kind c.args.file.now 1 First c.args.body.now) _ _ _ _ c.in_err-one.ensures c.from_residual.ensures)

pub returns-in_err-other : goal.returns-in_err-other
returns-in_err-other g c =
    inr (record { given = c.in_ok-one.one; between = g.H.Host.history c.report_numbered.new.host; done = c.in_ok-one.ensures; after = inl (ends_with (After c.in_ok-one.one (ReportsNumbered c.args.kind c.args.file.now 2 Second c.args.body.now)) _ _ _ _ (part_after c.in_ok-one.one (ReportsNumbered c.args.kind c.args.file.now 2 Second c.args.body.now) _ _ _ _ c.report_numbered-second.ensures c.in_err-other.ensures) c.from_residual-in_err-other.ensures) })

pub returns : goal.returns
returns g c =
    inr (record { given = c.in_ok-one.one; between = g.H.Host.history c.report_numbered.new.host; done = c.in_ok-one.ensures; after = inr (record { given = c.in_ok-other.other; between = g.H.Host.history c.report_numbered-second.new.host; done = part_after c.in_ok-one.one (ReportsNumbered c.args.kind c.args.file.now 2 Second c.args.body.now) _ _ _ _ c.report_numbered-second.ensures c.in_ok-other.ensures; after = (rw c.are_both.ensures refl, refl) }) })
