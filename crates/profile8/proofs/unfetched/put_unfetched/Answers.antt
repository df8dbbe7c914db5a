use Rattle.profile8.specs.Profile.{is_flagged, is_never}
use Rattle.profile8.proofs.TextLemmas.{never-begun, never-more}
use Rattle.profile8.proofs.unfetched.put_unfetched.Goals as goal

pub loop-cell-init : goal.loop-cell-init
loop-cell-init c = never-begun (is_never c.args.counts.now (is_flagged c.args.given.now)) c.args.text.now.items

pub loop-cell-preserved : goal.loop-cell-preserved
loop-cell-preserved c =
    never-more (is_never c.args.counts.now (is_flagged c.args.given.now)) c.loop-cell.cell c.args.text.now.items c.loop-cell.text.items
    c.put_bounds.new.text.items c.loop-cell.invariant c.in_ok-put_bounds.ensures
