use Rattle.std.proofs.Common.{rules, ◌≡◌, ◌+◌, ◌*◌, ◌≤◌, Err, ◌∷◌, length}
use Rattle.outcome.specs.declared.contents.Content.TheVariants.{Image}
use Rattle.outcome.specs.declared.endings.Ending.TheVariants.{Busy}
use Rattle.image_files.specs.Reading.{Holds}
use Rattle.image_files.proofs.waiting.hold_within.Goals as goal

pub loop-tries-preserved : goal.loop-tries-preserved
loop-tries-preserved g c =
    let before = g.H.Host.history c.loop-tries.host in
    let earlier = c.loop-tries.invariant.busy.0 in
    let counted : length earlier ≡ c.loop-tries.tries = c.loop-tries.invariant.busy.2 in
    let does : Holds c.args.name.now before (Err (Busy Image)) (g.H.Host.history c.hold.new.host) =
    rw c.in-Err-Busy-Image.field-0-0-is at (rw c.in-Err-Busy-Image.field-0-is at c.in-Err-Busy-Image.ensures)
    in
    let few : c.loop-tries.tries + 1 ≤ 20 * c.args.seconds = search rules in
    let count : length (before ∷ earlier) ≡ c.loop-tries.tries + 1 = search rules in
    record {
      most = c.loop-tries.invariant.most;
      few = few;
      busy = (before ∷ earlier, (c.loop-tries.invariant.busy.1, g.H.Host.history c.hold.new.host, does, c.pause.ensures), count);
    }
