use Rattle.std.proofs.Common.{sym, subst}
use Rattle.volume_jobs.specs.Steps.{HasHeld}
use Rattle.volume_jobs.proofs.PlaceLemmas.{taken_more}
use Rattle.volume_jobs.proofs.places.hold_next.Goals as goal

pub returns-clause-held : goal.returns-clause-held
returns-clause-held g c = λ first held.
    subst (λ l. HasHeld first l c.hold.new.self) (sym c.put_hold.ensures)
    (taken_more c.counted_holds.ensures.taken first c.args.files.now c.hold.new.self c.args.places.now c.args.place c.args.name c.in_ok-hold.hold c.requires.inside c.requires.free c.in_ok-hold.ensures.names c.in_ok-hold.ensures.others held)

pub returns-in_err-reserve-clause-held : goal.returns-in_err-reserve-clause-held
returns-in_err-reserve-clause-held g c = λ first held.
    subst (λ l. HasHeld first l c.hold.new.self) (sym c.put_hold.ensures)
    (taken_more c.counted_holds.ensures.taken first c.args.files.now c.hold.new.self c.args.places.now c.args.place c.args.name c.in_ok-hold.hold c.requires.inside c.requires.free c.in_ok-hold.ensures.names c.in_ok-hold.ensures.others held)
