use Rattle.std.proofs.Common.{◌≡◌, ◌+◌, ◌-◌, ◌<◌, Ok, ◌∙◌, arith}
use Rattle.std.proofs.lemmas.Result.{err_from_is_err_and}
use Rattle.os8_dir.specs.Reading.{entry_at}
use Rattle.os8_dir.proofs.ReadingLemmas.{finds-whole, with_entries-none, with_entries-more, with_entries-entry, with_entries-added}
use Rattle.os8_dir.proofs.drafts.Draft.add_entries.Goals as goal

pub returns-in_err-add-in-Ok : goal.returns-in_err-add-in-Ok
returns-in_err-add-in-Ok c =
    let some : 0 < c.args.count - c.loop-done._done = omega arith in
    let p = err_from_is_err_and c.from_residual.result c.from_residual.ensures.1 in
    let entry : entry_at c.loop-done.self.info c.loop-done.rest.now ≡ Ok (c.in-Ok.entry, c.in-Ok.following.now) = rw (← c.self.view_is) c.in-Ok.ensures.reading in
    record {
      reading = rw (p.1, p.2) (finds-whole c.in_err-add-in-Ok.field-0.0 _ _ c.in_err-add-in-Ok.ensures.reading (λ met. c.loop-done.invariant ∙ with_entries-added (c.args.count - c.loop-done._done) c.args.volume c.loop-done.self c.loop-done.rest.now (c.in-Ok.entry, c.in-Ok.following.now) c.in_err-add-in-Ok.field-0.0 some entry met));
    }

pub returns-in-Err : goal.returns-in-Err
returns-in-Err c =
    let some : 0 < c.args.count - c.loop-done._done = omega arith in
    record {
      reading = finds-whole c.in-Err.fault _ _ c.in-Err.ensures.reading (λ met. c.loop-done.invariant ∙ with_entries-entry (c.args.count - c.loop-done._done) c.args.volume c.loop-done.self c.loop-done.rest.now c.in-Err.fault some (rw (← c.self.view_is) met));
    }

pub loop-done-preserved : goal.loop-done-preserved
loop-done-preserved c =
    let some : 0 < c.args.count - c.loop-done._done = omega arith in
    let less : c.args.count - (c.loop-done._done + 1) ≡ (c.args.count - c.loop-done._done) - 1 = omega arith in
    rw less (c.loop-done.invariant ∙ with_entries-more (c.args.count - c.loop-done._done) c.args.volume c.loop-done.self c.add.new.self c.loop-done.rest.now (c.in-Ok.entry, c.in-Ok.following.now) some (rw (← c.self.view_is) c.in-Ok.ensures.reading) c.in_ok-add-in-Ok.ensures.reading)

pub returns : goal.returns
returns c =
    let none : c.args.count - c.loop-done._done ≡ 0 = omega arith in
    record { reading = c.loop-done.invariant ∙ rw none (with_entries-none _ _ _) }
