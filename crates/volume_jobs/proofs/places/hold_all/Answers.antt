use Rattle.std.proofs.Common.{◌∙◌, Ok, Err, ap, subst, arith}
use Rattle.std.proofs.lemmas.Result.{err_from_is_err_and}
use Rattle.os8_dir.specs.Files.{files_of}
use Rattle.os8_files.specs.Mounted.{MountState}
use Rattle.volume_jobs.specs.Steps.{HoldsFirst, TakesNext}
use Rattle.volume_jobs.proofs.HoldLemmas.{none_taken, first_none, free_next, held_next, not_held, take_whole}
use Rattle.volume_jobs.proofs.places.hold_all.Goals as goal

pub loop-place-init : goal.loop-place-init
loop-place-init g c = record {
  size = c.requires.size;
  first = first_none _ c.args.places.now c.args.blocks.now.items c.requires.free c.requires.none;
  held = none_taken c.args.files.now c.args.places.now c.requires.free;
}

pub hold_next-requires-clause-running : goal.hold_next-requires-clause-running
hold_next-requires-clause-running g c = ap (λ (m : MountState). m.stopped) c.loop-place.invariant.held.others ∙ c.requires.running

pub hold_next-requires-clause-free : goal.hold_next-requires-clause-free
hold_next-requires-clause-free g c = free_next (files_of c.args.files.now.blocks) c.args.names.now c.loop-place.places c.loop-place.blocks.items c.loop-place.place c.loop-place.total c.loop-place.invariant.first c.loop-place-test.true

pub loop-place-preserved : goal.loop-place-preserved
loop-place-preserved g c =
    let i = c.loop-place.invariant in
    record {
      size = c.in_ok-count.ensures.size ∙ i.size;
      first = held_next (files_of c.args.files.now.blocks) c.args.names.now c.index-names-place.result c.loop-place.places c.hold_next.new.places c.loop-place.blocks.items c.hold_next.new.blocks.items c.loop-place.place c.loop-place.total c.in_ok-count.count i.first c.loop-place-test.true
          (omega (arith, c.loop-place-test.true, c.requires.few, i.size)) c.index-names-place.is
          (subst (λ (m : MountState). TakesNext (files_of m.blocks) c.index-names-place.result c.loop-place.places c.loop-place.place c.loop-place.blocks.items (Ok c.in_ok-count.count) c.hold_next.new.places c.hold_next.new.blocks.items) i.held.others c.in_ok-count.ensures.next);
      held = c.in_ok-count.ensures.held c.args.files.now i.held;
    }

pub returns-in_err-count-clause-all : goal.returns-in_err-count-clause-all
returns-in_err-count-clause-all g c =
    let e = err_from_is_err_and c.from_residual.result c.from_residual.ensures.1 in
    rw (e.1, e.2) (not_held (files_of c.args.files.now.blocks) c.args.names.now c.index-names-place.result c.loop-place.places c.hold_next.new.places c.loop-place.blocks.items c.hold_next.new.blocks.items c.loop-place.place c.in_err-count.field-0.0 c.loop-place-test.true c.index-names-place.is
    (subst (λ (m : MountState). TakesNext (files_of m.blocks) c.index-names-place.result c.loop-place.places c.loop-place.place c.loop-place.blocks.items (Err c.in_err-count.field-0.0) c.hold_next.new.places c.hold_next.new.blocks.items) c.loop-place.invariant.held.others c.in_err-count.ensures.next))

pub returns-in_err-count-clause-held : goal.returns-in_err-count-clause-held
returns-in_err-count-clause-held g c = c.in_err-count.ensures.held c.args.files.now c.loop-place.invariant.held

pub returns-clause-all : goal.returns-clause-all
returns-clause-all g c = subst (λ l. HoldsFirst (files_of c.args.files.now.blocks) l c.loop-place.places c.loop-place.blocks.items c.loop-place.total) (take_whole c.args.names.now c.loop-place.place c.loop-place-test.false) c.loop-place.invariant.first
