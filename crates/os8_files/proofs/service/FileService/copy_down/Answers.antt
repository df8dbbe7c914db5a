use Rattle.std.proofs.Common.{◌≡◌, ◌-◌, ap, sym, subst, ◌∙◌, arith}
use Rattle.os8_dir.specs.Reading.{directory_of}
use Rattle.os8_files.specs.Mounted.{MountState, AreSegments}
use Rattle.os8_files.proofs.SegmentLemmas.{segments-run}
use Rattle.os8_files.specs.WriteSteps.{with_run}
use Rattle.os8_files.proofs.SqueezeLemmas.{run-directory}
use Rattle.os8_files.proofs.service.FileService.copy_down.Goals as goal

pub invariant_of-self-in-Ok : goal.invariant_of-self-in-Ok
invariant_of-self-in-Ok g c =
    let old = g.S.BlockStore.contents c.self.inside.store in
    let to = c.args.place - c.args.gap in
    let is : g.S.BlockStore.contents c.write_run.new.store ≡ with_run old to c.deref.result.now = c.in-Ok.ensures.ok ∙ ap (λ bs. with_run bs to c.deref.result.now) c.in_ok-read_run.ensures.same in
    record {
      segments = λ running. subst (λ bs. AreSegments bs c.self.inside.segments.items) (sym is) (segments-run old c.self.inside.segments.items to c.deref.result.now (c.self.invariant.segments running) (omega (arith, c.requires.high)));
      volume = c.write_run.ensures.volume;
      kept = λ running. ap (λ bs. directory_of bs) (c.in-Ok.ensures.ok ∙ ap (λ bs. with_run bs to c.deref.result.now) c.in_ok-read_run.ensures.same) ∙ run-directory c.directory_blocks.ensures old to c.deref.result.now (omega (arith, c.requires.high)) ∙ c.self.invariant.kept running;
      begun = λ running b is. let none = ap (λ (m : MountState). m.tentative) c.self.view_is ∙ c.requires.none in cc;
    }
