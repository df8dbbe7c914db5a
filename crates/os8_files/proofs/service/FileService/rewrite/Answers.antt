use Rattle.std.proofs.Math.Seq.{take-append_seam}
use Rattle.std.proofs.Common.{◌≡◌, false, ℕ, List, ◌++◌, length, take, drop, refl, ap, sym, subst, ◌∙◌, arith}
use Rattle.os8_dir.specs.Reading.{block}
use Rattle.os8_dir.specs.Found.{IsDirectory}
use Rattle.os8_dir.specs.Segments.{segment_count}
use Rattle.os8_files.specs.Calls.{counted_more}
use Rattle.os8_files.proofs.CountLemmas.{few-writes}
use Rattle.os8_files.specs.Mounted.{MountState, AreSegments}
use Rattle.os8_files.proofs.WrittenLemmas.{length-segments, drop-segments, first-segments, unused-segments}
use Rattle.os8_files.proofs.CallLemmas.{holds-segments}
use Rattle.os8_files.proofs.service.FileService.rewrite.Goals as goal

pub invariant_of-self : goal.invariant_of-self
invariant_of-self g c =
    let old = g.S.BlockStore.contents c.self.inside.store in
    let new = g.S.BlockStore.contents c.write_segments.new.store in
    let d = c.args.directory in
    let few = c.write_segments.ensures.few in
    let size : length new ≡ length old = ap (λ bs. length bs) c.in-Ok.ensures.ok ∙ length-segments (segment_count d) d old in
    let sound : IsDirectory (length new) d = subst (λ n. IsDirectory n d) (ap (λ (m : MountState). length m.blocks) (sym c.self.view_is) ∙ sym size) c.requires.sound in
    let kept = c.write_segments.new.kept in
    let was = c.self.invariant.segments (ap (λ (m : MountState). m.stopped) c.self.view_is ∙ c.requires.running) in
    let long : c.self.inside.segments.len ≡ length kept = omega (arith, c.deref_mut.ensures.len, ap (λ (ws : List (List ℕ)). length ws) c.deref_mut.ensures.value, was.size, c.in-Ok.ensures.kept.size) in
    record {
      segments = λ running. subst (λ ws. AreSegments new ws) (sym (ap (λ n. take n (kept ++ drop (length kept) c.self.inside.segments.items)) long ∙ take-append_seam kept (drop (length kept) c.self.inside.segments.items))) c.in-Ok.ensures.kept;
      volume = c.write_segments.ensures.volume;
      kept = λ running. c.read_back.ensures new d sound c.write_segments.ensures.volume.most c.requires.fits (holds-segments old new d c.in-Ok.ensures.ok (omega (arith, few, c.self.invariant.volume.least)));
      begun = λ running b is. let none = ap (λ (m : MountState). m.tentative) c.self.view_is ∙ c.requires.none in cc;
    }

pub returns-in-Ok : goal.returns-in-Ok
returns-in-Ok g c =
    let old = g.S.BlockStore.contents c.self.inside.store in
    let new = g.S.BlockStore.contents c.write_segments.new.store in
    let d = c.args.directory in
    let few = c.write_segments.ensures.few in
    let size : length new ≡ length old = ap (λ bs. length bs) c.in-Ok.ensures.ok ∙ length-segments (segment_count d) d old in
    let sound : IsDirectory (length new) d = subst (λ n. IsDirectory n d) (ap (λ (m : MountState). length m.blocks) (sym c.self.view_is) ∙ sym size) c.requires.sound in
    let running : c.self.inside.stopped ≡ false = ap (λ (m : MountState). m.stopped) c.self.view_is ∙ c.requires.running in
    rw (← c.self.view_is) (record {
      high = ap (drop 7) c.in-Ok.ensures.ok ∙ drop-segments (segment_count d) d old few;
      first = ap (λ bs. block bs 0) c.in-Ok.ensures.ok ∙ first-segments (segment_count d) d old;
      size = size;
      read = c.read_back.ensures new d sound c.write_segments.ensures.volume.most c.requires.fits (holds-segments old new d c.in-Ok.ensures.ok (omega (arith, few, c.self.invariant.volume.least)));
      segments = holds-segments old new d c.in-Ok.ensures.ok (omega (arith, few, c.self.invariant.volume.least));
      unused = λ k more. ap (λ bs. block bs k) c.in-Ok.ensures.ok ∙ unused-segments (segment_count d) d old k more;
      writes = c.in-Ok.ensures.writes ∙ ap (λ n. counted_more n (g.S.BlockStore.writes c.self.inside.store)) (few-writes (segment_count d) d old new few (omega (arith, few, c.self.invariant.volume.least)) c.in-Ok.ensures.ok);
      others = rw (c.write_segments.ensures.reads, c.write_segments.ensures.failed_reads, c.in-Ok.ensures.failed_writes, running) refl;
    })
