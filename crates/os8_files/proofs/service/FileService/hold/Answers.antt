use Rattle.std.proofs.Common.{◌≡◌, false, None, length, refl, ap, sym, subst, arith, ◌∙◌}
use Rattle.std.proofs.lemmas.Result.{err_from_is_err_and}
use Rattle.std.specs.FinMap.{get}
use Rattle.os8_dir.specs.Files.{files_of, data_of_file, data_if_there}
use Rattle.os8_dir.specs.Found.{files_at, find}
use Rattle.os8_files.specs.Mounted.{MountState}
use Rattle.os8_files.proofs.CallLemmas.{held-none, found-some}
use Rattle.os8_files.proofs.LookupLemmas.{blocks-run, whole-run}
use Rattle.os8_files.proofs.service.FileService.hold.Goals as goal

pub returns-in-None : goal.returns-in-None
returns-in-None g c =
    let blocks = g.S.BlockStore.contents c.self.inside.store in
    let d = c.self.inside.directory in
    subst (λ (m : MountState). (m.stopped ≡ false) × (get (files_of m.blocks) c.args.name.now ≡ None) × (m ≡ m)) c.self.view_is
    (c.if-self.false, c.files_found.ensures blocks d c.args.name.now (c.self.invariant.kept c.if-self.false) ∙ held-none blocks d.info (find c.args.name.now (files_at d.first d.entries)) (sym c.find.ensures ∙ c.in-None.is), refl)

pub returns-in_ok-add_hold-in-Some : goal.returns-in_ok-add_hold-in-Some
returns-in_ok-add_hold-in-Some g c =
    let blocks = g.S.BlockStore.contents c.self.inside.store in
    let d = c.self.inside.directory in
    let name = c.args.name.now in
    let f = found-some (find name (files_at d.first d.entries)) _ _ (sym c.find.ensures ∙ c.in-Some.is) in
    let here = c.files_inside.ensures.inside (length blocks) name d f.0 (c.sound_directory.ensures blocks d (c.self.invariant.kept c.if-self.false)) f.1 in
    let few = blocks-run blocks f.0 c.self.invariant.volume.each here.3 in
    rw (← c.self.view_is) (record {
      running = c.if-self.false;
      file = data_of_file blocks d.info f.0;
      there = c.files_found.ensures blocks d name (c.self.invariant.kept c.if-self.false) ∙ ap (data_if_there blocks d.info) f.1;
      whole = whole-run blocks f.0 c.self.invariant.volume.each here.3;
      some = omega (arith, few, here.2);
      most = omega (arith, few, here.3, c.self.invariant.volume.most);
      names = c.new.ensures;
      others = rw c.in_ok-add_hold-in-Some.ensures.ok refl;
    })

pub returns-in_err-add_hold-in-Some : goal.returns-in_err-add_hold-in-Some
returns-in_err-add_hold-in-Some g c =
    let blocks = g.S.BlockStore.contents c.self.inside.store in
    let d = c.self.inside.directory in
    let name = c.args.name.now in
    let f = found-some (find name (files_at d.first d.entries)) _ _ (sym c.find.ensures ∙ c.in-Some.is) in
    let p = err_from_is_err_and c.from_residual.result c.from_residual.ensures.1 in
    rw (p.1, p.2, ← c.self.view_is) (c.if-self.false, (data_of_file blocks d.info f.0, c.files_found.ensures blocks d name (c.self.invariant.kept c.if-self.false) ∙ ap (data_if_there blocks d.info) f.1), rw c.in_err-add_hold-in-Some.ensures.err refl)
