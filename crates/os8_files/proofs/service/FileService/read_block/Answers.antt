use Rattle.std.proofs.Common.{ℕ, List, ◌+◌, ◌≡◌, false, None, Ok, length, refl, ap, sym, subst, ◌∙◌, arith}
use Rattle.std.proofs.lemmas.Result.{err_from_is_err_and}
use Rattle.std.specs.FinMap.{get}
use Rattle.os8_dir.specs.Files.{files_of}
use Rattle.os8_dir.specs.Found.{files_at, find}
use Rattle.os8_files.specs.Mounted.{MountState}
use Rattle.std.specs.Prelude.{slice_get}
use Rattle.volume_image.specs.Volume.{IsVolume}
use Rattle.os8_dir.specs.Reading.{directory_of}
use Rattle.os8_files.proofs.CallLemmas.{held-none, read-inside, read-done}
use Rattle.os8_files.proofs.service.FileService.read_block.Goals as goal

pub overflow_add-place : goal.overflow_add-place
overflow_add-place g c =
    let blocks = g.S.BlockStore.contents c.self.inside.store in
    let d = c.self.inside.directory in
    let old = c.args.self.now in
    let running : old.stopped ≡ false = ap (λ (m : MountState). m.stopped) (sym c.self.view_is) ∙ c.if-self.false in
    let same : old.blocks ≡ blocks = ap (λ (m : MountState). m.blocks) (sym c.self.view_is) in
    let volume : IsVolume old.blocks = subst IsVolume (sym same) c.self.invariant.volume in
    let kept : directory_of old.blocks ≡ Ok d = subst (λ bs. directory_of bs ≡ Ok d) (sym same) (c.self.invariant.kept c.if-self.false) in
    let inside = read-inside c.files_found.ensures old d c.args.name.now c.args.k c.in-Some.place c.in-Some.field-0-1 volume kept (c.sound_directory.ensures old.blocks d kept) (sym c.find.ensures ∙ c.in-Some.is) (c.requires running) in
    omega (arith, inside.0, inside.1, volume.most)

pub read-requires : goal.read-requires
read-requires g c =
    let blocks = g.S.BlockStore.contents c.self.inside.store in
    let d = c.self.inside.directory in
    let old = c.args.self.now in
    let running : old.stopped ≡ false = ap (λ (m : MountState). m.stopped) (sym c.self.view_is) ∙ c.if-self.false in
    let same : old.blocks ≡ blocks = ap (λ (m : MountState). m.blocks) (sym c.self.view_is) in
    let volume : IsVolume old.blocks = subst IsVolume (sym same) c.self.invariant.volume in
    let kept : directory_of old.blocks ≡ Ok d = subst (λ bs. directory_of bs ≡ Ok d) (sym same) (c.self.invariant.kept c.if-self.false) in
    let inside = read-inside c.files_found.ensures old d c.args.name.now c.args.k c.in-Some.place c.in-Some.field-0-1 volume kept (c.sound_directory.ensures old.blocks d kept) (sym c.find.ensures ∙ c.in-Some.is) (c.requires running) in
    omega (arith, inside.0, inside.1, ap (λ (bs : List (List ℕ)). length bs) same)

pub returns-in-None : goal.returns-in-None
returns-in-None g c =
    let blocks = g.S.BlockStore.contents c.self.inside.store in
    let d = c.self.inside.directory in
    subst (λ (m : MountState). (m.stopped ≡ false) × (get (files_of m.blocks) c.args.name.now ≡ None) × (m ≡ m) × (c.args.words.now ≡ c.args.words.now)) c.self.view_is
    (c.if-self.false, c.files_found.ensures blocks d c.args.name.now (c.self.invariant.kept c.if-self.false) ∙ held-none blocks d.info (find c.args.name.now (files_at d.first d.entries)) (sym c.find.ensures ∙ c.in-None.is), refl, refl)

pub returns-in_ok-read-in-Some : goal.returns-in_ok-read-in-Some
returns-in_ok-read-in-Some g c =
    let blocks = g.S.BlockStore.contents c.self.inside.store in
    let d = c.self.inside.directory in
    let old = c.args.self.now in
    let running : old.stopped ≡ false = ap (λ (m : MountState). m.stopped) (sym c.self.view_is) ∙ c.if-self.false in
    let same : old.blocks ≡ blocks = ap (λ (m : MountState). m.blocks) (sym c.self.view_is) in
    let volume : IsVolume old.blocks = subst IsVolume (sym same) c.self.invariant.volume in
    let kept : directory_of old.blocks ≡ Ok d = subst (λ bs. directory_of bs ≡ Ok d) (sym same) (c.self.invariant.kept c.if-self.false) in
    read-done c.files_found.ensures old _ d c.args.name.now c.args.k c.in-Some.place c.in-Some.field-0-1 c.read.new.words volume running kept (c.sound_directory.ensures old.blocks d kept) (sym c.find.ensures ∙ c.in-Some.is) (c.requires running)
    (ap (λ bs. slice_get bs (c.in-Some.place + c.args.k)) same ∙ c.in_ok-read-in-Some.ensures.ok)
    (rw (← c.self.view_is, c.read.ensures.same, c.read.ensures.reads, c.read.ensures.writes, c.in_ok-read-in-Some.ensures.failed_reads, c.read.ensures.failed_writes) refl)

pub returns-in_err-read-in-Some : goal.returns-in_err-read-in-Some
returns-in_err-read-in-Some g c =
    let p = err_from_is_err_and c.from_residual.result c.from_residual.ensures.1 in
    let running = ap (λ (m : MountState). m.stopped) (sym c.self.view_is) ∙ c.if-self.false in
    rw (p.1, p.2) (running, rw (← c.self.view_is, c.read.ensures.same, c.read.ensures.reads, c.read.ensures.writes, c.in_err-read-in-Some.ensures.failed_reads, c.read.ensures.failed_writes) refl, c.in_err-read-in-Some.ensures.err)
