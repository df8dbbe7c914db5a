use Rattle.std.proofs.Common.{◌≡◌, false, Some, refl, sym, subst, ◌∙◌}
use Rattle.os8_dir.specs.Files.{above_of}
use Rattle.os8_files.specs.Mounted.{MountState, NewFile}
use Rattle.os8_files.specs.Calls.{IsReady}
use Rattle.os8_files.proofs.CallLemmas.{some-of, none-of}
use Rattle.os8_files.proofs.service.FileService.squeeze_turn.Goals as goal

pub returns-then-is_some : goal.returns-then-is_some
returns-then-is_some g c =
    let s = some-of c.self.inside.tentative (sym c.is_some.ensures ∙ c.if-is_some.true) in
    subst (λ (m : MountState). (m.stopped ≡ false) × (x : NewFile) × (m.tentative ≡ Some x) × (m ≡ m)) c.self.view_is (c.if-self.false, s.0, s.1, refl)

pub returns-in-None : goal.returns-in-None
returns-in-None g c =
    let blocks = g.S.BlockStore.contents c.self.inside.store in
    let d = c.self.inside.directory in
    let kept = c.self.invariant.kept c.if-self.false in
    let is = c.sound_directory.ensures blocks d kept in
    subst (λ (m : MountState). IsReady m × (above_of m.blocks ≡ 0) × (m ≡ m)) c.self.view_is (
      record { running = c.if-self.false; none = none-of c.self.inside.tentative (sym c.is_some.ensures ∙ c.if-is_some.false) },
      c.directory_numbers.ensures.above blocks d kept ∙ (c.lowest_file.ensures.none d.entries is.neat).0 (sym c.lowest_above.ensures ∙ c.in-None.is),
      refl,
    )
