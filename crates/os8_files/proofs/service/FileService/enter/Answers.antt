use Rattle.std.proofs.Common.{◌≡◌, ◌<◌, false, Some, None, refl, ap, sym, subst, ◌∙◌, arith}
use Rattle.std.proofs.lemmas.Bool.Decides.{nat_tests}
use Rattle.os8_dir.specs.Entries.{IsNamed, contains}
use Rattle.os8_dir.specs.Found.{rooms_at, largest, size_or_zero}
use Rattle.os8_dir.specs.Changes.{fitting}
use Rattle.os8_files.specs.Mounted.{MountState, NewFile}
use Rattle.os8_files.specs.Calls.{IsReady, IsFree, IsLargest, rooms_or, rooms_of}
use Rattle.os8_files.proofs.BoundLemmas.{is-largest}
use Rattle.os8_files.proofs.CallLemmas.{some-of, none-of}
use Rattle.os8_files.proofs.service.FileService.enter.Goals as goal

pub returns-then-is_some : goal.returns-then-is_some
returns-then-is_some g c =
    let s = some-of c.self.inside.tentative (sym c.is_some.ensures ∙ c.if-is_some.true) in
    let named : IsNamed c.args.name = grind (arith, nat_tests, c.has_first_word.ensures, c.if-not-has_first_word.false) in
    subst (λ (m : MountState). (m.stopped ≡ false) × IsNamed c.args.name × (x : NewFile) × (m.tentative ≡ Some x) × (m ≡ m)) c.self.view_is (c.if-self.false, named, s.0, s.1, refl)

pub returns-in-None : goal.returns-in-None
returns-in-None g c =
    let blocks = g.S.BlockStore.contents c.self.inside.store in
    let d = c.self.inside.directory in
    let name = c.args.name in
    let wish = c.args.wish in
    let n = c.largest.result in
    let kept = c.self.invariant.kept c.if-self.false in
    let is = c.sound_directory.ensures blocks d kept in
    let named : IsNamed name = grind (arith, nat_tests, c.has_first_word.ensures, c.if-not-has_first_word.false) in
    let free = ap (λ (m : MountState). contains m.holds name) c.self.view_is ∙ sym c.is_held.ensures ∙ c.if-is_held.false in
    let none : fitting wish (rooms_at d.first d.entries) ≡ None = sym c.fitting.ensures.room ∙ c.in-None.is in
    let rooms : rooms_of blocks ≡ rooms_at d.first d.entries = ap rooms_or kept in
    let size : n ≡ size_or_zero (largest (rooms_of blocks)) = c.largest.ensures ∙ ap (λ rs. size_or_zero (largest rs)) (sym rooms) in
    let most : IsLargest blocks n = subst (λ k. IsLargest blocks k) (sym c.largest.ensures)
    (is-largest c.directory_numbers.ensures.capacity c.directory_numbers.ensures.above c.entry_counts.ensures.least c.entry_counts.ensures.most c.entry_counts.ensures.all blocks d c.self.invariant.volume.each kept (c.files_made.ensures blocks d kept) is) in
    subst (λ (m : MountState). IsReady m × IsNamed name × IsFree m name × (fitting wish (rooms_of m.blocks) ≡ None) × (n ≡ size_or_zero (largest (rooms_of m.blocks))) × (0 < wish → n < wish) × IsLargest m.blocks n × (m ≡ m)) c.self.view_is (
      record { running = c.if-self.false; none = none-of c.self.inside.tentative (sym c.is_some.ensures ∙ c.if-is_some.false) },
      named,
      free,
      ap (fitting wish) rooms ∙ none,
      size,
      (λ some. omega (arith, c.largest.ensures, c.rooms.ensures.short wish (rooms_at d.first d.entries) some none)),
      most,
      refl,
    )
