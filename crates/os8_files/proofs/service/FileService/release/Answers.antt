use Rattle.std.proofs.Common.{◌≡◌, refl, ◌∙◌, arith}
use Rattle.os8_files.specs.Holds.{without_hold}
use Rattle.os8_files.specs.Steps.{first_of}
use Rattle.os8_files.proofs.HoldLemmas.{remove-first, without-none}
use Rattle.os8_files.proofs.service.FileService.release.Goals as goal

pub returns-then-place-len : goal.returns-then-place-len
returns-then-place-len g c =
    let at : c.first_of-place.result ≡ first_of c.args.hold c.self.inside.holds.items = c.first_of-place.ensures.value ∙ rw (c.spend-name.ensures, c.deref.ensures.value) refl in
    let e : c.remove-name.new.self.items ≡ without_hold c.args.hold c.self.inside.holds.items = c.remove-name.ensures.items ∙ rw at (remove-first c.args.hold c.self.inside.holds.items (omega (arith, at, c.if-place-len.true, c.len.ensures))) in
    rw (← c.self.view_is, e) refl

pub returns-else-place-len : goal.returns-else-place-len
returns-else-place-len g c =
    let at : c.first_of-place.result ≡ first_of c.args.hold c.self.inside.holds.items = c.first_of-place.ensures.value ∙ rw (c.spend-name.ensures, c.deref.ensures.value) refl in
    let e : without_hold c.args.hold c.self.inside.holds.items ≡ c.self.inside.holds.items = without-none c.args.hold c.self.inside.holds.items (omega (arith, at, c.if-place-len.false, c.len.ensures)) in
    rw (← c.self.view_is, e) refl
