use Rattle.std.proofs.Common.{◌≡◌, length, ap, sym, ◌∙◌}
use Rattle.os8_dir.specs.Entries.{contains}
use Rattle.os8_files.specs.Mounted.{MountState}
use Rattle.os8_files.proofs.HoldLemmas.{contains-first}
use Rattle.os8_files.proofs.service.FileService.is_held.Goals as goal

pub returns : goal.returns
returns g c =
    let n : c.len.result ≡ length c.self.inside.holds.items = c.len.ensures ∙ sym c.deref.ensures.len ∙ ap (λ xs. length xs) c.deref.ensures.value in
    rw (c.first_of.ensures.value, n, c.deref.ensures.value) (sym (contains-first c.args.name c.self.inside.holds.items))
    ∙ ap (λ (m : MountState). contains m.holds c.args.name) c.self.view_is
