use Rattle.std.proofs.Common.{◌≡◌, ◌∙◌, ap, subst}
use Rattle.os8_dir.specs.Entries.{DirectoryState}
use Rattle.os8_dir.specs.Found.{files_at, find, information_of}
use Rattle.os8_dir.specs.Steps.{information_in}
use Rattle.os8_dir.proofs.InformationLemmas.{information-found}
use Rattle.os8_dir.proofs.directory.Directory.information.Goals as goal

pub returns : goal.returns
returns c =
    let name = c.args.name.now in
    subst (λ (d : DirectoryState). c.information_of.result ≡ information_of (find name (files_at d.first d.entries))) c.self.view_is
    (c.information_of.ensures ∙ ap (information_in name) c.as_slice.ensures.value ∙ information-found name c.self.inside.first c.self.inside.entries.items)
