use Rattle.std.proofs.Common.{◌∷◌, ◌∙◌, [], false, ap, subst}
use Rattle.hosts.specs.Event.{there_call}
use Rattle.image_files.specs.Making.{MakesFile}
use Rattle.outcome.specs.declared.contents.Content.TheVariants.{Tape}
use Rattle.drive_files.proofs.devices.make_paper.Goals as goal

pub returns : goal.returns
returns g c = (
  false,
  subst (λ h. MakesFile Tape c.args.name.now [] h c.make_file.result (g.H.Host.history c.make_file.new.host))
      (c.is_there.ensures ∙ ap (λ b. there_call c.args.name.now b ∷ g.H.Host.history c.args.host.now) c.if-is_there.false) c.make_file.ensures,
)
