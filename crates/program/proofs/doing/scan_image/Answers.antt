use Rattle.std.proofs.Common.{ℕ, List, Option, subst, sym}
use Rattle.std.specs.Prelude.{String}
use Rattle.std.specs.Global.{Global}
use Rattle.salvage_commands.specs.ScanningBlocks.{WritesPieces}
use Rattle.program.specs.Tasks.{ScansBlocks}
use Rattle.program.proofs.doing.scan_image.Goals as goal

pub returns-in-Some : goal.returns-in-Some
returns-in-Some g c =
    subst (λ (into : Option (String Global)). ScansBlocks into c.args.form.now.image (g.H.Host.history c.args.host.now) c.scan_into.result (g.H.Host.history c.scan_into.new.host)) (sym c.in-Some.is)
    (subst (λ (folder : List ℕ). WritesPieces folder c.args.form.now.image (g.H.Host.history c.args.host.now) c.scan_into.result (g.H.Host.history c.scan_into.new.host)) c.as_str.ensures.value c.scan_into.ensures)
