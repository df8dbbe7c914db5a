use Rattle.std.proofs.Common.{refl}
use Rattle.volume_salvage.specs.declared.pieces.PieceKind.TheVariants.{Text}
use Rattle.salvage_commands.proofs.ScanLemmas.{go-on, stop}
use Rattle.salvage_commands.proofs.scans.write_each.Goals as goal

pub loop-rest-preserved : goal.loop-rest-preserved
loop-rest-preserved g c = λ result new later.
    c.loop-rest.invariant result new
    (go-on c.args.folder.now c.args.image.now c.args.scan.now c.loop-rest.rest.now _ (record { kind = Text; place = 0; size = 0 }) (g.H.Host.history c.loop-rest.host) (g.H.Host.history c.write_piece.new.host) new result
    c.in-len1-up.len_at_least refl c.in_ok-write_piece.ensures later)

pub returns-in_err-write_piece : goal.returns-in_err-write_piece
returns-in_err-write_piece g c =
    c.loop-rest.invariant c.from_residual.result (g.H.Host.history c.write_piece.new.host)
    (stop c.args.folder.now c.args.image.now c.args.scan.now c.loop-rest.rest.now _ (record { kind = Text; place = 0; size = 0 }) (g.H.Host.history c.loop-rest.host) (g.H.Host.history c.write_piece.new.host)
    c.from_residual.result _ c.in-len1-up.len_at_least refl c.in_err-write_piece.ensures c.from_residual.ensures)
