use Rattle.std.proofs.Common.{Bool, ◌∙◌, sym, subst}
use Rattle.byte_reader.specs.Readings.{reading}
use Rattle.run_commands.specs.Runs8e.{RunsOn8e}
use Rattle.run_commands.proofs.runs8e.run_8e.Goals as goal

pub returns : goal.returns
returns g c = subst (λ (b : Bool). RunsOn8e b c.args.form.now c.args.program (reading g.I.ByteReader.remaining g.I.ByteReader.has_failed c.args.keys.now c.run_plain.new.keys)
    (g.H.Host.history c.args.host) c.run_plain.result.1 (g.H.Host.history c.run_plain.result.0)) (sym c.if-needs_console.false ∙ c.needs_console.ensures) c.run_plain.ensures
