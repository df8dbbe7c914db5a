use Rattle.std.proofs.Common.{sym, subst}
use Rattle.byte_reader.specs.Readings.{reading}
use Rattle.program_tasks.specs.declared.tasks.Cpu.{Cpu}
use Rattle.run_commands.specs.Teletypes.{RunsOn}
use Rattle.run_commands.proofs.teletypes.run_program.Goals as goal

pub returns-in-EightI : goal.returns-in-EightI
returns-in-EightI g c = rw c.in-EightI.is c.run_8i.ensures

pub returns-in-EightE : goal.returns-in-EightE
returns-in-EightE g c = subst (λ (cpu : Cpu). RunsOn cpu c.args.form.now c.args.program (reading g.I.ByteReader.remaining g.I.ByteReader.has_failed c.args.keys.now c.run_8e.new.keys)
    (g.H.Host.history c.args.host) c.run_8e.result.1 (g.H.Host.history c.run_8e.result.0)) (sym c.in-EightE.is) c.run_8e.ensures
