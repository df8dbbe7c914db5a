use Rattle.std.proofs.Common.{◌≡◌, ◌-◌, Some}
use Rattle.hosts.specs.Streams.{output_text}
use Rattle.terminal8e.specs.Parts.{HasCome, IsWithin}
use Rattle.drive_files.specs.Inputs.{form_of, input_of}
use Rattle.drive_files.specs.Rounds.{none_saved}
use Rattle.drive_files.specs.Consoles.{console_acts}
use Rattle.drive_files.proofs.RoundLemmas.{HaveMade}
use Rattle.drive_files.proofs.rounds.run_rounds.Given as goal

abbrev pub ghosts-make_round : goal.ghosts-make_round
ghosts-make_round g a = record { calls = g.H.Host.history a.host }

-- the run has come so far, in rounds
abbrev pub invariant-loop-fault : goal.invariant-loop-fault
invariant-loop-fault g l = record {
  come : HasCome console_acts (form_of l.fn.form.is_raw) (input_of l.fn.form.is_live) l.fn.console l.console l.sitting
      (g.I.ByteReader.remaining l.fn.keys) (g.I.ByteReader.remaining l.keys) (Some (output_text (g.H.Host.history l.fn.host))) (Some (output_text (g.H.Host.history l.host)));
  input : l.sitting.operator.input ≡ input_of l.fn.form.is_live;
  within : IsWithin l.most l.sitting;
  made : HaveMade l.fn.form l.fn.console l.sitting.steps (l.fn.places, none_saved) (l.places, l.last) (g.H.Host.history l.fn.host) (g.H.Host.history l.host);
}

abbrev pub decreases-loop-fault : goal.decreases-loop-fault
decreases-loop-fault g l = l.most - l.sitting.steps
