use Rattle.run_commands.proofs.machines8e.run_plain.Given as goal

abbrev pub ghosts-run_onto : goal.ghosts-run_onto
ghosts-run_onto g a = record { calls = g.H.Host.history a.host }
