use Rattle.run_commands.proofs.drives8e.trace_station.Given as goal

abbrev pub ghosts-trace_onto : goal.ghosts-trace_onto
ghosts-trace_onto g a = record { calls = g.H.Host.history a.host }
