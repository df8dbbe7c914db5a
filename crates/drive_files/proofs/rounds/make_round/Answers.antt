use Rattle.drive_files.proofs.rounds.make_round.Goals as goal

pub returns-clause-runs : goal.returns-clause-runs
returns-clause-runs g c first keyed before written come = rw (c.finish-host.ensures.host) ((rw (c.new-printer.ensures) at (c.go_on-part.ensures.runs first keyed before written)) come)
