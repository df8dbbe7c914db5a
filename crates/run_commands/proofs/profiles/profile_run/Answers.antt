use Rattle.run_commands.proofs.profiles.profile_run.Goals as goal

pub returns-in-EightI : goal.returns-in-EightI
returns-in-EightI g c = rw c.in-EightI.is c.profile_plain.ensures

pub returns-in-EightE : goal.returns-in-EightE
returns-in-EightE g c = rw c.in-EightE.is c.profile_8e.ensures
