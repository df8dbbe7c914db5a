use Rattle.system_session.proofs.sessions.Session.step.Goals as goal

pub returns-in-Files : goal.returns-in-Files
returns-in-Files g c = rw c.in-Files.is c.enter_files.ensures

pub returns-in-Jobs : goal.returns-in-Jobs
returns-in-Jobs g c = rw c.in-Jobs.is c.enter_jobs.ensures

pub returns-in-Console : goal.returns-in-Console
returns-in-Console g c = rw c.in-Console.is (record { does = c.operate.ensures.does; leaves = c.operate.ensures.leaves; room = tt })
