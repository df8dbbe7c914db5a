use Rattle.program_laws.proofs.runs.unread_scripts.Goals as goal

pub returns : goal.returns
returns g c form is_typed image session before after old result new r = r.cause
