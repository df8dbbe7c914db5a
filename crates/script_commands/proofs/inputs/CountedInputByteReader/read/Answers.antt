use Rattle.script_commands.proofs.InputLemmas.{given_kept, given_more}
use Rattle.script_commands.proofs.inputs.CountedInputByteReader.read.Goals as goal

pub returns-in-Ok-clause-kept : goal.returns-in-Ok-clause-kept
returns-in-Ok-clause-kept g c first follows = (follows.0, λ start given. given_more _ _ _ _ _ _ _ (follows.1 start given) c.in-Ok.ensures.bound.0 c.in-Ok.ensures.bytes.0 c.saturating_add-self.ensures)

pub returns-in-Err-clause-kept : goal.returns-in-Err-clause-kept
returns-in-Err-clause-kept g c first follows = (follows.0, λ start given. given_kept _ _ _ _ (follows.1 start given) c.in-Err.ensures.bytes)
