use Rattle.pdp8e.proofs.TimeLemmas.{time_counts, time_waits}
use Rattle.pdp8e.proofs.laws.time_is_counted.Goals as goal

pub returns-clause-instruction : goal.returns-clause-instruction
returns-clause-instruction c =
    let law = c.time_is_counted.ensures in
    time_counts law.stays law.passes law.instructions

pub returns-clause-interrupt : goal.returns-clause-interrupt
returns-clause-interrupt c = time_waits c.time_is_counted.ensures.stays
