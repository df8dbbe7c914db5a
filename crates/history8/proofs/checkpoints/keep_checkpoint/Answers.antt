use Rattle.std.proofs.Common.{inl}
use Rattle.history8.proofs.CheckpointLemmas.{kept-pushed}
use Rattle.history8.proofs.checkpoints.keep_checkpoint.Goals as goal

pub returns-in-Some-clause-checkpoints : goal.returns-in-Some-clause-checkpoints
returns-in-Some-clause-checkpoints c =
    kept-pushed c.args.checkpoints.now.items c.core_for_checkpoint.new.checkpoints.items c.push_reserved.new.self.items c.copy_of-checkpoint.result _
    c.in-Some.ensures.checkpoints c.push_reserved.ensures.items c.copy_of-checkpoint.ensures

pub returns-in_default-clause-checkpoints : goal.returns-in_default-clause-checkpoints
returns-in_default-clause-checkpoints c = inl c.in_default.ensures.room
