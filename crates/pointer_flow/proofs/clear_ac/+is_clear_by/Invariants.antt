use Rattle.pointer_flow.proofs.clear_ac.+is_clear_by.Given as goal

abbrev pub decreases-is_clear_by : goal.decreases-is_clear_by
decreases-is_clear_by l = l.count
