use Rattle.rk8e.proofs.LawLemmas.{locks_stay, locks_pass, locks_clear, locks_end, locked_words, new_guarded, instruction_guarded, time_guarded, cleared_guarded, ends_guarded}
use Rattle.rk8e.proofs.laws.locked_drive_is_kept.Goals as goal

pub returns-clause-locks : goal.returns-clause-locks
returns-clause-locks c = locks_stay

pub returns-clause-locks_in_time : goal.returns-clause-locks_in_time
returns-clause-locks_in_time c = locks_pass

pub returns-clause-locks_cleared : goal.returns-clause-locks_cleared
returns-clause-locks_cleared c = locks_clear

pub returns-clause-locks_at_ends : goal.returns-clause-locks_at_ends
returns-clause-locks_at_ends c = locks_end

pub returns-clause-words : goal.returns-clause-words
returns-clause-words c = locked_words

pub returns-clause-new : goal.returns-clause-new
returns-clause-new c = new_guarded

pub returns-clause-instructions : goal.returns-clause-instructions
returns-clause-instructions c = instruction_guarded

pub returns-clause-time : goal.returns-clause-time
returns-clause-time c = time_guarded

pub returns-clause-clearing : goal.returns-clause-clearing
returns-clause-clearing c = cleared_guarded

pub returns-clause-ends : goal.returns-clause-ends
returns-clause-ends c = ends_guarded
