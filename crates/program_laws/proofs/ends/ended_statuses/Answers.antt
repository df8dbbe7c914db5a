use Rattle.program_laws.proofs.EndLemmas.{ends, unheard, unread-after}
use Rattle.program_laws.proofs.ends.ended_statuses.Goals as goal

pub returns-clause-statuses : goal.returns-clause-statuses
returns-clause-statuses c is_data notes work old new status e = (ends is_data notes work old new status e).0

pub returns-clause-lines : goal.returns-clause-lines
returns-clause-lines c is_data notes work old new status e = (ends is_data notes work old new status e).1

pub returns-clause-parts : goal.returns-clause-parts
returns-clause-parts c = unread-after

pub returns-clause-unread : goal.returns-clause-unread
returns-clause-unread c = unheard
