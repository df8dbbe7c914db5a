use Rattle.std.proofs.Common.{rules, Ok, Err, refl}
use Rattle.image_files.specs.States.{state_refused}
use Rattle.image_files.proofs.EndLemmas.{ends-unread}
use Rattle.image_files.proofs.ending.end.Goals as goal

-- src/ending.rt:33:1
pub returns-in-Ok : goal.returns-in-Ok
returns-in-Ok g c = record { told = g.H.Host.history c.tell_state.new.host; tells = search rules; outcome = c.outcome_of-outcome.result; is = search rules; printed = Ok tt; between = g.H.Host.history c.print_outcome.new.host; prints = search rules; after = (refl, refl) }

-- src/ending.rt:33:1
pub returns-in-NoReader : goal.returns-in-NoReader
returns-in-NoReader g c = record { told = g.H.Host.history c.tell_state.new.host; tells = search rules; outcome = c.outcome_of-outcome.result; is = search rules; printed = Err c.in-Err.ending; between = g.H.Host.history c.print_outcome.new.host; prints = search rules; after = search rules }

-- src/ending.rt:33:1
pub returns-in_default : goal.returns-in_default
returns-in_default g c = record { told = g.H.Host.history c.tell_state.new.host; tells = search rules; outcome = c.outcome_of-outcome.result; is = search rules; printed = Err c.in-Err.ending; between = g.H.Host.history c.print_outcome.new.host; prints = search rules; after = ends-unread c.args.is_data (state_refused c.args.work) c.args.notes.now c.outcome_of-outcome.result.status c.in-Err.ending (g.H.Host.history c.print_outcome.new.host) (g.H.Host.history c.tell_state-in_default.new.host) (g.H.Host.history c.end_instead.new.host) c.end_instead.result (search rules) (search rules) (search rules) }
