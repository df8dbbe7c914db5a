-- Which replies the entries of files and jobs may get: what holds of each such reply holds of every reply.
use Rattle.std.proofs.Common.{ℕ, List}
use Rattle.script8.specs.declared.entries.FileEntry.TheVariants as filing
use Rattle.script8.specs.declared.entries.JobEntry.TheVariants as order
use Rattle.script8.specs.declared.replies.Reply.{Reply}
use Rattle.script8.specs.declared.replies.Reply.TheVariants.{Line, Report}
use Rattle.script8.specs.declared.replies.LineReply.TheVariants as line
use Rattle.system_session.specs.State.{State}
use Rattle.system_session.specs.System.{FilesMayReply, JobsMayReply}

-- a STORE
pub stored_alone : (old new : State) (name : List ℕ) (text : List ℕ) (holds : Reply → Type 0) → ((other blocks : ℕ) → FilesMayReply old (filing.Store name text) (Line (line.Stored other blocks)) new → holds (Line (line.Stored other blocks))) → (reply : Reply) → FilesMayReply old (filing.Store name text) reply new → holds reply
stored_alone old new name text holds each (Line (line.Stored other blocks)) done = each other blocks done
stored_alone old new name text holds each (Line (line.Deleted a)) done = absurd done
stored_alone old new name text holds each (Line (line.Job a)) done = absurd done
stored_alone old new name text holds each (Line (line.Working a)) done = absurd done
stored_alone old new name text holds each (Line (line.Assembled a b c)) done = absurd done
stored_alone old new name text holds each (Line (line.Loaded a b)) done = absurd done
stored_alone old new name text holds each (Line (line.Squeezed a)) done = absurd done
stored_alone old new name text holds each (Line line.Finished) done = absurd done
stored_alone old new name text holds each (Line (line.Started a)) done = absurd done
stored_alone old new name text holds each (Line (line.Steps a b c)) done = absurd done
stored_alone old new name text holds each (Line (line.Key a)) done = absurd done
stored_alone old new name text holds each (Line line.Done) done = absurd done
stored_alone old new name text holds each (Line (line.Switches a)) done = absurd done
stored_alone old new name text holds each (Line (line.Core a b)) done = absurd done
stored_alone old new name text holds each (Line (line.Break a b)) done = absurd done
stored_alone old new name text holds each (Report report) done = absurd done

-- a DELETE
pub deleted_alone : (old new : State) (name : List ℕ) (holds : Reply → Type 0) → ((other : ℕ) → FilesMayReply old (filing.Delete name) (Line (line.Deleted other)) new → holds (Line (line.Deleted other))) → (reply : Reply) → FilesMayReply old (filing.Delete name) reply new → holds reply
deleted_alone old new name holds each (Line (line.Stored a b)) done = absurd done
deleted_alone old new name holds each (Line (line.Deleted other)) done = each other done
deleted_alone old new name holds each (Line (line.Job a)) done = absurd done
deleted_alone old new name holds each (Line (line.Working a)) done = absurd done
deleted_alone old new name holds each (Line (line.Assembled a b c)) done = absurd done
deleted_alone old new name holds each (Line (line.Loaded a b)) done = absurd done
deleted_alone old new name holds each (Line (line.Squeezed a)) done = absurd done
deleted_alone old new name holds each (Line line.Finished) done = absurd done
deleted_alone old new name holds each (Line (line.Started a)) done = absurd done
deleted_alone old new name holds each (Line (line.Steps a b c)) done = absurd done
deleted_alone old new name holds each (Line (line.Key a)) done = absurd done
deleted_alone old new name holds each (Line line.Done) done = absurd done
deleted_alone old new name holds each (Line (line.Switches a)) done = absurd done
deleted_alone old new name holds each (Line (line.Core a b)) done = absurd done
deleted_alone old new name holds each (Line (line.Break a b)) done = absurd done
deleted_alone old new name holds each (Report report) done = absurd done

-- an ASSEMBLE
pub assembled_alone : (old new : State) (to : List ℕ) (from : List (List ℕ)) (holds : Reply → Type 0) → ((number : ℕ) → JobsMayReply old (order.Assemble to from) (Line (line.Job number)) new → holds (Line (line.Job number))) → (reply : Reply) → JobsMayReply old (order.Assemble to from) reply new → holds reply
assembled_alone old new to from holds each (Line (line.Stored a b)) done = absurd done
assembled_alone old new to from holds each (Line (line.Deleted a)) done = absurd done
assembled_alone old new to from holds each (Line (line.Job number)) done = each number done
assembled_alone old new to from holds each (Line (line.Working a)) done = absurd done
assembled_alone old new to from holds each (Line (line.Assembled a b c)) done = absurd done
assembled_alone old new to from holds each (Line (line.Loaded a b)) done = absurd done
assembled_alone old new to from holds each (Line (line.Squeezed a)) done = absurd done
assembled_alone old new to from holds each (Line line.Finished) done = absurd done
assembled_alone old new to from holds each (Line (line.Started a)) done = absurd done
assembled_alone old new to from holds each (Line (line.Steps a b c)) done = absurd done
assembled_alone old new to from holds each (Line (line.Key a)) done = absurd done
assembled_alone old new to from holds each (Line line.Done) done = absurd done
assembled_alone old new to from holds each (Line (line.Switches a)) done = absurd done
assembled_alone old new to from holds each (Line (line.Core a b)) done = absurd done
assembled_alone old new to from holds each (Line (line.Break a b)) done = absurd done
assembled_alone old new to from holds each (Report report) done = absurd done

-- a LOAD
pub loaded_alone : (old new : State) (name : List ℕ) (holds : Reply → Type 0) → ((number : ℕ) → JobsMayReply old (order.Load name) (Line (line.Job number)) new → holds (Line (line.Job number))) → (reply : Reply) → JobsMayReply old (order.Load name) reply new → holds reply
loaded_alone old new name holds each (Line (line.Stored a b)) done = absurd done
loaded_alone old new name holds each (Line (line.Deleted a)) done = absurd done
loaded_alone old new name holds each (Line (line.Job number)) done = each number done
loaded_alone old new name holds each (Line (line.Working a)) done = absurd done
loaded_alone old new name holds each (Line (line.Assembled a b c)) done = absurd done
loaded_alone old new name holds each (Line (line.Loaded a b)) done = absurd done
loaded_alone old new name holds each (Line (line.Squeezed a)) done = absurd done
loaded_alone old new name holds each (Line line.Finished) done = absurd done
loaded_alone old new name holds each (Line (line.Started a)) done = absurd done
loaded_alone old new name holds each (Line (line.Steps a b c)) done = absurd done
loaded_alone old new name holds each (Line (line.Key a)) done = absurd done
loaded_alone old new name holds each (Line line.Done) done = absurd done
loaded_alone old new name holds each (Line (line.Switches a)) done = absurd done
loaded_alone old new name holds each (Line (line.Core a b)) done = absurd done
loaded_alone old new name holds each (Line (line.Break a b)) done = absurd done
loaded_alone old new name holds each (Report report) done = absurd done

-- a SQUEEZE
pub squeezed_alone : (old new : State) (holds : Reply → Type 0) → ((number : ℕ) → JobsMayReply old order.Squeeze (Line (line.Job number)) new → holds (Line (line.Job number))) → (reply : Reply) → JobsMayReply old order.Squeeze reply new → holds reply
squeezed_alone old new holds each (Line (line.Stored a b)) done = absurd done
squeezed_alone old new holds each (Line (line.Deleted a)) done = absurd done
squeezed_alone old new holds each (Line (line.Job number)) done = each number done
squeezed_alone old new holds each (Line (line.Working a)) done = absurd done
squeezed_alone old new holds each (Line (line.Assembled a b c)) done = absurd done
squeezed_alone old new holds each (Line (line.Loaded a b)) done = absurd done
squeezed_alone old new holds each (Line (line.Squeezed a)) done = absurd done
squeezed_alone old new holds each (Line line.Finished) done = absurd done
squeezed_alone old new holds each (Line (line.Started a)) done = absurd done
squeezed_alone old new holds each (Line (line.Steps a b c)) done = absurd done
squeezed_alone old new holds each (Line (line.Key a)) done = absurd done
squeezed_alone old new holds each (Line line.Done) done = absurd done
squeezed_alone old new holds each (Line (line.Switches a)) done = absurd done
squeezed_alone old new holds each (Line (line.Core a b)) done = absurd done
squeezed_alone old new holds each (Line (line.Break a b)) done = absurd done
squeezed_alone old new holds each (Report report) done = absurd done
