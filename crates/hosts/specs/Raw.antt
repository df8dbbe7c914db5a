-- How a record keeps the calls of a host: by numbers, since only such data has a code.
use Rattle.std.specs.Prelude.{ℕ, zero, suc, Bool, List, [], ◌∷◌}
use Rattle.hosts.specs.Event.{Event, Call, Alter, MakeBeside, OwnBeside, WriteBeside, SyncBeside, DropBeside, DateBeside, Rename, LinkNew, Claim, DropClaim, SyncFolder, WriteOver, FinishOver, Resolve, Hold, DropSeconds, Look, TakeInput, Alone, Leads, LockBeside, Free, There, MakeFolder, Print, Tell, Terminal, Seconds, Pause, Word, EndOfWords, TimeOf, Same, DropLeftovers}

-- which call, whether it succeeded, a number, the name that it is about, and bytes
abbrev pub Raw : Type 0
Raw = ℕ × Bool × ℕ × List ℕ × List ℕ

-- the calls by their numbers
abbrev pub calls : List Call
calls = Resolve ∷ Hold ∷ DropSeconds ∷ Look ∷ TakeInput ∷ Alone ∷ Leads ∷ LockBeside ∷ Free ∷ There ∷ MakeFolder ∷ Print ∷ Tell ∷ Terminal ∷ Seconds ∷ Pause ∷ Word ∷ EndOfWords ∷ Alter MakeBeside ∷ Alter OwnBeside ∷ Alter WriteBeside ∷ Alter SyncBeside ∷ Alter DropBeside ∷ Alter Rename ∷ Alter LinkNew ∷ Alter Claim ∷ Alter DropClaim ∷ Alter SyncFolder ∷ Alter WriteOver ∷ Alter FinishOver ∷ TimeOf ∷ Alter DateBeside ∷ Same ∷ DropLeftovers ∷ []

abbrev pub call_at : List Call → ℕ → Call
call_at [] number = EndOfWords
call_at (call ∷ others) zero = call
call_at (call ∷ others) (suc number) = call_at others number

abbrev pub event_of : Raw → Event
event_of raw = record { call = call_at calls raw.0; ok = raw.1; name = raw.3; bytes = raw.4; number = raw.2 }

abbrev pub events_of : List Raw → List Event
events_of [] = []
events_of (raw ∷ earlier) = event_of raw ∷ events_of earlier
