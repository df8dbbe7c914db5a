-- Which time of change was asked for the file of a path, in seconds after the begin of 1970 in UTC. Where none was, it has the time at which
-- its bytes were written.
use Rattle.std.specs.Prelude.{ℕ, Bool, true, List, [], ◌∷◌, Option, None, Some}
use Rattle.hosts.specs.Event.{Change, MakeBeside, WriteBeside, DateBeside, Rename, LinkNew, Claim, WriteOver, FinishOver}
use Rattle.hosts.specs.Place.{Step}

abbrev pub with_beside_time : Change → ℕ → Option ℕ → Option ℕ
with_beside_time MakeBeside seconds before = None
with_beside_time WriteBeside seconds before = None
with_beside_time DateBeside seconds before = Some seconds
with_beside_time _ seconds before = before

-- for the file beside the path, since it was written
abbrev pub beside_time : List Step → Option ℕ
beside_time [] = None
beside_time (s ∷ earlier) = with_beside_time s.change s.number (beside_time earlier)

abbrev pub with_file_time : Change → Bool → Option ℕ → Option ℕ → Option ℕ
with_file_time Rename true beside before = beside
with_file_time LinkNew true beside before = beside
with_file_time Claim true beside before = None
with_file_time WriteOver ok beside before = None
with_file_time FinishOver ok beside before = None
with_file_time _ ok beside before = before

-- for the file that has the path
abbrev pub file_time : List Step → Option ℕ
file_time [] = None
file_time (s ∷ earlier) = with_file_time s.change s.ok (beside_time earlier) (file_time earlier)
