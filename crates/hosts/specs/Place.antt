-- What the calls of a host do to the file of one path. This page is what a reader believes of a file system.
use Rattle.std.specs.Prelude.{◌≡◌, ℕ, zero, suc, Bool, true, false, List, [], ◌∷◌, ◌++◌, length, take, drop, if◌then◌else◌, Option, None, Some, ◌⊎◌}
use Rattle.std.specs.Str.{bytes_eq}
use Rattle.hosts.specs.Event.{Event, Call, Change, Alter, MakeBeside, OwnBeside, WriteBeside, SyncBeside, DropBeside, DateBeside, Rename, LinkNew, Claim, DropClaim, SyncFolder, WriteOver, FinishOver}

-- a change with its answer
pub record Step : Type 0 where
  pub change : Change
  pub ok : Bool
  pub number : ℕ
  pub bytes : List ℕ

abbrev pub with_step : Call → Event → List ℕ → List Step → List Step
with_step (Alter change) e path before = if bytes_eq e.name path then record { change = change; ok = e.ok; number = e.number; bytes = e.bytes } ∷ before else before
with_step _ e path before = before

-- the changes of the file of one path and of the one beside it, the newest first
abbrev pub about : List ℕ → List Event → List Step
about path [] = []
about path (e ∷ earlier) = with_step e.call e path (about path earlier)

-- what is known of what a path has: nothing; or that it is a file of these bytes, or no file
pub data Remainder : Type 0 where
  Anything : Remainder
  Just : (file : Option (List ℕ)) → Remainder

-- a path, and the file that is made beside it
pub record Place : Type 0 where
  -- what a read gives
  pub seen : Remainder
  -- what the disk has of that file, so what a crash leaves if the disk has its name
  pub on_disk : Remainder
  -- the same of the file beside it
  pub beside : Remainder
  pub beside_on_disk : Remainder
  -- each of what a crash may leave if the disk gives the path to an earlier file
  pub earlier : List Remainder

-- each of what a crash at this moment may leave under the path
abbrev pub may_leave : Place → List Remainder
may_leave p = p.on_disk ∷ p.earlier

abbrev pub Allows : Remainder → Option (List ℕ) → Type 0
Allows Anything file = Unit {0}
Allows (Just file) found = found ≡ file

-- a crash may leave this
abbrev pub Leaves : List Remainder → Option (List ℕ) → Type 0
Leaves [] file = ⊥
Leaves (left ∷ others) file = Allows left file ⊎ Leaves others file

-- what was known, with these bytes after it
abbrev pub with_bytes_after : Remainder → List ℕ → Remainder
with_bytes_after (Just (Some old)) bytes = Just (Some (old ++ bytes))
with_bytes_after (Just None) bytes = Anything
with_bytes_after Anything bytes = Anything

-- bytes with others over them from one on; zeros stand where there were none
abbrev pub with_bytes_over : ℕ → List ℕ → List ℕ → List ℕ
with_bytes_over zero new old = new ++ drop (length new) old
with_bytes_over (suc at) new [] = 0 ∷ with_bytes_over at new []
with_bytes_over (suc at) new (byte ∷ old) = byte ∷ with_bytes_over at new old

abbrev pub remainder_with_bytes_over : ℕ → List ℕ → Remainder → Remainder
remainder_with_bytes_over at new (Just (Some old)) = Just (Some (with_bytes_over at new old))
remainder_with_bytes_over at new (Just None) = Anything
remainder_with_bytes_over at new Anything = Anything

abbrev pub cut_left : ℕ → Remainder → Remainder
cut_left size (Just (Some old)) = Just (Some (take size old))
cut_left size (Just None) = Anything
cut_left size Anything = Anything

abbrev pub with_beside : Remainder → Remainder → Place → Place
with_beside beside on_disk p = record { seen = p.seen; on_disk = p.on_disk; beside = beside; beside_on_disk = on_disk; earlier = p.earlier }

abbrev pub with_file : Remainder → Remainder → List Remainder → Place → Place
with_file seen on_disk earlier p = record { seen = seen; on_disk = on_disk; beside = p.beside; beside_on_disk = p.beside_on_disk; earlier = earlier }

-- the file beside it has the path now, and the file that had it is one that a crash may bring back
abbrev pub with_path : Place → Place
with_path p = record { seen = p.beside; on_disk = p.beside_on_disk; beside = Just None; beside_on_disk = Just None; earlier = p.on_disk ∷ p.earlier }

-- A place after a change. One that fails may have gone half its way, so nothing is known of what was being written; but a name is given or
-- not given. What was written is on the disk only after a sync, and what a failed sync leaves is not known, nor ever again. A file that was
-- linked to its path has the name beside that too, until this is taken away, and gets no more bytes by it.
abbrev pub after : Change → Bool → ℕ → List ℕ → Place → Place
after MakeBeside ok number bytes p = with_beside (if ok then Just (Some []) else p.beside) (if ok then Anything else p.beside_on_disk) p
after OwnBeside ok number bytes p = p
after WriteBeside ok number bytes p = with_beside (if ok then with_bytes_after p.beside bytes else Anything) Anything p
after SyncBeside ok number bytes p = with_beside (if ok then p.beside else Anything) (if ok then p.beside else Anything) p
after DropBeside ok number bytes p = with_beside (if ok then Just None else p.beside) (if ok then Just None else p.beside_on_disk) p
after DateBeside ok number bytes p = p
after Rename true number bytes p = with_path p
after Rename false number bytes p = p
after LinkNew true number bytes p = with_file p.beside p.beside_on_disk (p.on_disk ∷ p.earlier) p
after LinkNew false number bytes p = p
after Claim true number bytes p = with_file (Just (Some [])) (Just (Some [])) (p.on_disk ∷ p.earlier) p
after Claim false number bytes p = p
after DropClaim true number bytes p = with_file (Just None) (Just None) (p.on_disk ∷ p.earlier) p
after DropClaim false number bytes p = p
after SyncFolder true number bytes p = with_file p.seen p.on_disk [] p
after SyncFolder false number bytes p = p
after WriteOver true at bytes p = with_file (remainder_with_bytes_over at bytes p.seen) Anything p.earlier p
after WriteOver false at bytes p = with_file Anything Anything p.earlier p
after FinishOver true size bytes p = with_file (cut_left size p.seen) (cut_left size p.seen) p.earlier p
after FinishOver false size bytes p = with_file Anything Anything p.earlier p

-- a place that was like this at first, after these changes
abbrev pub replay : Place → List Step → Place
replay start [] = start
replay start (s ∷ earlier) = after s.change s.ok s.number s.bytes (replay start earlier)

-- what a crash in the midst of a change, or after it, may leave beside what it might leave before; whether it succeeds is not known then
abbrev pub with_moment : Change → Place → List Remainder → List Remainder
with_moment MakeBeside p before = before
with_moment OwnBeside p before = before
with_moment WriteBeside p before = before
with_moment SyncBeside p before = before
with_moment DropBeside p before = before
with_moment DateBeside p before = before
with_moment Rename p before = p.beside_on_disk ∷ before
with_moment LinkNew p before = p.beside_on_disk ∷ before
with_moment Claim p before = Just (Some []) ∷ before
with_moment DropClaim p before = Just None ∷ before
with_moment SyncFolder p before = before
with_moment WriteOver p before = Anything ∷ before
with_moment FinishOver p before = Anything ∷ before

-- each of what a crash may have left at some moment so far, between two changes and in the midst of one
abbrev pub ever : Place → List Step → List Remainder
ever start [] = may_leave start
ever start (s ∷ earlier) = with_moment s.change (replay start earlier) (ever start earlier)
