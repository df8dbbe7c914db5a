-- What the steps of a save do. No contract of a public function cites these.
use Rattle.std.specs.Prelude.{◌≡◌, ℕ, ◌<◌, Bool, false, List, ◌∷◌, Option, None, Some, Result, Ok, Err}
use Rattle.std.specs.Str.{bytes_eq}
use Rattle.hosts.specs.Event.{Event, make_call, own_call, lock_call, write_call, sync_call, date_call}
use Rattle.hosts.specs.Place.{Place, Step, about, replay, ever}
use Rattle.hosts.specs.Streams.{output, errors, read, folders, failures, may_replace, path_of_name, asked_name, has_links}
use Rattle.hosts.specs.Saving.{IsAsItWas, IsUnmade, ClearsBeside, replacements, writes_over}
use Rattle.hosts.specs.declared.faults.HostFault.{HostFault}

-- the file beside a path has that now
pub record IsTaken (before p : Place) : Type 0 where
  pub seen : p.seen ≡ before.beside
  pub on_disk : p.on_disk ≡ before.beside_on_disk

abbrev pub Takes : Result Unit HostFault → List Step → List Step → Type 0
Takes (Ok _) old new = (start : Place) → IsTaken (replay start old) (replay start new)
Takes (Err fault) old new = (start : Place) → IsUnmade new (replay start old) (replay start new)

-- nothing has come of calls that did not succeed for the file of the path, the others, or the streams
pub record IsQuiet (path : List ℕ) (old new : List Event) : Type 0 where
  pub place : (start : Place) → IsAsItWas (replay start (about path old)) (replay start (about path new))
  pub moments : (start : Place) → ever start (about path new) ≡ ever start (about path old)
  pub replaced : replacements (about path new) ≡ replacements (about path old)
  pub beside : ClearsBeside (about path old) (about path new)
  pub cause : failures old < failures new
  pub others : (other : List ℕ) → bytes_eq path other ≡ false → about other new ≡ about other old
  pub printed : output new ≡ output old
  pub told : errors new ≡ errors old
  pub reads : read new ≡ read old
  pub keeps_folders : folders new ≡ folders old
  pub in_place : writes_over (about path new) ≡ writes_over (about path old)
  pub answers : may_replace new ≡ may_replace old
  pub paths : path_of_name new ≡ path_of_name old
  pub names : asked_name new ≡ asked_name old
  pub links : has_links new ≡ has_links old

-- a new file of these bytes stands beside the path, on the disk
abbrev pub ready_calls : List ℕ → List ℕ → List Event → List Event
ready_calls path bytes old = sync_call path ∷ write_call path bytes ∷ lock_call path ∷ own_call path ∷ make_call path ∷ old

-- the same of a path that no file has
abbrev pub new_calls : List ℕ → List ℕ → List Event → List Event
new_calls path bytes old = sync_call path ∷ write_call path bytes ∷ lock_call path ∷ make_call path ∷ old

-- a new file of these bytes stands beside the path
abbrev pub laid_calls : List ℕ → List ℕ → List Event → List Event
laid_calls path bytes old = write_call path bytes ∷ lock_call path ∷ make_call path ∷ old

-- it was then given the time, if one is asked for, or could not be
abbrev pub AreDatedCalls : Option ℕ → List ℕ → List Event → List Event → Type 0
AreDatedCalls None path laid new = new ≡ laid
AreDatedCalls (Some seconds) path laid new = (ok : Bool) × (new ≡ date_call path ok seconds ∷ laid)
