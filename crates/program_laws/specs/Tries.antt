-- How often a command is tried whose image another program holds, and what is asked of the host first.
use Rattle.std.specs.Prelude.{◌≡◌, ◌≤◌, ◌⊎◌, ℕ, Bool, Result, List, ◌∷◌, length}
use Rattle.hosts.specs.Event.{Event, DropLeftovers, drop_seconds_call, failed_call, hold_call, leftovers_call, resolve_call, tell_call}
use Rattle.hosts.specs.declared.faults.HostFault.{HostFault}
use Rattle.outcome.specs.Contents.{content_name}
use Rattle.outcome.specs.Notes.{file_text, leftovers_text}
use Rattle.outcome.specs.declared.contents.Content.TheVariants as content
use Rattle.outcome.specs.declared.endings.Ending.{Ending}
use Rattle.outcome.specs.declared.notes.FileNote.TheVariants.{NoLock}
use Rattle.image_files.specs.Waiting.{IsFree}

-- At most so many tries found the image busy before the last one. There were just as many where the last one found it so too.
abbrev pub TriesSo : {A : Type 0} → ℕ → List (List Event) → Result A Ending → Type 0
TriesSo most tries result = (length tries ≤ most) × (IsFree result ⊎ (length tries ≡ most))

-- nothing more was printed, or this text on standard error
abbrev pub MayTell : List ℕ → List Event → List Event → Type 0
MayTell text old new = (new ≡ old) ⊎ ((ok : Bool) × (new ≡ tell_call ok text ∷ old))

-- The host gave the path of a name, held the file there, and took away further names of it. A note may say that its file system has no locks.
abbrev pub HasHeld : List ℕ → List ℕ → List Event → List Event → Type 0
HasHeld name path old new = (has_lock : Bool) × MayTell (file_text NoLock (content_name content.Image)) (drop_seconds_call path ∷ hold_call path has_lock ∷ resolve_call name path ∷ old) new

-- The host took away no file beside that of a name, or could not; or it took some away, and a note has their number.
abbrev pub CountsLeft : List ℕ → List Event → List Event → Type 0
CountsLeft name old new = (new ≡ leftovers_call name 0 ∷ old)
    ⊎ (((fault : HostFault) × (new ≡ failed_call DropLeftovers name fault ∷ old))
    ⊎ ((count : ℕ) × (ok : Bool) × (new ≡ tell_call ok (leftovers_text name count) ∷ leftovers_call name count ∷ old)))
