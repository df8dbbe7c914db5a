-- A command whose image another program may hold is tried again (this project's profile).
use Rattle.std.specs.Prelude.{◌≡◌, ◌≤◌, ◌*◌, ◌⊎◌, ℕ, Result, Ok, Err, List, [], ◌∷◌, length}
use Rattle.hosts.specs.Event.{Event, pause_call}
use Rattle.hosts.specs.declared.faults.HostFault.TheVariants as host
use Rattle.outcome.specs.declared.contents.Content.TheVariants.{Image}
use Rattle.outcome.specs.declared.endings.Ending.{Ending}
use Rattle.outcome.specs.declared.endings.Ending.TheVariants.{Busy}
use Rattle.outcome.specs.declared.reasons.Reason.TheVariants as reason
use Rattle.image_files.specs.Reasons.{TellsReason}
use Rattle.image_files.specs.declared.waiting.TheConstants.{TRIES}

-- each of these tries found that another program holds the image, and the time between two tries passed; the calls before each, the newest
-- first
abbrev pub AreBusy : {A : Type 0} → (List Event → Result A Ending → List Event → Type 0) → List (List Event) → List Event → List Event → Type 0
AreBusy command [] old new = new ≡ old
AreBusy command (before ∷ earlier) old new = AreBusy command earlier old before × (after : List Event) × command before (Err (Busy Image)) after × (new ≡ pause_call ∷ after)

-- another program doesn't hold the image
abbrev pub IsFree : {A : Type 0} → Result A Ending → Type 0
IsFree (Ok it) = Unit {0}
IsFree (Err ending) = ending ≡ Busy Image → ⊥

-- where another program holds the image to the last, that is printed with the file's name
abbrev pub TellsBusy : {A : Type 0} → List ℕ → Result A Ending → List Event → List Event → Type 0
TellsBusy name result old new = (IsFree result × (new ≡ old)) ⊎ ((result ≡ Err (Busy Image)) × TellsReason (reason.Fault host.Busy) name old new)

-- While another program holds its image, a command is tried again, for so many seconds. What the last try answers is the answer. That the image
-- in the file of this name is busy is printed once, after that.
pub record Within {A : Type 0} (seconds : ℕ) (name : List ℕ) (command : List Event → Result A Ending → List Event → Type 0) (old : List Event) (result : Result A Ending) (new : List Event) : Type 0 where
  pub tries : List (List Event)
  pub between : List Event
  pub busy : AreBusy command tries old between
  pub after : List Event
  pub last : command between result after
  pub told : TellsBusy name result after new
  pub few : length tries ≤ TRIES * seconds
  pub ends : IsFree result ⊎ (length tries ≡ TRIES * seconds)
