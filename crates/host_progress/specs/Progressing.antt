-- How far a long command is, which is printed at a terminal. No line of its work depends on it.
use Rattle.std.specs.Prelude.{◌≡◌, ◌≤◌, ◌⊎◌, ℕ, Bool, true, false, Result, List, [], ◌∷◌, ◌++◌, codes, decimal}
use Rattle.hosts.specs.Event.{Event, terminal_call, seconds_call, tell_call}
use Rattle.hosts.specs.Streams.{errors}
use Rattle.outcome.specs.declared.endings.Ending.{Ending}
use Rattle.image_files.specs.Saving.{IsDone}

-- Progress is printed where standard error is a terminal, and standard output is none. Then the time is asked for.
abbrev pub BeginsProgress : Bool → List Event → List Event → Type 0
BeginsProgress true old new = (passed : ℕ) × (new ≡ seconds_call passed ∷ terminal_call false 1 ∷ terminal_call true 2 ∷ old)
BeginsProgress false old new = (new ≡ terminal_call false 2 ∷ old) ⊎ (new ≡ terminal_call true 1 ∷ terminal_call true 2 ∷ old)

-- how many of all are done, on a line that is written over by what is printed next
abbrev pub progress_text : ℕ → ℕ → List ℕ
progress_text done all = decimal done ++ codes " of " ++ decimal all ++ 0o15 ∷ []

-- Where progress is printed, the time is asked for. From two seconds on it may be printed then how many of all are done.
abbrev pub TellsDone : Bool → ℕ → ℕ → List Event → List Event → Type 0
TellsDone false done all old new = new ≡ old
TellsDone true done all old new = (passed : ℕ)
    × ((new ≡ seconds_call passed ∷ old) ⊎ ((ok : Bool) × (2 ≤ passed) × (new ≡ tell_call ok (progress_text done all) ∷ seconds_call passed ∷ old)))

-- It is printed at most once in each second. `last` is the second in which it was printed last, and `now` the same after this.
abbrev pub TellsOnce : ℕ → ℕ → List Event → List Event → Type 0
TellsOnce last now old new = ((now ≡ last) × (errors new ≡ errors old))
    ⊎ ((now ≡ last → ⊥) × ((ok : Bool) × ((text : List ℕ) × (new ≡ tell_call ok text ∷ seconds_call now ∷ old))))

-- the same as a step of a command
abbrev pub TellsProgress : Bool → ℕ → ℕ → List Event → Result (Unit {0}) Ending → List Event → Type 0
TellsProgress is_told done all old result new = IsDone result × TellsDone is_told done all old new

-- what was printed of progress is taken away, or nothing where nothing was
abbrev pub EndsProgress : Bool → List Event → List Event → Type 0
EndsProgress false old new = new ≡ old
EndsProgress true old new = (ok : Bool) × (new ≡ tell_call ok (0o33 ∷ codes "[K") ∷ old)

-- a work of so many things whose progress may be printed
pub record WithProgress {A : Type 0} (work : Bool → List Event → Result A Ending → List Event → Type 0) (old : List Event) (result : Result A Ending) (new : List Event) : Type 0 where
  pub is_told : Bool
  pub begun : List Event
  pub done : List Event
  pub begins : BeginsProgress is_told old begun
  pub works : work is_told begun result done
  pub ends : EndsProgress is_told done new
