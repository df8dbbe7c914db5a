-- The steps of a command, one after another. Each goes from the calls so far, by what it answers, to the calls after it.
use Rattle.std.specs.Prelude.{◌≡◌, ◌⊎◌, ℕ, Bool, if◌then◌else◌, Result, Ok, Err, List, ◌∷◌}
use Rattle.hosts.specs.Event.{Event, tell_call}
use Rattle.refusals.specs.declared.faults.SessionFault.TheVariants.{Memory}
use Rattle.outcome.specs.declared.endings.Ending.{Ending}
use Rattle.outcome.specs.declared.endings.Ending.TheVariants.{Line, Fault, Failure, Busy, NotWritten, FullOutput, Unreported, NoReader, Misuse}

-- a step is done, and the next one follows with what it gives
pub record Follows {A B : Type 0} (first : List Event → Result A Ending → List Event → Type 0) (next : A → List Event → Result B Ending → List Event → Type 0) (old : List Event) (result : Result B Ending) (new : List Event) : Type 0 where
  pub given : A
  pub between : List Event
  pub done : first old (Ok given) between
  pub after : next given between result new

-- a step ends the command
abbrev pub Ends : {A B : Type 0} → (List Event → Result A Ending → List Event → Type 0) → List Event → Result B Ending → List Event → Type 0
Ends first old (Ok it) new = ⊥
Ends first old (Err ending) new = first old (Err ending) new

-- one step and then the next, unless the first ends the command
abbrev pub Then : {A B : Type 0} → (List Event → Result A Ending → List Event → Type 0) → (A → List Event → Result B Ending → List Event → Type 0) → List Event → Result B Ending → List Event → Type 0
Then first next old result new = Ends first old result new ⊎ Follows first next old result new

-- a step that asks nothing of the host
abbrev pub Purely : {A : Type 0} → (Result A Ending → Type 0) → List Event → Result A Ending → List Event → Type 0
Purely gives old result new = gives result × (new ≡ old)

-- a step gives just this
abbrev pub IsJust : {A : Type 0} → A → Result A Ending → Type 0
IsJust given (Ok it) = it ≡ given
IsJust given (Err ending) = ⊥

-- ## How a command ends

-- memory is wanted, and nothing more was asked of the host
abbrev pub Lacks : List Event → Ending → List Event → Type 0
Lacks old ending new = (ending ≡ Fault Memory) × (new ≡ old)

-- a command ends so, or memory is wanted for that
abbrev pub OrLacks : (List Event → Ending → List Event → Type 0) → List Event → Ending → List Event → Type 0
OrLacks ends old ending new = ends old ending new ⊎ Lacks old ending new

-- it ends with this, after what is printed before it
abbrev pub EndsBy : Ending → (List Event → List Event → Type 0) → List Event → Ending → List Event → Type 0
EndsBy why tells old ending new = (ending ≡ why) × tells old new

-- it ends with this, after a text that standard error gets
abbrev pub EndsTelling : Ending → List ℕ → List Event → Ending → List Event → Type 0
EndsTelling why text old ending new = (ending ≡ why) × (ok : Bool) × (new ≡ tell_call ok text ∷ old)

-- ## Work of several parts

-- How a command ends by a part that ends so, where all parts before it are sound, or not. If nobody reads any more, it ends with their refusal.
abbrev pub ending_after : Bool → Ending → Ending
ending_after are_sound (Line line) = Line line
ending_after are_sound (Fault fault) = Fault fault
ending_after are_sound Failure = Failure
ending_after are_sound (Busy content) = Busy content
ending_after are_sound (NotWritten content left) = NotWritten content left
ending_after are_sound FullOutput = FullOutput
ending_after are_sound Unreported = Unreported
ending_after are_sound NoReader = if are_sound then NoReader else Failure
ending_after are_sound Misuse = Misuse

abbrev pub result_after : {A : Type 0} → Bool → Result A Ending → Result A Ending
result_after are_sound (Ok it) = Ok it
result_after are_sound (Err ending) = Err (ending_after are_sound ending)

-- a part of the work, after others that are sound, or not
abbrev pub After : {A : Type 0} → Bool → (List Event → Result A Ending → List Event → Type 0) → List Event → Result A Ending → List Event → Type 0
After are_sound part old (Ok it) new = part old (Ok it) new
After are_sound part old (Err ended) new = (ending : Ending) × part old (Err ending) new × (ended ≡ ending_after are_sound ending)
