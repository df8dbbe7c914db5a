-- A machine of any kind at a terminal (this project's profile). An operator strikes a key only where the program waits or looks for one, and a quick
-- printer ends its character before each step.
use Rattle.std.specs.Prelude.{◌≡◌, ℕ, zero, suc, ◌+◌, ◌<◌, ◌≤◌, Bool, true, false, ◌&&◌, if◌then◌else◌, List, [], ◌∷◌, ◌++◌, Option, Some, None}
use Rattle.cpu8.specs.Go.{character_of}
use Rattle.cpu8.specs.Laws.{runs_on}
use Rattle.cpu8.specs.declared.outcomes.Stepped.{Stepped}
use Rattle.cpu8.specs.declared.outcomes.Stepped.TheVariants.{Stopped, Ran, Unassigned}
use Rattle.terminal8.specs.Absences.{with_absence_if}
use Rattle.terminal8.specs.Terminal.{is_none_left, has_halted}
use Rattle.terminal8.specs.declared.absences.Absence.{Absence}
use Rattle.terminal8.specs.declared.outcomes.TerminalEnd.{TerminalEnd}
use Rattle.terminal8.specs.declared.outcomes.TerminalEnd.TheVariants as why
use Rattle.terminal8e.specs.Acts.{Acts}

-- A machine, what the operator's next looks at the keys find, each a key or none yet, and the steps since the last
-- look. After the last one the keys have ended.
pub record Terminal (S : Type 0) : Type 0 where
  pub machine : S
  pub looks : List (Option ℕ)
  pub since : ℕ

-- an operator sits down at a machine, whose looks will find this
abbrev pub new_terminal : {S : Type 0} → S → List (Option ℕ) → Terminal S
new_terminal {S} s looks = record { machine = s; looks = looks; since = 0 }

-- the operator looks for the next key, and strikes it if there is one
abbrev pub after_look : {S : Type 0} → Acts S → S → List (Option ℕ) → Terminal S
after_look {S} acts s [] = new_terminal s []
after_look {S} acts s (None ∷ looks) = new_terminal s looks
after_look {S} acts s (Some key ∷ looks) = new_terminal (acts.key_struck s key) looks

-- and does so where the program asks for one
abbrev pub after_attention : {S : Type 0} → Acts S → Terminal S → Terminal S
after_attention {S} acts t = if acts.asks_for_key t.since t.machine then after_look acts t.machine t.looks else t

-- then the machine makes a step
abbrev pub after_step : {S : Type 0} → Acts S → Terminal S → S × Stepped
after_step {S} acts t = acts.printing_step (after_attention acts t).machine

-- what stands after that step
abbrev pub next : {S : Type 0} → Acts S → Terminal S → Terminal S
next {S} acts t = record (after_attention acts t) { machine = (after_step acts t).0; since = (after_attention acts t).since + 1 }

-- the terminal after so many steps
unfoldable pub later : {S : Type 0} → Acts S → ℕ → Terminal S → Terminal S
later {S} acts zero t = t
later {S} acts (suc k) t = next acts (later acts k t)

-- what the last of so many steps did; before the first, what a machine that runs or stands stopped counts as having done
unfoldable pub last_did : {S : Type 0} → Acts S → ℕ → Terminal S → Stepped
last_did {S} acts zero t = if acts.is_running t.machine then Ran None else Stopped
last_did {S} acts (suc k) t = (after_step acts (later acts k t)).1

-- the characters that so many steps print
unfoldable pub characters_of : {S : Type 0} → Acts S → ℕ → Terminal S → List ℕ
characters_of {S} acts zero t = []
characters_of {S} acts (suc k) t = characters_of acts k t ++ character_of (after_step acts (later acts k t)).1

-- the IOTs of devices that aren't there which so many steps do: the first of each device, of eight devices at most
unfoldable pub absences_of : {S : Type 0} → Acts S → ℕ → Terminal S → List Absence
absences_of {S} acts zero t = []
absences_of {S} acts (suc k) t = with_absence_if (acts.absence_at (after_attention acts (later acts k t)).machine) (absences_of acts k t)

-- ## Steps between two looks

-- the machine after so many steps without a key
unfoldable pub after : {S : Type 0} → Acts S → ℕ → S → S
after {S} acts zero s = s
after {S} acts (suc k) s = (acts.printing_step (after acts k s)).0

-- A machine makes so many steps that print nothing and go on. In none of them its program asks for a key, so many steps after the last
-- look, or for a device that isn't there.
pub record GoesUnasked {S : Type 0} (acts : Acts S) (since count : ℕ) (old new : S) : Type 0 where
  pub state : new ≡ after acts count old
  pub answers : (m : ℕ) → m < count → (acts.printing_step (after acts m old)).1 ≡ Ran None
  pub asks : (m : ℕ) → m < count → acts.asks_for_key (since + m) (after acts m old) ≡ false
  pub absences : (m : ℕ) → m < count → acts.absence_at (after acts m old) ≡ None

-- ## Ends

-- the keys have ended, and the program asks for one and does nothing but wait for it
abbrev pub starves : {S : Type 0} → Acts S → Terminal S → Bool
starves {S} acts t = is_none_left t.looks && (acts.asks_for_key t.since t.machine && acts.waits_for_key t.machine)

-- after so many steps the run goes on
pub record GoesOn {S : Type 0} (acts : Acts S) (t : Terminal S) (k : ℕ) : Type 0 where
  pub runs : runs_on (last_did acts k t) ≡ true
  pub fed : starves acts (later acts k t) ≡ false

-- Why a run of at most n steps ends after so many of them. The last one was a HLT, or the machine stands stopped. Or it met an
-- unassigned word; or the keys have ended and the machine waits for one; or all n are made.
abbrev pub Ends : {S : Type 0} → Acts S → Terminal S → ℕ → ℕ → TerminalEnd → Type 0
Ends {S} acts t n steps why.Halt = has_halted (last_did acts steps t) ≡ true
Ends {S} acts t n steps why.Unassigned = (word : ℕ) × (last_did acts steps t ≡ Unassigned word)
Ends {S} acts t n steps why.Keys = (steps < n) × (runs_on (last_did acts steps t) ≡ true) × (starves acts (later acts steps t) ≡ true)
Ends {S} acts t n steps why.Limit = (steps ≡ n) × (runs_on (last_did acts steps t) ≡ true)

-- A run of at most n steps ends at the first end that comes.
pub record IsRun {S : Type 0} (acts : Acts S) (t : Terminal S) (n steps : ℕ) (why : TerminalEnd) : Type 0 where
  pub within : steps ≤ n
  pub goes_on : (k : ℕ) → k < steps → GoesOn acts t k
  pub ends : Ends acts t n steps why
