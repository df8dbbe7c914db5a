-- A run of a machine of any kind at a terminal that is made in parts (this project's profile). What is done between two parts is no part of it.
use Rattle.std.specs.Prelude.{◌≡◌, ℕ, ◌+◌, ◌<◌, ◌≤◌, ◌⊎◌, true, List, [], ◌∷◌, ◌++◌, Option, None, Some, Result, Ok, Err}
use Rattle.std.specs.Io.KnownBytes.{Consumes}
use Rattle.cpu8.specs.Laws.{runs_on}
use Rattle.terminal8.specs.Keys.{fresh, keys_of}
use Rattle.terminal8.specs.KeySteps.{keyboard_after}
use Rattle.terminal8.specs.Run.{MayFollow, FindsKey, FindsNone, HaveEnded}
use Rattle.terminal8.specs.declared.inputs.Input.{Input}
use Rattle.terminal8.specs.declared.keyboards.Form.{Form}
use Rattle.terminal8.specs.declared.outcomes.Ended.{Ended}
use Rattle.terminal8.specs.declared.outcomes.TerminalFault.{TerminalFault}
use Rattle.terminal8e.specs.Acts.{Acts}
use Rattle.terminal8e.specs.AnyTerminal.{new_terminal, later, last_did, GoesOn}
use Rattle.terminal8e.specs.AnyRun.{Meets, Prints, RunsProgram}
use Rattle.terminal8e.specs.declared.sittings.Sitting.{Sitting}

-- A run has come so far. The machine was the first one, and made so many steps, of which none was an end. In them these looks were made, whatever
-- later ones will find. They found the keys of bytes that the reader gave; the bytes after those were read ahead. What was printed is with the writer,
-- or on the paper. These IOTs of absent devices were done.
pub record HasComeTo {S : Type 0} (acts : Acts S) (form : Form) (input : Input) (first now : S) (sitting : Sitting) (reader reader' writer writer' : Option (List ℕ)) (paper : List ℕ) : Type 0 where
  pub looks : List (Option ℕ)
  pub bytes : List ℕ
  pub taken : Consumes reader reader' (bytes ++ sitting.operator.ahead)
  pub keyboard : sitting.operator.keyboard ≡ keyboard_after (fresh form) bytes
  pub finds : FindsKey input looks (keys_of form bytes)
  pub none_only : (before after : List (Option ℕ)) → before ++ None ∷ after ≡ looks → FindsNone form reader before
  pub at_end : sitting.operator.is_over ≡ true → HaveEnded input sitting.operator.ahead reader'
  pub at : (more : List (Option ℕ)) → MayFollow sitting.operator.is_over more
      → later acts sitting.steps (new_terminal first (looks ++ more)) ≡ record { machine = now; looks = more; since = sitting.operator.since }
  pub goes_on : (more : List (Option ℕ)) → MayFollow sitting.operator.is_over more → (k : ℕ) → k < sitting.steps → GoesOn acts (new_terminal first (looks ++ more)) k
  pub runs : (more : List (Option ℕ)) → MayFollow sitting.operator.is_over more → runs_on (last_did acts sitting.steps (new_terminal first (looks ++ more))) ≡ true
  pub prints : Prints acts first looks sitting.operator.is_over writer writer' paper sitting.steps
  pub met : Meets acts first looks sitting.operator.is_over sitting.absences sitting.steps

-- all that was printed is with the writer
abbrev pub HasCome : {S : Type 0} → Acts S → Form → Input → S → S → Sitting → Option (List ℕ) → Option (List ℕ) → Option (List ℕ) → Option (List ℕ) → Type 0
HasCome {S} acts form input first now sitting reader reader' writer writer' = HasComeTo acts form input first now sitting reader reader' writer writer' []

-- a run of at most n steps has not come to its end yet, and was last looked at after no more steps than were made
abbrev pub IsWithin : ℕ → Sitting → Type 0
IsWithin n sitting = (sitting.steps ≤ n) × (sitting.operator.since ≤ sitting.steps)

-- What a part of a run of at most n steps comes to. The run goes on later; or it ends, and is as one that was made at once.
abbrev pub ComesTo : {S : Type 0} → Acts S → Form → Input → ℕ → S → S → Sitting → Option (List ℕ) → Option (List ℕ) → Option (List ℕ) → Option (List ℕ) → Result (Option Ended) TerminalFault → Type 0
ComesTo {S} acts form input n first now sitting reader reader' writer writer' (Ok None) = HasCome acts form input first now sitting reader reader' writer writer'
ComesTo {S} acts form input n first now sitting reader reader' writer writer' (Ok (Some ended)) = RunsProgram acts form input n first now reader reader' writer writer' sitting.absences (Ok ended)
ComesTo {S} acts form input n first now sitting reader reader' writer writer' (Err fault) = RunsProgram acts form input n first now reader reader' writer writer' sitting.absences (Err fault)

-- a part that is no end made so many steps, or came to a look after so many of the run; the run has steps left
abbrev pub IsPause : ℕ → ℕ → ℕ → Sitting → Sitting → Result (Option Ended) TerminalFault → Type 0
IsPause n most soonest old new (Ok None) = (old.steps < new.steps) × (new.steps < n) × (new.operator.since ≤ new.steps) × ((old.steps + most ≤ new.steps) ⊎ (soonest ≤ new.steps))
IsPause n most soonest old new (Ok (Some ended)) = Unit {0}
IsPause n most soonest old new (Err fault) = Unit {0}
