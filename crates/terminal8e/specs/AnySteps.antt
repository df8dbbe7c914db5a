-- The steps of a run, for private clauses.
use Rattle.std.specs.Prelude.{◌≡◌, ℕ, ◌≤◌, Bool, true, List, [], ◌++◌, Option, Result, Ok, Err}
use Rattle.terminal8.specs.Keys.{Keyboard}
use Rattle.terminal8.specs.Terminal.{is_none_left}
use Rattle.terminal8.specs.Run.{MayFollow, FindsKey, HaveEnded}
use Rattle.terminal8.specs.KeyReads.{StrikesKeys}
use Rattle.terminal8.specs.RunSteps.{IsNoneOnly}
use Rattle.terminal8.specs.declared.absences.Absence.{Absence}
use Rattle.terminal8.specs.declared.inputs.Input.{Input}
use Rattle.terminal8.specs.declared.keyboards.Form.{Form}
use Rattle.terminal8.specs.declared.outcomes.Ended.{Ended}
use Rattle.terminal8.specs.declared.outcomes.TerminalFault.{TerminalFault}
use Rattle.terminal8.specs.declared.outcomes.TerminalFault.TheVariants.{Reader, Writer}
use Rattle.terminal8e.specs.Acts.{Acts}
use Rattle.terminal8e.specs.AnyTerminal.{new_terminal, after_look, after_attention, starves}
use Rattle.terminal8e.specs.AnyRun.{IsCut, IsRunOf, Meets, Prints}

-- ## The operator

-- The operator looks for a key, and strikes it if there is one.
pub record Looks {S : Type 0} (acts : Acts S) (input : Input) (k k' : Keyboard) (ahead ahead' : List ℕ) (is_over is_over' : Bool) (s s' : S) (reader reader' : Option (List ℕ)) : Type 0 where
  pub found : List (Option ℕ)
  pub keys : List ℕ
  pub strikes : StrikesKeys k k' ahead ahead' reader reader' keys
  pub finds : FindsKey input found keys
  pub none_only : IsNoneOnly found keys ahead' reader'
  pub over : is_over ≡ true → is_over' ≡ true
  pub at_end : (is_over ≡ true → HaveEnded input ahead reader) → is_over' ≡ true → HaveEnded input ahead' reader'
  pub looks : (more : List (Option ℕ)) → MayFollow is_over' more → after_look acts s (found ++ more) ≡ new_terminal s' more
  pub left : is_over' ≡ is_none_left found
  pub same : is_over' ≡ true → s' ≡ s

-- The operator attends to a machine, so many steps after the last time. Starved says whether the keys have ended for a machine
-- that waits for one.
pub record Attends {S : Type 0} (acts : Acts S) (input : Input) (k k' : Keyboard) (ahead ahead' : List ℕ) (is_over is_over' : Bool) (s s' : S) (since since' : ℕ) (reader reader' : Option (List ℕ)) (starved : Bool) : Type 0 where
  pub found : List (Option ℕ)
  pub keys : List ℕ
  pub strikes : StrikesKeys k k' ahead ahead' reader reader' keys
  pub finds : FindsKey input found keys
  pub none_only : IsNoneOnly found keys ahead' reader'
  pub stays : is_over ≡ true → found ≡ []
  pub over : is_over ≡ true → is_over' ≡ true
  pub at_end : (is_over ≡ true → HaveEnded input ahead reader) → is_over' ≡ true → HaveEnded input ahead' reader'
  pub sooner : since' ≤ since
  pub attends : (more : List (Option ℕ)) → MayFollow is_over' more
      → after_attention acts (record { machine = s; looks = found ++ more; since = since }) ≡ record { machine = s'; looks = more; since = since' }
  pub starves_is : (more : List (Option ℕ)) → MayFollow is_over' more → starves acts (record { machine = s; looks = found ++ more; since = since }) ≡ starved
  pub none_left : starved ≡ true → is_over' ≡ true
  pub idle : starved ≡ true → (s' ≡ s) × (found ≡ [])

-- ## The run

-- the answer of a run whose last printed characters may still be on the paper
abbrev pub RunsInto : {S : Type 0} → Acts S → Form → Input → ℕ → S → S → Option (List ℕ) → Option (List ℕ) → Option (List ℕ) → Option (List ℕ) → List ℕ → List Absence → Result Ended TerminalFault → Type 0
RunsInto {S} acts form input n old new reader reader' writer writer' paper absences (Ok ended) =
    (ran : IsRunOf acts form input n old new reader reader' ended) × Prints acts old ran.looks ran.is_over writer writer' paper ended.steps
    × Meets acts old ran.looks ran.is_over absences ended.steps
RunsInto {S} acts form input n old new reader reader' writer writer' paper absences (Err Reader) =
    (cut : IsCut acts form input n old new reader reader') × Prints acts old cut.looks cut.is_over writer writer' paper cut.steps
    × Meets acts old cut.looks cut.is_over absences cut.steps
RunsInto {S} acts form input n old new reader reader' writer writer' paper absences (Err Writer) = IsCut acts form input n old new reader reader'
