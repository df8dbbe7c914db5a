-- The steps of a run, for private clauses.
use Rattle.std.specs.Prelude.{◌≡◌, ℕ, ◌≤◌, Bool, true, false, List, [], ◌∷◌, ◌++◌, Option, Some, None, Result, Ok, Err}
use Rattle.std.specs.Io.KnownBytes.{Consumes, IsAtEnd}
use Rattle.cpu8.specs.State.{State}
use Rattle.terminal8.specs.Keys.{Keyboard}
use Rattle.terminal8.specs.KeyReads.{Strikes, StrikesKeys, IsDry}
use Rattle.terminal8.specs.Papers.{Passes}
use Rattle.terminal8.specs.Terminal.{new_terminal, after_look, after_attention, is_none_left, characters_of, visible_characters, starves}
use Rattle.terminal8.specs.Run.{MayFollow, FindsKey, HaveEnded, IsCut, IsRunOf, Meets}
use Rattle.terminal8.specs.declared.absences.Absence.{Absence}
use Rattle.terminal8.specs.declared.inputs.Input.{Input}
use Rattle.terminal8.specs.declared.inputs.Input.TheVariants.{Ending, Live}
use Rattle.terminal8.specs.declared.keyboards.Form.{Form}
use Rattle.terminal8.specs.declared.outcomes.Ended.{Ended}
use Rattle.terminal8.specs.declared.outcomes.TerminalFault.{TerminalFault}
use Rattle.terminal8.specs.declared.outcomes.TerminalFault.TheVariants.{Reader, Writer}

-- ## Bytes that are read ahead

-- what filling gives, where no byte was ahead
abbrev pub FillsBuffer : List ℕ → Option (List ℕ) → Option (List ℕ) → Result Unit TerminalFault → Type 0
FillsBuffer ahead reader reader' (Ok nothing) = Consumes reader reader' ahead × (ahead ≡ [] → IsAtEnd reader')
FillsBuffer ahead reader reader' (Err fault) = (fault ≡ Reader) × (ahead ≡ []) × Consumes reader reader' []

-- the next of the bytes ahead is taken, if there is one
abbrev pub GivesByte : List ℕ → List ℕ → Option ℕ → Type 0
GivesByte old new (Some byte) = old ≡ byte ∷ new
GivesByte old new None = (old ≡ []) × (new ≡ [])

-- what taking the next byte gives
abbrev pub ReadsByte : List ℕ → List ℕ → Option (List ℕ) → Option (List ℕ) → Result (Option ℕ) TerminalFault → Type 0
ReadsByte ahead ahead' reader reader' (Ok (Some byte)) = Strikes ahead ahead' reader reader' (byte ∷ [])
ReadsByte ahead ahead' reader reader' (Ok None) = Strikes ahead ahead' reader reader' [] × IsDry ahead' reader'
ReadsByte ahead ahead' reader reader' (Err fault) = Strikes ahead ahead' reader reader' []

-- ## The operator

-- whether keys end where a read gives no byte
abbrev pub is_ending : Input → Bool
is_ending Ending = true
is_ending Live = false

-- one look or none was made; it found none only where no byte is left
abbrev pub IsNoneOnly : List (Option ℕ) → List ℕ → List ℕ → Option (List ℕ) → Type 0
IsNoneOnly [] keys ahead reader = Unit {0}
IsNoneOnly (Some key ∷ looks) keys ahead reader = looks ≡ []
IsNoneOnly (None ∷ looks) keys ahead reader = (looks ≡ []) × (keys ≡ []) × IsDry ahead reader

-- The operator looks for a key, and strikes it if there is one.
pub record Looks (input : Input) (k k' : Keyboard) (ahead ahead' : List ℕ) (is_over is_over' : Bool) (s s' : State) (reader reader' : Option (List ℕ)) : Type 0 where
  pub found : List (Option ℕ)
  pub keys : List ℕ
  pub strikes : StrikesKeys k k' ahead ahead' reader reader' keys
  pub finds : FindsKey input found keys
  pub none_only : IsNoneOnly found keys ahead' reader'
  pub over : is_over ≡ true → is_over' ≡ true
  pub at_end : (is_over ≡ true → HaveEnded input ahead reader) → is_over' ≡ true → HaveEnded input ahead' reader'
  pub looks : (more : List (Option ℕ)) → MayFollow is_over' more → after_look s (found ++ more) ≡ new_terminal s' more
  pub left : is_over' ≡ is_none_left found
  pub same : is_over' ≡ true → s' ≡ s

-- The operator attends to a machine, so many steps after the last time. Starved says whether the keys have ended for a machine
-- that waits for one.
pub record Attends (input : Input) (k k' : Keyboard) (ahead ahead' : List ℕ) (is_over is_over' : Bool) (s s' : State) (since since' : ℕ) (reader reader' : Option (List ℕ)) (starved : Bool) : Type 0 where
  pub found : List (Option ℕ)
  pub keys : List ℕ
  pub strikes : StrikesKeys k k' ahead ahead' reader reader' keys
  pub finds : FindsKey input found keys
  pub none_only : IsNoneOnly found keys ahead' reader'
  pub stays : is_over ≡ true → found ≡ []
  pub over : is_over ≡ true → is_over' ≡ true
  pub at_end : (is_over ≡ true → HaveEnded input ahead reader) → is_over' ≡ true → HaveEnded input ahead' reader'
  pub sooner : since' ≤ since
  pub attends : (more : List (Option ℕ)) → MayFollow is_over' more
      → after_attention (record { machine = s; looks = found ++ more; since = since }) ≡ record { machine = s'; looks = more; since = since' }
  pub starves_is : (more : List (Option ℕ)) → MayFollow is_over' more → starves (record { machine = s; looks = found ++ more; since = since }) ≡ starved
  pub none_left : starved ≡ true → is_over' ≡ true
  pub idle : starved ≡ true → (s' ≡ s) × (found ≡ [])

-- a fault met by the operator, after bytes that are no key
abbrev pub Misses : Keyboard → Keyboard → List ℕ → List ℕ → Bool → Option (List ℕ) → Option (List ℕ) → Type 0
Misses k k' ahead ahead' is_over reader reader' = (is_over ≡ false) × StrikesKeys k k' ahead ahead' reader reader' []

-- ## The run

-- what so many steps printed went to the writer, and the rest is on the paper
abbrev pub Prints : State → List (Option ℕ) → Bool → Option (List ℕ) → Option (List ℕ) → List ℕ → ℕ → Type 0
Prints s looks is_over writer writer' paper steps =
    (more : List (Option ℕ)) → MayFollow is_over more → Passes writer writer' [] paper (visible_characters (characters_of steps (new_terminal s (looks ++ more))))

-- the answer of a run whose last printed characters may still be on the paper
abbrev pub RunsInto : Form → Input → ℕ → State → State → Option (List ℕ) → Option (List ℕ) → Option (List ℕ) → Option (List ℕ) → List ℕ → List Absence → Result Ended TerminalFault → Type 0
RunsInto form input n old new reader reader' writer writer' paper absences (Ok ended) =
    (ran : IsRunOf form input n old new reader reader' ended) × Prints old ran.looks ran.is_over writer writer' paper ended.steps
    × Meets old ran.looks ran.is_over absences ended.steps
RunsInto form input n old new reader reader' writer writer' paper absences (Err Reader) =
    (cut : IsCut form input n old new reader reader') × Prints old cut.looks cut.is_over writer writer' paper cut.steps
    × Meets old cut.looks cut.is_over absences cut.steps
RunsInto form input n old new reader reader' writer writer' paper absences (Err Writer) = IsCut form input n old new reader reader'
