-- A run of a machine whose keys a reader gives, and whose printed characters a writer gets (this project's profile).
use Rattle.std.specs.Prelude.{◌≡◌, ℕ, ◌<◌, ◌≤◌, Bool, true, List, [], ◌∷◌, ◌++◌, map, Option, Some, None, option_to_list, Result, Ok, Err}
use Rattle.std.specs.Io.KnownBytes.{Consumes, Appends, IsAtEnd}
use Rattle.cpu8.specs.State.{State}
use Rattle.terminal8.specs.Keys.{keys_of}
use Rattle.terminal8.specs.Terminal.{new_terminal, later, characters_of, visible_characters, GoesOn, IsRun}
use Rattle.terminal8.specs.Absences.{absences_of}
use Rattle.terminal8.specs.declared.absences.Absence.{Absence}
use Rattle.terminal8.specs.declared.inputs.Input.{Input}
use Rattle.terminal8.specs.declared.inputs.Input.TheVariants.{Ending, Live}
use Rattle.terminal8.specs.declared.keyboards.Form.{Form}
use Rattle.terminal8.specs.declared.outcomes.Ended.{Ended}
use Rattle.terminal8.specs.declared.outcomes.TerminalFault.{TerminalFault}
use Rattle.terminal8.specs.declared.outcomes.TerminalFault.TheVariants.{Reader, Writer}
use Rattle.terminal8.specs.declared.outcomes.TerminalEnd.TheVariants as why

-- ## Keys and looks

-- the keys that looks find
abbrev pub keys_found : List (Option ℕ) → List ℕ
keys_found [] = []
keys_found (look ∷ looks) = option_to_list look ++ keys_found looks

-- Looks find these keys, in their order. Of keys that end each look finds the next; of live ones some looks find none.
abbrev pub FindsKey : Input → List (Option ℕ) → List ℕ → Type 0
FindsKey Ending looks keys = looks ≡ map (λ key. Some key) keys
FindsKey Live looks keys = keys_found looks ≡ keys

-- the keys have ended: they are keys that end, no byte was read ahead, and the reader has no more
abbrev pub HaveEnded : Input → List ℕ → Option (List ℕ) → Type 0
HaveEnded input ahead reader = (input ≡ Ending) × (ahead ≡ []) × IsAtEnd reader

-- A look after these found none where the reader had given all its bytes, and each was struck.
pub record FindsNone (form : Form) (reader : Option (List ℕ)) (before : List (Option ℕ)) : Type 0 where
  pub bytes : List ℕ
  pub left : Option (List ℕ)
  pub taken : Consumes reader left bytes
  pub struck : keys_found before ≡ keys_of form bytes
  pub at_end : IsAtEnd left

-- any looks may follow, but none where the keys have ended
abbrev pub MayFollow : Bool → List (Option ℕ) → Type 0
MayFollow is_over more = is_over ≡ true → more ≡ []

-- ## Runs

-- A machine made so many steps, in which these looks were made, whatever later ones would have found. They found the keys of
-- bytes that the reader gave. Bytes after those that were read ahead are no part of the run.
pub record HasMadeSteps (form : Form) (input : Input) (old new : State) (reader reader' : Option (List ℕ)) (looks : List (Option ℕ)) (is_over : Bool) (steps : ℕ) : Type 0 where
  pub bytes : List ℕ
  pub ahead : List ℕ
  pub taken : Consumes reader reader' (bytes ++ ahead)
  pub finds : FindsKey input looks (keys_of form bytes)
  pub none_only : (before after : List (Option ℕ)) → before ++ None ∷ after ≡ looks → FindsNone form reader before
  pub at_end : is_over ≡ true → HaveEnded input ahead reader'
  pub machine : (more : List (Option ℕ)) → MayFollow is_over more → (later steps (new_terminal old (looks ++ more))).machine ≡ new
  pub looks_left : (more : List (Option ℕ)) → MayFollow is_over more → (later steps (new_terminal old (looks ++ more))).looks ≡ more

-- a run of at most n steps: it ends at the first end that comes
pub record IsRunOf (form : Form) (input : Input) (n : ℕ) (old new : State) (reader reader' : Option (List ℕ)) (ended : Ended) : Type 0 where
  pub looks : List (Option ℕ)
  pub is_over : Bool
  pub made : HasMadeSteps form input old new reader reader' looks is_over ended.steps
  pub run : (more : List (Option ℕ)) → MayFollow is_over more → IsRun (new_terminal old (looks ++ more)) n ended.steps ended.why
  pub none_left : ended.why ≡ why.Keys → is_over ≡ true

-- A run that a fault cuts short after so many steps.
pub record IsCut (form : Form) (input : Input) (n : ℕ) (old new : State) (reader reader' : Option (List ℕ)) : Type 0 where
  pub looks : List (Option ℕ)
  pub is_over : Bool
  pub steps : ℕ
  pub made : HasMadeSteps form input old new reader reader' looks is_over steps
  pub within : steps ≤ n
  pub goes_on : (more : List (Option ℕ)) → MayFollow is_over more → (k : ℕ) → k < steps → GoesOn (new_terminal old (looks ++ more)) k

-- the writer got what so many steps print
abbrev pub WritesPrinted : State → List (Option ℕ) → Bool → Option (List ℕ) → Option (List ℕ) → ℕ → Type 0
WritesPrinted s looks is_over writer writer' steps =
    (more : List (Option ℕ)) → MayFollow is_over more → Appends writer writer' (visible_characters (characters_of steps (new_terminal s (looks ++ more))))

-- these are the IOTs of absent devices that so many steps did
abbrev pub Meets : State → List (Option ℕ) → Bool → List Absence → ℕ → Type 0
Meets s looks is_over absences steps =
    (more : List (Option ℕ)) → MayFollow is_over more → absences ≡ absences_of steps (new_terminal s (looks ++ more))

-- What a run of at most n steps answers, and the IOTs of absent devices that it did. Where the reader fails the writer got what was printed so far.
abbrev pub RunsProgram : Form → Input → ℕ → State → State → Option (List ℕ) → Option (List ℕ) → Option (List ℕ) → Option (List ℕ) → List Absence → Result Ended TerminalFault → Type 0
RunsProgram form input n old new reader reader' writer writer' absences (Ok ended) =
    (ran : IsRunOf form input n old new reader reader' ended) × WritesPrinted old ran.looks ran.is_over writer writer' ended.steps
    × Meets old ran.looks ran.is_over absences ended.steps
RunsProgram form input n old new reader reader' writer writer' absences (Err Reader) =
    (cut : IsCut form input n old new reader reader') × WritesPrinted old cut.looks cut.is_over writer writer' cut.steps
    × Meets old cut.looks cut.is_over absences cut.steps
RunsProgram form input n old new reader reader' writer writer' absences (Err Writer) = IsCut form input n old new reader reader'
