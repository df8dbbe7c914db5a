-- A run of an 8/E whose keys a reader gives, and whose printed characters a writer gets (this project's profile).
use Rattle.std.specs.Prelude.{◌≡◌, ℕ, ◌<◌, ◌≤◌, Bool, true, List, [], ◌∷◌, ◌++◌, Option, None, Result, Ok, Err}
use Rattle.std.specs.Io.KnownBytes.{Consumes, Appends}
use Rattle.terminal8.specs.Keys.{keys_of}
use Rattle.terminal8.specs.Papers.{Passes}
use Rattle.terminal8.specs.Terminal.{visible_characters}
use Rattle.terminal8.specs.Run.{MayFollow, FindsKey, FindsNone, HaveEnded}
use Rattle.terminal8.specs.declared.absences.Absence.{Absence}
use Rattle.terminal8.specs.declared.inputs.Input.{Input}
use Rattle.terminal8.specs.declared.keyboards.Form.{Form}
use Rattle.terminal8.specs.declared.outcomes.Ended.{Ended}
use Rattle.terminal8.specs.declared.outcomes.TerminalFault.{TerminalFault}
use Rattle.terminal8.specs.declared.outcomes.TerminalFault.TheVariants.{Reader, Writer}
use Rattle.terminal8.specs.declared.outcomes.TerminalEnd.TheVariants as why
use Rattle.terminal8e.specs.Acts.{Acts}
use Rattle.terminal8e.specs.AnyTerminal.{new_terminal, later, characters_of, absences_of, GoesOn, IsRun}

-- A machine made so many steps, in which these looks were made, whatever later ones would have found. They found the keys of
-- bytes that the reader gave. Bytes after those that were read ahead are no part of the run.
pub record HasMadeSteps {S : Type 0} (acts : Acts S) (form : Form) (input : Input) (old new : S) (reader reader' : Option (List ℕ)) (looks : List (Option ℕ)) (is_over : Bool) (steps : ℕ) : Type 0 where
  pub bytes : List ℕ
  pub ahead : List ℕ
  pub taken : Consumes reader reader' (bytes ++ ahead)
  pub finds : FindsKey input looks (keys_of form bytes)
  pub none_only : (before after : List (Option ℕ)) → before ++ None ∷ after ≡ looks → FindsNone form reader before
  pub at_end : is_over ≡ true → HaveEnded input ahead reader'
  pub machine : (more : List (Option ℕ)) → MayFollow is_over more → (later acts steps (new_terminal old (looks ++ more))).machine ≡ new
  pub looks_left : (more : List (Option ℕ)) → MayFollow is_over more → (later acts steps (new_terminal old (looks ++ more))).looks ≡ more

-- a run of at most n steps: it ends at the first end that comes
pub record IsRunOf {S : Type 0} (acts : Acts S) (form : Form) (input : Input) (n : ℕ) (old new : S) (reader reader' : Option (List ℕ)) (ended : Ended) : Type 0 where
  pub looks : List (Option ℕ)
  pub is_over : Bool
  pub made : HasMadeSteps acts form input old new reader reader' looks is_over ended.steps
  pub run : (more : List (Option ℕ)) → MayFollow is_over more → IsRun acts (new_terminal old (looks ++ more)) n ended.steps ended.why
  pub none_left : ended.why ≡ why.Keys → is_over ≡ true

-- A run that a fault cuts short after so many steps.
pub record IsCut {S : Type 0} (acts : Acts S) (form : Form) (input : Input) (n : ℕ) (old new : S) (reader reader' : Option (List ℕ)) : Type 0 where
  pub looks : List (Option ℕ)
  pub is_over : Bool
  pub steps : ℕ
  pub made : HasMadeSteps acts form input old new reader reader' looks is_over steps
  pub within : steps ≤ n
  pub goes_on : (more : List (Option ℕ)) → MayFollow is_over more → (k : ℕ) → k < steps → GoesOn acts (new_terminal old (looks ++ more)) k

-- the writer got what so many steps print
abbrev pub WritesPrinted : {S : Type 0} → Acts S → S → List (Option ℕ) → Bool → Option (List ℕ) → Option (List ℕ) → ℕ → Type 0
WritesPrinted {S} acts s looks is_over writer writer' steps =
    (more : List (Option ℕ)) → MayFollow is_over more → Appends writer writer' (visible_characters (characters_of acts steps (new_terminal s (looks ++ more))))

-- what so many steps printed went to the writer, and the rest is on the paper
abbrev pub Prints : {S : Type 0} → Acts S → S → List (Option ℕ) → Bool → Option (List ℕ) → Option (List ℕ) → List ℕ → ℕ → Type 0
Prints {S} acts s looks is_over writer writer' paper steps =
    (more : List (Option ℕ)) → MayFollow is_over more → Passes writer writer' [] paper (visible_characters (characters_of acts steps (new_terminal s (looks ++ more))))

-- these are the IOTs of absent devices that so many steps did
abbrev pub Meets : {S : Type 0} → Acts S → S → List (Option ℕ) → Bool → List Absence → ℕ → Type 0
Meets {S} acts s looks is_over absences steps =
    (more : List (Option ℕ)) → MayFollow is_over more → absences ≡ absences_of acts steps (new_terminal s (looks ++ more))

-- What a run of at most n steps answers, and the IOTs of absent devices that it did. Where the reader fails the writer got what was printed so far.
abbrev pub RunsProgram : {S : Type 0} → Acts S → Form → Input → ℕ → S → S → Option (List ℕ) → Option (List ℕ) → Option (List ℕ) → Option (List ℕ) → List Absence → Result Ended TerminalFault → Type 0
RunsProgram {S} acts form input n old new reader reader' writer writer' absences (Ok ended) =
    (ran : IsRunOf acts form input n old new reader reader' ended) × WritesPrinted acts old ran.looks ran.is_over writer writer' ended.steps
    × Meets acts old ran.looks ran.is_over absences ended.steps
RunsProgram {S} acts form input n old new reader reader' writer writer' absences (Err Reader) =
    (cut : IsCut acts form input n old new reader reader') × WritesPrinted acts old cut.looks cut.is_over writer writer' cut.steps
    × Meets acts old cut.looks cut.is_over absences cut.steps
RunsProgram {S} acts form input n old new reader reader' writer writer' absences (Err Writer) = IsCut acts form input n old new reader reader'
