-- What the laws of machines at a terminal say.
use Rattle.std.specs.Prelude.{◌≡◌, ℕ, List, map, Option, Some}
use Rattle.std.specs.Io.KnownBytes.{Appends}
use Rattle.terminal8.specs.Keys.{keys_of}
use Rattle.terminal8.specs.Terminal.{visible_characters}
use Rattle.terminal8.specs.declared.absences.Absence.{Absence}
use Rattle.terminal8.specs.declared.keyboards.Form.{Form}
use Rattle.terminal8.specs.declared.outcomes.Ended.{Ended}
use Rattle.terminal8e.specs.Acts.{Acts}
use Rattle.terminal8e.specs.AnyTerminal.{Terminal, new_terminal, later, characters_of, absences_of, IsRun}

-- a terminal at which these keys are struck, one at each look
abbrev pub terminal_with_keys : {S : Type 0} → S → List ℕ → Terminal S
terminal_with_keys {S} s keys = new_terminal s (map (λ key. Some key) keys)

-- a terminal at which the keys of these bytes are struck
abbrev pub terminal_of : {S : Type 0} → Form → S → List ℕ → Terminal S
terminal_of {S} form s bytes = terminal_with_keys s (keys_of form bytes)

-- A run of at most n steps of a terminal, the machine that it leaves, what a writer got, and the IOTs of absent devices that it did.
pub record IsWholeRun {S : Type 0} (acts : Acts S) (t : Terminal S) (n : ℕ) (new : S) (writer writer' : Option (List ℕ)) (absences : List Absence) (ended : Ended) : Type 0 where
  pub run : IsRun acts t n ended.steps ended.why
  pub machine : (later acts ended.steps t).machine ≡ new
  pub printed : Appends writer writer' (visible_characters (characters_of acts ended.steps t))
  pub met : absences ≡ absences_of acts ended.steps t
