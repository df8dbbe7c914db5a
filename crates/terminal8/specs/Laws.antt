-- What the laws of a terminal say.
use Rattle.std.specs.Prelude.{◌≡◌, ◌⊎◌, ℕ, zero, suc, ◌+◌, ◌%◌, true, false, List, ◌∷◌, map, Option, Some, None, slice_index}
use Rattle.std.specs.Io.KnownBytes.{Appends}
use Rattle.cpu8.specs.State.{State, place}
use Rattle.cpu8.specs.Reference.{after_fetch}
use Rattle.terminal8.specs.Asks.{waits_for_key}
use Rattle.terminal8.specs.Keys.{keys_of}
use Rattle.terminal8.specs.Terminal.{Terminal, new_terminal, later, characters_of, visible_characters, IsRun}
use Rattle.terminal8.specs.Absences.{absences_of}
use Rattle.terminal8.specs.declared.absences.Absence.{Absence}
use Rattle.terminal8.specs.declared.keyboards.Form.{Form}
use Rattle.terminal8.specs.declared.outcomes.Ended.{Ended}

-- a machine is as before, or has gone on by one instruction that changed nothing but PC
abbrev pub IsInLoop : State → State → Type 0
IsInLoop s now = (now ≡ s) ⊎ (now ≡ after_fetch s)

-- ## Whole runs

-- a terminal at which these keys are struck, one at each look
abbrev pub terminal_with_keys : State → List ℕ → Terminal
terminal_with_keys s keys = new_terminal s (map (λ key. Some key) keys)

-- a terminal at which the keys of these bytes are struck
abbrev pub terminal_of : Form → State → List ℕ → Terminal
terminal_of form s bytes = terminal_with_keys s (keys_of form bytes)

-- A run of at most n steps of a terminal, the machine that it leaves, what a writer got, and the IOTs of absent devices that it did.
pub record IsWholeRun (t : Terminal) (n : ℕ) (new : State) (writer writer' : Option (List ℕ)) (absences : List Absence) (ended : Ended) : Type 0 where
  pub run : IsRun t n ended.steps ended.why
  pub machine : (later ended.steps t).machine ≡ new
  pub printed : Appends writer writer' (visible_characters (characters_of ended.steps t))
  pub met : absences ≡ absences_of ended.steps t

-- ## Reading a key

abbrev pub krb : ℕ
krb = 0o6036

-- A program reads a key next: the machine waits for one in KSF (6031) and JMP .-1, after which is a KRB (6036), and interrupts
-- are off.
pub record ReadsNext (s : State) : Type 0 where
  pub waits : waits_for_key s ≡ true
  pub interrupts : s.interrupts_on ≡ false
  pub reads : slice_index s.core (place s.instruction_field ((s.pc + 2) % 0o10000)) ≡ krb

-- so many looks that find none yet, and then these
abbrev pub none_yet : ℕ → List (Option ℕ) → List (Option ℕ)
none_yet zero looks = looks
none_yet (suc count) looks = None ∷ none_yet count looks

-- such a terminal, whose looks find none so many times, and then this key
abbrev pub waiting_for : State → ℕ → ℕ → List (Option ℕ) → ℕ → Terminal
waiting_for s count key looks since = record { machine = s; looks = none_yet count (Some key ∷ looks); since = since }

-- the machine after its KRB: AC is the key, the keyboard's flag is clear, and all else but PC and the buffer is as before
abbrev pub key_read : State → ℕ → State
key_read s key = record s {
  pc = (s.pc + 3) % 0o10000;
  ac = key;
  teletype = record s.teletype { buffer = key; keyboard_flag = false };
}
