-- What is read of a reader up to the next key, with the bytes that were read ahead (this project's profile).
use Rattle.std.specs.Prelude.{◌≡◌, ℕ, List, [], ◌∷◌, ◌++◌, Option, Some, None, Result, Ok, Err}
use Rattle.std.specs.Io.KnownBytes.{Consumes, IsAtEnd}
use Rattle.terminal8.specs.Keys.{Keyboard, keys_from}
use Rattle.terminal8.specs.KeySteps.{keyboard_after}
use Rattle.terminal8.specs.declared.outcomes.TerminalFault.{TerminalFault}

-- These bytes were struck, of those ahead and then of the reader's.
pub record Strikes (ahead ahead' : List ℕ) (reader reader' : Option (List ℕ)) (bytes : List ℕ) : Type 0 where
  pub read : List ℕ
  pub taken : Consumes reader reader' read
  pub in_order : ahead ++ read ≡ bytes ++ ahead'

-- no byte is ahead, and the reader gave none
abbrev pub IsDry : List ℕ → Option (List ℕ) → Type 0
IsDry ahead reader = (ahead ≡ []) × IsAtEnd reader

-- bytes were struck that give these keys
pub record StrikesKeys (k k' : Keyboard) (ahead ahead' : List ℕ) (reader reader' : Option (List ℕ)) (keys : List ℕ) : Type 0 where
  pub bytes : List ℕ
  pub strikes : Strikes ahead ahead' reader reader' bytes
  pub keyboard : k' ≡ keyboard_after k bytes
  pub keys_are : keys_from k bytes ≡ keys

-- what striking bytes up to the next key gives
abbrev pub ReadsKey : Keyboard → Keyboard → List ℕ → List ℕ → Option (List ℕ) → Option (List ℕ) → Result (Option ℕ) TerminalFault → Type 0
ReadsKey k k' ahead ahead' reader reader' (Ok (Some key)) = StrikesKeys k k' ahead ahead' reader reader' (key ∷ [])
ReadsKey k k' ahead ahead' reader reader' (Ok None) = StrikesKeys k k' ahead ahead' reader reader' [] × IsDry ahead' reader'
ReadsKey k k' ahead ahead' reader reader' (Err fault) = StrikesKeys k k' ahead ahead' reader reader' []
