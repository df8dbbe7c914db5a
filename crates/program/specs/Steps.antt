-- A step by which the words of a command line are got.
use Rattle.std.specs.Prelude.{◌≡◌, ℕ, Option, Some, None, String, Result, Ok, Err, List, ◌∷◌}
use Rattle.std.specs.Global.{Global}
use Rattle.hosts.specs.Event.{Event, word_call}
use Rattle.outcome.specs.declared.endings.Ending.{Ending}
use Rattle.program.specs.GivenWords.{IsAsked, LacksWord, LosesWord}

-- the word at a place, if there is one
abbrev pub GetsWord : ℕ → List Event → Result (Option (String Global)) Ending → List Event → Type 0
GetsWord place old (Ok (Some word)) new = IsAsked place word.bytes.items old new
GetsWord place old (Ok None) new = new ≡ word_call place None ∷ old
GetsWord place old (Err ending) new = LacksWord place old ending new

-- the text of a word that has these bytes
abbrev pub TakesWord : ℕ → List ℕ → List Event → Result (Option (String Global)) Ending → List Event → Type 0
TakesWord place bytes old (Ok (Some word)) new = (word.bytes.items ≡ bytes) × (new ≡ old)
TakesWord place bytes old (Ok None) new = ⊥
TakesWord place bytes old (Err ending) new = LosesWord place bytes old ending new
