-- What a history keeps beside its changes, so that it can go back. Private clauses alone cite this.
use Rattle.std.specs.Prelude.{◌≡◌, ℕ, List, length}
use Rattle.cpu8.specs.State.{State}
use Rattle.history8.specs.History.{state_after, characters_after}
use Rattle.history8.specs.Entries.{AreSome, changes_of}
use Rattle.history8.specs.Checkpoints.{Checkpoint, AreCheckpoints, first_state}
use Rattle.history8.specs.declared.entries.Entry.{Entry}

-- so many changes, as entries; the machine that they left of the first one, and the characters that they printed
pub record Keeps (entries : List Entry) (checkpoints : List Checkpoint) (machine : State) (count : ℕ) (characters : List ℕ) : Type 0 where
  pub are : AreCheckpoints entries (first_state checkpoints) checkpoints
  pub some : AreSome entries
  pub counted : count ≡ length (changes_of entries)
  pub left : machine ≡ state_after (changes_of entries) (first_state checkpoints)
  pub printed : characters ≡ characters_after (changes_of entries) (first_state checkpoints)
