-- What is seen of the stores of this crate.
use Rattle.std.specs.Prelude.{ℕ, List, Option}

-- a volume in memory: its blocks, and how many reads and writes were made
pub record InMemory : Type 0 where
  pub blocks : List (List ℕ)
  pub reads : ℕ
  pub writes : ℕ

-- a store below, and how many reads and writes of it were asked for
pub record CountingStore (S : Type 0) : Type 0 where
  pub store : S
  pub reads : ℕ
  pub writes : ℕ

-- a volume in memory of which a read and a write fail: how many pass until then, or none where no more is to fail
pub record FusedVolume : Type 0 where
  pub volume : InMemory
  pub reads_left : Option ℕ
  pub writes_left : Option ℕ
  pub failed_reads : ℕ
  pub failed_writes : ℕ
