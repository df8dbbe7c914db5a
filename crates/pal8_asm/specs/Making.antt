-- Entries of which the words are being made, for the contracts of its steps.
use Rattle.std.specs.Prelude.{◌≡◌, ℕ, Bool, Option, None, Result, Ok, List}
use Rattle.pal8_pools.specs.Clashes.{AreMarks, lowest_clash}
use Rattle.pal8_pools.specs.Pooled.{Holds, PoolTable}
use Rattle.pal8_asm.specs.Tapes.{TapeWords}
use Rattle.pal8_asm.specs.declared.faults.Fault.{Fault}
use Rattle.pal8_asm.specs.declared.words.MadeWords.{MadeWords}

-- Entries were made, after others: these are the words so far, with their cells, the first clash, and the pools hold what was asked.
pub record IsMaking (whole : Result TapeWords Fault) (pools : PoolTable) (marks : List Bool) (clash : Option Fault) (pairs : List (ℕ × ℕ)) : Type 0 where
  pub made : TapeWords
  pub is_whole : whole ≡ Ok made
  pub words : pairs ≡ made.words
  pub holds : Holds pools made.asks made.punched
  pub marked : AreMarks marks made.words
  pub clashes : clash ≡ made.clash
  pub free : made.clash ≡ None → lowest_clash made.asks made.words ≡ None

abbrev pub IsMakingIn : Result TapeWords Fault → MadeWords → Type 0
IsMakingIn whole made = IsMaking whole made.pools made.cells made.clash made.pairs.items
