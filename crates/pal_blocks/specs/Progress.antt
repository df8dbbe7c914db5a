-- How far the assembling of several files is.
use Rattle.std.specs.Prelude.{◌≡◌, ◌⊎◌, ℕ, ◌+◌, ◌<◌, ◌≤◌, true, false, None, List, [], ◌∷◌, ◌++◌, length, take, get_or}
use Rattle.char_pack.specs.Packing.{frames}
use Rattle.char_pack.specs.Texts.{is_ended}
use Rattle.pal_lex.specs.Text.{text_from}
use Rattle.pal_lex.specs.Statements.{statements}
use Rattle.pal_lex.specs.Laws.{has_next}
use Rattle.pal_asm.specs.Places.{Source}
use Rattle.pal_asm.specs.Words.{pairs_of}
use Rattle.pal_asm.specs.Faults.{no_end, fault_of}
use Rattle.pal_asm.specs.declared.passing.Pass.{Pass}
use Rattle.pal_blocks.specs.declared.assembling.Assembling.{Assembling}
use Rattle.pal_blocks.specs.declared.assembling.Due.{Due}
use Rattle.pal_blocks.specs.Blocks.{blocks_in, blocks_among, blocks_of_each, first_blocks, first_among, block_at, AreFiles, assembling_turns, turn_of}
use Rattle.pal_blocks.specs.Sources.{newest_first}
use Rattle.pal_blocks.specs.Schedule.{joined_blocks, fault_at_turn}
use Rattle.pal_blocks.specs.Passing.{text_in, characters_added, IsOver}
use Rattle.pal_asm.specs.Passing.{Stands, StandsAfter, IsMade}

-- the block that comes next
abbrev pub due_of : Assembling → Due
due_of it = record { source = it.source; block = it.block }

-- the words of a block of several files
abbrev pub block_of : List (List ℕ) → Due → List ℕ
block_of sources due = block_at due.block (get_or sources due.source [])

-- a block is one of several files
pub record IsBlockOf (sources : List (List ℕ)) (due : Due) : Type 0 where
  pub source : due.source < length sources
  pub block : due.block < blocks_in (get_or sources due.source [])

-- ## Where a pass is among the sources

-- A source stands among others, and a block in it.
pub record Place (sources : List (List ℕ)) (source block : ℕ) : Type 0 where
  pub before : List (List ℕ)
  pub words : List ℕ
  pub others : List (List ℕ)
  pub split : sources ≡ before ++ words ∷ others
  pub count : source ≡ length before
  pub inside : block < blocks_in words

-- These come after so many first blocks of sources, and their join goes on after this text.
pub record GoesOn (sources : List (List ℕ)) (done : ℕ) (rest : List (List ℕ)) (prefix : List ℕ) : Type 0 where
  pub joins : (count : ℕ) → newest_first (first_among (done + count) sources) ≡ newest_first (first_among count rest) ++ prefix
  pub blocks : joined_blocks sources ≡ done + joined_blocks rest

-- whatever comes after so many first blocks of sources, this text is their join
abbrev pub IsJoined : List (List ℕ) → ℕ → List ℕ → Type 0
IsJoined sources done text = (count : ℕ) → newest_first (first_among (done + count) sources) ≡ text

-- the text of so many first blocks of a file, and so many characters that the next block adds
abbrev pub text_taken : List ℕ → ℕ → ℕ → List ℕ
text_taken words block offset =
    text_from (text_in (frames (first_blocks block words))) (take offset (characters_added (frames (first_blocks block words)) (block_at block words)))

-- A pass stands in a source that counts, or after the `$` that ended one before it.
abbrev pub IsInPass : (sources : List (List ℕ)) (source block offset : ℕ) → Place sources source block → Pass → (Source → Type 0) → Type 0
IsInPass sources source block offset place pass Fits =
    ((prefix : List ℕ) × GoesOn sources (blocks_among place.before) (place.words ∷ place.others) prefix
    × Stands pass.lexer pass.is_at_end prefix (has_next place.others) (text_taken place.words block offset) (is_ended (frames (first_blocks block place.words))) Fits)
    ⊎ ((text : List ℕ) × IsJoined sources (blocks_among place.before) text × IsOver pass.lexer pass.is_at_end text Fits)

-- The blocks are read for the first time.
pub record IsFirstPass (sources : List (List ℕ)) (it : Assembling) (left : ℕ) : Type 0 where
  pub again : it.again ≡ false
  pub none : it.pairs.items ≡ []
  pub place : Place sources it.source it.block
  pub turns : blocks_among place.before + it.block + left ≡ assembling_turns (blocks_among sources)
  pub pass : IsInPass sources it.source it.block it.offset place it.pass (λ source. StandsAfter it.pass.waiting it.pass.assembler source)

-- The blocks are read again, where all of them are known to have a `$`, a word and no fault of a statement.
pub record IsSecondPass (sources : List (List ℕ)) (it : Assembling) (left : ℕ) : Type 0 where
  pub again : it.again ≡ true
  pub ends : no_end (newest_first sources) ≡ None
  pub place : Place sources it.source it.block
  pub turns : blocks_among sources + blocks_among place.before + it.block + left ≡ assembling_turns (blocks_among sources)
  pub pass : IsInPass sources it.source it.block it.offset place it.pass (λ source. IsMade (statements (newest_first sources)) it.pass it.pairs.items source)

-- All blocks were read twice, and the sources are without fault.
pub record IsAtEnd (sources : List (List ℕ)) (it : Assembling) (left : ℕ) : Type 0 where
  pub one : left ≡ 1
  pub source : it.source ≡ length sources
  pub no_fault : fault_of (newest_first sources) ≡ None
  pub pairs : it.pairs.items ≡ pairs_of (newest_first sources)

-- The files of these words are assembled, and this is where they stand with so many turns left. No turn so far has shown a fault.
pub record IsAssembling (sources : List (List ℕ)) (it : Assembling) (left : ℕ) : Type 0 where
  pub files : AreFiles sources
  pub each : it.blocks.items ≡ blocks_of_each sources
  pub more : 1 ≤ left
  pub none : (earlier : ℕ) → earlier < turn_of (assembling_turns (blocks_among sources)) left → fault_at_turn earlier sources ≡ None
  pub at : IsFirstPass sources it left ⊎ (IsSecondPass sources it left ⊎ IsAtEnd sources it left)
