-- What holds of the asks of words.
use Rattle.std.specs.Prelude.{◌≡◌, ◌<◌, ℕ, zero, suc, ◌+◌, ◌*◌, ◌/◌, ◌%◌, nat_eq, Bool, true, false, ◌&&◌, ◌||◌, if◌then◌else◌, Option, Some, None, Result, Ok, Err, List, [], ◌∷◌, ◌++◌}
use Rattle.word12.specs.declared.sizes.TheConstants.{FIELD, PAGE}
use Rattle.pal8_lex.specs.declared.tokens.Pool.{Pool}
use Rattle.pal8_lex.specs.declared.tokens.Pool.TheVariants.{Own}
use Rattle.pal8_pools.specs.Asks.{Ask, IsAsked, cell_in, items_of_page}
use Rattle.pal8_pools.specs.Pooled.{with_punched}
use Rattle.pal8_grammar.specs.declared.steps.Step.{Step}
use Rattle.pal8_grammar.specs.declared.steps.Step.TheVariants as step
use Rattle.pal8_values.specs.Sums.{Meanings, empty, offset_of}
use Rattle.pal8_values.specs.Words.{AskResult, Evaluation, ask_of, page_start, with_steps, word_value}
use Rattle.pal8_values.specs.declared.sums.Spot.{Spot}
use Rattle.pal8_values.specs.declared.faults.ValueFault.{ValueFault}

-- this is the page of a location, or page zero of its field
abbrev pub is_near : Spot → ℕ → ℕ → Bool
is_near spot f p = nat_eq spot.field f && (nat_eq (spot.location / PAGE) p || nat_eq 0 p)

-- Nothing was asked but of the page of a location and of page zero of its field.
pub record AsksNear (spot : Spot) (before after : List Ask) : Type 0 where
  pub more : List Ask
  pub are : after ≡ more ++ before
  pub others : (f p : ℕ) → is_near spot f p ≡ false → items_of_page after f p ≡ items_of_page before f p

abbrev pub GoesNear : Spot → List Ask → AskResult → Type 0
GoesNear spot before (Err fault) = Unit {0}
GoesNear spot before (Ok (value, after, punched)) = AsksNear spot before after

-- a word asks the pool of its own page and that of page zero alone
abbrev pub WordsAskNear : Type 0
WordsAskNear =
    (known : Meanings) (spot : Spot) (steps : List Step) (asks punched : List Ask) → GoesNear spot asks (word_value known spot steps asks punched)

-- What was asked stays asked, by punched words too.
pub record AsksGrow (asks punched after after_punched : List Ask) : Type 0 where
  pub more : List Ask
  pub are : after ≡ more ++ asks
  pub punched_stay : (a : Ask) → IsAsked punched a → IsAsked after_punched a

-- a word asks after what was asked before it
abbrev pub WordsAskMore : Type 0
WordsAskMore =
    (known : Meanings) (spot : Spot) (steps : List Step) (asks punched : List Ask) (word : ℕ) (after after_punched : List Ask)
    → word_value known spot steps asks punched ≡ Ok (word, after, after_punched) → AsksGrow asks punched after after_punched

-- ## What a reference reaches

-- The address in a word where it runs: with 0200 it is on the page of the place, else on page zero (Small Computer Handbook).
abbrev pub reached_address : ℕ → ℕ → ℕ
reached_address here word = (if nat_eq (word / PAGE % 2) 0 then 0 else here / PAGE * PAGE) + word % PAGE

-- The cell of an ask is what a word reaches where it runs: at the offset of the cell, on the page of the place or on page zero. The tape lays the
-- cell on the page that was asked.
pub record Reaches (spot : Spot) (word : ℕ) (pool : Pool) (asks : List Ask) (a : Ask) : Type 0 where
  pub at_offset : reached_address spot.here word ≡ page_start pool spot.here + cell_in asks a % PAGE
  pub on_page : cell_in asks a / PAGE ≡ FIELD / PAGE * a.field + a.page

-- how many literals are open after a step, of so many before it; none is closed that isn't open
abbrev pub depth_after : Step → ℕ → Option ℕ
depth_after (step.Operation word) depth = Some depth
depth_after step.Alone depth = Some depth
depth_after step.Indirect depth = Some depth
depth_after (step.Name name) depth = Some depth
depth_after (step.Permanent name value) depth = Some depth
depth_after (step.Number word) depth = Some depth
depth_after step.Here depth = Some depth
depth_after (step.Sign op) depth = Some depth
depth_after (step.Open pool) depth = Some (suc depth)
depth_after step.Close zero = None
depth_after step.Close (suc depth) = Some depth

-- steps close just the literals that are open before them or that they open
abbrev pub closes_all : List Step → Option ℕ → Bool
closes_all steps None = false
closes_all [] (Some depth) = nat_eq depth 0
closes_all (s ∷ others) (Some depth) = closes_all others (depth_after s depth)

-- a reference's operation, and `I` where it has that
abbrev pub operation_steps : ℕ → Bool → List Step
operation_steps operation false = step.Operation operation ∷ []
operation_steps operation true = step.Operation operation ∷ step.Indirect ∷ []

abbrev pub literal_steps : Pool → List Step → List Step
literal_steps pool inside = step.Open pool ∷ (inside ++ (step.Close ∷ []))

-- A word reaches its literal. This has the value that its steps come to by themselves, and is asked for last, after what stands in it.
pub record ReachesLiteral (known : Meanings) (spot : Spot) (pool : Pool) (inside : List Step) (asks punched : List Ask) (word : ℕ) (after after_punched : List Ask) : Type 0 where
  pub value : ℕ
  pub asked : List Ask
  pub asked_punched : List Ask
  pub is_value : word_value known spot inside asks punched ≡ Ok (value, asked, asked_punched)
  pub asks_last : after ≡ ask_of spot pool value ∷ asked
  pub punched_last : after_punched ≡ with_punched spot.is_punched (ask_of spot pool value) asked_punched
  pub reaches : Reaches spot word pool after (ask_of spot pool value)

-- the word of a reference whose address is a literal reaches it
abbrev pub LiteralsAreReached : Type 0
LiteralsAreReached =
    (known : Meanings) (spot : Spot) (operation : ℕ) (is_indirect : Bool) (pool : Pool) (inside : List Step) (asks punched : List Ask)
    (word : ℕ) (after after_punched : List Ask) → operation % 0o400 ≡ 0 → spot.here < 0o10000 → closes_all inside (Some 0) ≡ true
    → word_value known spot (operation_steps operation is_indirect ++ literal_steps pool inside) asks punched ≡ Ok (word, after, after_punched)
    → ReachesLiteral known spot pool inside asks punched word after after_punched

-- what the steps of a word come to, before its reference is made
abbrev pub evaluation_of : Meanings → Spot → List Step → List Ask → List Ask → Result Evaluation ValueFault
evaluation_of known spot steps asks punched = with_steps known spot steps (Ok record { sum = empty; frames = []; asks = asks; punched = punched })

-- A word is a link: it has `I`, and reaches a cell that was asked for last, with this address.
pub record ReachesLink (spot : Spot) (address : ℕ) (asks punched : List Ask) (word : ℕ) (after after_punched : List Ask) : Type 0 where
  pub asks_last : after ≡ ask_of spot Own address ∷ asks
  pub punched_last : after_punched ≡ with_punched spot.is_punched (ask_of spot Own address) punched
  pub is_indirect : word / 0o400 % 2 ≡ 1
  pub reaches : Reaches spot word Own after (ask_of spot Own address)

-- the word of a reference whose address is on neither page is a link
abbrev pub LinksAreReached : Type 0
LinksAreReached =
    (known : Meanings) (spot : Spot) (steps : List Step) (asks punched : List Ask) (e : Evaluation) (word : ℕ) (after after_punched : List Ask)
    → evaluation_of known spot steps asks punched ≡ Ok e → e.sum.is_reference ≡ true → e.sum.operation % 0o400 ≡ 0 → offset_of spot.here e.sum.total ≡ None
    → word_value known spot steps asks punched ≡ Ok (word, after, after_punched)
    → ReachesLink spot e.sum.total e.asks e.punched word after after_punched
