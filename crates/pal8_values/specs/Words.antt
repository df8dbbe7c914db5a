-- The value of a word: its literals and links ask pools for cells (PAL8, in this project's profile).
use Rattle.std.specs.Prelude.{ℕ, ◌+◌, ◌*◌, ◌/◌, ◌%◌, nat_eq, nat_le, bit_and, Bool, true, false, ◌&&◌, ◌||◌, not, if◌then◌else◌, Option, Some, None, Result, Ok, Err, List, [], ◌∷◌}
use Rattle.word12.specs.declared.sizes.TheConstants.{PAGE}
use Rattle.pal8_lex.specs.declared.tokens.Pool.{Pool}
use Rattle.pal8_lex.specs.declared.tokens.Pool.TheVariants.{Own, Zero}
use Rattle.pal8_pools.specs.Asks.{Ask, cell_in, item_of, pool_of, rank}
use Rattle.pal8_pools.specs.Pooled.{with_punched}
use Rattle.pal8_grammar.specs.declared.steps.Step.{Step}
use Rattle.pal8_grammar.specs.declared.steps.Step.TheVariants as step
use Rattle.pal8_values.specs.Sums.{Meanings, empty, offset_of, reference_word, with_plain, with_value}
use Rattle.pal8_values.specs.declared.sums.Sum.{Sum}
use Rattle.pal8_values.specs.declared.sums.Spot.{Spot}
use Rattle.pal8_values.specs.declared.frames.Frame.{Frame}
use Rattle.pal8_values.specs.declared.faults.ValueFault.{ValueFault}
use Rattle.pal8_values.specs.declared.faults.ValueFault.TheVariants.{II, IR, PE, ZE, RL}

-- The word so far: the innermost value, those around it; all that was asked, and what punched words asked of that, each the
-- newest first.
pub record Evaluation : Type 0 where
  pub sum : Sum
  pub frames : List Frame
  pub asks : List Ask
  pub punched : List Ask

-- a value; what was asked up to it, and what punched words asked of that
abbrev pub AskResult : Type 0
AskResult = Result (ℕ × List Ask × List Ask) ValueFault

-- the fault of a page that is full
abbrev pub full : ℕ → ValueFault
full page = if nat_eq page 0 then ZE else PE

-- `(` and links ask the page of the location, `[` page zero
abbrev pub page_of : Pool → ℕ → ℕ
page_of Own location = location / PAGE
page_of Zero location = 0

-- in which stay a page is asked
abbrev pub stay_at : Spot → ℕ → ℕ
stay_at spot page = if nat_eq page 0 then spot.zero_stay else spot.page_stay

abbrev pub ask_of : Spot → Pool → ℕ → Ask
ask_of spot pool value = record {
  field = spot.field;
  page = page_of pool spot.location;
  value = value;
  stay = stay_at spot (page_of pool spot.location);
}

-- By the address of a literal its cell is reached where the word runs: on the page of the place, or on page zero.
abbrev pub page_start : Pool → ℕ → ℕ
page_start Own here = here / PAGE * PAGE
page_start Zero here = 0

-- Where the place and the location are apart, but not by whole pages, an offset on the page of the one isn't that on the page of the other. Where
-- both are on page zero, which is never shifted, nothing is lost.
abbrev pub is_torn : Pool → Spot → Bool
is_torn Own spot = (nat_le PAGE spot.location || nat_le PAGE spot.here) && not (nat_eq (spot.location % PAGE) (spot.here % PAGE))
is_torn Zero spot = false

abbrev pub with_cell_of : Spot → Pool → Ask → List Ask → List Ask → AskResult
with_cell_of spot pool a asks punched =
    if nat_le (rank (pool_of (a ∷ asks) a.field a.page) (item_of a)) 0o177 then Ok (
      page_start pool spot.here + cell_in (a ∷ asks) a % PAGE,
      a ∷ asks,
      with_punched spot.is_punched a punched,
    )
    else Err (full a.page)

-- the address of the cell that an ask gets after others, if its page has one left
abbrev pub with_ask : Spot → Pool → ℕ → List Ask → List Ask → AskResult
with_ask spot pool value asks punched =
    if is_torn pool spot then Err RL else with_cell_of spot pool (ask_of spot pool value) asks punched

-- a link reaches its address by the cell that holds it
abbrev pub with_link : ℕ → AskResult → AskResult
with_link operation (Err fault) = Err fault
with_link operation (Ok (cell, asks, punched)) = Ok (reference_word operation true (cell % PAGE + 0o200), asks, punched)

-- a link, if one may be made
abbrev pub with_link_if : Spot → ℕ → ℕ → Bool → List Ask → List Ask → AskResult
with_link_if spot operation address false asks punched = Err IR
with_link_if spot operation address true asks punched = with_link operation (with_ask spot Own address asks punched)

-- the word of a reference: where its address is out of reach, a link, unless it is indirect
abbrev pub word_of_reference : Spot → ℕ → Bool → Option ℕ → ℕ → List Ask → List Ask → AskResult
word_of_reference spot operation is_indirect (Some offset) address asks punched = Ok (reference_word operation is_indirect offset, asks, punched)
word_of_reference spot operation true None address asks punched = Err II
word_of_reference spot operation false None address asks punched = with_link_if spot operation address spot.may_link asks punched

-- a reference is indirect by `I`, or by the word of its operation
abbrev pub is_through : Sum → Bool
is_through s = s.is_indirect || not (nat_eq (bit_and s.operation 0o400) 0)

abbrev pub value_by : Spot → Bool → Sum → List Ask → List Ask → AskResult
value_by spot false s asks punched = Ok (s.total, asks, punched)
value_by spot true s asks punched = word_of_reference spot s.operation (is_through s) (offset_of spot.here s.total) s.total asks punched

-- what a value is where it ends
abbrev pub value_of : Spot → Sum → List Ask → List Ask → AskResult
value_of spot s asks punched = value_by spot s.is_reference s asks punched

abbrev pub evaluation : List Frame → List Ask → List Ask → Result Sum ValueFault → Result Evaluation ValueFault
evaluation frames asks punched (Err fault) = Err fault
evaluation frames asks punched (Ok s) = Ok record { sum = s; frames = frames; asks = asks; punched = punched }

-- a literal is a term of what stands around it: the address of its cell
abbrev pub with_cell : Frame → List Frame → AskResult → Result Evaluation ValueFault
with_cell frame others (Err fault) = Err fault
with_cell frame others (Ok (cell, asks, punched)) = evaluation others asks punched (with_value cell frame.sum)

-- a literal asks for its own value
abbrev pub with_literal : Spot → Frame → List Frame → AskResult → Result Evaluation ValueFault
with_literal spot frame others (Err fault) = Err fault
with_literal spot frame others (Ok (value, asks, punched)) = with_cell frame others (with_ask spot frame.pool value asks punched)

-- the innermost literal ends
abbrev pub with_close : Spot → List Frame → Sum → List Ask → List Ask → Result Evaluation ValueFault
with_close spot [] s asks punched = Ok record { sum = s; frames = []; asks = asks; punched = punched }
with_close spot (frame ∷ others) s asks punched = with_literal spot frame others (value_of spot s asks punched)

-- one step more
abbrev pub with_step : Meanings → Spot → Step → Evaluation → Result Evaluation ValueFault
with_step known spot (step.Operation word) e = evaluation e.frames e.asks e.punched (with_plain known spot (step.Operation word) e.sum)
with_step known spot step.Alone e = evaluation e.frames e.asks e.punched (with_plain known spot step.Alone e.sum)
with_step known spot step.Indirect e = evaluation e.frames e.asks e.punched (with_plain known spot step.Indirect e.sum)
with_step known spot (step.Name name) e = evaluation e.frames e.asks e.punched (with_plain known spot (step.Name name) e.sum)
with_step known spot (step.Permanent name value) e = evaluation e.frames e.asks e.punched (with_plain known spot (step.Permanent name value) e.sum)
with_step known spot (step.Number word) e = evaluation e.frames e.asks e.punched (with_plain known spot (step.Number word) e.sum)
with_step known spot step.Here e = evaluation e.frames e.asks e.punched (with_plain known spot step.Here e.sum)
with_step known spot (step.Sign op) e = evaluation e.frames e.asks e.punched (with_plain known spot (step.Sign op) e.sum)
with_step known spot (step.Open pool) e =
    Ok record { sum = empty; frames = record { pool = pool; sum = e.sum } ∷ e.frames; asks = e.asks; punched = e.punched }
with_step known spot step.Close e = with_close spot e.frames e.sum e.asks e.punched

abbrev pub with_step_if : Meanings → Spot → Step → Result Evaluation ValueFault → Result Evaluation ValueFault
with_step_if known spot step (Err fault) = Err fault
with_step_if known spot step (Ok e) = with_step known spot step e

-- steps more, up to the first fault
abbrev pub with_steps : Meanings → Spot → List Step → Result Evaluation ValueFault → Result Evaluation ValueFault
with_steps known spot [] e = e
with_steps known spot (step ∷ others) e = with_steps known spot others (with_step_if known spot step e)

abbrev pub word_in : Spot → Result Evaluation ValueFault → AskResult
word_in spot (Err fault) = Err fault
word_in spot (Ok e) = value_of spot e.sum e.asks e.punched

-- The word of steps at a place, after these asks, of which those are of punched words, and the asks after it. The asks of its terms come from the
-- left, those in a literal before the literal's own, that of a link last. Else it is the first fault from the left.
abbrev pub word_value : Meanings → Spot → List Step → List Ask → List Ask → AskResult
word_value known spot steps asks punched =
    word_in spot (with_steps known spot steps (Ok record { sum = empty; frames = []; asks = asks; punched = punched }))
