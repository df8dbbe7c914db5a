-- What was asked stays asked.
use Rattle.std.proofs.Common.{ℕ, Bool, true, false, if◌then◌else◌, Option, Some, None, Result, Ok, Err, List, [], ◌∷◌, ◌++◌, inr, refl, sym, ap, subst, ◌∙◌}
use Rattle.std.specs.Prelude.{nat_le, ◌+◌, ◌%◌}
use Rattle.std.proofs.lemmas.List.{append_assoc}
use Rattle.word12.specs.declared.sizes.TheConstants.{PAGE}
use Rattle.pal8_lex.specs.declared.tokens.Pool.{Pool}
use Rattle.pal8_lex.specs.declared.tokens.Pool.TheVariants.{Own}
use Rattle.pal8_pools.specs.Asks.{item_of, Ask, IsAsked, cell_in, pool_of, rank}
use Rattle.pal8_pools.specs.Pooled.{with_punched}
use Rattle.pal8_grammar.specs.declared.steps.Step.{Step}
use Rattle.pal8_grammar.specs.declared.steps.Step.TheVariants as step
use Rattle.pal8_values.specs.Sums.{Meanings, empty, offset_of, with_plain, with_value}
use Rattle.pal8_values.specs.Words.{AskResult, Evaluation, ask_of, evaluation, full, is_through, is_torn, page_start, value_by, with_ask, with_cell, with_cell_of, with_close, with_link, with_link_if, with_literal, with_step, with_step_if, with_steps, word_in, word_of_reference}
use Rattle.pal8_values.specs.Laws.{AsksGrow, WordsAskMore}
use Rattle.pal8_values.specs.declared.sums.Sum.{Sum}
use Rattle.pal8_values.specs.declared.sums.Spot.{Spot}
use Rattle.pal8_values.specs.declared.frames.Frame.{Frame}
use Rattle.pal8_values.specs.declared.faults.ValueFault.{ValueFault}
use Rattle.pal8_values.specs.declared.faults.ValueFault.TheVariants.{RL}

stays : (asks punched : List Ask) → AsksGrow asks punched asks punched
stays asks punched = record { more = []; are = refl; punched_stay = λ a is. is }

goes_on : (a p b q c r : List Ask) → AsksGrow a p b q → AsksGrow b q c r → AsksGrow a p c r
goes_on a p b q c r first second = record {
  more = second.more ++ first.more;
  are = second.are ∙ ap (λ l. second.more ++ l) first.are ∙ sym (append_assoc second.more first.more a);
  punched_stay = λ x is. second.punched_stay x (first.punched_stay x is);
}

punched_with : (is_punched : Bool) (a : Ask) (punched : List Ask) (x : Ask) → IsAsked punched x → IsAsked (with_punched is_punched a punched) x
punched_with true a punched x is = inr is
punched_with false a punched x is = is

abbrev Grows : List Ask → List Ask → AskResult → Type 0
Grows asks punched (Err fault) = Unit {0}
Grows asks punched (Ok (value, after, after_punched)) = AsksGrow asks punched after after_punched

abbrev StepsGrow : List Ask → List Ask → Result Evaluation ValueFault → Type 0
StepsGrow asks punched (Err fault) = Unit {0}
StepsGrow asks punched (Ok e) = AsksGrow asks punched e.asks e.punched

module _ (spot : Spot) where
  ask_grows : (pool : Pool) (value : ℕ) (asks punched : List Ask) → Grows asks punched (with_ask spot pool value asks punched)
  ask_grows pool value asks punched = by_shift (is_torn pool spot)
    where
      by_room : (test : Bool) → Grows asks punched
          (if test then Ok (
            page_start pool spot.here + cell_in (ask_of spot pool value ∷ asks) (ask_of spot pool value) % PAGE,
            ask_of spot pool value ∷ asks,
            with_punched spot.is_punched (ask_of spot pool value) punched,
          )
          else Err (full (ask_of spot pool value).page))
      by_room true = record {
        more = ask_of spot pool value ∷ [];
        are = refl;
        punched_stay = punched_with spot.is_punched (ask_of spot pool value) punched;
      }
      by_room false = tt

      by_shift : (test : Bool) → Grows asks punched (if test then Err RL else with_cell_of spot pool (ask_of spot pool value) asks punched)
      by_shift true = tt
      by_shift false =
          by_room (nat_le (rank (pool_of (ask_of spot pool value ∷ asks) (ask_of spot pool value).field (ask_of spot pool value).page) (item_of (ask_of spot pool value))) 0o177)

  link_grows : (operation : ℕ) (asks punched : List Ask) (r : AskResult) → Grows asks punched r → Grows asks punched (with_link operation r)
  link_grows operation asks punched (Err fault) grows = tt
  link_grows operation asks punched (Ok (cell, after, after_punched)) grows = grows

  link_if_grows : (operation address : ℕ) (may_link : Bool) (asks punched : List Ask)
      → Grows asks punched (with_link_if spot operation address may_link asks punched)
  link_if_grows operation address false asks punched = tt
  link_if_grows operation address true asks punched =
      link_grows operation asks punched (with_ask spot Own address asks punched) (ask_grows Own address asks punched)

  reference_grows : (operation : ℕ) (is_indirect : Bool) (offset : Option ℕ) (address : ℕ) (asks punched : List Ask)
      → Grows asks punched (word_of_reference spot operation is_indirect offset address asks punched)
  reference_grows operation is_indirect (Some offset) address asks punched = stays asks punched
  reference_grows operation true None address asks punched = tt
  reference_grows operation false None address asks punched = link_if_grows operation address spot.may_link asks punched

  value_grows : (is_reference : Bool) (s : Sum) (asks punched : List Ask) → Grows asks punched (value_by spot is_reference s asks punched)
  value_grows false s asks punched = stays asks punched
  value_grows true s asks punched = reference_grows s.operation (is_through s) (offset_of spot.here s.total) s.total asks punched

  plain_grows : (frames : List Frame) (asks punched : List Ask) (r : Result Sum ValueFault) → StepsGrow asks punched (evaluation frames asks punched r)
  plain_grows frames asks punched (Err fault) = tt
  plain_grows frames asks punched (Ok s) = stays asks punched

  further : (a p b q : List Ask) (r : Result Evaluation ValueFault) → AsksGrow a p b q → StepsGrow b q r → StepsGrow a p r
  further a p b q (Err fault) first second = tt
  further a p b q (Ok e) first second = goes_on a p b q e.asks e.punched first second

  cell_grows : (frame : Frame) (others : List Frame) (asks punched : List Ask) (r : AskResult) → Grows asks punched r → StepsGrow asks punched (with_cell frame others r)
  cell_grows frame others asks punched (Err fault) grows = tt
  cell_grows frame others asks punched (Ok (cell, after, after_punched)) grows =
      further asks punched after after_punched (evaluation others after after_punched (with_value cell frame.sum)) grows
      (plain_grows others after after_punched (with_value cell frame.sum))

  literal_grows : (frame : Frame) (others : List Frame) (asks punched : List Ask) (r : AskResult) → Grows asks punched r
      → StepsGrow asks punched (with_literal spot frame others r)
  literal_grows frame others asks punched (Err fault) grows = tt
  literal_grows frame others asks punched (Ok (value, after, after_punched)) grows =
      further asks punched after after_punched (with_cell frame others (with_ask spot frame.pool value after after_punched)) grows
      (cell_grows frame others after after_punched (with_ask spot frame.pool value after after_punched) (ask_grows frame.pool value after after_punched))

  close_grows : (frames : List Frame) (s : Sum) (asks punched : List Ask) → StepsGrow asks punched (with_close spot frames s asks punched)
  close_grows [] s asks punched = stays asks punched
  close_grows (frame ∷ others) s asks punched =
      literal_grows frame others asks punched (value_by spot s.is_reference s asks punched) (value_grows s.is_reference s asks punched)

  step_grows : (known : Meanings) (s : Step) (e : Evaluation) → StepsGrow e.asks e.punched (with_step known spot s e)
  step_grows known (step.Operation word) e = plain_grows e.frames e.asks e.punched (with_plain known spot (step.Operation word) e.sum)
  step_grows known step.Alone e = plain_grows e.frames e.asks e.punched (with_plain known spot step.Alone e.sum)
  step_grows known step.Indirect e = plain_grows e.frames e.asks e.punched (with_plain known spot step.Indirect e.sum)
  step_grows known (step.Name name) e = plain_grows e.frames e.asks e.punched (with_plain known spot (step.Name name) e.sum)
  step_grows known (step.Permanent name value) e = plain_grows e.frames e.asks e.punched (with_plain known spot (step.Permanent name value) e.sum)
  step_grows known (step.Number word) e = plain_grows e.frames e.asks e.punched (with_plain known spot (step.Number word) e.sum)
  step_grows known step.Here e = plain_grows e.frames e.asks e.punched (with_plain known spot step.Here e.sum)
  step_grows known (step.Sign op) e = plain_grows e.frames e.asks e.punched (with_plain known spot (step.Sign op) e.sum)
  step_grows known (step.Open pool) e = stays e.asks e.punched
  step_grows known step.Close e = close_grows e.frames e.sum e.asks e.punched

  step_if_grows : (known : Meanings) (s : Step) (asks punched : List Ask) (r : Result Evaluation ValueFault) → StepsGrow asks punched r
      → StepsGrow asks punched (with_step_if known spot s r)
  step_if_grows known s asks punched (Err fault) grows = tt
  step_if_grows known s asks punched (Ok e) grows = further asks punched e.asks e.punched (with_step known spot s e) grows (step_grows known s e)

  steps_grow : (known : Meanings) (steps : List Step) (asks punched : List Ask) (r : Result Evaluation ValueFault) → StepsGrow asks punched r
      → StepsGrow asks punched (with_steps known spot steps r)
  steps_grow known [] asks punched r grows = grows
  steps_grow known (s ∷ others) asks punched r grows =
      steps_grow known others asks punched (with_step_if known spot s r) (step_if_grows known s asks punched r grows)

  word_grows : (asks punched : List Ask) (r : Result Evaluation ValueFault) → StepsGrow asks punched r → Grows asks punched (word_in spot r)
  word_grows asks punched (Err fault) grows = tt
  word_grows asks punched (Ok e) grows = by_value (value_by spot e.sum.is_reference e.sum e.asks e.punched) (value_grows e.sum.is_reference e.sum e.asks e.punched)
    where
      by_value : (r : AskResult) → Grows e.asks e.punched r → Grows asks punched r
      by_value (Err fault) more = tt
      by_value (Ok (value, after, after_punched)) more = goes_on asks punched e.asks e.punched after after_punched grows more

pub words_ask_more : WordsAskMore
words_ask_more known spot steps asks punched word after after_punched is =
    subst (Grows asks punched) is (word_grows spot asks punched (with_steps known spot steps (Ok record { sum = empty; frames = []; asks = asks; punched = punched }))
    (steps_grow spot known steps asks punched (Ok record { sum = empty; frames = []; asks = asks; punched = punched }) (stays asks punched)))
