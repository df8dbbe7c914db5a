-- Which pools a word asks.
use Rattle.std.proofs.Common.{◌≡◌, ℕ, ◌&&◌, ◌||◌, Bool, true, false, if◌then◌else◌, Option, Some, None, Result, Ok, Err, List, [], ◌∷◌, ◌++◌, refl, sym, ap, ◌∙◌}
use Rattle.std.specs.Prelude.{nat_eq, nat_le, ◌+◌, ◌/◌, ◌%◌}
use Rattle.std.proofs.lemmas.List.{append_assoc}
use Rattle.word12.specs.declared.sizes.TheConstants.{PAGE}
use Rattle.pal8_lex.specs.declared.tokens.Pool.{Pool}
use Rattle.pal8_lex.specs.declared.tokens.Pool.TheVariants.{Own, Zero}
use Rattle.pal8_pools.specs.Asks.{item_of, Ask, items_of_page, cell_in, is_of, pool_of, rank}
use Rattle.pal8_pools.specs.Pooled.{with_punched}
use Rattle.pal8_grammar.specs.declared.steps.Step.{Step}
use Rattle.pal8_grammar.specs.declared.steps.Step.TheVariants as step
use Rattle.pal8_values.specs.Sums.{Meanings, offset_of, with_plain, with_value}
use Rattle.pal8_values.specs.Words.{AskResult, Evaluation, ask_of, evaluation, full, is_through, is_torn, page_start, value_by, with_ask, with_cell, with_cell_of, with_close, with_link, with_link_if, with_literal, with_step, with_step_if, with_steps, word_in, word_of_reference}
use Rattle.pal8_values.specs.Laws.{AsksNear, GoesNear, WordsAskNear, is_near}
use Rattle.pal8_values.specs.declared.sums.Sum.{Sum}
use Rattle.pal8_values.specs.declared.sums.Spot.{Spot}
use Rattle.pal8_values.specs.declared.frames.Frame.{Frame}
use Rattle.pal8_values.specs.declared.faults.ValueFault.{ValueFault}
use Rattle.pal8_values.specs.declared.faults.ValueFault.TheVariants.{RL}

first_far : (x y z : Bool) → (x && (y || z)) ≡ false → (x && y) ≡ false
first_far false y z far = refl
first_far true false z far = refl
first_far true true z far = absurd cc

second_far : (x y z : Bool) → (x && (y || z)) ≡ false → (x && z) ≡ false
second_far false y z far = refl
second_far true y false far = refl
second_far true false true far = absurd cc
second_far true true true far = absurd cc

module _ (spot : Spot) where
  stays : (asks : List Ask) → AsksNear spot asks asks
  stays asks = record { more = []; are = refl; others = λ f p far. refl }

  goes_on : (a b c : List Ask) → AsksNear spot a b → AsksNear spot b c → AsksNear spot a c
  goes_on a b c first second = record {
    more = second.more ++ first.more;
    are = second.are ∙ ap (λ l. second.more ++ l) first.are ∙ sym (append_assoc second.more first.more a);
    others = λ f p far. second.others f p far ∙ first.others f p far;
  }

  is_far : (pool : Pool) (value f p : ℕ) → is_near spot f p ≡ false → is_of f p (ask_of spot pool value) ≡ false
  is_far Own value f p far = first_far (nat_eq spot.field f) (nat_eq (spot.location / PAGE) p) (nat_eq 0 p) far
  is_far Zero value f p far = second_far (nat_eq spot.field f) (nat_eq (spot.location / PAGE) p) (nat_eq 0 p) far

  one_near : (pool : Pool) (value : ℕ) (asks : List Ask) → AsksNear spot asks (ask_of spot pool value ∷ asks)
  one_near pool value asks = record {
    more = ask_of spot pool value ∷ [];
    are = refl;
    others = λ f p far. ap (λ test. if test then item_of (ask_of spot pool value) ∷ items_of_page asks f p else items_of_page asks f p) (is_far pool value f p far);
  }

  goes_further : (a b : List Ask) (r : AskResult) → AsksNear spot a b → GoesNear spot b r → GoesNear spot a r
  goes_further a b (Err fault) near goes = tt
  goes_further a b (Ok (value, c, punched)) near goes = goes_on a b c near goes

  ask_near : (pool : Pool) (value : ℕ) (asks punched : List Ask) → GoesNear spot asks (with_ask spot pool value asks punched)
  ask_near pool value asks punched = by_shift (is_torn pool spot)
    where
      by_room : (test : Bool) → GoesNear spot asks
          (if test then Ok (
            page_start pool spot.here + cell_in (ask_of spot pool value ∷ asks) (ask_of spot pool value) % PAGE,
            ask_of spot pool value ∷ asks,
            with_punched spot.is_punched (ask_of spot pool value) punched,
          )
          else Err (full (ask_of spot pool value).page))
      by_room true = one_near pool value asks
      by_room false = tt

      by_shift : (test : Bool) → GoesNear spot asks (if test then Err RL else with_cell_of spot pool (ask_of spot pool value) asks punched)
      by_shift true = tt
      by_shift false =
          by_room (nat_le (rank (pool_of (ask_of spot pool value ∷ asks) (ask_of spot pool value).field (ask_of spot pool value).page) (item_of (ask_of spot pool value))) 0o177)

  link_near : (operation : ℕ) (asks : List Ask) (r : AskResult) → GoesNear spot asks r → GoesNear spot asks (with_link operation r)
  link_near operation asks (Err fault) goes = tt
  link_near operation asks (Ok (cell, after, punched)) goes = goes

  link_if_near : (operation address : ℕ) (may_link : Bool) (asks punched : List Ask) → GoesNear spot asks (with_link_if spot operation address may_link asks punched)
  link_if_near operation address false asks punched = tt
  link_if_near operation address true asks punched = link_near operation asks (with_ask spot Own address asks punched) (ask_near Own address asks punched)

  reference_near : (operation : ℕ) (is_indirect : Bool) (offset : Option ℕ) (address : ℕ) (asks punched : List Ask)
      → GoesNear spot asks (word_of_reference spot operation is_indirect offset address asks punched)
  reference_near operation is_indirect (Some offset) address asks punched = stays asks
  reference_near operation true None address asks punched = tt
  reference_near operation false None address asks punched = link_if_near operation address spot.may_link asks punched

  value_near : (is_reference : Bool) (s : Sum) (asks punched : List Ask) → GoesNear spot asks (value_by spot is_reference s asks punched)
  value_near false s asks punched = stays asks
  value_near true s asks punched = reference_near s.operation (is_through s) (offset_of spot.here s.total) s.total asks punched

  -- ## Steps

  abbrev StepsNear : List Ask → Result Evaluation ValueFault → Type 0
  StepsNear before (Err fault) = Unit {0}
  StepsNear before (Ok e) = AsksNear spot before e.asks

  further : (a b : List Ask) (r : Result Evaluation ValueFault) → AsksNear spot a b → StepsNear b r → StepsNear a r
  further a b (Err fault) near goes = tt
  further a b (Ok e) near goes = goes_on a b e.asks near goes

  plain_near : (frames : List Frame) (asks punched : List Ask) (r : Result Sum ValueFault) → StepsNear asks (evaluation frames asks punched r)
  plain_near frames asks punched (Err fault) = tt
  plain_near frames asks punched (Ok s) = stays asks

  cell_near : (frame : Frame) (others : List Frame) (asks : List Ask) (r : AskResult) → GoesNear spot asks r → StepsNear asks (with_cell frame others r)
  cell_near frame others asks (Err fault) goes = tt
  cell_near frame others asks (Ok (cell, after, punched)) goes =
      further asks after (evaluation others after punched (with_value cell frame.sum)) goes (plain_near others after punched (with_value cell frame.sum))

  literal_near : (frame : Frame) (others : List Frame) (asks : List Ask) (r : AskResult) → GoesNear spot asks r → StepsNear asks (with_literal spot frame others r)
  literal_near frame others asks (Err fault) goes = tt
  literal_near frame others asks (Ok (value, after, punched)) goes =
      further asks after (with_cell frame others (with_ask spot frame.pool value after punched)) goes
      (cell_near frame others after (with_ask spot frame.pool value after punched) (ask_near frame.pool value after punched))

  close_near : (frames : List Frame) (s : Sum) (asks punched : List Ask) → StepsNear asks (with_close spot frames s asks punched)
  close_near [] s asks punched = stays asks
  close_near (frame ∷ others) s asks punched =
      literal_near frame others asks (value_by spot s.is_reference s asks punched) (value_near s.is_reference s asks punched)

  step_near : (known : Meanings) (s : Step) (e : Evaluation) → StepsNear e.asks (with_step known spot s e)
  step_near known (step.Operation word) e = plain_near e.frames e.asks e.punched (with_plain known spot (step.Operation word) e.sum)
  step_near known step.Alone e = plain_near e.frames e.asks e.punched (with_plain known spot step.Alone e.sum)
  step_near known step.Indirect e = plain_near e.frames e.asks e.punched (with_plain known spot step.Indirect e.sum)
  step_near known (step.Name name) e = plain_near e.frames e.asks e.punched (with_plain known spot (step.Name name) e.sum)
  step_near known (step.Permanent name value) e = plain_near e.frames e.asks e.punched (with_plain known spot (step.Permanent name value) e.sum)
  step_near known (step.Number word) e = plain_near e.frames e.asks e.punched (with_plain known spot (step.Number word) e.sum)
  step_near known step.Here e = plain_near e.frames e.asks e.punched (with_plain known spot step.Here e.sum)
  step_near known (step.Sign op) e = plain_near e.frames e.asks e.punched (with_plain known spot (step.Sign op) e.sum)
  step_near known (step.Open pool) e = stays e.asks
  step_near known step.Close e = close_near e.frames e.sum e.asks e.punched

  step_if_near : (known : Meanings) (s : Step) (before : List Ask) (r : Result Evaluation ValueFault) → StepsNear before r
      → StepsNear before (with_step_if known spot s r)
  step_if_near known s before (Err fault) near = tt
  step_if_near known s before (Ok e) near = further before e.asks (with_step known spot s e) near (step_near known s e)

  steps_near : (known : Meanings) (steps : List Step) (before : List Ask) (r : Result Evaluation ValueFault) → StepsNear before r
      → StepsNear before (with_steps known spot steps r)
  steps_near known [] before r near = near
  steps_near known (s ∷ others) before r near = steps_near known others before (with_step_if known spot s r) (step_if_near known s before r near)

  word_near : (before : List Ask) (r : Result Evaluation ValueFault) → StepsNear before r → GoesNear spot before (word_in spot r)
  word_near before (Err fault) near = tt
  word_near before (Ok e) near =
      goes_further before e.asks (value_by spot e.sum.is_reference e.sum e.asks e.punched) near (value_near e.sum.is_reference e.sum e.asks e.punched)

pub words_ask_near : WordsAskNear
words_ask_near known spot steps asks punched = word_near spot asks _ (steps_near spot known steps asks _ (stays spot asks))
