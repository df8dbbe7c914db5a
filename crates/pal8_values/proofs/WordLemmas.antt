-- The steps of a word, one after the other.
use Rattle.std.proofs.Common.{◌≡◌, ◌≤◌, length, get_or, Ok, Err, List, [], ◌∷◌, refl, sym, ap, subst}
use Rattle.pal8_pools.specs.Asks.{Ask}
use Rattle.pal8_pools.specs.Pooled.{Holds, PoolTable}
use Rattle.pal8_grammar.specs.declared.steps.Step.{Step}
use Rattle.pal8_values.specs.Sums.{Meanings}
use Rattle.pal8_values.specs.Words.{AskResult, Evaluation, with_step, with_steps, word_in}
use Rattle.pal8_values.specs.Steps.{Takes}
use Rattle.pal8_values.specs.Answering.{Gives, IsFault}
use Rattle.pal8_values.specs.declared.sums.Sum.{Sum}
use Rattle.pal8_values.specs.declared.sums.Spot.{Spot}
use Rattle.pal8_values.specs.declared.frames.Frame.{Frame}
use Rattle.pal8_values.specs.declared.faults.ValueFault.{ValueFault}
use Rattle.pal8_values.proofs.FaultLemmas.{following_one, first_one, keeps_fault}

abbrev at : Sum → List Frame → List Ask → List Ask → Evaluation
at sum frames asks punched = record { sum = sum; frames = frames; asks = asks; punched = punched }

-- The rest of a word's steps comes to what all of them come to.
pub record IsOnTheWay (known : Meanings) (spot : Spot) (whole : AskResult) (rest : List Step) (sum : Sum) (frames : List Frame) (table : PoolTable) : Type 0 where
  pub asks : List Ask
  pub punched : List Ask
  pub same : word_in spot (with_steps known spot rest (Ok (at sum frames asks punched))) ≡ whole
  pub holds : Holds table asks punched

module _ (known : Meanings) (spot : Spot) where
  steps_stay : (steps : List Step) (e : ValueFault) → with_steps known spot steps (Err e) ≡ Err e
  steps_stay [] e = refl
  steps_stay (step ∷ others) e = steps_stay others e

  module _ (whole : AskResult) (rest : List Step) (step : Step) (sum : Sum) (frames frames' : List Frame) (table table' : PoolTable)
      (long : 1 ≤ length rest) (first : step ≡ get_or rest 0 step) (way : IsOnTheWay known spot whole rest sum frames table) where
    pub fails : (fault : ValueFault) → Takes (with_step known spot step (at sum frames way.asks way.punched)) (Err fault) frames' table' → Gives whole (Err fault) table'
    fails fault takes =
        subst (λ w. IsFault w fault) way.same
        (subst (λ l. IsFault (word_in spot (with_steps known spot l (Ok (at sum frames way.asks way.punched)))) fault) (sym (first_one rest step long first))
        (keeps_fault (λ e. word_in spot (with_steps known spot (following_one rest) e)) (λ e. ap (word_in spot) (steps_stay (following_one rest) e))
        (with_step known spot step (at sum frames way.asks way.punched)) fault takes))
