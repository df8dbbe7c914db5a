-- What an ask of a pool comes to.
use Rattle.std.proofs.Common.{◌≡◌, ℕ, ◌+◌, ◌*◌, ◌%◌, ◌≤◌, ◌<◌, Bool, true, false, if◌then◌else◌, Ok, Err, List, ◌∷◌, refl, sym, ap, subst, ◌∙◌, arith}
use Rattle.std.specs.Prelude.{nat_eq, nat_le}
use Rattle.std.proofs.lemmas.Bool.Decides.{nat_tests}
use Rattle.word12.specs.declared.sizes.TheConstants.{FIELD, PAGE}
use Rattle.pal8_lex.specs.declared.tokens.Pool.{Pool}
use Rattle.pal8_pools.specs.Asks.{Ask, cell_in, item_of, pool_of, rank}
use Rattle.pal8_pools.specs.Pooled.{Answers, PoolTable, with_punched}
use Rattle.pal8_pools.specs.declared.faults.PoolFault.{PoolFault}
use Rattle.pal8_pools.specs.declared.faults.PoolFault.TheVariants.{Full}
use Rattle.pal8_values.specs.Words.{AskResult, ask_of, full, is_torn, page_of, page_start, stay_at, value_of, with_ask, with_cell, with_cell_of, with_close, with_literal}
use Rattle.pal8_values.specs.Answering.{IsAsked, IsFault}
use Rattle.pal8_values.specs.declared.sums.Sum.{Sum}
use Rattle.pal8_values.specs.declared.sums.Spot.{Spot}
use Rattle.pal8_values.specs.declared.frames.Frame.{Frame}
use Rattle.pal8_values.specs.declared.faults.ValueFault.{ValueFault}
use Rattle.pal8_values.specs.declared.faults.ValueFault.TheVariants.{PE, RL, ZE}
use Rattle.pal8_values.proofs.FaultLemmas.{keeps_fault}

at_most : (a b : ℕ) → a ≤ b → nat_le a b ≡ true
at_most a b is = grind (arith, nat_tests)

above : (a b : ℕ) → b < a → nat_le a b ≡ false
above a b is = grind (arith, nat_tests)

full_is : (whole : AskResult) (test : Bool) → whole ≡ Err (if test then ZE else PE) → IsFault whole (if test then ZE else PE)
full_is whole true is = is
full_is whole false is = is

module _ (spot : Spot) (pool : Pool) (value page stay : ℕ) (asks punched : List Ask) (old new : PoolTable) (whole : is_torn pool spot ≡ false)
    (page_is : page ≡ page_of pool spot.location) (stay_is : stay ≡ stay_at spot page) where
  abbrev a : Ask
  a = ask_of spot pool value

  abbrev asked_in : ℕ → ℕ → Ask
  asked_in p s = record { field = spot.field; page = p; value = value; stay = s }

  asked_is : asked_in page stay ≡ a
  asked_is = ap (asked_in page) stay_is ∙ ap (λ p. asked_in p (stay_at spot p)) page_is

  abbrev by_rank : Bool → AskResult
  by_rank test =
      if test then Ok (page_start pool spot.here + cell_in (a ∷ asks) a % PAGE, a ∷ asks, with_punched spot.is_punched a punched) else Err (full a.page)

  not_torn : with_ask spot pool value asks punched ≡ by_rank (nat_le (rank (pool_of (a ∷ asks) a.field a.page) (item_of a)) 0o177)
  not_torn = ap (λ test. if test then Err RL else with_cell_of spot pool a asks punched) whole

  pub gets_cell : (address result : ℕ) → Answers (asked_in page stay) spot.is_punched asks punched old new (Ok address)
      → ((cell field : ℕ) → FIELD * field + address ≡ cell → result ≡ page_start pool spot.here + cell % PAGE)
      → IsAsked (with_ask spot pool value asks punched) result new
  gets_cell address result answers reaches =
      let it =
      subst (λ x. Answers x spot.is_punched asks punched old new (Ok address)) asked_is answers in
      record {
        asks = a ∷ asks;
        punched = with_punched spot.is_punched a punched;
        is_whole =
            not_torn ∙ ap by_rank (at_most _ _ it.1)
            ∙ ap (λ n. Ok (n, a ∷ asks, with_punched spot.is_punched a punched)) (sym (reaches (cell_in (a ∷ asks) a) spot.field it.0));
        holds = it.2;
      }

  pub gets_none : (why : PoolFault) (fault : ValueFault) → why ≡ Full
      → Answers (asked_in page stay) spot.is_punched asks punched old new (Err why) → fault ≡ full page
      → IsFault (with_ask spot pool value asks punched) fault
  gets_none why fault is_full answers same =
      let it =
      subst (λ x. Answers x spot.is_punched asks punched old new (Err Full)) asked_is
      (subst (λ w. Answers (asked_in page stay) spot.is_punched asks punched old new (Err w)) is_full answers) in
      subst (λ f. IsFault (with_ask spot pool value asks punched) f) (sym (same ∙ ap full page_is))
      (full_is (with_ask spot pool value asks punched) (nat_eq a.page 0) (not_torn ∙ ap by_rank (above _ _ it.1)))

-- ## The end of a literal

module _ (spot : Spot) (frames others : List Frame) (frame : Frame) (sum : Sum) (asks punched : List Ask) (are : frames ≡ frame ∷ others) where
  pub value_fails : (fault : ValueFault) → IsFault (value_of spot sum asks punched) fault → IsFault (with_close spot frames sum asks punched) fault
  value_fails fault is =
      subst (λ l. IsFault (with_close spot l sum asks punched) fault) (sym are)
      (keeps_fault (with_literal spot frame others) (λ e. refl) (value_of spot sum asks punched) fault is)

  pub cell_fails : (value : ℕ) (table : PoolTable) (asked : IsAsked (value_of spot sum asks punched) value table) (fault : ValueFault)
      → IsFault (with_ask spot frame.pool value asked.asks asked.punched) fault → IsFault (with_close spot frames sum asks punched) fault
  cell_fails value table asked fault is =
      subst (λ l. IsFault (with_close spot l sum asks punched) fault) (sym are)
      (subst (λ r. IsFault (with_literal spot frame others r) fault) (sym asked.is_whole)
      (keeps_fault (with_cell frame others) (λ e. refl) (with_ask spot frame.pool value asked.asks asked.punched) fault is))
