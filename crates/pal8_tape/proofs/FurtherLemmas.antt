-- Faults after the first, one step at a time.
use Rattle.std.proofs.Common.{◌≡◌, ℕ, ◌-◌, ◌≤◌, ◌<◌, Bool, Option, Some, None, length, take, suc, List, [], ◌∷◌, ◌++◌, refl, sym, ap, ◌∙◌, arith, append_assoc, append-nil, length-append}
use Rattle.std.proofs.lemmas.List.{take_all}
use Rattle.pal8_tape.specs.Further.{faults_after, faults_from, further_fault, items_of, next_texts}
use Rattle.std.specs.Borrow.{Bor}
use Rattle.pal8_places.specs.declared.options.Options.{Options}
use Rattle.pal8_tape.specs.declared.faults.Fault.{Fault}

module _ (options : Options) (passed : Bool) (sources : List (Bor (List ℕ))) (texts : List (List ℕ)) where
  whole_step : (left : ℕ) → faults_after options passed sources (suc left) texts ≡ faults_from options passed sources (faults_after options passed sources left) (next_texts options passed texts)
  unfolding faults_after
  whole_step left = refl

  pub one_step : (left : ℕ) → 0 < left
      → faults_after options passed sources left texts ≡ faults_from options passed sources (faults_after options passed sources (left - 1)) (next_texts options passed texts)
  one_step left more =
      let same : left ≡ suc (left - 1) = omega (arith, more) in
      ap (λ n. faults_after options passed sources n texts) same ∙ whole_step (left - 1)

  pub no_step : faults_after options passed sources 0 texts ≡ []
  unfolding faults_after
  no_step = refl

-- ## All of them

-- there are no others
pub no_others : (most : ℕ) (faults rest whole : List Fault) → faults ++ rest ≡ whole → rest ≡ [] → length faults ≤ most → faults ≡ take most whole
no_others most faults rest whole is none few =
    sym (ap (take most) (sym is ∙ ap (λ l. faults ++ l) none ∙ append-nil faults) ∙ take_all most faults few)

pub few_more : (most : ℕ) (faults : List Fault) (found : Option Fault) → length faults < most → length (faults ++ items_of found) ≤ most
few_more most faults None more = omega (arith, length-append faults [], more)
few_more most faults (Some fault) more = omega (arith, length-append faults (fault ∷ []), more)

module _ (options : Options) (passed : Bool) (sources : List (Bor (List ℕ))) (texts : List (List ℕ)) (left : ℕ) (more : 0 < left) where
  -- nothing is looked for any more
  pub ends_here : (next : Option (List (List ℕ))) → next ≡ next_texts options passed texts → next ≡ None → faults_after options passed sources left texts ≡ []
  ends_here next is none =
      one_step options passed sources texts left more ∙ ap (faults_from options passed sources (faults_after options passed sources (left - 1))) (sym is ∙ none)

  -- one texts more
  pub goes_on : (later : List (List ℕ)) (found : Option Fault) (faults new whole : List Fault) → Some later ≡ next_texts options passed texts
      → found ≡ further_fault options passed sources later → new ≡ faults ++ items_of found → faults ++ faults_after options passed sources left texts ≡ whole
      → new ++ faults_after options passed sources (left - 1) later ≡ whole
  goes_on later found faults new whole is fault put same =
      ap (λ l. l ++ faults_after options passed sources (left - 1) later) put
      ∙ append_assoc faults (items_of found) (faults_after options passed sources (left - 1) later)
      ∙ ap (λ f. faults ++ (items_of f ++ faults_after options passed sources (left - 1) later)) fault
      ∙ sym (ap (λ l. faults ++ l) (one_step options passed sources texts left more
      ∙ ap (faults_from options passed sources (faults_after options passed sources (left - 1))) (sym is)))
      ∙ same
