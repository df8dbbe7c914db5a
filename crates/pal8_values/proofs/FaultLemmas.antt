-- The first fault stays, whatever follows.
use Rattle.std.proofs.Common.{◌≡◌, ℕ, ◌-◌, ◌≤◌, length, get_or, take, drop, Result, Ok, Err, List, [], ◌∷◌, suc, refl, sym, ap, subst, ◌∙◌, arith}
use Rattle.std.proofs.lemmas.List.{take_all}
use Rattle.pal8_grammar.specs.declared.steps.Step.{Step}
use Rattle.pal8_values.specs.Sums.{Meanings, direct_value, with_plain, with_plains}
use Rattle.pal8_values.specs.Answering.{IsFault}
use Rattle.pal8_values.specs.declared.sums.Sum.{Sum}
use Rattle.pal8_values.specs.declared.sums.Spot.{Spot}
use Rattle.pal8_values.specs.declared.faults.ValueFault.{ValueFault}
use Rattle.pal8_values.specs.declared.faults.ValueFault.TheVariants.{UA, PF, DZ, IR, II, PE, ZE, RL, Memory}

-- what stands after the first of a list
abbrev pub following_one : {A : Type 0} → List A → List A
following_one l = take (length l - 1) (drop 1 l)

less_one : (n : ℕ) → suc n - 1 ≡ n
less_one n = omega arith

pub first_one : {A : Type 0} (l : List A) (a : A) → 1 ≤ length l → a ≡ get_or l 0 a → l ≡ a ∷ following_one l
first_one [] a long first = absurd (omega arith)
first_one (x ∷ others) a long first =
    ap (λ v. v ∷ others) (sym first) ∙ ap (λ v. a ∷ v) (sym (ap (λ n. take n others) (less_one (length others)) ∙ take_all (length others) others (omega arith)))

-- what keeps a fault, keeps that of this
pub keeps_fault : {A B : Type 0} (f : Result A ValueFault → Result B ValueFault) → ((e : ValueFault) → f (Err e) ≡ Err e) → (whole : Result A ValueFault)
    (fault : ValueFault) → IsFault whole fault → IsFault (f whole) fault
keeps_fault f keeps whole (UA name) is = ap f is ∙ keeps (UA name)
keeps_fault f keeps whole PF is = ap f is ∙ keeps PF
keeps_fault f keeps whole DZ is = ap f is ∙ keeps DZ
keeps_fault f keeps whole IR is = ap f is ∙ keeps IR
keeps_fault f keeps whole II is = ap f is ∙ keeps II
keeps_fault f keeps whole PE is = ap f is ∙ keeps PE
keeps_fault f keeps whole ZE is = ap f is ∙ keeps ZE
keeps_fault f keeps whole RL is = ap f is ∙ keeps RL
keeps_fault f keeps whole Memory is = tt

pub same_fault : {A : Type 0} (whole other : Result A ValueFault) (fault : ValueFault) → whole ≡ other → IsFault whole fault → IsFault other fault
same_fault whole other fault e is = subst (λ w. IsFault w fault) e is

module _ (known : Meanings) (spot : Spot) where
  plains_stay : (steps : List Step) (e : ValueFault) → with_plains known spot steps (Err e) ≡ Err e
  plains_stay [] e = refl
  plains_stay (step ∷ others) e = plains_stay others e

  -- the steps after the first one have its fault
  pub plain_fails : (steps : List Step) (step : Step) (sum : Sum) (fault : ValueFault) → 1 ≤ length steps → step ≡ get_or steps 0 step
      → IsFault (with_plain known spot step sum) fault → IsFault (direct_value spot.here (with_plains known spot steps (Ok sum))) fault
  plain_fails steps step sum fault long first is =
      subst (λ l. IsFault (direct_value spot.here (with_plains known spot l (Ok sum))) fault) (sym (first_one steps step long first))
      (keeps_fault (λ r. direct_value spot.here (with_plains known spot (following_one steps) r)) (λ e. ap (direct_value spot.here) (plains_stay (following_one steps) e))
      (with_plain known spot step sum) fault is)
