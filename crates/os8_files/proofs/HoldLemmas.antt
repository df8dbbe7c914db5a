-- The list of holds, where one is added or taken out at a place.
use Rattle.std.proofs.Common.{◌≡◌, ℕ, suc, ◌<◌, ◌≤◌, true, false, cond, eqb, ltb, List, [], ◌∷◌, length, refl, ap, ◌∙◌, arith}
use Rattle.std.specs.List.{insert, remove}
use Rattle.std.proofs.lemmas.Bool.Decides.{nat_tests}
use Rattle.os8_dir.specs.Entries.{contains}
use Rattle.os8_files.specs.Holds.{with_hold, without_hold}
use Rattle.os8_files.specs.Steps.{place_of, first_of}

pub insert-place : (name : ℕ) (hs : List ℕ) → insert hs (place_of name hs) name ≡ with_hold name hs
insert-place name [] = refl
insert-place name (h ∷ hs) =
    elim (ltb h name) as (λ b. insert (h ∷ hs) (cond b (suc (place_of name hs)) 0) name ≡ cond b (h ∷ with_hold name hs) (name ∷ h ∷ hs)) [
      | true ↦ ap (λ r. h ∷ r) (insert-place name hs)
      | false ↦ refl
    ]

remove-next : (h : ℕ) (hs : List ℕ) (k : ℕ) → remove (h ∷ hs) (suc k) ≡ h ∷ remove hs k
remove-next h hs k = refl

pub remove-first : (name : ℕ) (hs : List ℕ) → first_of name hs < length hs → remove hs (first_of name hs) ≡ without_hold name hs
remove-first name [] there = absurd (omega (arith, there))
remove-first name (h ∷ hs) there =
    (elim (eqb h name) as (λ b. cond b 0 (suc (first_of name hs)) < length (h ∷ hs) → remove (h ∷ hs) (cond b 0 (suc (first_of name hs))) ≡ cond b hs (h ∷ without_hold name hs)) [
      | true ↦ λ in'. refl
      | false ↦ λ in'. remove-next h hs (first_of name hs) ∙ ap (λ r. h ∷ r) (remove-first name hs (omega (arith, in')))
    ]) there

pub without-none : (name : ℕ) (hs : List ℕ) → length hs ≤ first_of name hs → without_hold name hs ≡ hs
without-none name [] none = refl
without-none name (h ∷ hs) none =
    (elim (eqb h name) as (λ b. length (h ∷ hs) ≤ cond b 0 (suc (first_of name hs)) → cond b hs (h ∷ without_hold name hs) ≡ h ∷ hs) [
      | true ↦ λ out. absurd (omega (arith, out))
      | false ↦ λ out. ap (λ r. h ∷ r) (without-none name hs (omega (arith, out)))
    ]) none

ltb-more : (a b : ℕ) → ltb a b ≡ ltb (suc a) (suc b)
ltb-more a b = grind (arith, nat_tests)

ltb-first : (b : ℕ) → true ≡ ltb 0 (suc b)
ltb-first b = grind (arith, nat_tests)

pub contains-first : (name : ℕ) (hs : List ℕ) → contains hs name ≡ ltb (first_of name hs) (length hs)
contains-first name [] = grind (arith, nat_tests)
contains-first name (h ∷ hs) =
    elim (eqb h name) as (λ b. cond b true (contains hs name) ≡ ltb (cond b 0 (suc (first_of name hs))) (length (h ∷ hs))) [
      | true ↦ ltb-first (length hs)
      | false ↦ contains-first name hs ∙ ltb-more (first_of name hs) (length hs)
    ]
