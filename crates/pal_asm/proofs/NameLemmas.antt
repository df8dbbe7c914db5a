-- Tags, one at a time.
use Rattle.std.proofs.Common.{◌≡◌, ℕ, ◌+◌, ◌-◌, ◌≤◌, suc, nat_eq, Bool, true, false, ◌||◌, if◌then◌else◌, Option, Some, None, Ok, length, get_or, take, drop, List, [], ◌∷◌, refl, ap, sym, subst, ◌∙◌, ◌⊎◌, inl, inr, arith}
use Rattle.std.proofs.lemmas.List.{take_all}
use Rattle.std.proofs.lemmas.Bool.{eqb-true}
use Rattle.std.proofs.lemmas.Bool.Decides.{nat_tests}
use Rattle.pal_sym.specs.SymbolTable.{SymbolTable}
use Rattle.pal_sym.specs.Values.{symbol_value, is_fixed as fixed_in, DefinesTag}
use Rattle.pal_faults.specs.declared.assembling.Code.TheVariants.{DT}
use Rattle.pal_asm.specs.Expressions.{Meanings}
use Rattle.pal_asm.specs.Places.{with_tags, is_among}
use Rattle.pal_asm.specs.Faults.{first_of, past, defined_otherwise, tags_fault}
use Rattle.pal_asm.specs.PassSteps.{tag_fault}

-- what stands after the first of a list
abbrev pub following_one : {A : Type 0} → List A → List A
following_one l = take (length l - 1) (drop 1 l)

less_one : (n : ℕ) → suc n - 1 ≡ n
less_one n = omega arith

pub first_one : {A : Type 0} (l : List A) (a : A) → 1 ≤ length l → a ≡ get_or l 0 a → l ≡ a ∷ following_one l
first_one [] a long first = absurd (omega arith)
first_one (x ∷ others) a long first =
    ap (λ v. v ∷ others) (sym first) ∙ ap (λ v. a ∷ v) (sym (ap (λ n. take n others) (less_one (length others)) ∙ take_all (length others) others (omega arith)))

-- a name was defined, or stood for this value already
abbrev pub Adds : ℕ → ℕ → Meanings → Meanings → Type 0
Adds tag place old new = (n : ℕ) → new n ≡ (if nat_eq tag n then Some place else old n)

pub swapped : {A : Type 0} (s t : Bool) (a b : A) → (if t then a else (if s then a else b)) ≡ (if s then a else (if t then a else b))
swapped true true a b = refl
swapped true false a b = refl
swapped false true a b = refl
swapped false false a b = refl

pub with_tag_more : (tags : List ℕ) (tag place : ℕ) (old new : Meanings) → Adds tag place old new
    → (n : ℕ) → with_tags tags place new n ≡ with_tags (tag ∷ tags) place old n
with_tag_more [] tag place old new adds n = adds n
with_tag_more (t ∷ tags) tag place old new adds n =
    ap (λ v. if nat_eq t n then Some place else v) (with_tag_more tags tag place old new adds n)
    ∙ swapped (nat_eq tag n) (nat_eq t n) (Some place) (with_tags tags place old n)

same_again : (place : ℕ) → defined_otherwise DT place (Some place) ≡ None
same_again place = grind (arith, nat_tests)

by_before : (place : ℕ) (before : Option ℕ) → (before ≡ None) ⊎ (before ≡ Some place) → defined_otherwise DT place before ≡ None
by_before place before (inl e) = rw e refl
by_before place before (inr e) = rw e (same_again place)

chosen : (test : Bool) (place : ℕ) (value : Option ℕ) → (test ≡ true → (value ≡ None) ⊎ (value ≡ Some place))
    → defined_otherwise DT place (if test then Some place else value) ≡ defined_otherwise DT place value
chosen true place value before = same_again place ∙ sym (by_before place value (before refl))
chosen false place value before = refl

other_tag : (t tag place : ℕ) (old new : Meanings) → Adds tag place old new → (old tag ≡ None) ⊎ (old tag ≡ Some place)
    → defined_otherwise DT place (new t) ≡ defined_otherwise DT place (old t)
other_tag t tag place old new adds before =
    ap (defined_otherwise DT place) (adds t)
    ∙ chosen (nat_eq tag t) place (old t) (λ e. subst (λ n. (old n ≡ None) ⊎ (old n ≡ Some place)) (eqb-true tag t e) before)

pub tags_fault_more : (tags : List ℕ) (tag place : ℕ) (old new : Meanings) → Adds tag place old new → (old tag ≡ None) ⊎ (old tag ≡ Some place)
    → tags_fault new place tags ≡ tags_fault old place tags
tags_fault_more [] tag place old new adds before = refl
tags_fault_more (t ∷ tags) tag place old new adds before =
    ap (λ f. first_of (first_of (past place) f) (tags_fault new place tags)) (other_tag t tag place old new adds before)
    ∙ ap (first_of (first_of (past place) (defined_otherwise DT place (old t)))) (tags_fault_more tags tag place old new adds before)

-- a tag that was defined has no fault
pub first_tag : (tags : List ℕ) (tag place : ℕ) (old : Meanings) → past place ≡ None → (old tag ≡ None) ⊎ (old tag ≡ Some place)
    → tags_fault old place (tag ∷ tags) ≡ tags_fault old place tags
first_tag tags tag place old none before = rw (none, by_before place (old tag) before) refl

-- a tag that has no fault leaves that of the others
pub judged_one : (rest : List ℕ) (tag place : ℕ) (known : Meanings) → 1 ≤ length rest → tag ≡ get_or rest 0 tag → tag_fault place (known tag) ≡ None
    → tags_fault known place (following_one rest) ≡ tags_fault known place rest
judged_one rest tag place known long first none =
    sym (ap (tags_fault known place) (first_one rest tag long first) ∙ ap (λ f. first_of f (tags_fault known place (following_one rest))) none)

-- a tag that was defined is fixed
now_fixed : (among test fixed : Bool) → (among || (if test then true else fixed)) ≡ ((test || among) || fixed)
now_fixed true true fixed = refl
now_fixed true false fixed = refl
now_fixed false true fixed = refl
now_fixed false false fixed = refl

-- What is left to do, where a tag was defined: its own part, and that of the others.
pub record IsLeft (rest others : List ℕ) (place : ℕ) (old new : SymbolTable) : Type 0 where
  pub values : (n : ℕ) → with_tags others place (symbol_value new) n ≡ with_tags rest place (symbol_value old) n
  pub fixed : (n : ℕ) → (is_among others n || fixed_in new n) ≡ (is_among rest n || fixed_in old n)
  pub fault : tags_fault (symbol_value new) place others ≡ tags_fault (symbol_value old) place rest
  pub less : length rest ≡ length others + 1
  pub room : old.room ≤ new.room + 1

-- a tag was defined, and the others are left
tag_passed : (others : List ℕ) (tag place : ℕ) (old new : SymbolTable) → past place ≡ None → DefinesTag tag place old new (Ok tt) → IsLeft (tag ∷ others) others place old new
tag_passed others tag place old new none defined = record {
  values = with_tag_more others tag place (symbol_value old) (symbol_value new) defined.1.values;
  fixed = λ n. ap (λ b. is_among others n || b) (defined.2 n) ∙ now_fixed (is_among others n) (nat_eq tag n) (fixed_in old n);
  fault = tags_fault_more others tag place (symbol_value old) (symbol_value new) defined.1.values defined.0 ∙ sym (first_tag others tag place (symbol_value old) none defined.0);
  less = omega arith;
  room = defined.1.room;
}

-- the same, where the place was found to be a word
pub tags_left : (rest : List ℕ) (tag name location place : ℕ) (old new : SymbolTable) → 1 ≤ length rest → tag ≡ get_or rest 0 tag → name ≡ tag
    → (Some location ≡ Some place) × (past location ≡ None) → DefinesTag name place old new (Ok tt) → IsLeft rest (following_one rest) location old new
tags_left rest tag name location place old new long first named there defined =
    subst (λ r. IsLeft r (following_one rest) location old new) (sym (first_one rest tag long first))
    (tag_passed (following_one rest) tag location old new there.1
    (subst (λ p. DefinesTag tag p old new (Ok tt)) (injective location place there.0) (subst (λ t. DefinesTag t place old new (Ok tt)) named defined)))
  where
    injective : (a b : ℕ) → Some a ≡ Some b → b ≡ a
    injective a b e = cc
