-- The mentions of one name among those that stand by their names.
use Rattle.std.proofs.Common.{◌≡◌, ℕ, ◌≤◌, ◌<◌, Bool, true, false, not, filter, zero, suc, length, take, drop, get_or, length-drop, ◌+◌, ◌-◌, ◌&&◌, List, [], ◌∷◌, refl, sym, ap, subst, ◌∙◌, cond, arith, nat_eq, nat_lt}
use Rattle.std.proofs.lemmas.Bool.Decides.{nat_tests}
use Rattle.std.proofs.lemmas.Cmp.{nat_cmp_total}
use Rattle.std.proofs.lemmas.List.{get_or-drop}
use Rattle.std.proofs.lemmas.List.Sorted.{ranks_by, sorted_far}
use Rattle.std.specs.List.{AllWithin}
use Rattle.std.specs.List.Sorted.{IsPartitionedBy, IsPartitionPoint}
use Rattle.std.specs.Ordering.{is_lt, nat_cmp}
use Rattle.std.specs.declared.cmp.Ordering.TheVariants.{Less, Equal, Greater}
use Rattle.pal8_listing.specs.Steps.{AreByName}
use Rattle.pal8_listing.specs.Uses.{is_of}
use Rattle.pal8_listing.specs.declared.mentions.Mention.{Mention}

module _ {A : Type 0} (f : A → Bool) where
  -- the first ones that don't pass a test count for nothing
  pub passed_over : (xs : List A) (n : ℕ) → AllWithin (λ x. f x ≡ false) xs 0 n → n ≤ length xs → filter f xs ≡ filter f (drop n xs)
  passed_over xs zero none inside = refl
  passed_over [] (suc n) none inside = absurd (omega (arith, inside))
  passed_over (x ∷ xs) (suc n) none inside =
      ap (λ (t : Bool). cond t (x ∷ filter f xs) (filter f xs)) (none 0 x (omega arith) (omega arith))
      ∙ passed_over xs n (λ k d low below. none (suc k) d (omega arith) (omega (arith, below))) (omega (arith, inside))

  pub none_pass : (xs : List A) → AllWithin (λ x. f x ≡ false) xs 0 (length xs) → filter f xs ≡ []
  none_pass [] none = refl
  none_pass (x ∷ xs) none =
      ap (λ (t : Bool). cond t (x ∷ filter f xs) (filter f xs)) (none 0 x (omega arith) (omega arith))
      ∙ none_pass xs (λ k d low below. none (suc k) d (omega arith) (omega (arith, below)))

  -- those that pass are the first ones
  pub first_pass : (xs : List A) (n : ℕ) → AllWithin (λ x. f x ≡ true) xs 0 n → AllWithin (λ x. f x ≡ false) xs n (length xs) → n ≤ length xs
      → filter f xs ≡ take n xs
  first_pass xs zero all none inside = none_pass xs none
  first_pass [] (suc n) all none inside = refl
  first_pass (x ∷ xs) (suc n) all none inside =
      ap (λ (t : Bool). cond t (x ∷ filter f xs) (filter f xs)) (all 0 x (omega arith) (omega arith))
      ∙ ap (λ l. x ∷ l)
      (first_pass xs n (λ k d low below. all (suc k) d (omega arith) (omega (arith, below))) (λ k d low below. none (suc k) d (omega (arith, low)) (omega (arith, below)))
      (omega (arith, inside)))

filter_same : {A : Type 0} (f g : A → Bool) (xs : List A) → ((x : A) → f x ≡ g x) → filter f xs ≡ filter g xs
filter_same f g [] same = refl
filter_same f g (x ∷ xs) same =
    ap (λ (t : Bool). cond t (x ∷ filter f xs) (filter f xs)) (same x) ∙ ap (λ l. cond (g x) (x ∷ l) l) (filter_same f g xs same)

-- ## Names

lt_by : (t e : Bool) → is_lt (cond t Less (cond e Equal Greater)) ≡ t
lt_by true e = refl
lt_by false true = refl
lt_by false false = refl

cmp_lt : (a b : ℕ) → is_lt (nat_cmp a b) ≡ nat_lt a b
cmp_lt a b = lt_by (nat_lt a b) (nat_eq a b)

tie_by : (a b : ℕ) (t s e : Bool) → nat_lt a b ≡ t → nat_lt b a ≡ s → nat_eq b a ≡ e → e ≡ (not t && not s)
tie_by a b true s false p q r = refl
tie_by a b true s true p q r = absurd (grind (arith, nat_tests, p, r))
tie_by a b false true false p q r = refl
tie_by a b false true true p q r = absurd (grind (arith, nat_tests, q, r))
tie_by a b false false true p q r = refl
tie_by a b false false false p q r = absurd (grind (arith, nat_tests, p, q, r))

tie_is : (a b : ℕ) → nat_eq b a ≡ (not (is_lt (nat_cmp a b)) && not (is_lt (nat_cmp b a)))
tie_is a b =
    tie_by a b (nat_lt a b) (nat_lt b a) (nat_eq b a) refl refl refl
    ∙ ap (λ t. not t && not (nat_lt b a)) (sym (cmp_lt a b)) ∙ ap (λ t. not (is_lt (nat_cmp a b)) && not t) (sym (cmp_lt b a))

least_by : (a b : ℕ) → nat_lt b a ≡ false → a ≤ b
least_by a b is = grind (arith, nat_tests, is)

lower_still : (a b name : ℕ) → a ≤ b → nat_lt b name ≡ true → nat_lt a name ≡ true
lower_still a b name le is = grind (arith, nat_tests, le, is)

same_between : (a b name : ℕ) → a ≤ b → nat_eq b name ≡ true → nat_lt a name ≡ false → nat_eq a name ≡ true
same_between a b name le is least = grind (arith, nat_tests, le, is, least)

lower_is_other : (a name : ℕ) → nat_lt a name ≡ true → nat_eq a name ≡ false
lower_is_other a name is = grind (arith, nat_tests, is)

module _ (name : ℕ) (whole xs rest : List Mention) (first count : ℕ) (by : AreByName whole xs) (rest_is : rest ≡ drop first xs) (inside : first ≤ length xs) where
  names_rise : (i j : ℕ) (d : Mention) → i ≤ j → j < length xs → (get_or xs i d).name ≤ (get_or xs j d).name
  names_rise i j d a b =
      least_by (get_or xs i d).name (get_or xs j d).name
      (sym (cmp_lt (get_or xs j d).name (get_or xs i d).name)
      ∙ sorted_far (λ (x : Mention) (y : Mention). is_lt (nat_cmp x.name y.name)) (ranks_by nat_cmp_total (λ (m : Mention). m.name)) xs by.sorted i j d a b)

  pub lower_first : IsPartitionedBy (λ (m : Mention). nat_lt m.name name) xs
  lower_first i j d a b t = lower_still (get_or xs i d).name (get_or xs j d).name name (names_rise i j d a b) t

  at_rest : (k : ℕ) (d : Mention) → get_or rest k d ≡ get_or xs (first + k) d
  at_rest k d = ap (λ l. get_or l k d) rest_is ∙ get_or-drop first xs k d

  rest_length : length rest ≡ length xs - first
  rest_length = ap length rest_is ∙ length-drop first xs

  module _ (point : IsPartitionPoint (λ (m : Mention). nat_lt m.name name ≡ true) (λ (m : Mention). nat_lt m.name name ≡ false) xs first) where
    pub same_first : IsPartitionedBy (λ (m : Mention). nat_eq m.name name) rest
    same_first i j d a b t =
        let long = rest_length in
        let there : nat_eq (get_or xs (first + j) d).name name ≡ true = subst (λ (m : Mention). nat_eq m.name name ≡ true) (at_rest j d) t in
        let least : nat_lt (get_or xs (first + i) d).name name ≡ false = point.1 (first + i) d (omega arith) (omega (arith, a, b, long)) in
        subst (λ (m : Mention). nat_eq m.name name ≡ true) (sym (at_rest i d))
        (same_between (get_or xs (first + i) d).name (get_or xs (first + j) d).name name (names_rise (first + i) (first + j) d (omega (arith, a)) (omega (arith, b, long))) there least)

    pub uses_are : (here : List Mention) → here ≡ take count rest → count ≤ length rest
        → IsPartitionPoint (λ (m : Mention). nat_eq m.name name ≡ true) (λ (m : Mention). nat_eq m.name name ≡ false) rest count → here ≡ filter (is_of name) whole
    uses_are here is within run =
        is ∙ sym (first_pass (is_of name) rest count run.0 run.1 within) ∙ ap (filter (is_of name)) rest_is
        ∙ sym (passed_over (is_of name) xs first (λ k d low below. lower_is_other (get_or xs k d).name name (point.0 k d low below)) inside)
        ∙ filter_same (is_of name) _ xs (λ m. tie_is name m.name) ∙ by.stable (record { name = name; line = 0; is_definition = false })
        ∙ sym (filter_same (is_of name) _ whole (λ m. tie_is name m.name))
