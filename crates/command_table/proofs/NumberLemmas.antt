-- A text that clap took as a number is read as that number.
use Rattle.command_table.proofs.Names.{◌≡◌, ◌∙◌, ◌≤◌, ◌<◌, ◌*◌, ℕ, zero, suc, List, Option, Some, None, Result, Ok, Err, ap, arith, refl, subst, sym, option_map, IfSome, ParsesUnsigned, IsUnsignedIn, ReadsOne, Text}
use Rattle.command_table.specs.Found.{number_of}

pub unsigned_reads : (E : Type 0) (G : List ℕ → Result ℕ E → Type 0) (low high : ℕ) (t : List ℕ) (r : Option ℕ) → ReadsOne G t r
    → ((u : List ℕ) (x : Result ℕ E) → G u x → ParsesUnsigned 64 10 u x) → IsUnsignedIn low high t
    → (n : ℕ) × (r ≡ Some n) × (n ≡ number_of t) × (low ≤ n) × (n ≤ high)
unsigned_reads E G low high t (Some v) read only passed =
    let is : v ≡ number_of t = (only t (Ok v) read).1 in
    (v, refl, is, rw is passed.2, rw is passed.3)
unsigned_reads E G low high t None read only passed = absurd (only t (Err read.0) read.1 (passed.0, passed.1))

-- what is read of a number that may be given, and passed where it is
pub limits_given : (low high : ℕ) (P : ℕ → Type 0) (given : Option Text) (r : Option ℕ) → ((n : ℕ) → low ≤ n → n ≤ high → P n) → (given ≡ None → r ≡ None)
    → ((t : Text) → given ≡ Some t → (n : ℕ) × (r ≡ Some n) × (n ≡ number_of t) × (low ≤ n) × (n ≤ high))
    → (option_map number_of given ≡ r) × IfSome r P
limits_given low high P None r fits none some = (sym (none refl), subst (λ (o : Option ℕ). IfSome o P) (sym (none refl)) tt)
limits_given low high P (Some t) r fits none some =
    let had = some t refl in
    (ap Some (sym had.2) ∙ sym had.1, subst (λ (o : Option ℕ). IfSome o P) (sym had.1) (fits had.0 had.3 had.4))

pub none_some : {X : Type 0} (x : X) → None ≡ Some x → ⊥
none_some x same = cc

-- decimal numbers of so many digits are below
abbrev pub limit : ℕ → ℕ
limit zero = 1
limit (suc count) = 10 * limit count

-- before the last of seven digits
pub six_digits : (count value : ℕ) → count < 7 → value < limit count → value < 1000000
six_digits zero value short small = omega (arith, small)
six_digits (suc zero) value short small = omega (arith, small)
six_digits (suc (suc zero)) value short small = omega (arith, small)
six_digits (suc (suc (suc zero))) value short small = omega (arith, small)
six_digits (suc (suc (suc (suc zero)))) value short small = omega (arith, small)
six_digits (suc (suc (suc (suc (suc zero))))) value short small = omega (arith, small)
six_digits (suc (suc (suc (suc (suc (suc zero)))))) value short small = omega (arith, small)
six_digits (suc (suc (suc (suc (suc (suc (suc n))))))) value short small = omega (arith, short)
