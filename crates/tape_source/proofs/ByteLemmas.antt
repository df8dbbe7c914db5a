-- Bytes that a statement may have.
use Rattle.std.proofs.Common.{◌≡◌, ℕ, ◌+◌, ◌/◌, ◌%◌, ◌<◌, nat_eq, nat_le, nat_lt, Bool, true, false, ◌&&◌, ◌||◌, inl, inr, zero, suc, List, [], ◌∷◌, ◌++◌, refl, ap, sym, ◌∙◌, arith}
use Rattle.std.proofs.lemmas.Bool.Decides.{eqb_tells}
use Rattle.word12.specs.Sixbit.{is_letter}
use Rattle.word12.specs.Octal.{octal_digit, octal4}
use Rattle.pal_lex.specs.Text.{is_ignored, is_end}
use Rattle.pal_lex.specs.Cutting.{is_coded, are_coded, is_legal}

pub both : (a b : Bool) → (a && b) ≡ true → (a ≡ true) × (b ≡ true)
both true b e = (refl, e)
both false b e = absurd cc

pub neither : (a b : Bool) → (a || b) ≡ false → (a ≡ false) × (b ≡ false)
neither true b e = absurd cc
neither false b e = (refl, e)

-- ## Legal bytes are live, and end no statement

pub not_this : (b k : ℕ) → is_legal b ≡ true → is_legal k ≡ false → nat_eq b k ≡ false
not_this b k legal other =
    elim (eqb_tells b k) [
      | inl same ↦ absurd (clash (is_legal k) (ap is_legal (sym same.1) ∙ legal) other)
      | inr differ ↦ differ.0
    ]
  where
    clash : (a : Bool) → a ≡ true → a ≡ false → ⊥
    clash true e f = cc
    clash false e f = cc

-- what a legal byte is not
pub record IsPlain (b : ℕ) : Type 0 where
  pub ignored : is_ignored b ≡ false
  pub return : nat_eq b 13 ≡ false
  pub slash : nat_eq b 47 ≡ false
  pub end : is_end b ≡ false
  pub dollar : nat_eq b 36 ≡ false

none_of_four : (a b c d : Bool) → a ≡ false → b ≡ false → c ≡ false → d ≡ false → (a || b || c || d) ≡ false
none_of_four false false false false e f g h = refl
none_of_four true b c d e f g h = absurd cc
none_of_four false true c d e f g h = absurd cc
none_of_four false false true d e f g h = absurd cc
none_of_four false false false true e f g h = absurd cc

none_of_three : (a b c : Bool) → a ≡ false → b ≡ false → c ≡ false → (a || b || c) ≡ false
none_of_three false false false e f g = refl
none_of_three true b c e f g = absurd cc
none_of_three false true c e f g = absurd cc
none_of_three false false true e f g = absurd cc

pub plain : (b : ℕ) → is_legal b ≡ true → IsPlain b
plain b legal = record {
  ignored = none_of_four _ _ _ _ (not_this b 10 legal refl) (not_this b 12 legal refl) (not_this b 0 legal refl) (not_this b 127 legal refl);
  return = not_this b 13 legal refl;
  slash = not_this b 47 legal refl;
  end = none_of_three _ _ _ (not_this b 59 legal refl) (not_this b 13 legal refl) (not_this b 36 legal refl);
  dollar = not_this b 36 legal refl;
}

abbrev pub all_legal : List ℕ → Bool
all_legal [] = true
all_legal (b ∷ bytes) = is_legal b && all_legal bytes

pub legal_append : (xs ys : List ℕ) → all_legal xs ≡ true → all_legal ys ≡ true → all_legal (xs ++ ys) ≡ true
legal_append [] ys e f = f
legal_append (x ∷ xs) ys e f =
    let parts = both (is_legal x) (all_legal xs) e in
    two (is_legal x) (all_legal (xs ++ ys)) parts.0 (legal_append xs ys parts.1 f)
  where
    two : (a b : Bool) → a ≡ true → b ≡ true → (a && b) ≡ true
    two true b e f = f
    two false b e f = absurd cc

-- letters and digits are legal
pub coded_legal : (b : ℕ) → is_coded b ≡ true → is_legal b ≡ true
coded_legal b coded = rw coded refl

pub coded_are_legal : (bytes : List ℕ) → are_coded bytes ≡ true → all_legal bytes ≡ true
coded_are_legal [] e = refl
coded_are_legal (b ∷ bytes) e =
    let parts = both (is_coded b) (are_coded bytes) e in
    two (is_legal b) (all_legal bytes) (coded_legal b parts.0) (coded_are_legal bytes parts.1)
  where
    two : (a b : Bool) → a ≡ true → b ≡ true → (a && b) ≡ true
    two true b e f = f
    two false b e f = absurd cc

-- ## Octal digits

pub eight : (P : ℕ → Type 0) → P 0 → P 1 → P 2 → P 3 → P 4 → P 5 → P 6 → P 7 → (d : ℕ) → d < 8 → P d
eight P a b c d e f g h zero lt = a
eight P a b c d e f g h (suc zero) lt = b
eight P a b c d e f g h (suc (suc zero)) lt = c
eight P a b c d e f g h (suc (suc (suc zero))) lt = d
eight P a b c d e f g h (suc (suc (suc (suc zero)))) lt = e
eight P a b c d e f g h (suc (suc (suc (suc (suc zero))))) lt = f
eight P a b c d e f g h (suc (suc (suc (suc (suc (suc zero)))))) lt = g
eight P a b c d e f g h (suc (suc (suc (suc (suc (suc (suc zero))))))) lt = h
eight P a b c d e f g h (suc (suc (suc (suc (suc (suc (suc (suc k)))))))) lt = absurd (omega (arith, lt))

-- what an octal digit is
pub record IsOctal (c : ℕ) : Type 0 where
  pub coded : is_coded c ≡ true
  pub letter : is_letter c ≡ false
  pub least : nat_le 48 c ≡ true
  pub below : nat_lt c 56 ≡ true
  pub return : nat_eq c 13 ≡ false

octal_at : (d : ℕ) → d < 8 → IsOctal (48 + d)
octal_at =
    let is = λ (c : ℕ). IsOctal (48 + c) in
    eight is
    record { coded = refl; letter = refl; least = refl; below = refl; return = refl }
    record { coded = refl; letter = refl; least = refl; below = refl; return = refl }
    record { coded = refl; letter = refl; least = refl; below = refl; return = refl }
    record { coded = refl; letter = refl; least = refl; below = refl; return = refl }
    record { coded = refl; letter = refl; least = refl; below = refl; return = refl }
    record { coded = refl; letter = refl; least = refl; below = refl; return = refl }
    record { coded = refl; letter = refl; least = refl; below = refl; return = refl }
    record { coded = refl; letter = refl; least = refl; below = refl; return = refl }

pub octal : (n : ℕ) → IsOctal (octal_digit n)
octal n = octal_at (n % 8) (omega arith)

all_four : (a b c d : Bool) → a ≡ true → b ≡ true → c ≡ true → d ≡ true → (a && (b && (c && (d && true)))) ≡ true
all_four true true true true e f g h = refl
all_four false b c d e f g h = absurd cc
all_four true false c d e f g h = absurd cc
all_four true true false d e f g h = absurd cc
all_four true true true false e f g h = absurd cc

pub coded4 : (n : ℕ) → are_coded (octal4 n) ≡ true
coded4 n =
    let a = octal (n / 512) in
    let b = octal (n / 64) in
    let c = octal (n / 8) in
    let d = octal n in
    all_four _ _ _ _ a.coded b.coded c.coded d.coded
