-- Files in order of their blocks, as they are found by name.
use Rattle.std.proofs.Common.{◌≡◌, ℕ, zero, suc, ◌+◌, ◌<◌, ◌≤◌, ◌≢◌, List, [], ◌∷◌, take, Some, refl, ap, sym, ◌∙◌, arith, inl, inr}
use Rattle.std.specs.Prelude.{◌⊎◌}
use Rattle.std.proofs.lemmas.Bool.Decides.{eqb_tells}
use Rattle.os8_dir.specs.Names.{with_end_zeros}
use Rattle.os8_dir.specs.Found.{FilePlace, find, AreApart}

apart-bound : (from bound : ℕ) (fs : List FilePlace) → AreApart from bound fs → from ≤ bound
apart-bound from bound [] apart = apart
apart-bound from bound (f ∷ fs) apart = omega (arith, apart.0, apart-bound (f.place + f.size) bound fs apart.2)

some-same : (g f : FilePlace) → Some g ≡ Some f → g ≡ f
some-same g f e = cc

-- a file as it was found
record IsInside (from bound name : ℕ) (f : FilePlace) : Type 0 where
  pub named : f.name ≡ name
  pub low : from ≤ f.place
  pub some : 0 < f.size
  pub high : f.place + f.size ≤ bound

find-inside : (from bound name : ℕ) (fs : List FilePlace) (f : FilePlace) → AreApart from bound fs → find name fs ≡ Some f → IsInside from bound name f
find-inside from bound name [] f apart found = cc
find-inside from bound name (g ∷ fs) f apart found = elim (eqb_tells g.name name) [
  | inl here ↦
      let same : g ≡ f = some-same g f (rw here.0 at found) in
      rw (← same) (record { named = here.1; low = apart.0; some = apart.1; high = apart-bound (g.place + g.size) bound fs apart.2 })
  | inr there ↦
      let following = find-inside (g.place + g.size) bound name fs f apart.2 (rw there.0 at found) in
      record { named = following.named; low = omega (arith, apart.0, following.low); some = following.some; high = following.high }
]

pub found-inside : (from bound name : ℕ) (fs : List FilePlace) (f : FilePlace) → AreApart from bound fs → find name fs ≡ Some f → (f.name ≡ name) × (from ≤ f.place) × (0 < f.size) × (f.place + f.size ≤ bound)
found-inside from bound name fs f apart found = let is = find-inside from bound name fs f apart found in (is.named, is.low, is.some, is.high)

pub found-apart : (from bound name other : ℕ) (fs : List FilePlace) (f g : FilePlace) → AreApart from bound fs → name ≢ other → find name fs ≡ Some f → find other fs ≡ Some g → (f.place + f.size ≤ g.place) ⊎ (g.place + g.size ≤ f.place)
found-apart from bound name other [] f g apart differ found_f found_g = cc
found-apart from bound name other (h ∷ fs) f g apart differ found_f found_g = elim (eqb_tells h.name name) [
  | inl first ↦ elim (eqb_tells h.name other) [
    | inl both ↦ absurd (differ (sym first.1 ∙ both.1))
    | inr later ↦
        let same : h ≡ f = some-same h f (rw first.0 at found_f) in
        inl (rw (← same) (find-inside (h.place + h.size) bound other fs g apart.2 (rw later.0 at found_g)).low)
  ]
  | inr later_f ↦ elim (eqb_tells h.name other) [
    | inl first ↦
        let same : h ≡ g = some-same h g (rw first.0 at found_g) in
        inr (rw (← same) (find-inside (h.place + h.size) bound name fs f apart.2 (rw later_f.0 at found_f)).low)
    | inr later ↦ found-apart (h.place + h.size) bound name other fs f g apart.2 differ (rw later_f.0 at found_f) (rw later.0 at found_g)
  ]
]

-- The information words of a new file.
take-zeros : (i n : ℕ) → i ≤ n → take i (with_end_zeros n []) ≡ with_end_zeros i []
take-zeros zero n few = refl
take-zeros (suc i) zero few = absurd (omega arith)
take-zeros (suc i) (suc n) few = ap (λ ws. 0 ∷ ws) (take-zeros i n (omega arith))

pub take-padded : (i n : ℕ) (words : List ℕ) → i ≤ n → take i (with_end_zeros n (take i words)) ≡ with_end_zeros i words
take-padded zero n words few = refl
take-padded (suc i) zero words few = absurd (omega arith)
take-padded (suc i) (suc n) [] few = ap (λ ws. 0 ∷ ws) (take-zeros i n (omega arith))
take-padded (suc i) (suc n) (w ∷ words) few = ap (λ ws. w ∷ ws) (take-padded i n words (omega arith))
