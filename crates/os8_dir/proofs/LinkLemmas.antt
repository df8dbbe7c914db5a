-- Which segments were read, as a table of six and as a list.
use Rattle.std.proofs.Common.{◌≡◌, ℕ, zero, suc, ◌<◌, ◌≤◌, ◌≢◌, Bool, true, false, ◌&&◌, ltb, List, [], ◌∷◌, length, get_or, set, refl, sym, ◌∙◌, arith, inl, inr, get_or-set_same, get_or-set_other}
use Rattle.std.proofs.lemmas.Bool.{lt-ltb, le-ltb}
use Rattle.std.proofs.lemmas.Bool.Decides.{eqb_tells}
use Rattle.os8_dir.specs.Entries.{contains}
use Rattle.os8_dir.specs.Reading.{is_unread}

pub unread-high : (read : List ℕ) (link : ℕ) → 7 ≤ link → is_unread read link ≡ false
unread-high read link high = rw (le-ltb link 7 high) refl

pub unread-seen : (read : List ℕ) (link : ℕ) → contains read link ≡ true → is_unread read link ≡ false
unread-seen read link seen = rw seen (elim (ltb link 7) as (λ b. (b && false) ≡ false) [ true ↦ refl | false ↦ refl ])

pub unread-new : (read : List ℕ) (link : ℕ) → link < 7 → contains read link ≡ false → is_unread read link ≡ true
unread-new read link low new = rw (lt-ltb link 7 low, new) refl

-- segment 1 was read
pub seen-first : (k : ℕ) → k < 7 → get_or (false ∷ true ∷ false ∷ false ∷ false ∷ false ∷ false ∷ []) k false ≡ contains (1 ∷ []) k
seen-first zero low = refl
seen-first (suc zero) low = refl
seen-first (suc (suc zero)) low = refl
seen-first (suc (suc (suc zero))) low = refl
seen-first (suc (suc (suc (suc zero)))) low = refl
seen-first (suc (suc (suc (suc (suc zero))))) low = refl
seen-first (suc (suc (suc (suc (suc (suc zero)))))) low = refl
seen-first (suc (suc (suc (suc (suc (suc (suc k))))))) low = absurd (omega arith)

-- one more was read
pub seen-more : (seen : List Bool) (read : List ℕ) (link k : ℕ) → link < length seen → get_or seen k false ≡ contains read k → get_or (set seen link true) k false ≡ contains (link ∷ read) k
seen-more seen read link k inside same = elim (eqb_tells link k) [
  | inl here ↦ rw (here.0, ← here.1) (get_or-set_same seen link true false inside)
  | inr other ↦ let there : k ≢ link = λ e. other.1 (sym e) in rw other.0 (get_or-set_other seen link k true false there ∙ same)
]
