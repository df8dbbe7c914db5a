-- Lists of numbers by their indexes, and how far a transfer has come.
use Rattle.std.proofs.Common.{◌≡◌, ◌≢◌, ℕ, zero, suc, ◌+◌, ◌-◌, ◌*◌, ◌/◌, ◌%◌, ◌<◌, ◌≤◌, min, max, ◌&&◌, nat_eq, nat_lt, if◌then◌else◌, List, length, slice_index, slice_set, take, drop, ◌++◌, arith, refl, ap, sym, ◌∙◌, inl, inr, length-set, get_or-set_other}
use Rattle.std.proofs.lemmas.Bool.{cases_eq, cases_lt}
use Rattle.std.proofs.lemmas.Bool.Decides.{nat_tests}
use Rattle.std.proofs.lemmas.Grind.{get_or-set_at}
use Rattle.std.proofs.lemmas.List.{ext_get_or, get_or_past}
use Rattle.std.proofs.Math.Seq.{take-append_seam}
use Rattle.rk8e.specs.State.{ControlState}
use Rattle.rk8e.specs.Command.{sector_of}
use Rattle.rk8e.specs.Packs.{sector_word, IsPack}
use Rattle.rk8e.specs.Transfer.{numbers, cell_of, word_read, word_written, pack_word, words_written}

-- ## Lists of numbers

pub length-numbers : (count : ℕ) (number : ℕ → ℕ) → length (numbers count number) ≡ count
unfolding numbers
length-numbers zero number = refl
length-numbers (suc count) number = ap suc (length-numbers count (λ k. number (suc k)))

pub get_or-numbers : (count : ℕ) (number : ℕ → ℕ) (i : ℕ) → i < count → slice_index (numbers count number) i ≡ number i
unfolding numbers
get_or-numbers zero number i h = absurd (omega arith)
get_or-numbers (suc count) number zero h = refl
get_or-numbers (suc count) number (suc i) h = get_or-numbers count (λ k. number (suc k)) i (omega arith)

pub are_numbers : (xs : List ℕ) (count : ℕ) (number : ℕ → ℕ) → length xs ≡ count
    → ((i : ℕ) → i < length xs → slice_index xs i ≡ number i) → xs ≡ numbers count number
are_numbers xs count number size each =
    ext_get_or 0 xs (numbers count number) (size ∙ sym (length-numbers count number))
    (λ i h. each i h ∙ sym (get_or-numbers count number i (omega arith)))

-- ## One more word

pub within_more : (a b p n x y : ℕ) → a ≡ b → p < n → (if nat_eq a b && nat_lt p n then x else y) ≡ x
within_more a b p n x y e h = grind (arith, nat_tests)

same_within : (a b p n x y : ℕ) → (a ≡ b → p ≢ n)
    → (if nat_eq a b && nat_lt p n then x else y) ≡ (if nat_eq a b && nat_lt p (n + 1) then x else y)
same_within a b p n x y h = grind (arith, nat_tests)

pub place_is : (f m k cell : ℕ) → m < 4096 → k < 4096 → cell ≡ 4096 * f + (m + k) % 4096 → (cell % 4096 + 4096 - m) % 4096 ≡ k
place_is f m k cell hm hk e = omega arith

cell_is : (f m k cell : ℕ) → m < 4096 → k < 4096 → cell / 4096 ≡ f → (cell % 4096 + 4096 - m) % 4096 ≡ k
    → cell ≡ 4096 * f + (m + k) % 4096
cell_is f m k cell hm hk e p = omega arith

pub read_more : (c : ControlState) (k : ℕ) (words core old : List ℕ) (at word : ℕ) → k < 4096 → c.memory_address < 4096
    → at < length core → at ≡ cell_of c k → word ≡ sector_word words (sector_of c) k
    → ((cell : ℕ) → cell < length core → slice_index core cell ≡ word_read c k words old cell)
    → (cell : ℕ) → cell < length (slice_set core at word)
    → slice_index (slice_set core at word) cell ≡ word_read c (k + 1) words old cell
read_more c k words core old at word hk hm ha e ew before cell h =
    let size : length (slice_set core at word) ≡ length core = length-set core at word in
    elim (cases_eq cell at) [
      | inl same ↦ (
          let p : (cell % 4096 + 4096 - c.memory_address) % 4096 ≡ k =
          place_is (c.command / 8 % 8) c.memory_address k cell hm hk (same ∙ e) in
          let f : cell / 4096 ≡ c.command / 8 % 8 = omega (arith, same ∙ e) in
          get_or-set_at core at cell word 0 same ha ∙ ew ∙ ap (λ j. sector_word words (sector_of c) j) (sym p)
          ∙ sym (within_more _ _ _ _ _ _ f (omega arith)))
      | inr other ↦ (
          get_or-set_other core at cell word 0 other ∙ before cell (omega arith)
          ∙ same_within _ _ _ _ _ _ (λ f p. other (cell_is (c.command / 8 % 8) c.memory_address k cell hm hk f p ∙ sym e)))
    ]

pub write_more : (c : ControlState) (k : ℕ) (core words old : List ℕ) (at word : ℕ) → k < 256
    → at ≡ 256 * sector_of c + k → word ≡ word_written c core k
    → ((i : ℕ) → i < length words → slice_index words i ≡ pack_word c k core old i)
    → (i : ℕ) → i < length (slice_set words at word)
    → slice_index (slice_set words at word) i ≡ pack_word c (k + 1) core old i
write_more c k core words old at word hk e ew before i h =
    let size : length (slice_set words at word) ≡ length words = length-set words at word in
    elim (cases_eq i at) [
      | inl same ↦ (
          let p : i % 256 ≡ k = omega (arith, same ∙ e) in
          let s : i / 256 ≡ sector_of c = omega (arith, same ∙ e) in
          get_or-set_at words at i word 0 same (omega arith) ∙ ew ∙ ap (λ j. word_written c core j) (sym p)
          ∙ sym (within_more _ _ _ _ _ _ s (omega arith)))
      | inr other ↦ (
          get_or-set_other words at i word 0 other ∙ before i (omega arith)
          ∙ same_within _ _ _ _ _ _ (λ (s : i / 256 ≡ sector_of c) (p : i % 256 ≡ k). other (omega arith)))
    ]

-- ## A pack that was written

pub without : (a b p n x y : ℕ) → a ≢ b → (if nat_eq a b && nat_lt p n then x else y) ≡ y
without a b p n x y h = grind (arith, nat_tests)

zeros_stay : (c : ControlState) (core words : List ℕ) (sectors : ℕ) → IsPack words sectors
    → (k : ℕ) → 256 * min (max sectors (sector_of c + 1)) 6496 ≤ k → slice_index (words_written c core words) k ≡ 0
zeros_stay c core words sectors pack k h =
    let size : length words ≡ 1662976 = pack.size in
    let whole : length (words_written c core words) ≡ length words = length-numbers (length words) (pack_word c 256 core words) in
    elim (cases_lt k 1662976) [
      | inl below ↦ (
          let far : k / 256 ≢ sector_of c = λ (e : k / 256 ≡ sector_of c). omega arith in
          get_or-numbers (length words) (pack_word c 256 core words) k (omega arith)
          ∙ without _ _ _ _ _ _ far ∙ pack.zeros k (omega arith))
      | inr past ↦ get_or_past (words_written c core words) k 0 (omega arith)
    ]

is_pack : (c : ControlState) (core words : List ℕ) (sectors : ℕ) → IsPack words sectors
    → IsPack (words_written c core words) (min (max sectors (sector_of c + 1)) 6496)
is_pack c core words sectors pack = record {
  size = length-numbers (length words) (pack_word c 256 core words) ∙ pack.size;
  most = omega arith;
  zeros = zeros_stay c core words sectors pack;
}

-- the words of a vector, once a borrow of all of them is over
pub lent_back : (new now items : List ℕ) (size : ℕ) (c : ControlState) (core : List ℕ) → new ≡ words_written c core now → now ≡ items
    → length now ≡ size → take size (new ++ drop (length new) items) ≡ words_written c core items
lent_back new now items size c core e f g =
    let whole : length new ≡ size = ap length e ∙ length-numbers (length now) (pack_word c 256 core now) ∙ g in
    ap (λ n. take n (new ++ drop (length new) items)) (sym whole)
    ∙ take-append_seam new (drop (length new) items) ∙ e ∙ ap (λ ws. words_written c core ws) f

pub written_is_pack : (c : ControlState) (core words after : List ℕ) (sectors most : ℕ) → IsPack words sectors
    → after ≡ words_written c core words → most ≡ min (max sectors (sector_of c + 1)) 6496 → IsPack after most
written_is_pack c core words after sectors most pack e f = rw (e, f) (is_pack c core words sectors pack)
