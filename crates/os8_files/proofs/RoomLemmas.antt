-- Blocks that lie in an empty, and files of the other blocks.
use Rattle.std.proofs.Common.{◌≡◌, ℕ, zero, suc, ◌+◌, ◌-◌, ◌<◌, ◌≤◌, List, [], ◌∷◌, take, drop, slice_set, refl, ap, ◌∙◌, arith, inl, inr}
use Rattle.std.specs.Prelude.{◌⊎◌}
use Rattle.std.proofs.lemmas.List.{drop-set-lt, drop-set-add, take-set-le}
use Rattle.os8_dir.specs.declared.entries.DirEntry.{DirEntry}
use Rattle.os8_dir.specs.declared.entries.DirEntry.TheVariants.{File, Empty}
use Rattle.os8_dir.specs.Names.{with_end_zeros}
use Rattle.os8_dir.specs.Entries.{total}
use Rattle.os8_dir.specs.Found.{rooms_at}
use Rattle.os8_dir.specs.Files.{join_blocks, run}
use Rattle.os8_dir.specs.Changes.{IsRoom}

pub room-inside : (from size first : ℕ) (es : List DirEntry) → IsRoom from size (rooms_at first es) → (first ≤ from) × (from + size ≤ first + total es)
room-inside from size first [] room = absurd room
room-inside from size first (File name info long ∷ es) room =
    let rest = room-inside from size (first + long) es room in (omega (arith, rest.0), omega (arith, rest.1))
room-inside from size first (Empty long ∷ es) room =
    elim room [
      | inl here ↦ (omega (arith, here.0), omega (arith, here.0, here.1))
      | inr following ↦ let rest = room-inside from size (first + long) es following in (omega (arith, rest.0), omega (arith, rest.1))
    ]

pub run-other : (blocks : List (List ℕ)) (k place size : ℕ) (words : List ℕ) → (place + size ≤ k) ⊎ (k < place) → run (slice_set blocks k words) place size ≡ run blocks place size
run-other blocks k place size words apart =
    elim apart [
      | inl below ↦
          let e : k ≡ place + (k - place) = omega (arith, below) in
          ap (λ j. join_blocks (take size (drop place (slice_set blocks j words)))) e
          ∙ ap (λ bs. join_blocks (take size bs)) (drop-set-add place blocks (k - place) words)
          ∙ ap join_blocks (take-set-le size (drop place blocks) (k - place) words (omega (arith, below)))
      | inr above ↦ ap (λ bs. join_blocks (take size bs)) (drop-set-lt place blocks k words above)
    ]

-- Information words.
zeros : (n m : ℕ) → n ≤ m → take n (with_end_zeros m []) ≡ with_end_zeros n []
zeros zero m few = refl
zeros (suc n) zero few = absurd (omega (arith, few))
zeros (suc n) (suc m) few = ap (λ ws. 0 ∷ ws) (zeros n m (omega (arith, few)))

pub info-again : (n m : ℕ) (words : List ℕ) → n ≤ m → take n (with_end_zeros m (take n words)) ≡ with_end_zeros n words
info-again zero m words few = refl
info-again (suc n) zero words few = absurd (omega (arith, few))
info-again (suc n) (suc m) [] few = ap (λ ws. 0 ∷ ws) (zeros n m (omega (arith, few)))
info-again (suc n) (suc m) (w ∷ words) few = ap (λ ws. w ∷ ws) (info-again n m words (omega (arith, few)))
