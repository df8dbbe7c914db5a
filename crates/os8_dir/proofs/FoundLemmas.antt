-- Lists of entries, an entry at a time.
use Rattle.std.proofs.Common.{◌≡◌, ℕ, zero, suc, ◌+◌, ◌≤◌, Bool, true, false, cond, eqb, ltb, List, [], ◌∷◌, length, Option, Some, None, refl, ap, sym, ◌∙◌, arith, inl, inr, ne_eqb}
use Rattle.std.proofs.Common.{max}
use Rattle.std.proofs.Math.Nat.{max-zero, zero-max}
use Rattle.std.proofs.lemmas.Bool.{lt-ltb, le-ltb, ltb-true, ltb-false}
use Rattle.std.proofs.lemmas.Bool.Decides.{leb_tells}
use Rattle.os8_dir.specs.declared.entries.DirEntry.{DirEntry}
use Rattle.os8_dir.specs.declared.entries.DirEntry.TheVariants.{File, Empty}
use Rattle.os8_dir.specs.Entries.{size_of, total}
use Rattle.os8_dir.specs.Found.{files_at, rooms_at, largest, larger, size_or_zero, room_of, free_blocks, used_blocks}
use Rattle.os8_dir.specs.Changes.{gap_below, lowest_above, fitting, smaller, smallest}
use Rattle.os8_dir.specs.Steps.{beats, better, best, or_better, with_room}

-- the blocks of the largest empty
abbrev pub largest_size : List DirEntry → ℕ
largest_size [] = 0
largest_size (e ∷ es) = max (room_of e) (largest_size es)

size-larger : (place size : ℕ) (other : Option (ℕ × ℕ)) → (larger (place, size) other).1 ≡ max size (size_or_zero other)
size-larger place size None = sym (max-zero size)
size-larger place size (Some room) = elim (leb_tells (suc size) room.1) [ inl less ↦ rw less.0 (omega arith) | inr more ↦ rw more.0 (omega arith) ]

-- the size of the largest room is the greatest size, wherever the rooms begin
pub largest-rooms : (place : ℕ) (es : List DirEntry) → size_or_zero (largest (rooms_at place es)) ≡ largest_size es
largest-rooms place [] = refl
largest-rooms place (File name info size ∷ es) = largest-rooms (place + size) es ∙ sym (zero-max _)
largest-rooms place (Empty size ∷ es) = size-larger place size (largest (rooms_at (place + size) es)) ∙ ap (max size) (largest-rooms (place + size) es)

-- the blocks of all files and of all empties
pub used_blocks-free : (place : ℕ) (es : List DirEntry) → free_blocks es + used_blocks (files_at place es) ≡ total es
used_blocks-free place [] = refl
used_blocks-free place (File name info zero ∷ es) = omega (arith, used_blocks-free place es)
used_blocks-free place (File name info (suc size) ∷ es) = omega (arith, used_blocks-free (place + suc size) es)
used_blocks-free place (Empty size ∷ es) = omega (arith, used_blocks-free (place + size) es)

-- The lowest file with an empty below it, where so many blocks of an empty stand before the list.
abbrev pub lowest_with : ℕ → List DirEntry → Option (ℕ × ℕ)
lowest_with zero es = lowest_above es
lowest_with (suc below) es = lowest_above (Empty (suc below) ∷ es)

pub gap_below-short : (name : ℕ) (es : List DirEntry) → length es ≤ 1 → gap_below name es ≡ 0
gap_below-short name [] short = refl
gap_below-short name (File other info size ∷ []) short = refl
gap_below-short name (Empty size ∷ []) short = refl
gap_below-short name (a ∷ b ∷ es) short = absurd (omega arith)

-- The choice of a room.
beats-through : (wish x y z : ℕ) → beats wish x y ≡ true → beats wish y z ≡ true → beats wish x z ≡ true
beats-through wish x y z = elim (eqb wish 0) as (λ t. cond t (ltb x y) (ltb y x) ≡ true → cond t (ltb y z) (ltb z y) ≡ true → cond t (ltb x z) (ltb z x) ≡ true) [
  | true ↦ λ p q. lt-ltb x z (omega (arith, ltb-true x y p, ltb-true y z q))
  | false ↦ λ p q. lt-ltb z x (omega (arith, ltb-true y x p, ltb-true z y q))
]

beats-none : (wish x y z : ℕ) → beats wish x y ≡ false → beats wish y z ≡ false → beats wish x z ≡ false
beats-none wish x y z = elim (eqb wish 0) as (λ t. cond t (ltb x y) (ltb y x) ≡ false → cond t (ltb y z) (ltb z y) ≡ false → cond t (ltb x z) (ltb z x) ≡ false) [
  | true ↦ λ p q. le-ltb x z (omega (arith, ltb-false x y p, ltb-false y z q))
  | false ↦ λ p q. le-ltb z x (omega (arith, ltb-false y x p, ltb-false z y q))
]

better-three : (wish : ℕ) (a b c : ℕ × ℕ) (ab bc : Bool) → beats wish a.1 b.1 ≡ ab → beats wish b.1 c.1 ≡ bc → better wish a (Some (better wish b (Some c))) ≡ better wish (better wish a (Some b)) (Some c)
better-three wish a b c true true ab bc = let ac : beats wish a.1 c.1 ≡ true = beats-through wish a.1 b.1 c.1 ab bc in rw (ab, bc, ac) refl
better-three wish a b c true false ab bc = rw (ab, bc, ab) refl
better-three wish a b c false true ab bc = rw (ab, bc) refl
better-three wish a b c false false ab bc = let ac : beats wish a.1 c.1 ≡ false = beats-none wish a.1 b.1 c.1 ab bc in rw (ab, bc, ab, ac) refl

better-again : (wish : ℕ) (a b : ℕ × ℕ) (rest : Option (ℕ × ℕ)) → better wish a (Some (better wish b rest)) ≡ better wish (better wish a (Some b)) rest
better-again wish a b None = refl
better-again wish a b (Some c) = better-three wish a b c (beats wish a.1 b.1) (beats wish b.1 c.1) refl refl

or_better-again : (wish : ℕ) (chosen : Option (ℕ × ℕ)) (room : ℕ × ℕ) (rest : Option (ℕ × ℕ)) → or_better wish chosen (Some (better wish room rest)) ≡ or_better wish (or_better wish chosen (Some room)) rest
or_better-again wish None room rest = refl
or_better-again wish (Some a) room rest = ap Some (better-again wish a room rest)

-- one more entry
pub choice-more : (wish : ℕ) (chosen : Option (ℕ × ℕ)) (place : ℕ) (e : DirEntry) (es rest : List DirEntry) → es ≡ e ∷ rest → or_better wish chosen (best wish (rooms_at place es)) ≡ or_better wish (with_room wish chosen place e) (best wish (rooms_at (place + size_of e) rest))
choice-more wish chosen place (File name info size) es rest is = rw is refl
choice-more wish chosen place (Empty size) es rest is =
    let following = best wish (rooms_at (place + size) rest) in
    rw is (elim (ltb size wish) as (λ t. or_better wish chosen (cond t following (Some (better wish (place, size) following))) ≡ or_better wish (cond t chosen (or_better wish chosen (Some (place, size)))) following) [
      | true ↦ refl
      | false ↦ or_better-again wish chosen (place, size) following
    ])

better-larger : (room : ℕ × ℕ) (rest : Option (ℕ × ℕ)) → better 0 room rest ≡ larger room rest
better-larger room None = refl
better-larger room (Some other) = refl

best-largest : (rooms : List (ℕ × ℕ)) → best 0 rooms ≡ largest rooms
best-largest [] = refl
best-largest (room ∷ rooms) = rw (le-ltb room.1 0 (omega arith), best-largest rooms, better-larger room (largest rooms)) refl

better-smaller : (wish : ℕ) (room : ℕ × ℕ) (rest : Option (ℕ × ℕ)) → eqb wish 0 ≡ false → better wish room rest ≡ smaller room rest
better-smaller wish room None some = refl
better-smaller wish room (Some other) some = rw some refl

best-smallest : (wish : ℕ) (rooms : List (ℕ × ℕ)) → eqb wish 0 ≡ false → best wish rooms ≡ smallest wish rooms
best-smallest wish [] some = refl
best-smallest wish (room ∷ rooms) some = rw (best-smallest wish rooms some, better-smaller wish room (smallest wish rooms) some) refl

pub best-fitting : (wish : ℕ) (rooms : List (ℕ × ℕ)) → best wish rooms ≡ fitting wish rooms
best-fitting zero rooms = best-largest rooms
best-fitting (suc wish) rooms = let some : eqb (suc wish) 0 ≡ false = ne_eqb (suc wish) 0 (λ e. absurd (omega arith)) in best-smallest (suc wish) rooms some ∙ rw some refl

pub or_better-end : (wish : ℕ) (chosen : Option (ℕ × ℕ)) → or_better wish chosen None ≡ chosen
or_better-end wish None = refl
or_better-end wish (Some room) = refl
