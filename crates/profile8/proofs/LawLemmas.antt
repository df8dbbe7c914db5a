-- One order of cells, and so one profile.
use Rattle.std.proofs.Common.{◌≡◌, ℕ, inl, inr, Bool, List, [], ◌∷◌, ◌++◌, refl, ap, sym, subst, ◌∙◌, arith}
use Rattle.word12.specs.declared.sizes.TheConstants.{CORE}
use Rattle.flow8.specs.Flow.{IsAmong}
use Rattle.profile8.specs.Profile.{AreFetched, AreInOrder, IsProfile, StandsBefore, count_lines, is_never, never_lines}

before_itself : (counts : List ℕ) (a : ℕ) → StandsBefore counts a a → ⊥
before_itself counts a (inl more) = omega (arith, more)
before_itself counts a (inr as_many) = omega (arith, as_many.1)

before_both : (counts : List ℕ) (a b c : ℕ) → StandsBefore counts a b → StandsBefore counts b c → StandsBefore counts a c
before_both counts a b c (inl more) (inl most) = inl (omega (arith, more, most))
before_both counts a b c (inl more) (inr as_many) = inl (omega (arith, more, as_many.0))
before_both counts a b c (inr as_many) (inl most) = inl (omega (arith, as_many.0, most))
before_both counts a b c (inr as_many) (inr as_most) = inr (omega (arith, as_many.0, as_most.0), omega (arith, as_many.1, as_most.1))

order_after : (counts : List ℕ) (x : ℕ) (xs : List ℕ) → AreInOrder counts (x ∷ xs) → AreInOrder counts xs
order_after counts x [] order = tt
order_after counts x (y ∷ ys) order = order.1

before_all : (counts : List ℕ) (x : ℕ) (xs : List ℕ) (cell : ℕ) → AreInOrder counts (x ∷ xs) → IsAmong cell xs → StandsBefore counts x cell
before_all counts x [] cell order is = absurd is
before_all counts x (y ∷ ys) cell order (inl same) = subst (λ c. StandsBefore counts x c) (sym same) order.0
before_all counts x (y ∷ ys) cell order (inr other) = before_both counts x y cell order.0 (before_all counts y ys cell order.1 other)

-- the first cells of two such lists
same_first : (counts : List ℕ) (x y : ℕ) (xs ys : List ℕ) → AreInOrder counts (x ∷ xs) → AreInOrder counts (y ∷ ys) → IsAmong x (y ∷ ys)
    → IsAmong y (x ∷ xs) → x ≡ y
same_first counts x y xs ys left right (inl same) is = same
same_first counts x y xs ys left right (inr other) (inl same) = sym same
same_first counts x y xs ys left right (inr other) (inr another) =
    absurd (before_itself counts x (before_both counts x y x (before_all counts x xs y left another) (before_all counts y ys x right other)))

-- what is among the others of one list is among those of the other
among_others : (counts : List ℕ) (x y : ℕ) (xs ys : List ℕ) (cell : ℕ) → AreInOrder counts (x ∷ xs) → x ≡ y → IsAmong cell xs
    → IsAmong cell (y ∷ ys) → IsAmong cell ys
among_others counts x y xs ys cell order same is (inl first) =
    absurd (before_itself counts x (subst (λ c. StandsBefore counts x c) (first ∙ sym same) (before_all counts x xs cell order is)))
among_others counts x y xs ys cell order same is (inr other) = other

pub same_cells : (counts xs ys : List ℕ) → AreInOrder counts xs → AreInOrder counts ys → ((cell : ℕ) → IsAmong cell xs → IsAmong cell ys)
    → ((cell : ℕ) → IsAmong cell ys → IsAmong cell xs) → xs ≡ ys
same_cells counts [] [] left right there back = refl
same_cells counts [] (y ∷ ys) left right there back = absurd (back y (inl refl))
same_cells counts (x ∷ xs) [] left right there back = absurd (there x (inl refl))
same_cells counts (x ∷ xs) (y ∷ ys) left right there back =
    let same : x ≡ y = same_first counts x y xs ys left right (there x (inl refl)) (back y (inl refl)) in
    let others : xs ≡ ys =
    same_cells counts xs ys (order_after counts x xs left) (order_after counts y ys right)
    (λ cell is. among_others counts x y xs ys cell left same is (there cell (inr is)))
    (λ cell is. among_others counts y x ys xs cell right (sym same) is (back cell (inr is))) in
    ap (λ c. c ∷ xs) same ∙ ap (λ l. y ∷ l) others

same_fetched : (counts xs ys : List ℕ) → AreFetched counts xs → AreFetched counts ys → xs ≡ ys
same_fetched counts xs ys left right =
    same_cells counts xs ys left.order right.order
    (λ cell is. (right.all cell).1 ((left.all cell).0 is)) (λ cell is. (left.all cell).1 ((right.all cell).0 is))

pub same_profile : (counts : List ℕ) (given : ℕ → Bool) (text other : List ℕ) → IsProfile counts given text
    → IsProfile counts given other → text ≡ other
same_profile counts given text other left right =
    left.lines
    ∙ ap (λ cells. count_lines counts cells ++ never_lines (is_never counts given) CORE)
    (same_fetched counts left.cells right.cells left.fetched right.fetched)
    ∙ sym right.lines
