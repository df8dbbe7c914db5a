-- What is appended piece by piece.
use Rattle.std.proofs.Common.{ℕ, ◌+◌, ◌<◌, ◌≡◌, sym, add-one, get_or, [], ◌∷◌, ◌≤◌, take, take_all, length, ◌∙◌, ap, List, ◌++◌, Result, Ok, Err}
use Rattle.std.proofs.Math.Seq.{take-suc}
use Rattle.std.specs.Result.{OnErr, OnOk}
use Rattle.std.specs.List.{flat_map}
use Rattle.std.proofs.lemmas.List.{flat_map_more}

-- what holds, holds on a fault
pub on_err : {A E : Type 0} (r : Result A E) (P : Type 0) → P → OnErr r P
on_err (Ok x) P p = tt
on_err (Err e) P p = p

-- where nothing more is appended, what was appended before stays
pub more_err : {A E : Type 0} (r : Result A E) (old mid new lines : List ℕ) → OnErr r (new ≡ mid) → mid ≡ old ++ lines → OnErr r ((more : List ℕ) × new ≡ old ++ more)
more_err (Ok x) old mid new lines same is = tt
more_err (Err e) old mid new lines same is = (lines, same ∙ is)

-- where a line is refused, those before it stay
pub line_err : {A E : Type 0} (r : Result A E) (old mid new lines : List ℕ) → new ≡ mid → mid ≡ old ++ lines → OnErr r ((more : List ℕ) × new ≡ old ++ more)
line_err r old mid new lines same is = on_err r _ (lines, same ∙ is)

-- after the pieces of all elements comes the last
pub all_pieces : {X A E : Type 0} (f : X → List ℕ) (r : Result A E) (old mid new tail : List ℕ) (xs : List X) (count : ℕ) → length xs ≤ count → OnOk r (new ≡ mid ++ tail) → mid ≡ old ++ flat_map f (take count xs) → OnOk r (new ≡ old ++ flat_map f xs ++ tail)
all_pieces f (Ok x) old mid new tail xs count all is pieces = is ∙ ap (λ l. l ++ tail) (pieces ∙ ap (λ l. old ++ flat_map f l) (take_all count xs all))
all_pieces f (Err e) old mid new tail xs count all is pieces = tt

-- the piece of one more element
pub more_pieces : {X : Type 0} (f : X → List ℕ) (old mid new : List ℕ) (xs : List X) (count : ℕ) (x other : X) → count < length xs → x ≡ get_or xs count other → mid ≡ old ++ flat_map f (take count xs) → new ≡ mid ++ f x → new ≡ old ++ flat_map f (take (count + 1) xs)
more_pieces f old mid new xs count x other inside there pieces is =
    is ∙ ap (λ l. l ++ f x) pieces ∙ flat_map_more f old (take count xs) x ∙ ap (λ l. old ++ flat_map f l) one_more
  where
    one_more : take count xs ++ x ∷ [] ≡ take (count + 1) xs
    one_more = ap (λ y. take count xs ++ y ∷ []) there ∙ sym (take-suc xs count other inside) ∙ ap (λ n. take n xs) (sym (add-one count))

-- the pieces of all elements
pub every_piece : {X : Type 0} (f : X → List ℕ) (old new : List ℕ) (xs : List X) (count : ℕ) → length xs ≤ count → new ≡ old ++ flat_map f (take count xs) → new ≡ old ++ flat_map f xs
every_piece f old new xs count all pieces = pieces ∙ ap (λ l. old ++ flat_map f l) (take_all count xs all)
