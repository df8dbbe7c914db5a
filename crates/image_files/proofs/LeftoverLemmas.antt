-- The last part of a name, and whether it has the mark, byte by byte; and names that are left out.
use Rattle.std.proofs.Common.{◌≡◌, ◌∙◌, ◌==◌, ◌||◌, ◌&&◌, not, ◌-◌, ◌≤◌, ◌++◌, ℕ, Bool, false, List, [], ◌∷◌, ap, arith, drop, get_or, if◌then◌else◌, length, sym, take}
use Rattle.std.proofs.lemmas.Bool.Decides.{nat_tests}
use Rattle.std.proofs.lemmas.List.{append-nil, append_assoc, take_all}
use Rattle.std.specs.List.{starts_with}
use Rattle.image_files.specs.Leftovers.{has_mark, image_named, images_in, is_leftover, mark, part_after}

-- the first byte and the others
parted : (xs : List ℕ) → 1 ≤ length xs → xs ≡ get_or xs 0 0 ∷ take (length xs - 1) (drop 1 xs)
parted [] some = absurd (omega (arith, some))
parted (y ∷ xs) some = ap (λ l. y ∷ l) (sym (take_all (length (y ∷ xs) - 1) xs (omega arith)))

-- a mark that doesn't stand here stands in the others, or nowhere
unmarked : (xs : List ℕ) (byte : ℕ) (others : List ℕ) → xs ≡ byte ∷ others → starts_with ◌==◌ xs mark ≡ false → has_mark xs ≡ has_mark others
unmarked xs byte others is differ = ap has_mark is ∙ ap (λ t. t || has_mark others) (ap (λ l. starts_with ◌==◌ l mark) (sym is) ∙ differ)

pub mark-later : (xs : List ℕ) → 1 ≤ length xs → starts_with ◌==◌ xs mark ≡ false → has_mark xs ≡ has_mark (take (length xs - 1) (drop 1 xs))
mark-later xs some differ = unmarked xs (get_or xs 0 0) (take (length xs - 1) (drop 1 xs)) (parted xs some) differ

differs : (byte : ℕ) → (byte ≡ 47 → ⊥) → (byte == 47) ≡ false
differs byte differ = grind (arith, nat_tests, differ)

-- a byte that is no slash ends no part
unslashed : (part xs : List ℕ) (byte : ℕ) (others : List ℕ) → xs ≡ byte ∷ others → (byte ≡ 47 → ⊥) → part_after part xs ≡ part_after part others
unslashed part xs byte others is differ = ap (λ l. part_after part l) is ∙ ap (λ t. part_after (if t then others else part) others) (differs byte differ)

pub part-goes-on : (part xs : List ℕ) → 1 ≤ length xs → (get_or xs 0 0 ≡ 47 → ⊥) → part_after part xs ≡ part_after part (take (length xs - 1) (drop 1 xs))
part-goes-on part xs some differ = unslashed part xs (get_or xs 0 0) (take (length xs - 1) (drop 1 xs)) (parted xs some) differ

-- a name is taken or left out, and then the others are
pub kept-more : (is_one : Bool) (names : List (List ℕ)) (name : List ℕ) (others taken new : List (List ℕ)) → names ≡ name ∷ others
    → new ≡ taken ++ image_named (is_leftover name && not is_one) name → new ++ images_in is_one others ≡ taken ++ images_in is_one names
kept-more is_one names name others taken new is taken_now =
    ap (λ l. l ++ images_in is_one others) taken_now ∙ append_assoc taken (image_named (is_leftover name && not is_one) name) (images_in is_one others) ∙ ap (λ l. taken ++ images_in is_one l) (sym is)

pub kept-all : (is_one : Bool) (names taken : List (List ℕ)) → names ≡ [] → taken ++ images_in is_one names ≡ taken
kept-all is_one names taken none = ap (λ l. taken ++ images_in is_one l) none ∙ append-nil taken
