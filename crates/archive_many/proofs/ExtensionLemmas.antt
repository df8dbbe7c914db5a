-- Items of lists of extensions.
use Rattle.std.proofs.Common.{◌≡◌, ◌≤◌, ◌<◌, ◌+◌, ◌-◌, ◌∙◌, ℕ, suc, add-one, get_or, map, subst, length-take, Bool, true, false, List, [], ◌∷◌, ◌++◌, take, drop, length, cond, refl, sym, ap, arith, true≢false}
use Rattle.std.specs.Prelude.{◌||◌, ◌==◌}
use Rattle.std.proofs.Math.Seq.{drop-cons, take-suc}
use Rattle.std.proofs.lemmas.List.{length-map, map-append, take-append-drop, take_all}
use Rattle.name_spelling.specs.Patterns.{is_code}
use Rattle.archive_many.specs.Extensions.{AreLists, IsFirstBad, extension_word, is_list, is_listed, items_of, some_spells, with_first}
use Rattle.archive_many.specs.ExtensionSteps.{before_comma, items_after}

comma-first : (comma : Bool) (c : ℕ) (cs : List ℕ) → take (length (before_comma cs)) cs ≡ before_comma cs → take (length (cond comma [] (c ∷ before_comma cs))) (c ∷ cs) ≡ cond comma [] (c ∷ before_comma cs)
comma-first true c cs is = refl
comma-first false c cs is = ap (λ l. c ∷ l) is

-- the first item of a list
pub first-item : (list : List ℕ) → take (length (before_comma list)) list ≡ before_comma list
first-item [] = refl
first-item (c ∷ cs) = comma-first (c == 0o54) c cs (first-item cs)

comma-split : (comma : Bool) (c : ℕ) (cs : List ℕ) → items_of cs ≡ before_comma cs ∷ items_after (drop (length (before_comma cs)) cs)
    → cond comma ([] ∷ items_of cs) (with_first c (items_of cs)) ≡ cond comma [] (c ∷ before_comma cs) ∷ items_after (drop (length (cond comma [] (c ∷ before_comma cs))) (c ∷ cs))
comma-split true c cs is = refl
comma-split false c cs is = ap (with_first c) is

-- a list is its first item, and those after it
pub items-are : (list : List ℕ) → items_of list ≡ before_comma list ∷ items_after (drop (length (before_comma list)) list)
items-are [] = refl
items-are (c ∷ cs) = comma-split (c == 0o54) c cs (items-are cs)

or-true : (a b : Bool) → a ≡ true → (a || b) ≡ true
or-true true b is = refl
or-true false b is = absurd (true≢false (sym is))

or-false : (a b : Bool) → a ≡ false → (a || b) ≡ b
or-false true b is = absurd (true≢false is)
or-false false b is = refl

-- a word is in a list where its first item spells it, or one after that
listed-split : (list item rest : List ℕ) (place word : ℕ) → place ≡ length (before_comma list) → item ≡ take place list → rest ≡ drop place list
    → (is_code (extension_word item) word || some_spells (items_after rest) word) ≡ is_listed list word
listed-split list item rest place word at is_item is_rest =
    ap (λ (l : List ℕ). is_code (extension_word l) word || some_spells (items_after rest) word) (is_item ∙ ap (λ n. take n list) at ∙ first-item list)
    ∙ ap (λ (l : List ℕ). is_code (extension_word (before_comma list)) word || some_spells (items_after l) word) (is_rest ∙ ap (λ n. drop n list) at)
    ∙ ap (λ items. some_spells items word) (sym (items-are list))

pub listed-here : (list item rest : List ℕ) (place word : ℕ) (found : Bool) → place ≡ length (before_comma list) → item ≡ take place list → rest ≡ drop place list
    → found ≡ is_code (extension_word item) word → found ≡ true → true ≡ is_listed list word
listed-here list item rest place word found at is_item is_rest first holds =
    sym (or-true (is_code (extension_word item) word) (some_spells (items_after rest) word) (sym first ∙ holds)) ∙ listed-split list item rest place word at is_item is_rest

following-none : (rest : List ℕ) (word : ℕ) → length rest < 1 → some_spells (items_after rest) word ≡ false
following-none [] word none = refl
following-none (c ∷ rest) word none = absurd (omega (arith, none))

pub listed-none : (list item rest : List ℕ) (place word : ℕ) (found : Bool) → place ≡ length (before_comma list) → item ≡ take place list → rest ≡ drop place list
    → found ≡ is_code (extension_word item) word → found ≡ false → length rest < 1 → false ≡ is_listed list word
listed-none list item rest place word found at is_item is_rest first fails none =
    sym (following-none rest word none) ∙ sym (or-false (is_code (extension_word item) word) (some_spells (items_after rest) word) (sym first ∙ fails)) ∙ listed-split list item rest place word at is_item is_rest

following-more : (rest : List ℕ) (word : ℕ) → 1 ≤ length rest → is_listed (take (length rest - 1) (drop 1 rest)) word ≡ some_spells (items_after rest) word
following-more [] word more = absurd (omega (arith, more))
following-more (c ∷ rest) word more = ap (λ l. is_listed l word) (take_all (length (c ∷ rest) - 1) rest (omega arith))

pub listed-more : (list item rest : List ℕ) (place word : ℕ) (found later : Bool) → place ≡ length (before_comma list) → item ≡ take place list → rest ≡ drop place list
    → found ≡ is_code (extension_word item) word → found ≡ false → 1 ≤ length rest → later ≡ is_listed (take (length rest - 1) (drop 1 rest)) word → later ≡ is_listed list word
listed-more list item rest place word found later at is_item is_rest first fails more so =
    so ∙ following-more rest word more ∙ sym (or-false (is_code (extension_word item) word) (some_spells (items_after rest) word) (sym first ∙ fails)) ∙ listed-split list item rest place word at is_item is_rest

-- ## Lists of which the first bad one is told

-- so many lists are good
pub good-more : (prefix : List (List ℕ)) (list : List ℕ) → AreLists prefix → is_list list ≡ true → AreLists (prefix ++ list ∷ [])
good-more [] list good is = (is, tt)
good-more (first ∷ prefix) list good is = (good.0, good-more prefix list good.1 is)

one-more : {X : Type 0} (f : X → List ℕ) (xs : List X) (k : ℕ) (x : X) → k < length xs → x ≡ get_or xs k x → map f (take (k + 1) xs) ≡ map f (take k xs) ++ f x ∷ []
one-more f xs k x inside is =
    ap (λ n. map f (take n xs)) (add-one k) ∙ ap (map f) (take-suc xs k x inside) ∙ map-append f (take k xs) (get_or xs k x ∷ []) ∙ ap (λ y. map f (take k xs) ++ f y ∷ []) (sym is)

split-at : {X : Type 0} (f : X → List ℕ) (xs : List X) (k : ℕ) (x : X) → k < length xs → x ≡ get_or xs k x → map f xs ≡ map f (take k xs) ++ f x ∷ map f (drop (suc k) xs)
split-at f xs k x inside is =
    ap (map f) (sym (take-append-drop k xs) ∙ ap (λ l. take k xs ++ l) (drop-cons xs k x inside))
    ∙ map-append f (take k xs) (get_or xs k x ∷ drop (suc k) xs) ∙ ap (λ y. map f (take k xs) ++ f y ∷ map f (drop (suc k) xs)) (sym is)

length-so-far : {X : Type 0} (f : X → List ℕ) (xs : List X) (k : ℕ) → k < length xs → k ≡ length (map f (take k xs))
length-so-far f xs k inside = omega (arith, length-map (take k xs) f, length-take k xs)

-- a list that is bad after good ones is the first bad one
pub first-bad : {X : Type 0} (f : X → List ℕ) (xs : List X) (k : ℕ) (x : X) (text : List ℕ) (good : Bool) → k < length xs → x ≡ get_or xs k x → text ≡ f x → good ≡ is_list text → good ≡ false
    → AreLists (map f (take k xs)) → IsFirstBad (map f xs) k
first-bad f xs k x text good inside is text_is tells fails before = record {
  prefix = map f (take k xs);
  bad = f x;
  following = map f (drop (suc k) xs);
  lists_are = split-at f xs k x inside is;
  place_is = length-so-far f xs k inside;
  good = before;
  is_bad = ap is_list (sym text_is) ∙ sym tells ∙ fails;
}

pub good-again : {X : Type 0} (f : X → List ℕ) (xs : List X) (k : ℕ) (x : X) (text : List ℕ) (good : Bool) → k < length xs → x ≡ get_or xs k x → text ≡ f x → good ≡ is_list text → good ≡ true
    → AreLists (map f (take k xs)) → AreLists (map f (take (k + 1) xs))
good-again f xs k x text good inside is text_is tells holds before =
    subst AreLists (sym (one-more f xs k x inside is)) (good-more (map f (take k xs)) (f x) before (ap is_list (sym text_is) ∙ sym tells ∙ holds))
