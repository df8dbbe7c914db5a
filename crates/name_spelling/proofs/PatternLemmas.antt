-- Names that are like patterns.
use Rattle.std.proofs.Common.{◌≡◌, ◌≢◌, ◌≤◌, ◌<◌, ◌-◌, ◌∙◌, ℕ, Bool, true, false, List, [], ◌∷◌, take, drop, length, get_or, cond, refl, sym, ap, arith, true≢false, Some}
use Rattle.std.proofs.lemmas.Bool.Decides.{nat_tests}
use Rattle.std.specs.Prelude.{◌&&◌, ◌||◌, ◌==◌}
use Rattle.std.proofs.lemmas.List.{take_all}
use Rattle.os8_dir.specs.Names.{after_dot, before_dot, words_of_name}
use Rattle.name_spelling.specs.Patterns.{are_within, codes_in, extension_of, is_extension_pattern, is_name_like, is_pattern, stem_of, without_zeros, like, like_extension, stands_for}
use Rattle.name_spelling.specs.PatternSteps.{is_pattern_from, like_from}

-- ## The parts of a word

dot-stem : (dot : Bool) (c : ℕ) (cs : List ℕ) → take (length (before_dot cs)) cs ≡ before_dot cs → take (length (cond dot [] (c ∷ before_dot cs))) (c ∷ cs) ≡ cond dot [] (c ∷ before_dot cs)
dot-stem true c cs is = refl
dot-stem false c cs is = ap (λ l. c ∷ l) is

-- the characters before the first dot
pub stem-of : (word : List ℕ) → take (length (before_dot word)) word ≡ before_dot word
stem-of [] = refl
stem-of (c ∷ cs) = dot-stem (c == 0o56) c cs (stem-of cs)

dot-like : (dot : Bool) (c : ℕ) (cs codes : List ℕ) → like_from (drop (length (before_dot cs)) cs) codes ≡ like_extension (after_dot cs) codes
    → like_from (drop (length (cond dot [] (c ∷ before_dot cs))) (c ∷ cs)) codes ≡ like_extension (cond dot (Some cs) (after_dot cs)) codes
dot-like true c cs codes is = refl
dot-like false c cs codes is = is

pub like-from : (word codes : List ℕ) → like_from (drop (length (before_dot word)) word) codes ≡ like_extension (after_dot word) codes
like-from [] codes = refl
like-from (c ∷ cs) codes = dot-like (c == 0o56) c cs codes (like-from cs codes)

dot-pattern : (dot : Bool) (c : ℕ) (cs : List ℕ) → is_pattern_from (drop (length (before_dot cs)) cs) ≡ is_extension_pattern (after_dot cs)
    → is_pattern_from (drop (length (cond dot [] (c ∷ before_dot cs))) (c ∷ cs)) ≡ is_extension_pattern (cond dot (Some cs) (after_dot cs))
dot-pattern true c cs is = refl
dot-pattern false c cs is = is

pub pattern-from : (word : List ℕ) → is_pattern_from (drop (length (before_dot word)) word) ≡ is_extension_pattern (after_dot word)
pattern-from [] = refl
pattern-from (c ∷ cs) = dot-pattern (c == 0o56) c cs (pattern-from cs)

-- ## A sign for any characters

eq-true : (a b : ℕ) → a ≡ b → (a == b) ≡ true
eq-true a b is = grind (arith, nat_tests)

eq-false : (a b : ℕ) → a ≢ b → (a == b) ≡ false
eq-false a b is = grind (arith, nat_tests)

or-true : (a b : Bool) → a ≡ true → (a || b) ≡ true
or-true true b is = refl
or-true false b is = absurd (true≢false (sym is))

or-false : (a b : Bool) → a ≡ false → (a || b) ≡ b
or-false true b is = absurd (true≢false is)
or-false false b is = refl

and-true : (a b : Bool) → a ≡ true → (a && b) ≡ b
and-true true b is = refl
and-true false b is = absurd (true≢false (sym is))

and-false : (a b : Bool) → a ≡ false → (a && b) ≡ false
and-false true b is = absurd (true≢false is)
and-false false b is = refl

-- what a pattern binds after its first is all that stands there
tail-is : (c : ℕ) (l : List ℕ) → take (length (c ∷ l) - 1) l ≡ l
tail-is c l = take_all (length (c ∷ l) - 1) l (omega arith)

abbrev following : List ℕ → List ℕ
following l = take (length l - 1) (drop 1 l)

-- what stands after the sign is like the codes
pub any-here : (pattern codes : List ℕ) (found : Bool) → 1 ≤ length pattern → get_or pattern 0 0 ≡ 0o52 → found ≡ like (following pattern) codes → found ≡ true → found ≡ like pattern codes
any-here [] codes found some is here holds = absurd (omega (arith, some))
any-here (c ∷ pattern) [] found some is here holds = rw (eq-true c 0o52 is) (rw (tail-is c pattern) at here)
any-here (c ∷ pattern) (x ∷ codes) found some is here holds =
    let so : found ≡ like pattern (x ∷ codes) = rw (tail-is c pattern) at here in
    rw (eq-true c 0o52 is) (holds ∙ sym (or-true (like pattern (x ∷ codes)) _ (sym so ∙ holds)))

-- or no code is left
pub any-none : (pattern codes : List ℕ) (found : Bool) → 1 ≤ length pattern → get_or pattern 0 0 ≡ 0o52 → found ≡ like (following pattern) codes → found ≡ false → length codes < 1 → false ≡ like pattern codes
any-none [] codes found some is here fails none = absurd (omega (arith, some))
any-none (c ∷ pattern) [] found some is here fails none = rw (eq-true c 0o52 is) (sym fails ∙ (rw (tail-is c pattern) at here))
any-none (c ∷ pattern) (x ∷ codes) found some is here fails none = absurd (omega (arith, none))

-- or the whole pattern is like those after the first
pub any-more : (pattern codes : List ℕ) (found later : Bool) → 1 ≤ length pattern → get_or pattern 0 0 ≡ 0o52 → found ≡ like (following pattern) codes → found ≡ false → 1 ≤ length codes
    → later ≡ like pattern (following codes) → later ≡ like pattern codes
any-more [] codes found later some is here fails more also = absurd (omega (arith, some))
any-more (c ∷ pattern) [] found later some is here fails more also = absurd (omega (arith, more))
any-more (c ∷ pattern) (x ∷ codes) found later some is here fails more also =
    let so : found ≡ like pattern (x ∷ codes) = rw (tail-is c pattern) at here in
    let then : later ≡ like (c ∷ pattern) codes = rw (tail-is x codes) at also in
    rw (eq-true c 0o52 is) ((rw (eq-true c 0o52 is) at then) ∙ sym (or-false (like pattern (x ∷ codes)) _ (sym so ∙ fails)))

-- ## Another character

pub one-none : (pattern codes : List ℕ) → 1 ≤ length pattern → get_or pattern 0 0 ≢ 0o52 → length codes < 1 → false ≡ like pattern codes
one-none [] codes some is none = absurd (omega (arith, some))
one-none (c ∷ pattern) [] some is none = rw (eq-false c 0o52 is) refl
one-none (c ∷ pattern) (x ∷ codes) some is none = absurd (omega (arith, none))

pub one-fits : (pattern codes : List ℕ) (fits others : Bool) → 1 ≤ length pattern → get_or pattern 0 0 ≢ 0o52 → 1 ≤ length codes → fits ≡ stands_for (get_or pattern 0 0) (get_or codes 0 0) → fits ≡ true
    → others ≡ like (following pattern) (following codes) → others ≡ like pattern codes
one-fits [] codes fits others some is more first holds so = absurd (omega (arith, some))
one-fits (c ∷ pattern) [] fits others some is more first holds so = absurd (omega (arith, more))
one-fits (c ∷ pattern) (x ∷ codes) fits others some is more first holds so =
    rw (eq-false c 0o52 is) ((rw (tail-is c pattern, tail-is x codes) at so) ∙ sym (and-true (stands_for c x) _ (sym first ∙ holds)))

pub one-not : (pattern codes : List ℕ) (fits : Bool) → 1 ≤ length pattern → get_or pattern 0 0 ≢ 0o52 → 1 ≤ length codes → fits ≡ stands_for (get_or pattern 0 0) (get_or codes 0 0) → fits ≡ false
    → fits ≡ like pattern codes
one-not [] codes fits some is more first fails = absurd (omega (arith, some))
one-not (c ∷ pattern) [] fits some is more first fails = absurd (omega (arith, more))
one-not (c ∷ pattern) (x ∷ codes) fits some is more first fails = rw (eq-false c 0o52 is) (fails ∙ sym (and-false (stands_for c x) _ (sym first ∙ fails)))

-- ## Both parts

-- the tests of the two parts of a word are those of a pattern
pub both-parts : (word front back : List ℕ) (place : ℕ) → place ≡ length (before_dot word) → front ≡ take place word → back ≡ drop place word
    → (are_within 12 front && is_pattern_from back) ≡ is_pattern word
both-parts word front back place at is_front is_back =
    ap (λ (l : List ℕ). are_within 12 l && is_pattern_from back) (is_front ∙ ap (λ n. take n word) at ∙ stem-of word)
    ∙ ap (λ b. are_within 12 (before_dot word) && b) (ap is_pattern_from (is_back ∙ ap (λ n. drop n word) at) ∙ pattern-from word)

pub parts-hold : (word front back : List ℕ) (place : ℕ) (one two : Bool) → place ≡ length (before_dot word) → front ≡ take place word → back ≡ drop place word → one ≡ are_within 12 front → one ≡ true
    → two ≡ is_pattern_from back → two ≡ is_pattern word
parts-hold word front back place one two at is_front is_back first holds second =
    second ∙ sym (and-true (are_within 12 front) (is_pattern_from back) (sym first ∙ holds)) ∙ both-parts word front back place at is_front is_back

pub part-fails : (word front back : List ℕ) (place : ℕ) (one : Bool) → place ≡ length (before_dot word) → front ≡ take place word → back ≡ drop place word → one ≡ are_within 12 front → one ≡ false
    → one ≡ is_pattern word
part-fails word front back place one at is_front is_back first fails =
    fails ∙ sym (and-false (are_within 12 front) (is_pattern_from back) (sym first ∙ fails)) ∙ both-parts word front back place at is_front is_back

-- the same of the two parts of a name
pub both-match : (word front back codes ends : List ℕ) (place : ℕ) → place ≡ length (before_dot word) → front ≡ take place word → back ≡ drop place word
    → (like front codes && like_from back ends) ≡ (like (before_dot word) codes && like_extension (after_dot word) ends)
both-match word front back codes ends place at is_front is_back =
    ap (λ (l : List ℕ). like l codes && like_from back ends) (is_front ∙ ap (λ n. take n word) at ∙ stem-of word)
    ∙ ap (λ b. like (before_dot word) codes && b) (ap (λ l. like_from l ends) (is_back ∙ ap (λ n. drop n word) at) ∙ like-from word ends)

pub names-match : (word front back : List ℕ) (name place a b c d : ℕ) (one two : Bool) → place ≡ length (before_dot word) → front ≡ take place word → back ≡ drop place word
    → a ∷ b ∷ c ∷ d ∷ [] ≡ words_of_name name → one ≡ like front (without_zeros (codes_in (a ∷ b ∷ c ∷ []))) → one ≡ true
    → two ≡ like_from back (without_zeros (codes_in (d ∷ []))) → two ≡ is_name_like word name
names-match word front back name place a b c d one two at is_front is_back words first holds second =
    second ∙ sym (and-true (like front (stem_of (a ∷ b ∷ c ∷ d ∷ []))) (like_from back (extension_of (a ∷ b ∷ c ∷ d ∷ []))) (sym first ∙ holds))
    ∙ both-match word front back (stem_of (a ∷ b ∷ c ∷ d ∷ [])) (extension_of (a ∷ b ∷ c ∷ d ∷ [])) place at is_front is_back
    ∙ ap (λ l. like (before_dot word) (stem_of l) && like_extension (after_dot word) (extension_of l)) words

pub names-differ : (word front back : List ℕ) (name place a b c d : ℕ) (one : Bool) → place ≡ length (before_dot word) → front ≡ take place word → back ≡ drop place word
    → a ∷ b ∷ c ∷ d ∷ [] ≡ words_of_name name → one ≡ like front (without_zeros (codes_in (a ∷ b ∷ c ∷ []))) → one ≡ false → one ≡ is_name_like word name
names-differ word front back name place a b c d one at is_front is_back words first fails =
    fails ∙ sym (and-false (like front (stem_of (a ∷ b ∷ c ∷ d ∷ []))) (like_from back (extension_of (a ∷ b ∷ c ∷ d ∷ []))) (sym first ∙ fails))
    ∙ both-match word front back (stem_of (a ∷ b ∷ c ∷ d ∷ [])) (extension_of (a ∷ b ∷ c ∷ d ∷ [])) place at is_front is_back
    ∙ ap (λ l. like (before_dot word) (stem_of l) && like_extension (after_dot word) (extension_of l)) words
