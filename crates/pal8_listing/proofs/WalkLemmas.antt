-- What is left of the words of a listing after its lines.
use Rattle.std.proofs.Common.{◌≡◌, ℕ, ◌+◌, ◌-◌, ◌≤◌, Bool, true, false, nat_eq, if◌then◌else◌, Option, Some, None, length, zero, suc, List, [], ◌∷◌, ◌++◌, refl, sym, ap, subst, ◌∙◌, arith, append_assoc}
use Rattle.std.proofs.lemmas.Bool.Decides.{nat_tests}
use Rattle.pal_lex.specs.Text.{limit}
use Rattle.pal8_asm.specs.declared.marks.Mark.{Mark}
use Rattle.pal8_listing.specs.Laws.{listed_pairs, words_of_rows}
use Rattle.pal8_listing.specs.Rows.{Line, listed_words, number_by, numbered_lines, one_less, pair_of, rows_of, words_after, words_at, words_below, words_here}
use Rattle.pal8_listing.specs.declared.words.ListedWord.{ListedWord}
use Rattle.pal8_listing.proofs.LineLemmas.{AtMost, Rises, mark_lines, most_more, rise_lower}

abbrev pub word_lines : List ListedWord → List ℕ
word_lines [] = []
word_lines (w ∷ ws) = w.line ∷ word_lines ws

pub lines_are : (pairs : List (ℕ × ℕ)) (marks : List Mark) → length pairs ≡ length marks → word_lines (listed_words pairs marks) ≡ mark_lines marks
lines_are [] [] same = refl
lines_are [] (m ∷ marks) same = absurd (omega (arith, same))
lines_are (pair ∷ pairs) [] same = absurd (omega (arith, same))
lines_are (pair ∷ pairs) (m ∷ marks) same = ap (λ l. m.line ∷ l) (lines_are pairs marks (omega (arith, same)))

pub pairs_are : (pairs : List (ℕ × ℕ)) (marks : List Mark) → length pairs ≡ length marks → listed_pairs (listed_words pairs marks) ≡ pairs
pairs_are [] [] same = refl
pairs_are [] (m ∷ marks) same = refl
pairs_are (pair ∷ pairs) [] same = absurd (omega (arith, same))
pairs_are (pair ∷ pairs) (m ∷ marks) same = ap (λ l. pair ∷ l) (pairs_are pairs marks (omega (arith, same)))

-- ## Words at lines, and those that are left

abbrev pub words_left : List Line → List ListedWord → List ListedWord
words_left [] ws = ws
words_left (l ∷ ls) ws = words_left ls (words_below l.number ws)

pub left_on : (a b : List Line) (ws : List ListedWord) → words_left (a ++ b) ws ≡ words_left b (words_left a ws)
left_on [] b ws = refl
left_on (l ∷ a) b ws = left_on a b (words_below l.number ws)

split_by : (t : Bool) (w : ListedWord) (here after ws : List ListedWord) → here ++ after ≡ ws → (if t then w ∷ here else []) ++ (if t then after else w ∷ ws) ≡ w ∷ ws
split_by true w here after ws is = ap (λ l. w ∷ l) is
split_by false w here after ws is = refl

split_here : (n : ℕ) (ws : List ListedWord) → words_here n ws ++ words_after n ws ≡ ws
split_here n [] = refl
split_here n (w ∷ ws) = split_by (nat_eq w.line n) w (words_here n ws) (words_after n ws) ws (split_here n ws)

split_at : (number : Option ℕ) (ws : List ListedWord) → words_at number ws ++ words_below number ws ≡ ws
split_at None ws = refl
split_at (Some n) ws = split_here n ws

pairs_on : (a b : List ListedWord) → listed_pairs (a ++ b) ≡ listed_pairs a ++ listed_pairs b
pairs_on [] b = refl
pairs_on (w ∷ a) b = ap (λ l. pair_of w ∷ l) (pairs_on a b)

-- the words at rows, and then those that are left, are all
pub all_words : (ls : List Line) (ws : List ListedWord) → words_of_rows (rows_of ls ws) ++ listed_pairs (words_left ls ws) ≡ listed_pairs ws
all_words [] ws = refl
all_words (l ∷ ls) ws =
    append_assoc (listed_pairs (words_at l.number ws)) (words_of_rows (rows_of ls (words_below l.number ws))) (listed_pairs (words_left ls (words_below l.number ws)))
    ∙ ap (λ x. listed_pairs (words_at l.number ws) ++ x) (all_words ls (words_below l.number ws))
    ∙ sym (pairs_on (words_at l.number ws) (words_below l.number ws)) ∙ ap listed_pairs (split_at l.number ws)

-- ## Lines whose numbers rise

next_by : (t : Bool) (n : ℕ) (w : ListedWord) (ws : List ListedWord) → nat_eq w.line n ≡ t → Rises n (word_lines (w ∷ ws)) → Rises (n + 1) (word_lines (words_after n ws))
    → Rises (n + 1) (word_lines (if t then words_after n ws else w ∷ ws))
next_by true n w ws is p q = q
next_by false n w ws is p q = (grind (arith, nat_tests, is, p.0), p.1)

pub rise_after : (n : ℕ) (ws : List ListedWord) → Rises n (word_lines ws) → Rises (n + 1) (word_lines (words_after n ws))
rise_after n [] p = tt
rise_after n (w ∷ ws) p = next_by (nat_eq w.line n) n w ws refl p (rise_after n ws (rise_lower (word_lines ws) w.line n p.0 p.1))

most_by : (t : Bool) (n high : ℕ) (w : ListedWord) (ws : List ListedWord) → AtMost high (word_lines (w ∷ ws)) → AtMost high (word_lines (words_after n ws))
    → AtMost high (word_lines (if t then words_after n ws else w ∷ ws))
most_by true n high w ws p q = q
most_by false n high w ws p q = p

most_after : (n high : ℕ) (ws : List ListedWord) → AtMost high (word_lines ws) → AtMost high (word_lines (words_after n ws))
most_after n high [] p = tt
most_after n high (w ∷ ws) p = most_by (nat_eq w.line n) n high w ws p (most_after n high ws p.1)

most_below : (number : Option ℕ) (high : ℕ) (ws : List ListedWord) → AtMost high (word_lines ws) → AtMost high (word_lines (words_below number ws))
most_below None high ws p = p
most_below (Some n) high ws p = most_after n high ws p

pub most_left : (ls : List Line) (high : ℕ) (ws : List ListedWord) → AtMost high (word_lines ws) → AtMost high (word_lines (words_left ls ws))
most_left [] high ws p = p
most_left (l ∷ ls) high ws p = most_left ls high (words_below l.number ws) (most_below l.number high ws p)

none_by : (t : Bool) (n : ℕ) (w : ListedWord) (ws : List ListedWord) → nat_eq w.line n ≡ t → n ≤ w.line → w.line ≤ n → words_after n ws ≡ []
    → (if t then words_after n ws else w ∷ ws) ≡ []
none_by true n w ws is low high none = none
none_by false n w ws is low high none = absurd (grind (arith, nat_tests, is, low, high))

none_after : (n : ℕ) (ws : List ListedWord) → Rises n (word_lines ws) → AtMost n (word_lines ws) → words_after n ws ≡ []
none_after n [] p q = refl
none_after n (w ∷ ws) p q = none_by (nat_eq w.line n) n w ws refl p.0 q.0 (none_after n ws (rise_lower (word_lines ws) w.line n p.0 p.1) q.1)

-- ## The lines of a source

-- how many line feeds there are
abbrev pub feeds : List ℕ → ℕ
feeds [] = 0
feeds (b ∷ bytes) = (if nat_eq b 0o12 then 1 else 0) + feeds bytes

feed_is_no_return : (b : ℕ) → nat_eq b 0o15 ≡ true → nat_eq b 0o12 ≡ true → ⊥
feed_is_no_return b is also = grind (arith, nat_tests, is, also)

abbrev lines_by : Bool → Bool → List ℕ → ℕ → ℕ → Option ℕ → List ℕ → List Line
lines_by t u line b number left source =
    if t then numbered_lines line number left source
    else (if u then record { text = line; number = number_by left number; is_ended = true } ∷ numbered_lines [] (limit (number + 1)) (one_less left) source
    else numbered_lines (line ++ b ∷ []) number left source)

module _ (b : ℕ) (source : List ℕ)
    (rest : (line : List ℕ) (number : ℕ) (ws : List ListedWord) → Rises number (word_lines ws) → AtMost (limit (number + feeds source)) (word_lines ws)
    → words_left (numbered_lines line number None source) ws ≡ [])
  where
    last_by : (t u : Bool) → nat_eq b 0o15 ≡ t → nat_eq b 0o12 ≡ u → (line : List ℕ) (number : ℕ) (ws : List ListedWord) → Rises number (word_lines ws)
        → AtMost (limit (number + ((if u then 1 else 0) + feeds source))) (word_lines ws) → words_left (lines_by t u line b number None source) ws ≡ []
    last_by true true is also line number ws p q = absurd (feed_is_no_return b is also)
    last_by true false is also line number ws p q = rest line number ws p (most_more (word_lines ws) _ _ (omega arith) q)
    last_by false true is also line number ws p q =
        rest [] (limit (number + 1)) (words_after number ws)
        (rise_lower (word_lines (words_after number ws)) (number + 1) (limit (number + 1)) (omega arith) (rise_after number ws p))
        (most_more (word_lines (words_after number ws)) _ _ (omega arith) (most_after number _ ws q))
    last_by false false is also line number ws p q = rest (line ++ b ∷ []) number ws p (most_more (word_lines ws) _ _ (omega arith) q)

-- after all lines of a source no word is left that begins in one of them
pub last_source : (source line : List ℕ) (number : ℕ) (ws : List ListedWord) → Rises number (word_lines ws) → AtMost (limit (number + feeds source)) (word_lines ws)
    → words_left (numbered_lines line number None source) ws ≡ []
last_source [] line number ws p q = none_after number ws p (most_more (word_lines ws) (limit (number + 0)) number (omega arith) q)
last_source (b ∷ source) line number ws p q =
    last_by b source (λ line number ws p q. last_source source line number ws p q) (nat_eq b 0o15) (nat_eq b 0o12) refl refl line number ws p q

module _ (b : ℕ) (source : List ℕ) (rest : (line : List ℕ) (number : ℕ) (ws : List ListedWord) → words_left (numbered_lines line number (Some 0) source) ws ≡ ws) where
  unread_by : (t u : Bool) (line : List ℕ) (number : ℕ) (ws : List ListedWord) → words_left (lines_by t u line b number (Some 0) source) ws ≡ ws
  unread_by true u line number ws = rest line number ws
  unread_by false true line number ws = rest [] (limit (number + 1)) ws
  unread_by false false line number ws = rest (line ++ b ∷ []) number ws

-- no word stands at lines that aren't read
unread : (source line : List ℕ) (number : ℕ) (ws : List ListedWord) → words_left (numbered_lines line number (Some 0) source) ws ≡ ws
unread [] line number ws = refl
unread (b ∷ source) line number ws = unread_by b source (λ line number ws. unread source line number ws) (nat_eq b 0o15) (nat_eq b 0o12) line number ws

abbrev RisesRead : List ℕ → Type 0
RisesRead source =
    (line : List ℕ) (number k : ℕ) (ws : List ListedWord) → k ≤ feeds source + 1 → Rises number (word_lines ws)
    → Rises (limit (number + k)) (word_lines (words_left (numbered_lines line number (Some k) source) ws))

read_none : (source line : List ℕ) (number : ℕ) (ws : List ListedWord) → Rises number (word_lines ws)
    → Rises (limit (number + 0)) (word_lines (words_left (numbered_lines line number (Some 0) source) ws))
read_none source line number ws p =
    subst (λ l. Rises (limit (number + 0)) (word_lines l)) (sym (unread source line number ws)) (rise_lower (word_lines ws) number (limit (number + 0)) (omega arith) p)

number_if : (t : Bool) (k number : ℕ) → nat_eq (suc k) 0 ≡ t → (if t then None else Some number) ≡ Some number
number_if true k number is = absurd (grind (arith, nat_tests, is))
number_if false k number is = refl

-- a line that is read has its number
number_read : (k number : ℕ) → number_by (Some (suc k)) number ≡ Some number
number_read k number = number_if (nat_eq (suc k) 0) k number refl

module _ (b : ℕ) (source : List ℕ) (rest : RisesRead source) where
  read_by : (t u : Bool) → nat_eq b 0o15 ≡ t → nat_eq b 0o12 ≡ u → (line : List ℕ) (number k : ℕ) (ws : List ListedWord)
      → suc k ≤ ((if u then 1 else 0) + feeds source) + 1 → Rises number (word_lines ws)
      → Rises (limit (number + suc k)) (word_lines (words_left (lines_by t u line b number (Some (suc k)) source) ws))
  read_by true true is also line number k ws le p = absurd (feed_is_no_return b is also)
  read_by true false is also line number k ws le p = rest line number (suc k) ws (omega (arith, le)) p
  read_by false true is also line number k ws le p =
      subst (λ (n : Option ℕ). Rises (limit (number + suc k)) (word_lines (words_left (numbered_lines [] (limit (number + 1)) (Some (suc k - 1)) source) (words_below n ws))))
      (sym (number_read k number))
      (rise_lower _ (limit (limit (number + 1) + (suc k - 1))) (limit (number + suc k)) (omega arith)
      (rest [] (limit (number + 1)) (suc k - 1) (words_after number ws) (omega (arith, le))
      (rise_lower (word_lines (words_after number ws)) (number + 1) (limit (number + 1)) (omega arith) (rise_after number ws p))))
  read_by false false is also line number k ws le p = rest (line ++ b ∷ []) number (suc k) ws (omega (arith, le)) p

-- after so many lines of a source that are read, the words that are left begin in later ones
pub other_source : (source line : List ℕ) (number k : ℕ) (ws : List ListedWord) → k ≤ feeds source + 1 → Rises number (word_lines ws)
    → Rises (limit (number + k)) (word_lines (words_left (numbered_lines line number (Some k) source) ws))
other_source source line number zero ws le p = read_none source line number ws p
other_source [] line number (suc k) ws le p =
    subst (λ (n : Option ℕ). Rises (limit (number + suc k)) (word_lines (words_below n ws))) (sym (number_read k number))
    (rise_lower (word_lines (words_after number ws)) (number + 1) (limit (number + suc k)) (omega (arith, le)) (rise_after number ws p))
other_source (b ∷ source) line number (suc k) ws le p =
    read_by b source (λ line number k ws le p. other_source source line number k ws le p) (nat_eq b 0o15) (nat_eq b 0o12) refl refl line number k ws le p
