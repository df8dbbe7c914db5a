-- The lines of sources that are read are those of their join.
use Rattle.std.proofs.Common.{◌≡◌, ℕ, ◌+◌, ◌-◌, ◌≤◌, Bool, true, false, nat_eq, if◌then◌else◌, Option, Some, None, length, take, drop, List, [], ◌∷◌, ◌++◌, refl, sym, ap, subst, ◌∙◌, arith, append_assoc, length-append}
use Rattle.std.proofs.lemmas.Bool.Decides.{nat_tests}
use Rattle.std.specs.Borrow.{Bor}
use Rattle.std.specs.Option.{option_or}
use Rattle.pal_lex.specs.Text.{limit, text_from, text_of}
use Rattle.pal8_lex.specs.Text.{as_read, is_dropped, line_count, live}
use Rattle.pal8_lex.specs.declared.rules.End.{End}
use Rattle.pal8_lex.specs.declared.rules.End.TheVariants as end
use Rattle.pal8_lex.specs.Rules.{end_of}
use Rattle.source_places.specs.Places.{next_line}
use Rattle.pal8_asm.specs.Sources.{PassResult}
use Rattle.pal8_tape.specs.Joins.{before_tokens, bytes_in, closing_bytes, counts_from, first_pause, has_none, is_line_open, join_from, part, part_by, pauses, remainder_after, texts_of, tokens_after, whole_lines}
use Rattle.pal8_listing.specs.Rows.{Line, all_lines, numbered_lines}
use Rattle.pal8_listing.specs.declared.words.ListedWord.{ListedWord}
use Rattle.pal8_listing.proofs.LineLemmas.{AtMost, Rises, most_more}
use Rattle.pal8_listing.proofs.WalkLemmas.{feeds, last_source, left_on, most_left, other_source, word_lines, words_left}

-- ## Texts

text_after : (bytes text : List ℕ) → text_from text bytes ≡ text_of bytes ++ text
text_after [] text = refl
text_after (b ∷ bytes) text =
    text_after bytes (b ∷ text) ∙ sym (append_assoc (text_of bytes) (b ∷ []) text) ∙ ap (λ l. l ++ text) (sym (text_after bytes (b ∷ [])))

text_on : (first later text : List ℕ) → text_from text (first ++ later) ≡ text_from (text_from text first) later
text_on [] later text = refl
text_on (b ∷ first) later text = text_on first later (b ∷ text)

text_joined : (first later : List ℕ) → text_of (first ++ later) ≡ text_of later ++ text_of first
text_joined first later = text_on first later [] ∙ text_after later (text_of first)

text_again : (bytes : List ℕ) → text_of (text_of bytes) ≡ bytes
text_again [] = refl
text_again (b ∷ bytes) = ap text_of (text_after bytes (b ∷ [])) ∙ text_joined (text_of bytes) (b ∷ []) ∙ ap (λ l. b ∷ l) (text_again bytes)

text_length : (bytes : List ℕ) → length (text_of bytes) ≡ length bytes
text_length [] = refl
text_length (b ∷ bytes) = ap length (text_after bytes (b ∷ [])) ∙ length-append (text_of bytes) (b ∷ []) ∙ ap (λ n. n + 1) (text_length bytes) ∙ omega arith

take_front : (a b : List ℕ) → take (length a) (a ++ b) ≡ a
take_front [] b = refl
take_front (x ∷ a) b = ap (λ l. x ∷ l) (take_front a b)

drop_front : (a b : List ℕ) → drop (length a) (a ++ b) ≡ b
drop_front [] b = refl
drop_front (x ∷ a) b = drop_front a b

-- ## Line feeds

none_more : (n : ℕ) → 0 + n ≡ n
none_more n = omega arith

feeds_on : (a b : List ℕ) → feeds (a ++ b) ≡ feeds a + feeds b
feeds_on [] b = sym (none_more (feeds b))
feeds_on (x ∷ a) b = ap (λ n. (if nat_eq x 0o12 then 1 else 0) + n) (feeds_on a b) ∙ omega arith

swapped : (f a b : ℕ) → (f + a) + b ≡ a + (f + b)
swapped f a b = omega arith

feeds_from : (bytes text : List ℕ) → feeds (text_from text bytes) ≡ feeds text + feeds bytes
feeds_from [] text = omega arith
feeds_from (b ∷ bytes) text = feeds_from bytes (b ∷ text) ∙ swapped (if nat_eq b 0o12 then 1 else 0) (feeds text) (feeds bytes)

pub feeds_turned : (bytes : List ℕ) → feeds (text_of bytes) ≡ feeds bytes
feeds_turned bytes = feeds_from bytes [] ∙ none_more (feeds bytes)

next_is : (text : List ℕ) → next_line text ≡ 1 + feeds text
next_is [] = refl
next_is (b ∷ older) = ap (λ n. (if nat_eq b 0o12 then 1 else 0) + n) (next_is older) ∙ omega arith

never : false ≡ true → ⊥
never is = cc

same_byte : (b c : ℕ) → nat_eq b c ≡ true → b ≡ c
same_byte b c is = grind (arith, nat_tests, is)

live_by : (dropped fed : Bool) (b : ℕ) (older : List ℕ) → is_dropped b ≡ dropped → nat_eq b 0o12 ≡ fed → line_count (live older) ≡ feeds older
    → line_count (if dropped then live older else (as_read b, length older) ∷ live older) ≡ (if fed then 1 else 0) + feeds older
live_by true true b older d f is = absurd (never (sym (ap is_dropped (same_byte b 0o12 f)) ∙ d))
live_by true false b older d f is = is ∙ sym (none_more (feeds older))
live_by false true b older d f is = ap (λ c. (if nat_eq (as_read c) 0o15 then 1 else 0) + line_count (live older)) (same_byte b 0o12 f) ∙ ap (λ n. 1 + n) is
live_by false false b older d f is = kept (nat_eq b 0o15) refl
  where
    kept : (t : Bool) → nat_eq b 0o15 ≡ t → (if nat_eq (as_read b) 0o15 then 1 else 0) + line_count (live older) ≡ 0 + feeds older
    kept true e = absurd (never (sym d ∙ ap is_dropped (same_byte b 0o15 e)))
    kept false e =
        ap (λ (t : Bool). (if nat_eq (if t then 0o15 else b) 0o15 then 1 else 0) + line_count (live older)) f
        ∙ ap (λ (t : Bool). (if t then 1 else 0) + line_count (live older)) e ∙ ap (λ n. 0 + n) is

pub live_feeds : (text : List ℕ) → line_count (live text) ≡ feeds text
live_feeds [] = refl
live_feeds (b ∷ older) = live_by (is_dropped b) (nat_eq b 0o12) b older refl refl (live_feeds older)

-- ## The part of a source that is joined

module _ (left : PassResult) where
  abbrev Earlier : List ℕ → Option (List ℕ × End) → Type 0
  Earlier text None = Unit {0}
  Earlier text (Some at) = feeds at.0 ≤ feeds text

  earlier_by : (b : ℕ) (older : List ℕ) (t : Bool) (found : Option (List ℕ × End)) → Earlier older found → Earlier older (option_or found (if t then Some (older, end_of (as_read b)) else None))
  earlier_by b older t (Some at) p = p
  earlier_by b older true None p = omega arith
  earlier_by b older false None p = tt

  earlier_more : (b : ℕ) (older : List ℕ) (found : Option (List ℕ × End)) → Earlier older found → Earlier (b ∷ older) found
  earlier_more b older None p = tt
  earlier_more b older (Some at) p = omega (arith, p)

  -- what stands before the end of PAUSE has no more line feeds than what stands before the last byte
  earlier : (b : ℕ) (older : List ℕ) → Earlier older (first_pause left (b ∷ older))
  earlier b [] = earlier_by b [] (pauses left [] b) None tt
  earlier b (c ∷ older) = earlier_by b (c ∷ older) (pauses left (c ∷ older) b) (first_pause left (c ∷ older)) (earlier_more c older (first_pause left (c ∷ older)) (earlier c older))

  whole_by : (opened : Bool) (text : List ℕ) → Earlier text (first_pause left (if opened then 0o12 ∷ text else text))
  whole_by true text = earlier 0o12 text
  whole_by false [] = tt
  whole_by false (b ∷ older) = earlier_more b older (first_pause left (b ∷ older)) (earlier b older)

  open_by : (opened : Bool) (text : List ℕ) → feeds (if opened then 0o12 ∷ text else text) ≤ feeds text + 1
  open_by true text = omega arith
  open_by false text = omega arith

  before_by : (t : Bool) (b : ℕ) (older : List ℕ) → feeds (before_tokens older) ≤ feeds older → feeds (if t then b ∷ older else before_tokens older) ≤ feeds (b ∷ older)
  before_by true b older p = omega arith
  before_by false b older p = omega (arith, p)

  before : (text : List ℕ) → feeds (before_tokens text) ≤ feeds text
  before [] = omega arith
  before (b ∷ older) = before_by (has_none (tokens_after (b ∷ older))) b older (before older)

  closes : (end : End) (bytes : List ℕ) → feeds (closing_bytes end ++ bytes) ≡ feeds bytes
  closes end.Semicolon bytes = refl
  closes end.Line bytes = refl
  closes end.Open bytes = refl
  closes end.Close bytes = none_more (feeds bytes)
  closes end.Dollar bytes = refl

  part_by_pause : (text : List ℕ) (found : Option (List ℕ × End)) → Earlier text found → feeds (part_by (whole_lines text) found) ≤ feeds text + 1
  part_by_pause text None p = open_by (is_line_open (live text)) text
  part_by_pause text (Some at) p = omega (arith, p, before at.0, closes at.1 (before_tokens at.0))

  -- the part of a source that is joined has one line feed at most beside those of the source
  part_feeds : (text : List ℕ) → feeds (part left text) ≤ feeds text + 1
  part_feeds text = part_by_pause text (first_pause left (whole_lines text)) (whole_by (is_line_open (live text)) text)

-- ## All sources

abbrev joined : PassResult → List (Bor (List ℕ)) → List ℕ
joined left sources = text_of (join_from left (texts_of (bytes_in sources)))

abbrev counted : PassResult → List (Bor (List ℕ)) → List ℕ
counted left sources = counts_from left (texts_of (bytes_in sources))

abbrev lines_split : ℕ → Bor (List ℕ) → List (Bor (List ℕ)) → List ℕ → ℕ → List ℕ → List Line
lines_split number source others counts k join = numbered_lines [] number (Some k) source.now ++ all_lines (limit (number + k)) others counts join

module _ (left : PassResult) (source next : Bor (List ℕ)) (others : List (Bor (List ℕ))) where
  abbrev own : List ℕ
  own = part left (text_of source.now)

  abbrev later : PassResult
  later = remainder_after left (text_of source.now)

  join_is : joined left (source ∷ next ∷ others) ≡ text_of own ++ joined later (next ∷ others)
  join_is = text_joined (join_from later (texts_of (bytes_in (next ∷ others)))) own

  join_feeds : feeds (joined left (source ∷ next ∷ others)) ≡ feeds own + feeds (joined later (next ∷ others))
  join_feeds = ap feeds join_is ∙ feeds_on (text_of own) (joined later (next ∷ others)) ∙ ap (λ n. n + feeds (joined later (next ∷ others))) (feeds_turned own)

  take_is : take (length own) (joined left (source ∷ next ∷ others)) ≡ text_of own
  take_is = ap (take (length own)) join_is ∙ ap (λ n. take n (text_of own ++ joined later (next ∷ others))) (sym (text_length own)) ∙ take_front (text_of own) (joined later (next ∷ others))

  drop_is : drop (length own) (joined left (source ∷ next ∷ others)) ≡ joined later (next ∷ others)
  drop_is = ap (drop (length own)) join_is ∙ ap (λ n. drop n (text_of own ++ joined later (next ∷ others))) (sym (text_length own)) ∙ drop_front (text_of own) (joined later (next ∷ others))

  read_is : next_line (text_of (take (length own) (joined left (source ∷ next ∷ others)))) - 1 ≡ feeds own
  read_is = ap (λ l. next_line (text_of l) - 1) take_is ∙ ap (λ l. next_line l - 1) (text_again own) ∙ ap (λ n. n - 1) (next_is own) ∙ omega arith

  split_is : (number : ℕ) (ws : List ListedWord) → words_left (all_lines number (source ∷ next ∷ others) (counted left (source ∷ next ∷ others)) (joined left (source ∷ next ∷ others))) ws
      ≡ words_left (all_lines (limit (number + feeds own)) (next ∷ others) (counted later (next ∷ others)) (joined later (next ∷ others)))
      (words_left (numbered_lines [] number (Some (feeds own)) source.now) ws)
  split_is number ws =
      ap (λ k. words_left (lines_split number source (next ∷ others) (counted later (next ∷ others)) k (drop (length own) (joined left (source ∷ next ∷ others)))) ws) read_is
      ∙ ap (λ l. words_left (lines_split number source (next ∷ others) (counted later (next ∷ others)) (feeds own) l) ws) drop_is
      ∙ left_on (numbered_lines [] number (Some (feeds own)) source.now) _ ws

more_lines : (number a b c : ℕ) → c ≡ a + b → limit (number + c) ≤ limit (limit (number + a) + b)
more_lines number a b c is = omega (arith, is)

-- after all lines of sources no word of theirs is left
pub covered : (left : PassResult) (source : Bor (List ℕ)) (others : List (Bor (List ℕ))) (number : ℕ) (ws : List ListedWord) → Rises number (word_lines ws)
    → AtMost (limit (number + feeds (joined left (source ∷ others)))) (word_lines ws)
    → words_left (all_lines number (source ∷ others) (counted left (source ∷ others)) (joined left (source ∷ others))) ws ≡ []
covered left source [] number ws p q =
    left_on (numbered_lines [] number None source.now) [] ws
    ∙ last_source source.now [] number ws p
    (subst (λ n. AtMost (limit (number + n)) (word_lines ws)) (feeds_turned (text_of source.now) ∙ feeds_turned source.now) q)
covered left source (next ∷ others) number ws p q =
    let own_feeds = feeds (part left (text_of source.now)) in
    let lines = numbered_lines [] number (Some own_feeds) source.now in
    split_is left source next others number ws
    ∙ covered (remainder_after left (text_of source.now)) next others (limit (number + own_feeds)) (words_left lines ws)
    (other_source source.now [] number own_feeds ws (subst (λ n. own_feeds ≤ n + 1) (feeds_turned source.now) (part_feeds left (text_of source.now))) p)
    (most_left lines _ ws (most_more (word_lines ws) _ _ (more_lines number own_feeds _ _ (join_feeds left source next others)) q))
