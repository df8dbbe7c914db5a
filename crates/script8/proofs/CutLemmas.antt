-- Lines that are counted from the beginning of a text.
use Rattle.std.proofs.Common.{◌≡◌, ◌<◌, ◌≤◌, ◌+◌, ◌-◌, zero, suc, arith, true≢false, ℕ, refl, sym, ◌∙◌, ap, inl, inr, Bool, true, false, if◌then◌else◌, Option, Some, None, List, [], ◌∷◌, ◌++◌, ◌≢◌, length, take, drop, get_or, add-one, ◌⊎◌}
use Rattle.std.specs.Prelude.{◌==◌}
use Rattle.std.proofs.lemmas.Bool.Decides.{eqb_tells}
use Rattle.std.proofs.lemmas.List.{drop_all, drop-drop, take-append-drop, length-drop, length-take-le}
use Rattle.script8.specs.Lines.{onto_first}
use Rattle.script8.specs.Items.{lines_of, onto_ended, ended_lines, text_of}
use Rattle.script8.specs.CutSteps.{with_line_end_after, with_line_end, Cuts, TooFew}

-- a byte before some bytes
abbrev pub onto : ℕ → Option (List ℕ) → Option (List ℕ)
onto b None = None
onto b (Some bs) = Some (b ∷ bs)

-- no further byte, where the line that is left may end so
abbrev pub last_of : Bool → Bool → ℕ → Option (List ℕ)
last_of true true zero = Some []
last_of true true (suc n) = None
last_of true false n = None
last_of false begun n = None

-- the bytes of so many lines at the prefix of a text, the first of which is begun or not
abbrev pub taken : Bool → Bool → ℕ → List ℕ → Option (List ℕ)
taken is_end begun zero bs = Some []
taken is_end begun (suc n) [] = last_of is_end begun n
taken is_end begun (suc n) (b ∷ bs) = if b == 10 then onto b (taken is_end false n bs) else onto b (taken is_end true (suc n) bs)

-- the number of some bytes after so many
abbrev pub size_from : ℕ → Option (List ℕ) → Option ℕ
size_from i None = None
size_from i (Some bs) = Some (i + length bs)

-- the lines of a text, the first of which is begun or not
abbrev pub lines_in : Bool → List ℕ → List (List ℕ)
lines_in begun [] = if begun then [] ∷ [] else []
lines_in begun (b ∷ bs) = if b == 10 then [] ∷ lines_in false bs else onto_first b (lines_in true bs)

onto_begun : (b : ℕ) (bs : List ℕ) → lines_in false bs ≡ lines_of bs → onto_first b (lines_in true bs) ≡ onto_first b (lines_of bs)
onto_begun b [] same = refl
onto_begun b (c ∷ cs) same = ap (onto_first b) same

-- the lines of a text of which none is begun
lines_same : (bs : List ℕ) → lines_in false bs ≡ lines_of bs
lines_same [] = refl
lines_same (b ∷ bs) = elim (eqb_tells b 10) [ inl is ↦ rw is.0 (ap (λ l. [] ∷ l) (lines_same bs)) | inr other ↦ rw other.0 (onto_begun b bs (lines_same bs)) ]

-- the lines of a text that goes on, the first of which is begun or not, begin with these
pub record Fronts (begun : Bool) (bs : List ℕ) (prefix : List (List ℕ)) (rest : List ℕ) : Type 0 where
  pub script : (more : List ℕ) → lines_in begun (bs ++ more) ≡ prefix ++ lines_of (rest ++ more)
  pub whole : (more : List ℕ) → ended_lines (bs ++ more) ≡ prefix ++ ended_lines (rest ++ more)

-- these are the bytes of so many lines
pub record Prefix (is_end begun : Bool) (n : ℕ) (bs xs : List ℕ) : Type 0 where
  pub rest : List ℕ
  pub prefix : List (List ℕ)
  pub parts : bs ≡ xs ++ rest
  pub size : length prefix ≡ n
  pub content : text_of prefix ≡ with_line_end_after begun xs
  pub script : lines_in begun bs ≡ prefix ++ lines_of rest
  pub on : is_end ≡ false → Fronts begun bs prefix rest

abbrev pub Few : Bool → Bool → ℕ → List ℕ → Type 0
Few true begun n bs = length (lines_in begun bs) < n
Few false begun n bs = length (ended_lines bs) < n

abbrev pub Met : Bool → Bool → ℕ → List ℕ → Option (List ℕ) → Type 0
Met is_end begun n bs None = Few is_end begun n bs
Met is_end begun n bs (Some xs) = Prefix is_end begun n bs xs

-- an LF ends a line
lf_met : (is_end begun : Bool) (n b : ℕ) (bs : List ℕ) (r : Option (List ℕ)) → (b == 10) ≡ true → b ≡ 10 → Met is_end false n bs r → Met is_end begun (suc n) (b ∷ bs) (onto b r)
lf_met true begun n b bs None is same few = rw is (omega (arith, few))
lf_met false begun n b bs None is same few = rw is (omega (arith, few))
lf_met is_end begun n b bs (Some xs) is same met = record {
  rest = met.rest;
  prefix = [] ∷ met.prefix;
  parts = ap (λ l. b ∷ l) met.parts;
  size = ap suc met.size;
  content = rw is (ap (λ l. 10 ∷ l) met.content ∙ ap (λ x. x ∷ with_line_end_after false xs) (sym same));
  script = rw is (ap (λ l. [] ∷ l) met.script);
  on = λ goes_on. record {
    script = λ more. rw is (ap (λ l. [] ∷ l) ((met.on goes_on).script more));
    whole = λ more. rw is (ap (λ l. [] ∷ l) ((met.on goes_on).whole more));
  };
}

onto_length : (b : ℕ) (bs : List ℕ) → length (onto_first b (lines_in true bs)) ≡ length (lines_in true bs)
onto_length b [] = refl
onto_length b (c ∷ cs) = elim (eqb_tells c 10) [ inl is ↦ rw is.0 refl | inr other ↦ rw other.0 (twice b c (lines_in true cs)) ]
  where
    twice : (b c : ℕ) (lines : List (List ℕ)) → length (onto_first b (onto_first c lines)) ≡ length (onto_first c lines)
    twice b c [] = refl
    twice b c (line ∷ lines) = refl

ended_length : (b : ℕ) (lines : List (List ℕ)) → length (onto_ended b lines) ≡ length lines
ended_length b [] = refl
ended_length b (line ∷ lines) = refl

none_some : (n : ℕ) → 0 ≡ suc n → ⊥
none_some n is = omega (arith, is)

-- any other byte stands in a line
in_some : (is_end begun : Bool) (n b : ℕ) (bs xs rest : List ℕ) (prefix : List (List ℕ)) → (b == 10) ≡ false → bs ≡ xs ++ rest → length prefix ≡ suc n → text_of prefix ≡ with_line_end_after true xs
    → lines_in true bs ≡ prefix ++ lines_of rest → (is_end ≡ false → Fronts true bs prefix rest) → Prefix is_end begun (suc n) (b ∷ bs) (b ∷ xs)
in_some is_end begun n b bs xs rest [] other parts size content script on = absurd (none_some n size)
in_some is_end begun n b bs xs rest (line ∷ lines) other parts size content script on = record {
  rest = rest;
  prefix = (b ∷ line) ∷ lines;
  parts = ap (λ l. b ∷ l) parts;
  size = size;
  content = rw other (ap (λ l. b ∷ l) content);
  script = rw other (ap (onto_first b) script);
  on = λ goes_on. record {
    script = λ more. rw other (ap (onto_first b) ((on goes_on).script more));
    whole = λ more. rw other (ap (onto_ended b) ((on goes_on).whole more));
  };
}

in_met : (is_end begun : Bool) (n b : ℕ) (bs : List ℕ) (r : Option (List ℕ)) → (b == 10) ≡ false → Met is_end true (suc n) bs r → Met is_end begun (suc n) (b ∷ bs) (onto b r)
in_met true begun n b bs None other few = rw other (rw (onto_length b bs) few)
in_met false begun n b bs None other few = rw other (rw (ended_length b (ended_lines bs)) few)
in_met is_end begun n b bs (Some xs) other met = in_some is_end begun n b bs xs met.rest met.prefix other met.parts met.size met.content met.script met.on

-- the bytes that are taken are those of so many lines, and where none are, the lines are too few
met_by : (is_end begun : Bool) (n : ℕ) (bs : List ℕ) → (n ≡ 0 → begun ≡ false) → Met is_end begun n bs (taken is_end begun n bs)
met_by is_end true zero bs fit = absurd (true≢false (fit refl))
met_by is_end false zero bs fit = record { rest = bs; prefix = []; parts = refl; size = refl; content = refl; script = lines_same bs; on = λ goes_on. record { script = λ more. lines_same (bs ++ more); whole = λ more. refl } }
met_by true true (suc zero) [] fit = record { rest = []; prefix = [] ∷ []; parts = refl; size = refl; content = refl; script = refl; on = λ goes_on. absurd (true≢false goes_on) }
met_by true true (suc (suc n)) [] fit = omega arith
met_by true false (suc n) [] fit = omega arith
met_by false begun (suc n) [] fit = omega arith
met_by is_end begun (suc n) (b ∷ bs) fit = elim (eqb_tells b 10) [
  | inl is ↦ rw is.0 (lf_met is_end begun n b bs (taken is_end false n bs) is.0 is.1 (met_by is_end false n bs (λ none. refl)))
  | inr other ↦ rw other.0 (in_met is_end begun n b bs (taken is_end true (suc n) bs) other.0 (met_by is_end true (suc n) bs (λ none. absurd (none_some n (sym none)))))
]

take_prefix : (xs rest : List ℕ) → take (length xs) (xs ++ rest) ≡ xs
take_prefix [] rest = refl
take_prefix (b ∷ xs) rest = ap (λ l. b ∷ l) (take_prefix xs rest)

drop_prefix : (xs rest : List ℕ) → drop (length xs) (xs ++ rest) ≡ rest
drop_prefix [] rest = refl
drop_prefix (b ∷ xs) rest = drop_prefix xs rest

prefix_within : (xs rest : List ℕ) → length xs ≤ length (xs ++ rest)
prefix_within [] rest = omega arith
prefix_within (b ∷ xs) rest = omega (arith, prefix_within xs rest)

cuts_by : (text : List ℕ) (is_end : Bool) (count bytes : ℕ) (xs : List ℕ) → bytes ≡ length xs → Prefix is_end false count text xs → Cuts text is_end count bytes
cuts_by text is_end count bytes xs is met = record {
  prefix = met.prefix;
  within = rw is (rw met.parts (prefix_within xs met.rest));
  size = met.size;
  content = met.content ∙ ap with_line_end (sym (ap (λ n. take n text) is ∙ ap (take (length xs)) met.parts ∙ take_prefix xs met.rest));
  script = sym (lines_same text) ∙ met.script ∙ ap (λ r. met.prefix ++ lines_of r) (sym following);
  on = λ goes_on. record {
    script = λ more. sym (lines_same (text ++ more)) ∙ (met.on goes_on).script more ∙ ap (λ r. met.prefix ++ lines_of (r ++ more)) (sym following);
    whole = λ more. (met.on goes_on).whole more ∙ ap (λ r. met.prefix ++ ended_lines (r ++ more)) (sym following);
  };
}
  where
    following : drop bytes text ≡ met.rest
    following = ap (λ n. drop n text) is ∙ ap (drop (length xs)) met.parts ∙ drop_prefix xs met.rest

-- the lines that were looked for are found, or are too few
abbrev CutBy : List ℕ → Bool → ℕ → Option ℕ → Type 0
CutBy text is_end count None = Few is_end false count text
CutBy text is_end count (Some bytes) = Cuts text is_end count bytes

cut_by : (text : List ℕ) (is_end : Bool) (count : ℕ) (r : Option (List ℕ)) → Met is_end false count text r → CutBy text is_end count (size_from 0 r)
cut_by text is_end count None few = few
cut_by text is_end count (Some xs) met = cuts_by text is_end count (0 + length xs) xs (omega arith) met

-- how many bytes so many lines have
counted : (text : List ℕ) (is_end : Bool) (count : ℕ) (size : Option ℕ) → size_from 0 (taken is_end false count text) ≡ size → CutBy text is_end count size
counted text is_end count size is = rw (sym is) (cut_by text is_end count (taken is_end false count text) (met_by is_end false count text (λ none. refl)))

-- a text whose last byte is an LF
pub is_ended : (text prefix : List ℕ) → text ≡ prefix ++ 10 ∷ [] → with_line_end text ≡ text
is_ended text prefix is = ap with_line_end is ∙ whole false prefix ∙ sym is
  where
    whole : (begun : Bool) (prefix : List ℕ) → with_line_end_after begun (prefix ++ 10 ∷ []) ≡ prefix ++ 10 ∷ []
    whole begun [] = refl
    whole begun (b ∷ bs) = elim (eqb_tells b 10) [ inl is ↦ rw is.0 (ap (λ l. b ∷ l) (whole false bs)) | inr other ↦ rw other.0 (ap (λ l. b ∷ l) (whole true bs)) ]

none_length : 0 < 0 → ⊥
none_length h = omega (arith, h)

open_end : (begun : Bool) (text : List ℕ) → (begun ≡ false → 0 < length text) → ((prefix : List ℕ) → text ≢ prefix ++ 10 ∷ []) → with_line_end_after begun text ≡ text ++ 10 ∷ []
open_end true [] some other = refl
open_end false [] some other = absurd (none_length (some refl))
open_end begun (b ∷ []) some other = elim (eqb_tells b 10) [ inl is ↦ absurd (other [] (ap (λ x. x ∷ []) is.1)) | inr is ↦ rw is.0 refl ]
open_end begun (b ∷ c ∷ cs) some other = elim (eqb_tells b 10) [
  | inl is ↦ rw is.0 (ap (λ l. b ∷ l) (open_end false (c ∷ cs) (λ none. omega arith) (λ prefix same. other (b ∷ prefix) (ap (λ l. b ∷ l) same))))
  | inr is ↦ rw is.0 (ap (λ l. b ∷ l) (open_end true (c ∷ cs) (λ none. omega arith) (λ prefix same. other (b ∷ prefix) (ap (λ l. b ∷ l) same))))
]

-- a text whose last byte is another
pub is_open : (text : List ℕ) → 0 < length text → ((prefix : List ℕ) → text ≢ prefix ++ 10 ∷ []) → with_line_end text ≡ text ++ 10 ∷ []
is_open text some other = open_end false text (λ none. some) other

size_onto : (i b : ℕ) (r : Option (List ℕ)) → size_from i (onto b r) ≡ size_from (suc i) r
size_onto i b None = refl
size_onto i b (Some xs) = ap Some (omega arith)

drop_at : (text : List ℕ) (i : ℕ) → i < length text → drop i text ≡ get_or text i 0 ∷ drop (suc i) text
drop_at [] i inside = absurd (no_place i inside)
  where
    no_place : (i : ℕ) → i < 0 → ⊥
    no_place i h = omega (arith, h)
drop_at (b ∷ bs) zero inside = refl
drop_at (b ∷ bs) (suc i) inside = drop_at bs i (omega (arith, inside))

-- an LF ends a line, and any other byte none
pub ends_more : (text : List ℕ) (i : ℕ) → i < length text → get_or text i 0 ≡ 10 → length (ended_lines (drop i text)) ≡ suc (length (ended_lines (drop (i + 1) text)))
ends_more text i inside same =
    ap (λ l. length (ended_lines l)) (drop_at text i inside) ∙ found ∙ ap (λ m. suc (length (ended_lines (drop m text)))) (sym (add-one i))
  where
    found : length (ended_lines (get_or text i 0 ∷ drop (suc i) text)) ≡ suc (length (ended_lines (drop (suc i) text)))
    found = elim (eqb_tells (get_or text i 0) 10) [ inl h ↦ rw h.0 refl | inr h ↦ absurd (h.1 same) ]

pub ends_same : (text : List ℕ) (i : ℕ) → i < length text → get_or text i 0 ≢ 10 → length (ended_lines (drop i text)) ≡ length (ended_lines (drop (i + 1) text))
ends_same text i inside other =
    ap (λ l. length (ended_lines l)) (drop_at text i inside) ∙ found ∙ ap (λ m. length (ended_lines (drop m text))) (sym (add-one i))
  where
    found : length (ended_lines (get_or text i 0 ∷ drop (suc i) text)) ≡ length (ended_lines (drop (suc i) text))
    found = elim (eqb_tells (get_or text i 0) 10) [ inl h ↦ absurd (other h.1) | inr h ↦ rw h.0 (ended_length (get_or text i 0) (ended_lines (drop (suc i) text))) ]

-- the ended lines of a text, and those of the text after it
pub ends_append : (a b : List ℕ) → length (ended_lines (a ++ b)) ≡ length (ended_lines a) + length (ended_lines b)
ends_append [] b = omega arith
ends_append (x ∷ a) b = elim (eqb_tells x 10) [
  | inl h ↦ rw h.0 (omega (arith, ends_append a b))
  | inr h ↦ rw h.0 (ended_length x (ended_lines (a ++ b)) ∙ ends_append a b ∙ ap (λ n. n + length (ended_lines b)) (sym (ended_length x (ended_lines a))))
]

-- after an LF a line is found
pub next_end : (is_end begun : Bool) (left less i : ℕ) (text : List ℕ) → i < length text → 0 < left → less ≡ left - 1 → get_or text i 0 ≡ 10
    → size_from i (taken is_end begun left (drop i text)) ≡ size_from (i + 1) (taken is_end false less (drop (i + 1) text))
next_end is_end begun zero less i text inside some is same = absurd (none_length some)
next_end is_end begun (suc n) less i text inside some is same =
    ap (λ l. size_from i (taken is_end begun (suc n) l)) (drop_at text i inside)
    ∙ found
    ∙ size_onto i (get_or text i 0) (taken is_end false n (drop (suc i) text))
    ∙ ap (λ m. size_from (suc i) (taken is_end false m (drop (suc i) text))) (sym fewer)
    ∙ ap (λ m. size_from m (taken is_end false less (drop m text))) (sym (add-one i))
  where
    fewer : less ≡ n
    fewer = omega (arith, is)

    found : size_from i (taken is_end begun (suc n) (get_or text i 0 ∷ drop (suc i) text)) ≡ size_from i (onto (get_or text i 0) (taken is_end false n (drop (suc i) text)))
    found = elim (eqb_tells (get_or text i 0) 10) [ inl h ↦ rw h.0 refl | inr h ↦ absurd (h.1 same) ]

-- after any other byte it is begun
pub next_byte : (is_end begun : Bool) (left i : ℕ) (text : List ℕ) → i < length text → 0 < left → get_or text i 0 ≢ 10
    → size_from i (taken is_end begun left (drop i text)) ≡ size_from (i + 1) (taken is_end true left (drop (i + 1) text))
next_byte is_end begun zero i text inside some other = absurd (none_length some)
next_byte is_end begun (suc n) i text inside some other =
    ap (λ l. size_from i (taken is_end begun (suc n) l)) (drop_at text i inside)
    ∙ found
    ∙ size_onto i (get_or text i 0) (taken is_end true (suc n) (drop (suc i) text))
    ∙ ap (λ m. size_from m (taken is_end true (suc n) (drop m text))) (sym (add-one i))
  where
    found : size_from i (taken is_end begun (suc n) (get_or text i 0 ∷ drop (suc i) text)) ≡ size_from i (onto (get_or text i 0) (taken is_end true (suc n) (drop (suc i) text)))
    found = elim (eqb_tells (get_or text i 0) 10) [ inl h ↦ absurd (other h.1) | inr h ↦ rw h.0 refl ]

-- after bytes that end fewer lines than are left, and before others, it doesn't matter whether a line is begun
after_block : (is_end begun : Bool) (left less i : ℕ) (block rest : List ℕ) → 0 < length rest → 0 < less → left ≡ less + length (ended_lines block)
    → size_from i (taken is_end begun left (block ++ rest)) ≡ size_from (i + length block) (taken is_end false less rest)
after_block is_end begun left less i [] [] some more is = absurd (none_length some)
after_block is_end begun left zero i [] (b ∷ rest) some more is = absurd (none_length more)
after_block is_end begun zero (suc n) i [] (b ∷ rest) some more is = absurd (none_some (n + 0) (is ∙ omega arith))
after_block is_end begun (suc m) (suc n) i [] (b ∷ rest) some more is =
    let same : m ≡ n = omega (arith, is) in
    let here : i ≡ i + 0 = omega arith in
    ap (λ k. size_from i (taken is_end false (suc k) (b ∷ rest))) same ∙ ap (λ k. size_from k (taken is_end false (suc n) (b ∷ rest))) here
after_block is_end begun zero less i (b ∷ block) rest some more is = absurd (none_left less (length (ended_lines (b ∷ block))) more is)
  where
    none_left : (k l : ℕ) → 0 < k → 0 ≡ k + l → ⊥
    none_left k l h e = omega (arith, h, e)
after_block is_end begun (suc n) less i (b ∷ block) rest some more is = elim (eqb_tells b 10) [
  | inl h ↦ rw h.0 (size_onto i b (taken is_end false n (block ++ rest))
      ∙ after_block is_end false n less (suc i) block rest some more (one_end h.0)
      ∙ ap (λ m. size_from m (taken is_end false less rest)) step)
  | inr h ↦ rw h.0 (size_onto i b (taken is_end true (suc n) (block ++ rest))
      ∙ after_block is_end true (suc n) less (suc i) block rest some more (no_end h.0)
      ∙ ap (λ m. size_from m (taken is_end false less rest)) step)
]
  where
    step : suc i + length block ≡ i + suc (length block)
    step = omega arith

    ends_by : Bool → ℕ
    ends_by true = suc (length (ended_lines block))
    ends_by false = length (onto_ended b (ended_lines block))

    counted_by : (c : Bool) → (b == 10) ≡ c → length (ended_lines (b ∷ block)) ≡ ends_by c
    counted_by true e = rw e refl
    counted_by false e = rw e refl

    one_end : (b == 10) ≡ true → n ≡ less + length (ended_lines block)
    one_end e = let h : suc n ≡ less + suc (length (ended_lines block)) = is ∙ ap (λ k. less + k) (counted_by true e) in omega (arith, h)

    no_end : (b == 10) ≡ false → suc n ≡ less + length (ended_lines block)
    no_end e = is ∙ ap (λ k. less + k) (counted_by false e ∙ ended_length b (ended_lines block))

block_before : (text block : List ℕ) (place n size : ℕ) → block ≡ take n (drop place text) → n ≡ size → drop place text ≡ block ++ drop (place + size) text
block_before text block place n size is same =
    sym (take-append-drop n (drop place text)) ∙ ap (λ prefix. prefix ++ drop n (drop place text)) (sym is)
    ∙ ap (λ rest. block ++ rest) (drop-drop n place text ∙ ap (λ k. drop (place + k) text) same)

-- a block that ends fewer lines than are left is passed
pub block_passed : (text block : List ℕ) (is_end : Bool) (left less place n size : ℕ) → block ≡ take n (drop place text) → n ≡ size → place + size < length text
    → 0 < less → left ≡ less + length (ended_lines block)
    → size_from place (taken is_end false left (drop place text)) ≡ size_from (place + size) (taken is_end false less (drop (place + size) text))
block_passed text block is_end left less place n size is same inside more ends =
    ap (λ l. size_from place (taken is_end false left l)) (block_before text block place n size is same)
    ∙ after_block is_end false left less place block (drop (place + size) text) some more ends
    ∙ ap (λ m. size_from (place + m) (taken is_end false less (drop (place + size) text))) long
  where
    some : 0 < length (drop (place + size) text)
    some = omega (arith, inside, length-drop (place + size) text)

    long : length block ≡ size
    long = ap length is ∙ length-take-le n (drop place text) (omega (arith, inside, same, length-drop place text)) ∙ same

pub block_ends : (text block : List ℕ) (place n size : ℕ) → block ≡ take n (drop place text) → n ≡ size
    → length (ended_lines (drop place text)) ≡ length (ended_lines block) + length (ended_lines (drop (place + size) text))
block_ends text block place n size is same = ap (λ l. length (ended_lines l)) (block_before text block place n size is same) ∙ ends_append block (drop (place + size) text)

-- all lines are found
pub all_found : (text : List ℕ) (is_end begun : Bool) (count left place end : ℕ) → size_from 0 (taken is_end false count text) ≡ size_from place (taken is_end begun left (drop place text)) → left ≡ 0 → end ≡ place → Cuts text is_end count end
all_found text is_end begun count left place end so_far none same =
    counted text is_end count (Some end) (so_far ∙ ap (λ n. size_from place (taken is_end begun n (drop place text))) none ∙ ap Some (omega (arith, same)))

at_end : (text : List ℕ) (is_end begun : Bool) (left place : ℕ) → length text ≤ place → size_from place (taken is_end begun left (drop place text)) ≡ size_from place (taken is_end begun left [])
at_end text is_end begun left place past = ap (λ l. size_from place (taken is_end begun left l)) (drop_all place text past)

-- the last line lacks its LF
pub last_found : (text : List ℕ) (is_end begun : Bool) (count left place end : ℕ) → size_from 0 (taken is_end false count text) ≡ size_from place (taken is_end begun left (drop place text)) → length text ≤ place
    → left ≡ 1 → begun ≡ true → is_end ≡ true → end ≡ place → Cuts text is_end count end
last_found text is_end begun count left place end so_far past one midst over same =
    counted text is_end count (Some end)
    (so_far ∙ at_end text is_end begun left place past ∙ ap (λ n. size_from place (taken is_end begun n [])) one
    ∙ ap (λ g. size_from place (taken is_end g 1 [])) midst ∙ ap (λ e. size_from place (taken e true 1 [])) over ∙ ap Some (omega (arith, same)))

-- lines are wanted yet
pub none_found : (text : List ℕ) (is_end begun : Bool) (count left place : ℕ) → size_from 0 (taken is_end false count text) ≡ size_from place (taken is_end begun left (drop place text)) → length text ≤ place
    → 0 < left → (1 < left) ⊎ (begun ≡ false) ⊎ (is_end ≡ false) → length (ended_lines text) + left ≡ count + length (ended_lines (drop place text)) → TooFew text is_end count left
none_found text is_end begun count left place so_far past some why ends =
    few is_end (counted text is_end count None (so_far ∙ at_end text is_end begun left place past ∙ ap (size_from place) (none is_end begun left some why)))
  where
    sum : length (ended_lines text) + left ≡ count
    sum = ends ∙ ap (λ l. count + length (ended_lines l)) (drop_all place text past) ∙ (omega arith)

    few : (is_end : Bool) → Few is_end false count text → TooFew text is_end count left
    few true h = (rw (sym (lines_same text)) h, some, omega (arith, sum))
    few false h = (some, sum)

    one_line : 1 < 1 → ⊥
    one_line h = omega (arith, h)

    none : (is_end begun : Bool) (left : ℕ) → 0 < left → (1 < left) ⊎ (begun ≡ false) ⊎ (is_end ≡ false) → taken is_end begun left [] ≡ None
    none is_end begun zero some why = absurd (none_length some)
    none true true (suc zero) some (inl h) = absurd (one_line h)
    none true true (suc zero) some (inr (inl h)) = absurd (true≢false h)
    none true true (suc zero) some (inr (inr h)) = absurd (true≢false h)
    none true true (suc (suc n)) some why = refl
    none true false (suc n) some why = refl
    none false begun (suc n) some why = refl

-- a text that isn't empty
pub some_text : (text : List ℕ) → false ≡ (length text == 0) → 0 < length text
some_text [] some = absurd (true≢false (sym some))
some_text (b ∷ bs) some = omega arith

-- the bytes of a line are some
pub some_line : (text prefix : List ℕ) (is_end : Bool) (bytes : ℕ) → Cuts text is_end 1 bytes → prefix ≡ take bytes text → 0 < length prefix
some_line text [] is_end bytes cuts is = absurd (no_text cuts.prefix cuts.size (cuts.content ∙ ap with_line_end (sym is)))
  where
    no_text : (prefix : List (List ℕ)) → length prefix ≡ 1 → text_of prefix ≡ [] → ⊥
    no_text [] size none = none_some 0 size
    no_text ([] ∷ lines) size none = none_some (length (text_of lines)) (sym (ap length none))
    no_text ((b ∷ bs) ∷ lines) size none = none_some (length (bs ++ 10 ∷ text_of lines)) (sym (ap length none))
some_line text (b ∷ bs) is_end bytes cuts is = omega arith
