-- Names that are shown come to their words.
use Rattle.std.proofs.Common.{◌≡◌, ℕ, ◌+◌, ◌%◌, ◌<◌, nat_eq, nat_lt, bit_and, bit_or, Bool, true, false, true≢false, ◌&&◌, ◌||◌, not, if◌then◌else◌, Option, Some, None, suc, length, List, [], ◌∷◌, refl, ap, sym, ◌∙◌, arith}
use Rattle.std.specs.Prelude.{codes}
use Rattle.std.specs.Int.Bits.{or_zero_l}
use Rattle.std.proofs.lemmas.Bool.Decides.{nat_tests}
use Rattle.pal_lex.specs.Runs.{name_number}
use Rattle.pal_lex.specs.Language.{is_reserved, operation_of}
use Rattle.pal_lex.specs.Grammar.{phrase_of_tokens, has_bad_number, parts, with_part, part_of, free_term}
use Rattle.pal_lex.specs.declared.pieces.Term as term
use Rattle.pal_lex.specs.declared.pieces.Term.TheVariants.{Name, Number, Here}
use Rattle.pal_lex.specs.declared.pieces.Kind.{Kind}
use Rattle.pal_lex.specs.declared.pieces.Kind.TheVariants.{Term, BadNumber, Blank, Plus, Minus, Equals, Comma, Star}
use Rattle.pal_lex.specs.declared.pieces.Token.{Token}
use Rattle.pal_lex.specs.declared.phrases.Joint.TheVariants.{Add, Or}
use Rattle.pal_lex.specs.declared.phrases.Operation.{Operation}
use Rattle.pal_lex.specs.declared.phrases.Part.{Part}
use Rattle.pal_lex.specs.declared.phrases.Body.TheVariants.{Word}
use Rattle.pal_sym.specs.Permanent.{permanent}
use Rattle.pal_asm.specs.Expressions.{Meanings, term_value, joined_values, value_after}
use Rattle.pal_asm.specs.Faults.{first_of, fault_of_name, term_fault, terms_fault}
use Rattle.tape_source.specs.Patterns.{Pattern, patterns, patterns_of, or_after, shown_name, names}
use Rattle.tape_source.specs.Statements.{is_named}
use Rattle.tape_source.specs.Looks.{Look}
use Rattle.tape_source.specs.References.{is_reference}
use Rattle.tape_source.proofs.ByteLemmas.{both}
use Rattle.tape_source.proofs.PieceLemmas.{kind_of, run_token, blank_token, tokens_at, is_run, are_runs}
use Rattle.tape_source.proofs.GrammarLemmas.{Say, with_kind}
use Rattle.tape_source.proofs.StepLemmas.{Keeps, IsWordOf}
use Rattle.tape_source.proofs.SourceLemmas.{IsShown}

-- ## Each name of the table has its value

abbrev has_value : Option ℕ → ℕ → Bool
has_value None value = false
has_value (Some v) value = nat_eq v value

abbrev is_none : Option Operation → Bool
is_none None = true
is_none (Some op) = false

abbrev fits_kind : Kind → ℕ → Bool
fits_kind (Term (Name n)) value = has_value (permanent n) value && (not (is_reserved n) && is_none (operation_of n))
fits_kind (Term (Number w)) value = nat_eq w value
fits_kind (Term Here) value = false
fits_kind BadNumber value = false
fits_kind Blank value = false
fits_kind Plus value = false
fits_kind Minus value = false
fits_kind Equals value = false
fits_kind Comma value = false
fits_kind Star value = false

abbrev fits : Pattern → Bool
fits p = is_run (shown_name p.2) && (nat_lt p.3 4096 && fits_kind (kind_of (shown_name p.2)) p.3)

abbrev all_fit : List Pattern → Bool
all_fit [] = true
all_fit (p ∷ others) = fits p && all_fit others

table_fits : all_fit patterns ≡ true
unfolding permanent patterns
table_fits = refl

chosen_fit : (word : ℕ) (list : List Pattern) → all_fit list ≡ true → all_fit (patterns_of word list) ≡ true
chosen_fit word [] e = refl
chosen_fit word (p ∷ others) e =
    let rest = both (fits p) (all_fit others) e in
    one (nat_eq (bit_and word p.0) p.1) p (patterns_of word others) rest.0 (chosen_fit word others rest.1)
  where
    one : (b : Bool) (p : Pattern) (others : List Pattern) → fits p ≡ true → all_fit others ≡ true → all_fit (if b then p ∷ others else others) ≡ true
    one true p others e f = rw (e, f) refl
    one false p others e f = f

-- ## What a name is

abbrev the_term : Kind → term.Term
the_term (Term t) = t
the_term BadNumber = Here
the_term Blank = Here
the_term Plus = Here
the_term Minus = Here
the_term Equals = Here
the_term Comma = Here
the_term Star = Here

-- a term that stands for a value at every place, and is no word of the language
record IsTerm (kind : Kind) (t : term.Term) (value : ℕ) : Type 0 where
  kind_is : kind ≡ Term t
  free : free_term t ≡ Some t
  value_is : (known : Meanings) → Keeps known → (place : ℕ) → term_value known place t ≡ Some value
  no_fault : (known : Meanings) → Keeps known → (place : ℕ) → term_fault known place t ≡ None
  lone : (start end : ℕ) → phrase_of_tokens (record { kind = Term t; start = start; end = end } ∷ []) ≡ Some record { tags = []; body = Word (record { joint = Add; term = t } ∷ []) }
  first : (start end blank stop : ℕ) (next : Token) (others : List Token) (following : List Part)
      → parts true (record { kind = Blank; start = blank; end = stop } ∷ next ∷ others) ≡ Some following
      → phrase_of_tokens (record { kind = Term t; start = start; end = end } ∷ record { kind = Blank; start = blank; end = stop } ∷ next ∷ others)
      ≡ Some record { tags = []; body = Word (record { joint = Add; term = t } ∷ following) }

equal : (a b : ℕ) → nat_eq a b ≡ true → a ≡ b
equal a b e = grind (arith, nat_tests)

number_term : (w value : ℕ) → nat_eq w value ≡ true → IsTerm (Term (Number w)) (Number w) value
number_term w value e = record {
  kind_is = refl;
  free = refl;
  value_is = λ known keeps place. ap (λ n. Some n) (equal w value e);
  no_fault = λ known keeps place. refl;
  lone = λ start end. refl;
  first = λ start end blank stop next others following is. rw is refl;
}

value_there : (o : Option ℕ) (value : ℕ) → has_value o value ≡ true → o ≡ Some value
value_there None value e = absurd (cc e)
value_there (Some v) value e = ap (λ n. Some n) (equal v value e)

none_there : (o : Option Operation) → is_none o ≡ true → o ≡ None
none_there None e = refl
none_there (Some op) e = absurd (cc e)

not_true : (b : Bool) → not b ≡ true → b ≡ false
not_true true e = absurd (cc e)
not_true false e = refl

-- the reserved names, one by one
pub record IsFree (n : ℕ) : Type 0 where
  pub reserved : is_reserved n ≡ false
  pub decimal : nat_eq n (name_number (codes "DECIMA")) ≡ false
  pub octal : nat_eq n (name_number (codes "OCTAL")) ≡ false
  pub field : nat_eq n (name_number (codes "FIELD")) ≡ false

pub free_name : (n : ℕ) → is_reserved n ≡ false → IsFree n
free_name n e =
    let six = six_no (nat_eq n (name_number (codes "DECIMA"))) (nat_eq n (name_number (codes "OCTAL"))) (nat_eq n (name_number (codes "FIELD")))
    (nat_eq n (name_number (codes "PAUSE"))) (nat_eq n (name_number (codes "I"))) (nat_eq n (name_number (codes "Z"))) e in
    record { reserved = e; decimal = six.0; octal = six.1; field = six.2 }
  where
    six_no : (a b c d e f : Bool) → (a || b || c || d || e || f) ≡ false → (a ≡ false) × (b ≡ false) × (c ≡ false)
    six_no false false false d e f h = (refl, refl, refl)
    six_no true b c d e f h = absurd (cc h)
    six_no false true c d e f h = absurd (cc h)
    six_no false false true d e f h = absurd (cc h)

-- a name alone is a word
pub lone_name : (n start end : ℕ) → IsFree n → operation_of n ≡ None
    → phrase_of_tokens (record { kind = Term (Name n); start = start; end = end } ∷ []) ≡ Some record { tags = []; body = Word (record { joint = Add; term = Name n } ∷ []) }
lone_name n start end free plain = rw (free.decimal, free.octal, plain, free.reserved) refl

name_term : (n value : ℕ) → permanent n ≡ Some value → IsFree n → operation_of n ≡ None → IsTerm (Term (Name n)) (Name n) value
name_term n value is free plain = record {
  kind_is = refl;
  free = rw free.reserved refl;
  value_is = λ known keeps place. keeps n value is;
  no_fault = λ known keeps place. ap fault_of_name (keeps n value is);
  lone = λ start end. lone_name n start end free plain;
  first = λ start end blank stop next others following e. rw (free.field, plain, free.reserved, e) refl;
}

term_there : (kind : Kind) (value : ℕ) → fits_kind kind value ≡ true → IsTerm kind (the_term kind) value
term_there (Term (Name n)) value e =
    let a = both (has_value (permanent n) value) (not (is_reserved n) && is_none (operation_of n)) e in
    let b = both (not (is_reserved n)) (is_none (operation_of n)) a.1 in
    name_term n value (value_there (permanent n) value a.0) (free_name n (not_true (is_reserved n) b.0)) (none_there (operation_of n) b.1)
term_there (Term (Number w)) value e = number_term w value e
term_there (Term Here) value e = absurd (cc e)
term_there BadNumber value e = absurd (cc e)
term_there Blank value e = absurd (cc e)
term_there Plus value e = absurd (cc e)
term_there Minus value e = absurd (cc e)
term_there Equals value e = absurd (cc e)
term_there Comma value e = absurd (cc e)
term_there Star value e = absurd (cc e)

-- what a pattern of the table is
record IsFine (p : Pattern) : Type 0 where
  run : is_run (shown_name p.2) ≡ true
  small : p.3 < 4096
  is_term : IsTerm (kind_of (shown_name p.2)) (the_term (kind_of (shown_name p.2))) p.3

fine : (p : Pattern) → fits p ≡ true → IsFine p
fine p e =
    let a = both (is_run (shown_name p.2)) (nat_lt p.3 4096 && fits_kind (kind_of (shown_name p.2)) p.3) e in
    let b = both (nat_lt p.3 4096) (fits_kind (kind_of (shown_name p.2)) p.3) a.1 in
    record { run = a.0; small = below p.3 b.0; is_term = term_there (kind_of (shown_name p.2)) p.3 b.1 }
  where
    below : (n : ℕ) → nat_lt n 4096 ≡ true → n < 4096
    below n e = grind (arith, nat_tests)

-- ## Names joined by blanks

abbrev or_parts : List Pattern → List Part
or_parts [] = []
or_parts (p ∷ others) = record { joint = Or; term = the_term (kind_of (shown_name p.2)) } ∷ or_parts others

-- what names joined to others say, and come to
record AreJoined (before : ℕ) (blank stop at : ℕ) (p : Pattern) (others : List Pattern) : Type 0 where
  fine_tokens : has_bad_number (tokens_at at (names (p ∷ others))) ≡ false
  parts_are : parts true (record { kind = Blank; start = blank; end = stop } ∷ tokens_at at (names (p ∷ others))) ≡ Some (or_parts (p ∷ others))
  value_is : (known : Meanings) → Keeps known → (place : ℕ) → value_after known place (Some before) (or_parts (p ∷ others)) ≡ Some (or_after before (p ∷ others))
  no_fault : (known : Meanings) → Keeps known → (place : ℕ) → terms_fault known place (or_parts (p ∷ others)) ≡ None

joined_names : (before blank stop at : ℕ) (p : Pattern) (others : List Pattern) → all_fit (p ∷ others) ≡ true → AreJoined before blank stop at p others
joined_names before blank stop at p [] e =
    let here = fine p (both (fits p) true e).0 in
    let t = run_token at (shown_name p.2) in
    let is = here.is_term in
    record {
      fine_tokens = ap (λ k. has_bad_number (with_kind t k ∷ [])) is.kind_is;
      parts_are =
          ap (λ k. parts true (record { kind = Blank; start = blank; end = stop } ∷ with_kind t k ∷ [])) is.kind_is
          ∙ ap (λ o. with_part (part_of (Some Or) o) (Some [])) is.free;
      value_is = λ known keeps place. ap (joined_values Or (Some before)) (is.value_is known keeps place);
      no_fault = λ known keeps place. ap (λ f. first_of f None) (is.no_fault known keeps place);
    }
joined_names before blank stop at p (q ∷ others) e =
    let split = both (fits p) (all_fit (q ∷ others)) e in
    let here = fine p split.0 in
    let t = run_token at (shown_name p.2) in
    let is = here.is_term in
    let end = at + length (shown_name p.2) in
    let rest = joined_names (bit_or before p.3) (blank_token end).start (blank_token end).end (suc end) q others split.1 in
    let following = tokens_at (suc end) (names (q ∷ others)) in
    record {
      fine_tokens = ap (λ k. has_bad_number (with_kind t k ∷ blank_token end ∷ following)) is.kind_is ∙ rest.fine_tokens;
      parts_are =
          ap (λ k. parts true (record { kind = Blank; start = blank; end = stop } ∷ with_kind t k ∷ blank_token end ∷ following)) is.kind_is
          ∙ ap (λ o. with_part (part_of (Some Or) o) (parts true (blank_token end ∷ following))) is.free
          ∙ ap (with_part (Some record { joint = Or; term = the_term (kind_of (shown_name p.2)) })) rest.parts_are;
      value_is = λ known keeps place.
          ap (λ v. value_after known place (joined_values Or (Some before) v) (or_parts (q ∷ others))) (is.value_is known keeps place) ∙ rest.value_is known keeps place;
      no_fault = λ known keeps place.
          ap (λ f. first_of f (terms_fault known place (or_parts (q ∷ others)))) (is.no_fault known keeps place) ∙ rest.no_fault known keeps place;
    }

-- ## A statement of names

small_or : (a : ℕ) → a < 4096 → (0 + a) % 4096 ≡ bit_or 0 a
small_or a small = small_mod a small ∙ sym (or_zero_l a)
  where
    small_mod : (a : ℕ) → a < 4096 → (0 + a) % 4096 ≡ a
    small_mod a small = omega arith

runs_of : (list : List Pattern) → all_fit list ≡ true → are_runs (names list) ≡ true
runs_of [] e = refl
runs_of (p ∷ others) e =
    let split = both (fits p) (all_fit others) e in
    let here = fine p split.0 in
    rw (here.run, runs_of others split.1) refl

abbrev all_parts : Pattern → List Pattern → List Part
all_parts p others = record { joint = Add; term = the_term (kind_of (shown_name p.2)) } ∷ or_parts others

names_say : (p : Pattern) (others : List Pattern) (at : ℕ) → all_fit (p ∷ others) ≡ true → Say (tokens_at at (names (p ∷ others))) [] (Word (all_parts p others))
names_say p [] at e =
    let here = fine p (both (fits p) true e).0 in
    let is = here.is_term in
    let t = run_token at (shown_name p.2) in
    record {
      fine = ap (λ k. has_bad_number (with_kind t k ∷ [])) is.kind_is;
      said_is = ap (λ k. phrase_of_tokens (with_kind t k ∷ [])) is.kind_is ∙ is.lone t.start t.end;
    }
names_say p (q ∷ []) at e =
    let split = both (fits p) (all_fit (q ∷ [])) e in
    let here = fine p split.0 in
    let is = here.is_term in
    let t = run_token at (shown_name p.2) in
    let end = at + length (shown_name p.2) in
    let blank = blank_token end in
    let rest = joined_names 0 blank.start blank.end (suc end) q [] split.1 in
    record {
      fine = ap (λ k. has_bad_number (with_kind t k ∷ blank ∷ tokens_at (suc end) ((shown_name q.2) ∷ []))) is.kind_is ∙ rest.fine_tokens;
      said_is =
          ap (λ k. phrase_of_tokens (with_kind t k ∷ blank ∷ tokens_at (suc end) ((shown_name q.2) ∷ []))) is.kind_is
          ∙ is.first t.start t.end blank.start blank.end (run_token (suc end) (shown_name q.2)) [] (or_parts (q ∷ [])) rest.parts_are;
    }
names_say p (q ∷ r ∷ others) at e =
    let split = both (fits p) (all_fit (q ∷ r ∷ others)) e in
    let here = fine p split.0 in
    let is = here.is_term in
    let t = run_token at (shown_name p.2) in
    let end = at + length (shown_name p.2) in
    let blank = blank_token end in
    let rest = joined_names 0 blank.start blank.end (suc end) q (r ∷ others) split.1 in
    let next = suc end + length (shown_name q.2) in
    record {
      fine = ap (λ k. has_bad_number (with_kind t k ∷ blank ∷ tokens_at (suc end) (names (q ∷ r ∷ others)))) is.kind_is ∙ rest.fine_tokens;
      said_is =
          ap (λ k. phrase_of_tokens (with_kind t k ∷ blank ∷ tokens_at (suc end) (names (q ∷ r ∷ others)))) is.kind_is
          ∙ is.first t.start t.end blank.start blank.end (run_token (suc end) (shown_name q.2)) (blank_token next ∷ tokens_at (suc next) (names (r ∷ others))) (or_parts (q ∷ r ∷ others)) rest.parts_are;
    }

names_word : (look : Look) (tagged : ℕ → Bool) (p : Pattern) (others : List Pattern) (word place : ℕ) → all_fit (p ∷ others) ≡ true → or_after 0 (p ∷ others) ≡ word
    → IsWordOf look tagged (Word (all_parts p others)) place word
names_word look tagged p [] word place e comes =
    let here = fine p (both (fits p) true e).0 in
    let is = here.is_term in
    record {
      is_word = refl;
      value = λ known knows. ap (joined_values Add (Some 0)) (is.value_is known knows.keeps place) ∙ ap (λ n. Some n) (small_or p.3 here.small ∙ comes);
      no_fault = λ known knows. ap (λ f. first_of f None) (is.no_fault known knows.keeps place);
    }
names_word look tagged p (q ∷ others) word place e comes =
    let split = both (fits p) (all_fit (q ∷ others)) e in
    let here = fine p split.0 in
    let is = here.is_term in
    let rest = joined_names (bit_or 0 p.3) 0 0 0 q others split.1 in
    record {
      is_word = refl;
      value = λ known knows.
          ap (λ v. value_after known place (joined_values Add (Some 0) v) (or_parts (q ∷ others))) (is.value_is known knows.keeps place)
          ∙ ap (λ n. value_after known place (Some n) (or_parts (q ∷ others))) (small_or p.3 here.small)
          ∙ rest.value_is known knows.keeps place
          ∙ ap (λ n. Some n) comes;
      no_fault = λ known knows.
          ap (λ f. first_of f (terms_fault known place (or_parts (q ∷ others)))) (is.no_fault known knows.keeps place) ∙ rest.no_fault known knows.keeps place;
    }

named : (look : Look) (tagged : ℕ → Bool) (cell word : ℕ) (list : List Pattern) → all_fit list ≡ true → or_after 0 list ≡ word → 0 < word → look.is_code cell ≡ true → is_reference (cell % 4096) word ≡ false
    → IsShown look tagged cell word (names list)
named look tagged cell word [] e comes some code apart = absurd (omega (arith, comes, some))
named look tagged cell word (p ∷ others) e comes some code apart = record {
  first = (shown_name p.2);
  others = names others;
  some = refl;
  runs = runs_of (p ∷ others) e;
  body = Word (all_parts p others);
  says = λ at. names_say p others at e;
  means = names_word look tagged p others word (cell % 4096) e comes;
  names = record { reference = λ c r g. absurd (true≢false (sym r ∙ apart)); datum = λ d n g. absurd (true≢false (sym code ∙ d)) };
}

pub shown_names : (look : Look) (tagged : ℕ → Bool) (cell word : ℕ) → look.is_code cell ≡ true → is_reference (cell % 4096) word ≡ false → is_named word ≡ true → IsShown look tagged cell word (names (patterns_of word patterns))
shown_names look tagged cell word code apart shown =
    let split = both (nat_lt 0o5777 word) (nat_eq (or_after 0 (patterns_of word patterns)) word) shown in
    named look tagged cell word (patterns_of word patterns) (chosen_fit word patterns table_fits) (equal (or_after 0 (patterns_of word patterns)) word split.1) (some word split.0) code apart
  where
    some : (n : ℕ) → nat_lt 0o5777 n ≡ true → 0 < n
    some n e = grind (arith, nat_tests)
