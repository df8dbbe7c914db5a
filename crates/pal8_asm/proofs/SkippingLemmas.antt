-- Why statements that aren't selected are nothing.
use Rattle.std.proofs.Common.{◌≡◌, ℕ, ◌-◌, ◌*◌, suc, Bool, true, false, ◌&&◌, ◌||◌, not, if◌then◌else◌, is_some, Option, Some, None, Result, Ok, Err, length, take, drop, List, [], ◌∷◌, refl, sym, ap, ◌∙◌, arith}
use Rattle.pal8_lex.specs.Kinds.{is_comma}
use Rattle.pal8_lex.specs.Judging.{has_bad, has_bad_number, is_bad, is_bad_number, tag_count}
use Rattle.pal8_lex.specs.declared.tokens.Token.{Token}
use Rattle.pal8_lex.specs.declared.rules.End.{End}
use Rattle.pal8_lex.specs.declared.rules.End.TheVariants as end
use Rattle.pal8_lex.specs.declared.judging.Radix.{Radix}
use Rattle.pal8_grammar.specs.SourceNames.{Vocabulary, vocabulary_of}
use Rattle.pal8_grammar.specs.Bodies.{Phrase, body_in, body_phrase, free_name, has_free_tags, is_condition, number_tokens, names_file, phrase_by_names, phrase_or_fault, tags_in}
use Rattle.pal8_grammar.specs.declared.bodies.Body.{Body}
use Rattle.pal8_grammar.specs.declared.bodies.Body.TheVariants as body
use Rattle.pal8_grammar.specs.declared.steps.Step.{Step}
use Rattle.pal8_grammar.specs.declared.faults.GrammarFault.{GrammarFault}
use Rattle.pal8_grammar.specs.declared.faults.GrammarFault.TheVariants.{IC, NU, SY}
use Rattle.pal8_places.specs.Places.{Standing, spot_at, truth_of, with_body, with_body_if, with_statement, with_tag_if, with_tags}
use Rattle.pal8_asm.specs.Sources.{Entry, Remainder, PassResult, Source, Statement, brackets_with, defined_name, end_of_pass, open_value, pass_over, place_of, phrase_of, statements, with_brackets, with_end, with_entries, with_late_by, with_late_entry, with_next, with_phrase, with_said, with_selected, with_skipped, words_in}
use Rattle.pal8_places.specs.Brackets.{is_selected}
use Rattle.pal8_values.specs.Sums.{Meanings}
use Rattle.pal8_asm.specs.Laws.{SkippedIsNothing, plain, plain_by, plain_end, plain_statement}
use Rattle.pal8_asm.specs.declared.faults.Place.{Place}
use Rattle.pal8_places.specs.declared.faults.Code.{Code}
use Rattle.pal8_places.specs.declared.options.Options.{Options}

-- ## Tags

-- the tags, one pair after the other
abbrev front : List Token → List Token
front [] = []
front (t ∷ []) = []
front (t ∷ next ∷ others) = if is_comma next.kind then t ∷ next ∷ front others else []

double : (n : ℕ) → 2 * suc n ≡ suc (suc (2 * n))
double n = omega arith

tags_are : (tokens : List Token) → tags_in tokens ≡ front tokens
tags_are [] = refl
tags_are (t ∷ []) = refl
tags_are (t ∷ next ∷ others) = by_comma (is_comma next.kind) (tags_are others)
  where
    by_comma : (test : Bool) → tags_in others ≡ front others
        → take (2 * (if test then suc (tag_count others) else 0)) (t ∷ next ∷ others) ≡ (if test then t ∷ next ∷ front others else [])
    by_comma true is = ap (λ n. take n (t ∷ next ∷ others)) (double (tag_count others)) ∙ ap (λ l. t ∷ next ∷ l) is
    by_comma false is = refl

none_after : (tokens : List Token) → body_in (front tokens) ≡ []
none_after [] = refl
none_after (t ∷ []) = refl
none_after (t ∷ next ∷ others) = by_comma (is_comma next.kind) refl (none_after others)
  where
    by_comma : (test : Bool) → is_comma next.kind ≡ test → body_in (front others) ≡ [] → body_in (if test then t ∷ next ∷ front others else []) ≡ []
    by_comma true comma is =
        ap (λ test. drop (2 * (if test then suc (tag_count (front others)) else 0)) (t ∷ next ∷ front others)) comma
        ∙ ap (λ n. drop n (t ∷ next ∷ front others)) (double (tag_count (front others))) ∙ is
    by_comma false comma is = refl

same_tags : (tokens : List Token) (x : Result Standing Code) → with_tags (front tokens) x ≡ with_tags tokens x
same_tags [] x = refl
same_tags (t ∷ []) x = refl
same_tags (t ∷ next ∷ others) x = by_comma (is_comma next.kind) refl (same_tags others (with_tag_if (free_name t.kind) x))
  where
    by_comma : (test : Bool) → is_comma next.kind ≡ test
        → with_tags (front others) (with_tag_if (free_name t.kind) x) ≡ with_tags others (with_tag_if (free_name t.kind) x)
        → with_tags (if test then t ∷ next ∷ front others else []) x ≡ (if test then with_tags others (with_tag_if (free_name t.kind) x) else x)
    by_comma true comma is = ap (λ test. if test then with_tags (front others) (with_tag_if (free_name t.kind) x) else x) comma ∙ is
    by_comma false comma is = refl

same_free : (tokens : List Token) → has_free_tags tokens ≡ true → has_free_tags (front tokens) ≡ true
same_free [] free = refl
same_free (t ∷ []) free = refl
same_free (t ∷ next ∷ others) free = by_comma (is_comma next.kind) refl (same_free others) free
  where
    both : (one two other : Bool) → (two ≡ true → other ≡ true) → (one && two) ≡ true → (one && other) ≡ true
    both true two other goes is = goes is
    both false two other goes is = is

    by_comma : (test : Bool) → is_comma next.kind ≡ test → (has_free_tags others ≡ true → has_free_tags (front others) ≡ true)
        → (if test then is_some (free_name t.kind) && has_free_tags others else true) ≡ true → has_free_tags (if test then t ∷ next ∷ front others else []) ≡ true
    by_comma true comma goes free =
        ap (λ test. if test then is_some (free_name t.kind) && has_free_tags (front others) else true) comma
        ∙ both (is_some (free_name t.kind)) (has_free_tags others) (has_free_tags (front others)) goes free
    by_comma false comma goes free = refl

or_first : (one two : Bool) → (one || two) ≡ false → one ≡ false
or_first false two is = refl
or_first true two is = is

or_second : (one two : Bool) → (one || two) ≡ false → two ≡ false
or_second false two is = is
or_second true two is = absurd cc

or_none : (one two : Bool) → one ≡ false → two ≡ false → (one || two) ≡ false
or_none false two first second = second
or_none true two first second = first

-- what no token is, no tag is
none_in_front : (f : Token → Bool) (has : List Token → Bool) → has [] ≡ false → ((t : Token) (l : List Token) → has (t ∷ l) ≡ (f t || has l))
    → (tokens : List Token) → has tokens ≡ false → has (front tokens) ≡ false
none_in_front f has empty more [] none = empty
none_in_front f has empty more (t ∷ []) none = empty
none_in_front f has empty more (t ∷ next ∷ others) none =
    by_comma (is_comma next.kind) (none_in_front f has empty more others (or_second (f next) (has others) (or_second (f t) (f next || has others) two)))
  where
    two : (f t || (f next || has others)) ≡ false
    two = sym (more t (next ∷ others) ∙ ap (λ b. f t || b) (more next others)) ∙ none

    by_comma : (test : Bool) → has (front others) ≡ false → has (if test then t ∷ next ∷ front others else []) ≡ false
    by_comma true is =
        more t (next ∷ front others) ∙ ap (λ b. f t || b) (more next (front others))
        ∙ or_none (f t) (f next || has (front others)) (or_first (f t) (f next || has others) two)
        (or_none (f next) (has (front others)) (or_first (f next) (has others) (or_second (f t) (f next || has others) two)) is)
    by_comma false is = empty

-- ## A condition

-- what a condition says that has no fault
record IsSaid (bad number other : Bool) (phrase : Phrase) : Type 0 where
  pub no_bad : bad ≡ false
  pub no_number : number ≡ false
  pub no_other : other ≡ false
  pub is_one : is_condition phrase.0 ≡ true

abbrev said_or : Phrase → Result Phrase GrammarFault → Phrase
said_or other (Err fault) = other
said_or other (Ok phrase) = phrase

is_said : (bad number other : Bool) (o : Option Phrase) (phrase : Phrase)
    → (if bad then Err IC else (if number then Err NU else (if other then Err SY else phrase_or_fault end.Open o))) ≡ Ok phrase → IsSaid bad number other phrase
is_said true number other o phrase is = absurd cc
is_said false true other o phrase is = absurd cc
is_said false false true o phrase is = absurd cc
is_said false false false None phrase is = absurd cc
is_said false false false (Some it) phrase is = by_test (is_condition it.0) refl is
  where
    by_test : (test : Bool) → is_condition it.0 ≡ test → (if (if test then true else false) then Ok it else Err SY) ≡ Ok phrase → IsSaid false false false phrase
    by_test true one is = record { no_bad = refl; no_number = refl; no_other = refl; is_one = sym (ap (λ r. is_condition (said_or phrase r).0) is) ∙ one }
    by_test false one is = absurd cc

condition_said : (names : Vocabulary) (radix : Radix) (tokens : List Token) (is_cut : Bool) (phrase : Phrase) → phrase_by_names names radix tokens is_cut end.Open ≡ Ok phrase → is_condition phrase.0 ≡ true
condition_said names radix tokens is_cut phrase is =
    (is_said (has_bad tokens) (has_bad_number radix (number_tokens tokens)) (is_cut || not (has_free_tags tokens)) (body_phrase names radix (body_in tokens)) phrase is).is_one

-- the tags alone say nothing
tags_say_nothing : (names : Vocabulary) (radix : Radix) (tokens : List Token) (is_cut : Bool) (phrase : Phrase) → phrase_by_names names radix tokens is_cut end.Open ≡ Ok phrase
    → phrase_by_names names radix (front tokens) is_cut end.Semicolon ≡ Ok (body.Nothing, [])
tags_say_nothing names radix tokens is_cut phrase is =
    ap (λ test. if test then Err IC else (if has_bad_number radix (number_tokens (front tokens)) then Err NU
    else (if is_cut || not (has_free_tags (front tokens)) then Err SY else phrase_or_fault end.Semicolon (body_phrase names radix (body_in (front tokens))))))
    (none_in_front (λ t. is_bad t.kind) has_bad refl (λ t l. refl) tokens said.no_bad)
    ∙ ap (λ test. if test then Err NU
    else (if is_cut || not (has_free_tags (front tokens)) then Err SY else phrase_or_fault end.Semicolon (body_phrase names radix (body_in (front tokens))))) no_number
    ∙ ap (λ test. if test then Err SY else phrase_or_fault end.Semicolon (body_phrase names radix (body_in (front tokens)))) no_other
    ∙ ap (λ l. phrase_or_fault end.Semicolon (body_phrase names radix l)) (none_after tokens)
  where
    said : IsSaid (has_bad tokens) (has_bad_number radix (number_tokens tokens)) (is_cut || not (has_free_tags tokens)) phrase
    said = is_said (has_bad tokens) (has_bad_number radix (number_tokens tokens)) (is_cut || not (has_free_tags tokens)) (body_phrase names radix (body_in tokens)) phrase is

    by_names : (test : Bool) → has_bad_number radix (if test then tags_in tokens else tokens) ≡ false → has_bad_number radix (front tokens) ≡ false
    by_names true none = ap (has_bad_number radix) (sym (tags_are tokens)) ∙ none
    by_names false none = none_in_front (λ t. is_bad_number radix t.kind) (has_bad_number radix) refl (λ t l. refl) tokens none

    no_number : has_bad_number radix (number_tokens (front tokens)) ≡ false
    no_number =
        ap (λ l. has_bad_number radix (if names_file l then tags_in (front tokens) else front tokens)) (none_after tokens)
        ∙ by_names (names_file (body_in tokens)) said.no_number

    not_true : (b : Bool) → not b ≡ false → b ≡ true
    not_true true is = refl
    not_true false is = absurd cc

    no_other : (is_cut || not (has_free_tags (front tokens))) ≡ false
    no_other =
        or_none is_cut (not (has_free_tags (front tokens))) (or_first is_cut (not (has_free_tags tokens)) said.no_other)
        (ap not (same_free tokens (not_true (has_free_tags tokens) (or_second is_cut (not (has_free_tags tokens)) said.no_other))))

-- ## Statements

-- a condition makes no word, and moves nothing
record IsPassive (b : Body) : Type 0 where
  pub no_words : (options : Options) (kept : Meanings) (steps : List Step) (string : List ℕ) (size : ℕ) → words_in options b kept steps string size ≡ []
  pub no_name : defined_name b ≡ None
  pub stays : (steps : List Step) (n : ℕ) (standing : Standing) → with_body b steps n standing ≡ Ok standing

is_passive : (b : Body) → is_condition b ≡ true → IsPassive b
is_passive body.Nothing is = absurd cc
is_passive body.Origin is = absurd cc
is_passive (body.Define name) is = absurd cc
is_passive body.Decimal is = absurd cc
is_passive body.Octal is = absurd cc
is_passive body.Field is = absurd cc
is_passive body.NextPage is = absurd cc
is_passive body.Page is = absurd cc
is_passive body.Zeros is = absurd cc
is_passive body.Text is = absurd cc
is_passive body.Listing is = absurd cc
is_passive body.IfZero is = record { no_words = λ options kept steps string size. refl; no_name = refl; stays = λ steps n standing. refl }
is_passive body.IfNotZero is = record { no_words = λ options kept steps string size. refl; no_name = refl; stays = λ steps n standing. refl }
is_passive (body.IfDefined name) is = record { no_words = λ options kept steps string size. refl; no_name = refl; stays = λ steps n standing. refl }
is_passive (body.IfUndefined name) is = record { no_words = λ options kept steps string size. refl; no_name = refl; stays = λ steps n standing. refl }
is_passive body.NoPunch is = absurd cc
is_passive body.Punch is = absurd cc
is_passive body.Relocate is = absurd cc
is_passive body.Unrelocate is = absurd cc
is_passive body.FileName is = absurd cc
is_passive body.Device is = absurd cc
is_passive body.Expunge is = absurd cc
is_passive body.FixTable is = absurd cc
is_passive (body.FixOperation name) is = absurd cc
is_passive body.Word is = absurd cc

-- what is left, outside of all brackets
abbrev bare : Remainder → Remainder
bare left = record { standing = left.standing; entries = left.entries; brackets = []; end = left.end }

abbrev left_or : Remainder → PassResult → Remainder
left_or other (Err fault) = other
left_or other (Ok left) = left

module _ (line at : ℕ) (string : List ℕ) (is_cut : Bool) where
  abbrev ended_by : List Token → End → Statement
  ended_by tokens e = record { line = line; at = at; tokens = tokens; string = string; is_cut = is_cut; end = e }

  module _ (before left : Remainder) where
    -- a statement's words and brackets
    brackets_go : (tokens : List Token) (e : End) (standing : Standing) (entries : List Entry) (brackets : List Bool) (truth : Result Bool Code)
        → with_brackets (ended_by tokens e) standing entries (brackets_with (place_of (ended_by tokens e)) e brackets truth) ≡ Ok left
        → with_brackets (ended_by tokens (plain_end e)) standing entries (brackets_with (place_of (ended_by tokens e)) (plain_end e) [] truth) ≡ Ok (bare left)
    brackets_go tokens e standing entries brackets (Err fault) is = absurd cc
    brackets_go tokens end.Semicolon standing entries brackets (Ok holds) is = ap (λ p. Ok (bare (left_or left p))) is
    brackets_go tokens end.Line standing entries brackets (Ok holds) is = ap (λ p. Ok (bare (left_or left p))) is
    brackets_go tokens end.Open standing entries brackets (Ok holds) is = ap (λ p. Ok (bare (left_or left p))) is
    brackets_go tokens end.Close standing entries [] (Ok holds) is = absurd cc
    brackets_go tokens end.Close standing entries (newest ∷ outer) (Ok holds) is = ap (λ p. Ok (bare (left_or left p))) is
    brackets_go tokens end.Dollar standing entries brackets (Ok holds) is = ap (λ p. Ok (bare (left_or left p))) is

    phrase_goes : (tokens : List Token) (e : End) (phrase : Phrase) (r : Result Standing Code) → with_phrase (ended_by tokens e) phrase before r ≡ Ok left
        → with_phrase (ended_by tokens (plain_end e)) phrase (bare before) r ≡ Ok (bare left)
    phrase_goes tokens e phrase (Err fault) is = absurd cc
    phrase_goes tokens e phrase (Ok standing) is = brackets_go tokens e standing _ before.brackets (truth_of phrase.0 phrase.1 standing) is

    said_goes : (tokens : List Token) (e : End) (q : Result Phrase GrammarFault) → with_said (ended_by tokens e) before q ≡ Ok left
        → with_said (ended_by tokens (plain_end e)) (bare before) q ≡ Ok (bare left)
    said_goes tokens e (Err fault) is = absurd cc
    said_goes tokens e (Ok phrase) is = phrase_goes tokens e phrase (with_statement tokens phrase.0 phrase.1 (length string) before.standing) is

    -- a condition's tags
    tags_go : (tokens others : List Token) (phrase : Phrase) → IsPassive phrase.0 → (r : Result Standing Code)
        → with_phrase (ended_by tokens end.Open) phrase before (with_body_if phrase.0 phrase.1 (length string) r) ≡ Ok left
        → with_phrase (ended_by others end.Semicolon) (body.Nothing, []) (bare before) (with_body_if body.Nothing [] (length string) r) ≡ Ok (bare left)
    tags_go tokens others phrase passive (Err fault) is = absurd cc
    tags_go tokens others phrase passive (Ok standing) is =
        by_truth (truth_of phrase.0 phrase.1 standing)
        (sym (ap (λ l. with_brackets (ended_by tokens end.Open) standing
        (with_late_entry (place_of (ended_by tokens end.Open)) (spot_at before.standing.position) phrase.0 phrase.1 standing.names
        (with_entries (place_of (ended_by tokens end.Open)) (spot_at before.standing.position) l before.entries))
        (brackets_with (place_of (ended_by tokens end.Open)) end.Open before.brackets (truth_of phrase.0 phrase.1 standing)))
        (passive.no_words before.standing.position.options (open_value standing) phrase.1 string (standing.position.location - before.standing.position.location))
        ∙ ap (λ name. with_brackets (ended_by tokens end.Open) standing
        (with_late_by (place_of (ended_by tokens end.Open)) (spot_at before.standing.position) phrase.1 standing.names name before.entries)
        (brackets_with (place_of (ended_by tokens end.Open)) end.Open before.brackets (truth_of phrase.0 phrase.1 standing)))
        passive.no_name)
        ∙ sym (ap (with_phrase (ended_by tokens end.Open) phrase before) (passive.stays phrase.1 (length string) standing)) ∙ is)
      where
        by_truth : (truth : Result Bool Code)
            → with_brackets (ended_by tokens end.Open) standing before.entries (brackets_with (place_of (ended_by tokens end.Open)) end.Open before.brackets truth) ≡ Ok left
            → with_brackets (ended_by others end.Semicolon) standing before.entries (Ok []) ≡ Ok (bare left)
        by_truth (Err fault) is = absurd cc
        by_truth (Ok holds) is = ap (λ p. Ok (bare (left_or left p))) is

    open_goes : (tokens : List Token) (q : Result Phrase GrammarFault) → phrase_of before.standing tokens is_cut end.Open ≡ q
        → with_said (ended_by tokens end.Open) before q ≡ Ok left → with_selected (ended_by (tags_in tokens) end.Semicolon) (bare before) ≡ Ok (bare left)
    open_goes tokens (Err fault) said is = absurd cc
    open_goes tokens (Ok phrase) said is =
        ap (λ l. with_selected (ended_by l end.Semicolon) (bare before)) (tags_are tokens)
        ∙ ap (with_said (ended_by (front tokens) end.Semicolon) (bare before)) (tags_say_nothing (vocabulary_of before.standing.names) before.standing.position.radix tokens is_cut phrase said)
        ∙ ap (λ r. with_phrase (ended_by (front tokens) end.Semicolon) (body.Nothing, []) (bare before) (with_body_if body.Nothing [] (length string) r))
        (same_tags tokens (Ok before.standing))
        ∙ tags_go tokens (front tokens) phrase (is_passive phrase.0 (condition_said (vocabulary_of before.standing.names) before.standing.position.radix tokens is_cut phrase said))
        (with_tags tokens (Ok before.standing)) is

    selected_goes : (tokens : List Token) (e : End) → with_selected (ended_by tokens e) before ≡ Ok left
        → with_selected (plain_statement (ended_by tokens e)) (bare before) ≡ Ok (bare left)
    selected_goes tokens end.Semicolon is = said_goes tokens end.Semicolon (phrase_of before.standing tokens is_cut end.Semicolon) is
    selected_goes tokens end.Line is = said_goes tokens end.Line (phrase_of before.standing tokens is_cut end.Line) is
    selected_goes tokens end.Open is = open_goes tokens (phrase_of before.standing tokens is_cut end.Open) refl is
    selected_goes tokens end.Close is = said_goes tokens end.Close (phrase_of before.standing tokens is_cut end.Close) is
    selected_goes tokens end.Dollar is = said_goes tokens end.Dollar (phrase_of before.standing tokens is_cut end.Dollar) is

-- ## Sources

source_goes : (options : Options) (source : Source) (left : Remainder) → pass_over options source ≡ Ok left → pass_over options (plain options source) ≡ Ok (bare left)
source_goes options [] left is = ap (λ p. Ok (bare (left_or left p))) is
source_goes options (s ∷ older) left is = by_older (pass_over options older) (source_goes options older) is
  where
    by_tests : (before : Remainder) (over selected : Bool) → pass_over options (plain options older) ≡ Ok (bare before) → is_some before.end ≡ over
        → (if over then Ok before else (if selected then with_selected s before else Ok (with_skipped s before))) ≡ Ok left
        → pass_over options (if over then plain options older else (if selected then plain_statement s ∷ plain options older else plain options older)) ≡ Ok (bare left)
    by_tests before true selected goes over is = goes ∙ ap (λ p. Ok (bare (left_or left p))) is
    by_tests before false false goes over is = goes ∙ ap (λ p. Ok (bare (left_or left p))) is
    by_tests before false true goes over is =
        ap (with_next (plain_statement s)) goes
        ∙ ap (λ test. if test then Ok (bare before) else with_selected (plain_statement s) (bare before)) over
        ∙ selected_goes s.line s.at s.string s.is_cut before left s.tokens s.end is

    by_older : (r : PassResult) → ((l : Remainder) → r ≡ Ok l → pass_over options (plain options older) ≡ Ok (bare l)) → with_next s r ≡ Ok left
        → pass_over options (plain_by s r (plain options older)) ≡ Ok (bare left)
    by_older (Err fault) goes is = absurd cc
    by_older (Ok before) goes is = by_tests before (is_some before.end) (is_selected before.brackets) (goes before refl) refl is

pub skipped_is_nothing : SkippedIsNothing
skipped_is_nothing options text left is = by_passed (pass_over options (statements text)) (source_goes options (statements text)) is
  where
    by_end : (l : Remainder) (brackets : List Bool) (end : Option Place) → l.brackets ≡ brackets → with_end text l brackets end ≡ Ok left → bare l ≡ left
    by_end l [] None same is = absurd cc
    by_end l [] (Some place) same is =
        ap (λ b. record { standing = l.standing; entries = l.entries; brackets = b; end = l.end }) (sym same) ∙ ap (left_or l) is
    by_end l (newest ∷ outer) None same is = absurd cc
    by_end l (newest ∷ outer) (Some place) same is = absurd cc

    by_passed : (r : PassResult) → ((l : Remainder) → r ≡ Ok l → pass_over options (plain options (statements text)) ≡ Ok (bare l)) → end_of_pass text r ≡ Ok left
        → pass_over options (plain options (statements text)) ≡ Ok left
    by_passed (Err fault) goes is = absurd cc
    by_passed (Ok l) goes is = goes l refl ∙ ap Ok (by_end l l.brackets l.end refl is)
