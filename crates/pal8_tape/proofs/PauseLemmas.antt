-- Where a text pauses.
use Rattle.std.proofs.Common.{◌≡◌, ℕ, ◌+◌, ◌-◌, ◌≤◌, ◌<◌, Bool, true, false, not, if◌then◌else◌, nat_eq, Option, Some, None, Result, Ok, Err, IfOk, length, take, drop, get_or, List, [], ◌∷◌, ◌++◌, refl, sym, ap, subst, ◌∙◌, arith, append_assoc}
use Rattle.std.proofs.lemmas.Bool.Decides.{nat_tests}
use Rattle.std.specs.Option.{option_or}
use Rattle.pal_lex.specs.Text.{text_of}
use Rattle.pal8_lex.specs.Text.{as_read, is_dropped, live}
use Rattle.pal8_lex.specs.Rules.{end_of}
use Rattle.pal8_lex.specs.Reading as lex
use Rattle.pal8_lex.specs.Reading.{HasRead, anew}
use Rattle.pal8_lex.specs.declared.rules.End.{End}
use Rattle.pal8_asm.specs.Sources.{PassResult, statements, with_next}
use Rattle.pal8_tape.specs.JoinLaws.{OneIsItself, RestIsNotRead}
use Rattle.pal8_tape.specs.Joins.{before_tokens, closing_bytes, empty_statement, first_pause, has_none, is_line_open, remainder_after, remainder_by, part, part_by, pass_on, pauses, tokens_after, whole_lines}
use Rattle.pal8_tape.specs.Passing.{Follows, PassState}
use Rattle.pal8_tape.specs.Steps.{Finds, FindsAtEnd, IsPassing, MeetsByte}
use Rattle.pal8_tape.specs.declared.join_faults.JoinFault.{JoinFault}
use Rattle.pal8_tape.specs.declared.pauses.Pause.{Pause}
use Rattle.pal8_tape.proofs.JoinTextLemmas.{next_byte, text_again, text_more}

abbrev At : Type 0
At = List ℕ × End

-- ## The first PAUSE

pause_stays : (left : PassResult) (later text : List ℕ) (at : At) → first_pause left text ≡ Some at → first_pause left (later ++ text) ≡ Some at
pause_stays left [] text at is = is
pause_stays left (b ∷ later) text at is =
    ap (λ o. option_or o (if pauses left (later ++ text) b then Some (later ++ text, end_of (as_read b)) else None)) (pause_stays left later text at is)

pub pause_here : (left : PassResult) (here : List ℕ) (b : ℕ) → first_pause left here ≡ None → pauses left here b ≡ true
    → first_pause left (b ∷ here) ≡ Some (here, end_of (as_read b))
pause_here left here b none is =
    ap (λ o. option_or o (if pauses left here b then Some (here, end_of (as_read b)) else None)) none
    ∙ ap (λ t. option_or None (if t then Some (here, end_of (as_read b)) else None)) is

pub no_pause_here : (left : PassResult) (here : List ℕ) (b : ℕ) → first_pause left here ≡ None → pauses left here b ≡ false → first_pause left (b ∷ here) ≡ None
no_pause_here left here b none is =
    ap (λ o. option_or o (if pauses left here b then Some (here, end_of (as_read b)) else None)) none
    ∙ ap (λ t. option_or None (if t then Some (here, end_of (as_read b)) else None)) is

lines_by : (test : Bool) (text : List ℕ) → (more : List ℕ) × ((if test then 0o12 ∷ text else text) ≡ more ++ text)
lines_by true text = (0o12 ∷ [], refl)
lines_by false text = ([], refl)

-- a text and its last line end
lines_more : (text : List ℕ) → (more : List ℕ) × (whole_lines text ≡ more ++ text)
lines_more text = lines_by (is_line_open (live text)) text

-- a text pauses where a beginning of it does
whole_pauses : (left : PassResult) (later text : List ℕ) (at : At) → first_pause left text ≡ Some at → first_pause left (whole_lines (later ++ text)) ≡ Some at
whole_pauses left later text at is =
    let more = lines_more (later ++ text) in
    ap (first_pause left) (more.1 ∙ sym (append_assoc more.0 later text)) ∙ pause_stays left (more.0 ++ later) text at is

module _ (left : PassResult) (text : List ℕ) (at : At) where
  part_is : first_pause left (whole_lines text) ≡ Some at → part left text ≡ 0o12 ∷ closing_bytes at.1 ++ before_tokens at.0
  part_is is = ap (part_by (whole_lines text)) is

  left_is : first_pause left (whole_lines text) ≡ Some at → remainder_after left text ≡ with_next (empty_statement at.1) (pass_on left (statements at.0))
  left_is is = ap (remainder_by left (whole_lines text)) is

pub rest_not_read : RestIsNotRead
rest_not_read left text later others at is =
    let one = whole_pauses left later text at is in
    let other = whole_pauses left others text at is in (
      part_is left (later ++ text) at one ∙ sym (part_is left (others ++ text) at other),
      left_is left (later ++ text) at one ∙ sym (left_is left (others ++ text) at other),
    )

pub itself : OneIsItself
itself options source = (text_again source, refl)

-- ## A byte more

read_tokens : (l : lex.Progress) (text : List ℕ) → HasRead l text → (anew l).draft.tokens ≡ tokens_after text
unfolding HasRead
read_tokens l text read = ap (λ (p : lex.Progress). p.draft.tokens) read

module _ (left : PassResult) (bytes : List ℕ) (taken count : ℕ) (b : ℕ) (old new : lex.Progress) (before after : PassState) (inside : taken < length bytes) (is : b ≡ get_or bytes taken 0)
    (stands : IsPassing left (text_of (take taken bytes)) (text_of (take count bytes)) old before) where
  abbrev here : List ℕ
  here = text_of (take taken bytes)

  next : text_of (take (taken + 1) bytes) ≡ b ∷ here
  next = next_byte bytes taken b inside is

  cut_by : (test : Bool) → (if test then b ∷ here else before_tokens here) ≡ text_of (take (if test then taken + 1 else count) bytes)
  cut_by true = sym next
  cut_by false = stands.is_before

  pub byte_passed : (count' : ℕ) → count' ≡ (if has_none (anew new).draft.tokens then taken + 1 else count) → MeetsByte left here b None new after
      → IsPassing left (text_of (take (taken + 1) bytes)) (text_of (take count' bytes)) new after
  byte_passed count' counted met =
      subst (λ t. IsPassing left t (text_of (take count' bytes)) new after) (sym next) (record {
        has_read = met.1;
        follows = met.2;
        goes_on = no_pause_here left here b stands.goes_on met.0;
        is_before = cut_by (has_none (tokens_after (b ∷ here)))
            ∙ ap (λ t. text_of (take (if has_none t then taken + 1 else count) bytes)) (sym (read_tokens new (b ∷ here) met.1))
            ∙ ap (λ n. text_of (take n bytes)) (sym counted);
      })

  paused_there : pauses left here b ≡ true → first_pause left (whole_lines (text_of bytes)) ≡ Some (here, end_of (as_read b))
  paused_there paused =
      let whole : text_of bytes ≡ text_of (drop (taken + 1) bytes) ++ b ∷ here = text_more bytes (taken + 1) ∙ ap (λ t. text_of (drop (taken + 1) bytes) ++ t) next in
      ap (λ t. first_pause left (whole_lines t)) whole
      ∙ whole_pauses left (text_of (drop (taken + 1) bytes)) (b ∷ here) (here, end_of (as_read b)) (pause_here left here b stands.goes_on paused)

  pub byte_pauses : (end : End) → MeetsByte left here b (Some end) new after → Finds left bytes (Some record { count = count; end = end }) after
  byte_pauses end met =
      let there = paused_there met.0 in (
        part_is left (text_of bytes) (here, end_of (as_read b)) there
            ∙ ap (λ t. 0o12 ∷ closing_bytes (end_of (as_read b)) ++ t) stands.is_before
            ∙ ap (λ e. 0o12 ∷ closing_bytes e ++ text_of (take count bytes)) (sym met.1),
        subst (Follows after) (ap (λ e. with_next (empty_statement e) (pass_on left (statements here))) met.1
            ∙ sym (left_is left (text_of bytes) (here, end_of (as_read b)) there)) met.2,
      )

-- no byte yet
pub starts : (left : PassResult) (lexer : lex.Progress) (pass : PassState) → HasRead lexer [] → Follows pass left → IsPassing left [] [] lexer pass
starts left lexer pass read follows = record { has_read = read; follows = follows; goes_on = refl; is_before = refl }

-- ## The end of a text

module _ (left : PassResult) (bytes before : List ℕ) (count : ℕ) (old new : lex.Progress) (passed after : PassState)
    (stands : IsPassing left (text_of bytes) before old passed) where
  pub closed_end : is_line_open (live (text_of bytes)) ≡ false → FindsAtEnd left bytes before count None passed
  closed_end closed =
      let same : whole_lines (text_of bytes) ≡ text_of bytes = ap (λ t. if t then 0o12 ∷ text_of bytes else text_of bytes) closed in
      let none : first_pause left (whole_lines (text_of bytes)) ≡ None = ap (first_pause left) same ∙ stands.goes_on in
      (none, subst (Follows passed) (sym (ap (remainder_by left (whole_lines (text_of bytes))) none ∙ ap (λ t. pass_on left (statements t)) same)) stands.follows)

  module _ (is_open : is_line_open (live (text_of bytes)) ≡ true) where
    ended : whole_lines (text_of bytes) ≡ 0o12 ∷ text_of bytes
    ended = ap (λ t. if t then 0o12 ∷ text_of bytes else text_of bytes) is_open

    pub pauses_at_end : (end : End) → MeetsByte left (text_of bytes) 0o12 (Some end) new after → FindsAtEnd left bytes before count (Some record { count = count; end = end }) after
    pauses_at_end end met =
        let there : first_pause left (whole_lines (text_of bytes)) ≡ Some (text_of bytes, end_of (as_read 0o12)) =
        ap (first_pause left) ended ∙ pause_here left (text_of bytes) 0o12 stands.goes_on met.0 in (
          part_is left (text_of bytes) (text_of bytes, end_of (as_read 0o12)) there
              ∙ ap (λ t. 0o12 ∷ closing_bytes (end_of (as_read 0o12)) ++ t) stands.is_before
              ∙ ap (λ e. 0o12 ∷ closing_bytes e ++ before) (sym met.1),
          refl,
          subst (Follows after) (ap (λ e. with_next (empty_statement e) (pass_on left (statements (text_of bytes)))) met.1
              ∙ sym (left_is left (text_of bytes) (text_of bytes, end_of (as_read 0o12)) there)) met.2,
        )

    pub ends_there : MeetsByte left (text_of bytes) 0o12 None new after → FindsAtEnd left bytes before count None after
    ends_there met =
        let none : first_pause left (whole_lines (text_of bytes)) ≡ None = ap (first_pause left) ended ∙ no_pause_here left (text_of bytes) 0o12 stands.goes_on met.0 in
        (none, subst (Follows after) (sym (ap (remainder_by left (whole_lines (text_of bytes))) none ∙ ap (λ t. pass_on left (statements t)) ended)) met.2)

-- what is found at the end is found in the text
pub found_at_end : (left : PassResult) (bytes : List ℕ) (count : ℕ) (found : Option Pause) (pass : PassState) → FindsAtEnd left bytes (text_of (take count bytes)) count found pass → Finds left bytes found pass
found_at_end left bytes count None pass finds = (ap (part_by (whole_lines (text_of bytes))) finds.0, finds.1)
found_at_end left bytes count (Some pause) pass finds =
    (finds.0 ∙ ap (λ n. 0o12 ∷ closing_bytes pause.end ++ text_of (take n bytes)) (sym finds.1), finds.2)

pub result_at_end : (left : PassResult) (bytes : List ℕ) (count : ℕ) (pass : PassState) (result : Result (Option Pause) JoinFault)
    → IfOk result (λ found. FindsAtEnd left bytes (text_of (take count bytes)) count found pass) → IfOk result (λ found. Finds left bytes found pass)
result_at_end left bytes count pass (Ok found) finds = found_at_end left bytes count found pass finds
result_at_end left bytes count pass (Err fault) finds = tt

-- ## Line ends

same_line : (b : ℕ) → is_dropped b ≡ false → not (nat_eq b 0o12) ≡ not (nat_eq (as_read b) 0o15)
same_line b is = grind (arith, nat_tests)

module _ (bytes : List ℕ) (left b : ℕ) (some : 0 < left) (inside : left ≤ length bytes) (is : b ≡ get_or bytes (left - 1) 0) where
  last : text_of (take left bytes) ≡ b ∷ text_of (take (left - 1) bytes)
  last = ap (λ n. text_of (take n bytes)) (omega (arith, some)) ∙ next_byte bytes (left - 1) b (omega (arith, some, inside)) is

  pub line_by_last : is_dropped b ≡ false → live (text_of bytes) ≡ live (text_of (take left bytes)) → not (nat_eq b 0o12) ≡ is_line_open (live (text_of bytes))
  line_by_last there same =
      same_line b there
      ∙ sym (ap is_line_open (same ∙ ap live last ∙ ap (λ t. if t then live (text_of (take (left - 1) bytes)) else (as_read b, length (text_of (take (left - 1) bytes))) ∷ live (text_of (take (left - 1) bytes))) there))

  pub last_dropped : is_dropped b ≡ true → live (text_of bytes) ≡ live (text_of (take left bytes)) → live (text_of bytes) ≡ live (text_of (take (left - 1) bytes))
  last_dropped dropped same =
      same ∙ ap live last ∙ ap (λ t. if t then live (text_of (take (left - 1) bytes)) else (as_read b, length (text_of (take (left - 1) bytes))) ∷ live (text_of (take (left - 1) bytes))) dropped
