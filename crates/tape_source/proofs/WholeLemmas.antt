-- What a whole source says.
use Rattle.std.proofs.Common.{◌≡◌, ℕ, ◌+◌, ◌/◌, ◌%◌, ◌<◌, nat_eq, Bool, true, false, ◌&&◌, ◌||◌, if◌then◌else◌, inl, inr, Option, Some, None, suc, length, reverse, Ok, Err, List, [], ◌∷◌, ◌++◌, refl, ap, sym, subst, ◌∙◌, arith, append_assoc, append-nil}
use Rattle.std.specs.Prelude.{codes}
use Rattle.std.proofs.lemmas.Bool.Decides.{eqb_tells}
use Rattle.std.proofs.lemmas.List.{reverse-append}
use Rattle.word12.specs.Octal.{octal_digit, octal4}
use Rattle.bin_tape.specs.Writing.{next_field, is_next, newest_cell}
use Rattle.pal_lex.specs.Text.{in_comment, is_over, stretch, line_after, limit, text_from, text_of}
use Rattle.pal_lex.specs.Steps.{has_cr}
use Rattle.pal_lex.specs.Cutting.{Piece, Run, Mark, are_coded, without_end_blank, pieces, with_byte}
use Rattle.pal_lex.specs.Runs.{name_number, in_order, tokens}
use Rattle.pal_lex.specs.Language.{is_reserved}
use Rattle.pal_lex.specs.Grammar.{phrase_of_tokens, has_bad_number}
use Rattle.pal_lex.specs.Statements.{statements, judge_statement, statement_or_fault, radix_after}
use Rattle.pal_faults.specs.declared.lexical.LexFault.TheVariants.{IC, NU}
use Rattle.pal_lex.specs.declared.runs.Radix.TheVariants as radix
use Rattle.pal_lex.specs.declared.pieces.Token.{Token}
use Rattle.pal_lex.specs.declared.pieces.Kind.TheVariants.{Comma, Star}
use Rattle.pal_lex.specs.declared.phrases.Body.{Body}
use Rattle.pal_lex.specs.declared.phrases.Body.TheVariants.{Nothing, Origin, Field}
use Rattle.pal_asm.specs.Places.{Source, values}
use Rattle.pal_asm.specs.Words.{pairs_by}
use Rattle.pal_asm.specs.Faults.{no_end, fault_by}
use Rattle.tape_source.specs.Statements.{statement}
use Rattle.tape_source.specs.Tags.{is_given, is_referred}
use Rattle.source_notes.specs.Laws.{all_graphic, are_graphic}
use Rattle.source_notes.specs.Notes.{note_lines}
use Rattle.tape_source.specs.Looks.{Look, AreNotes, is_name, is_tagged, name_in, IsNaming}
use Rattle.tape_source.specs.Lines.{with_lead, line_end, field_line, origin_line, comment, tag_part, word_line, cell_lines, lines_of, source_with}
use Rattle.tape_source.specs.Defined.{tags_in, tags_of, Differ, DefinesTags}
use Rattle.tape_source.specs.Sources.{IsReadAs}
use Rattle.tape_source.specs.Named.{IsByTag}
use Rattle.tape_source.proofs.ByteLemmas.{both, all_legal, legal_append, coded_are_legal, octal, coded4}
use Rattle.tape_source.proofs.TextLemmas.{laid, text_append, Ends, ends, ends_commented, no_return, no_return_more}
use Rattle.tape_source.proofs.PieceLemmas.{spaced, led_spaced, laid_append, legal_laid, run, run_token, are_runs, tokens_at, EndsInRun, starts_of, cut_runs}
use Rattle.tape_source.proofs.GrammarLemmas.{Say, number_parts, name_run, comma_token, origin_says, field_says, tagged_says}
use Rattle.tape_source.proofs.StepLemmas.{Knows, Stands, stands_first, stands_keeps, statement_of, is_some_pair, tag_value, label, given_more, origin_step, field_step, nothing_step, word_step, IsWordOf}
use Rattle.tape_source.proofs.SourceLemmas.{StandsAt, AreShown, newest_last, lines_stand}

-- ## The whole source

dollar : (look : Look) (tagged : ℕ → Bool) (text : List ℕ) (place field : ℕ) (pairs : List (ℕ × ℕ)) → StandsAt look tagged text place field pairs
    → (line : ℕ) × (statements (10 ∷ 13 ∷ 36 ∷ text) ≡ Ok (statement_of line true [] [] Nothing) ∷ statements text) × (is_over (10 ∷ 13 ∷ 36 ∷ text) ≡ true)
unfolding statements
dollar look tagged text place field pairs is =
    (line_after text, rw (is.no_comment, is.not_over, is.begins) refl, rw (is.no_comment, is.not_over) refl)

some_reverse : (pair : ℕ × ℕ) (pairs : List (ℕ × ℕ)) → is_some_pair (reverse (pair ∷ pairs)) ≡ true
some_reverse pair pairs = ap is_some_pair (newest_last pair pairs) ∙ one (reverse pairs) pair
  where
    one : (pairs : List (ℕ × ℕ)) (pair : ℕ × ℕ) → is_some_pair (pairs ++ pair ∷ []) ≡ true
    one [] pair = refl
    one (first ∷ pairs) pair = refl

given_reverse : (pairs : List (ℕ × ℕ)) (cell : ℕ) → is_given (reverse pairs) cell ≡ is_given pairs cell
given_reverse [] cell = refl
given_reverse (pair ∷ pairs) cell =
    ap (λ l. is_given l cell) (newest_last pair pairs)
    ∙ given_more (reverse pairs) pair.0 pair.1 cell
    ∙ ap (λ b. nat_eq pair.0 cell || b) (given_reverse pairs cell)

-- The statements of a source's lines and its last one.
pub record IsWhole (look : Look) (tagged : ℕ → Bool) (text : List ℕ) (pairs : List (ℕ × ℕ)) : Type 0 where
  pub line : ℕ
  pub place : ℕ
  pub field : ℕ
  pub lines : Source
  pub statements_are : statements text ≡ Ok (statement_of line true [] [] Nothing) ∷ lines
  pub ended : no_end text ≡ None
  pub stands : Stands look tagged lines place field pairs

pub source_whole : (look : Look) (pairs : List (ℕ × ℕ)) → AreNotes look → IsNaming look.name → AreShown look (is_tagged look pairs) pairs
    → IsWhole look (is_tagged look pairs) (text_of (source_with look pairs)) (reverse pairs)
source_whole look pairs notes naming shown =
    let tagged = is_tagged look pairs in
    let lines = lines_stand look tagged pairs notes naming shown in
    let text = text_of (lines_of look tagged pairs) in
    let whole : text_of (source_with look pairs) ≡ 10 ∷ 13 ∷ 36 ∷ text = text_append (lines_of look tagged pairs) (36 ∷ line_end) [] in
    let end = dollar look tagged text lines.place lines.field (reverse pairs) lines.stands in
    record {
      line = end.0;
      place = lines.place;
      field = lines.field;
      lines = statements text;
      statements_are = ap statements whole ∙ end.1;
      ended = ap no_end whole ∙ rw end.2 refl;
      stands = lines.stands.stands;
    }

-- a tagged cell's tag stands for its address
value_at_last : (look : Look) (pairs : List (ℕ × ℕ)) (cell : ℕ) → tag_value (is_tagged look pairs) (reverse pairs) cell ≡ (if is_tagged look pairs cell then Some (cell % 4096) else None)
value_at_last look pairs cell =
    ap (λ g. if g && is_tagged look pairs cell then Some (cell % 4096) else None) (given_reverse pairs cell)
    ∙ twice (is_given pairs cell) (look.has_name cell || is_referred look.is_code pairs cell) (cell % 4096)
  where
    twice : (g r : Bool) (value : ℕ) → (if g && (g && r) then Some value else None) ≡ (if g && r then Some value else None)
    twice true r value = refl
    twice false r value = refl

knows_at_last : (look : Look) (pairs : List (ℕ × ℕ)) (source : Source) (place field : ℕ) → IsNaming look.name → Stands look (is_tagged look pairs) source place field (reverse pairs)
    → Knows look (is_tagged look pairs) (values source)
knows_at_last look pairs source place field naming is = record {
  keeps = stands_keeps look (is_tagged look pairs) naming source place field (reverse pairs) is;
  tags_are = λ cell small is_tagged_cell. is.values_are cell small ∙ value_at_last look pairs cell ∙ ap (λ (b : Bool). if b then Some (cell % 4096) else None) is_tagged_cell;
}

pub source_read : (look : Look) (pair : ℕ × ℕ) (older : List (ℕ × ℕ)) → AreNotes look → IsNaming look.name → AreShown look (is_tagged look (pair ∷ older)) (pair ∷ older)
    → IsReadAs (source_with look (pair ∷ older)) (reverse (pair ∷ older))
source_read look pair older notes naming shown =
    let all = pair ∷ older in
    let whole = source_whole look all notes naming shown in
    let stands = whole.stands in
    let text = text_of (source_with look all) in
    let s = Ok (statement_of whole.line true [] [] Nothing) ∷ whole.lines in
    let knows = knows_at_last look all whole.lines whole.place whole.field naming stands in
    record {
      no_fault =
          ap (λ x. fault_by x (no_end text)) whole.statements_are
          ∙ ap (fault_by s) whole.ended
          ∙ rw (stands.no_fault, stands.no_word_fault (values whole.lines) knows, stands.word_is, some_reverse pair older) refl;
      pairs_are = ap (λ x. pairs_by (values x) x) whole.statements_are ∙ stands.pairs_are (values whole.lines) knows;
    }

-- ## The tags of the whole source

pub source_tags : (look : Look) (pairs : List (ℕ × ℕ)) → AreNotes look → IsNaming look.name → AreShown look (is_tagged look pairs) pairs
    → Differ (tags_of look.name (is_tagged look pairs) (reverse pairs)) → DefinesTags look (source_with look pairs) pairs
source_tags look pairs notes naming shown differ =
    let whole = source_whole look pairs notes naming shown in
    let text = text_of (source_with look pairs) in
    let stands = whole.stands in
    let listed : tags_in (statements text) ≡ tags_of look.name (is_tagged look pairs) (reverse pairs) = ap tags_in whole.statements_are ∙ append-nil (tags_in whole.lines) ∙ stands.tags_are in
    record {
      tags_are = listed;
      once = subst Differ (sym listed) differ;
      values_are = λ cell small. ap (λ x. values x (name_in look.name cell)) whole.statements_are ∙ stands.values_are cell small ∙ value_at_last look pairs cell;
      others_are = λ name free. ap (λ x. values x name) whole.statements_are ∙ stands.others_are name free;
    }
