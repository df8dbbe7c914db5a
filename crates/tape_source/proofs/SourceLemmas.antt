-- What the lines of cells with their words say.
use Rattle.std.proofs.Common.{◌≡◌, ℕ, ◌+◌, ◌/◌, ◌%◌, ◌<◌, nat_eq, Bool, true, false, ◌&&◌, ◌||◌, if◌then◌else◌, inl, inr, Option, Some, None, suc, length, reverse, Ok, Err, List, [], ◌∷◌, ◌++◌, refl, ap, sym, subst, ◌∙◌, arith, append_assoc, append-nil}
use Rattle.std.specs.Prelude.{codes}
use Rattle.std.proofs.lemmas.Bool.Decides.{eqb_tells}
use Rattle.std.proofs.lemmas.List.{reverse-append}
use Rattle.word12.specs.Octal.{octal_digit, octal4}
use Rattle.bin_tape.specs.Writing.{next_field, is_next, newest_cell}
use Rattle.pal_lex.specs.Text.{in_comment, is_over, stretch, line_after, limit, text_from, text_of}
use Rattle.pal_lex.specs.Steps.{has_cr}
use Rattle.pal_lex.specs.Cutting.{Piece, Run, Mark, are_coded, without_end_blank, pieces, with_byte}
use Rattle.pal_lex.specs.Runs.{name_number, in_order, tokens}
use Rattle.pal_lex.specs.Language.{is_reserved}
use Rattle.pal_lex.specs.Grammar.{phrase_of_tokens, has_bad_number}
use Rattle.pal_lex.specs.Statements.{statements, judge_statement, statement_or_fault, radix_after}
use Rattle.pal_faults.specs.declared.lexical.LexFault.TheVariants.{IC, NU}
use Rattle.pal_lex.specs.declared.runs.Radix.TheVariants as radix
use Rattle.pal_lex.specs.declared.pieces.Token.{Token}
use Rattle.pal_lex.specs.declared.pieces.Kind.TheVariants.{Comma, Star}
use Rattle.pal_lex.specs.declared.phrases.Body.{Body}
use Rattle.pal_lex.specs.declared.phrases.Body.TheVariants.{Nothing, Origin, Field}
use Rattle.pal_asm.specs.Places.{Source, values}
use Rattle.pal_asm.specs.Words.{pairs_by}
use Rattle.pal_asm.specs.Faults.{no_end, fault_by}
use Rattle.tape_source.specs.Statements.{statement}
use Rattle.tape_source.specs.Tags.{is_given, is_referred}
use Rattle.source_notes.specs.Laws.{all_graphic, are_graphic}
use Rattle.source_notes.specs.Notes.{note_lines}
use Rattle.tape_source.specs.Looks.{Look, AreNotes, is_name, is_tagged, name_in, IsNaming}
use Rattle.tape_source.specs.Lines.{with_lead, line_end, field_line, origin_line, comment, tag_part, word_line, cell_lines, lines_of, source_with}
use Rattle.tape_source.specs.Defined.{tags_in, tags_of, Differ, DefinesTags}
use Rattle.tape_source.specs.Sources.{IsReadAs}
use Rattle.tape_source.specs.Named.{IsByTag}
use Rattle.tape_source.proofs.ByteLemmas.{both, all_legal, legal_append, coded_are_legal, octal, coded4}
use Rattle.tape_source.proofs.TextLemmas.{laid, text_append, Ends, ends, ends_commented, no_return, no_return_more}
use Rattle.tape_source.proofs.PieceLemmas.{spaced, led_spaced, laid_append, legal_laid, run, run_token, are_runs, tokens_at, EndsInRun, starts_of, cut_runs}
use Rattle.tape_source.proofs.GrammarLemmas.{Say, number_parts, name_run, comma_token, origin_says, field_says, tagged_says}
use Rattle.tape_source.proofs.StepLemmas.{Knows, Stands, stands_first, stands_keeps, statement_of, is_some_pair, tag_value, label, given_more, origin_step, field_step, nothing_step, word_step, IsWordOf}

-- ## The live bytes of a line

-- live bytes say this, wherever they stand
pub record Codes (code tags : List ℕ) (body : Body) : Type 0 where
  pub legal : all_legal code ≡ true
  pub tokens_of : ℕ → List Token
  pub cut : (at : ℕ) → in_order 8 (without_end_blank (pieces (laid [] at code))) ≡ tokens_of at
  pub say : (at : ℕ) → Say (tokens_of at) tags body

judged_code : (code tags : List ℕ) (body : Body) (line at : ℕ) (codes : Codes code tags body)
    → judge_statement line false (laid [] at code) radix.Octal ≡ Ok (statement_of line false (codes.tokens_of at) tags body)
judged_code code tags body line at codes =
    let live = laid [] at code in
    let t = codes.tokens_of at in
    let say = codes.say at in
    ap (λ (b : Bool). if b then Err (IC line) else (if has_bad_number (tokens radix.Octal live) then Err (NU line) else statement_or_fault line false (tokens radix.Octal live) (phrase_of_tokens (tokens radix.Octal live))))
    (legal_laid code [] at codes.legal refl)
    ∙ ap (λ l. if has_bad_number l then Err (NU line) else statement_or_fault line false l (phrase_of_tokens l)) (codes.cut at)
    ∙ ap (λ (b : Bool). if b then Err (NU line) else statement_or_fault line false t (phrase_of_tokens t)) say.fine
    ∙ ap (statement_or_fault line false t) say.said_is

spaced_legal : (words : List (List ℕ)) → are_runs words ≡ true → all_legal (spaced words) ≡ true
spaced_legal [] runs = refl
spaced_legal ([] ∷ words) runs = absurd cc
spaced_legal ((first ∷ others) ∷ []) runs =
    let parts = both _ true runs in
    coded_are_legal (first ∷ others) parts.0
spaced_legal ((first ∷ others) ∷ next ∷ words) runs =
    let parts = both _ (are_runs (next ∷ words)) runs in
    legal_append (first ∷ others) (32 ∷ spaced (next ∷ words)) (coded_are_legal (first ∷ others) parts.0) (spaced_legal (next ∷ words) parts.1)

blank_trimmed : (all : List Piece) (place : ℕ) → EndsInRun all → without_end_blank (with_byte 9 place all) ≡ all
blank_trimmed all place ends = rw ends.is refl

-- pieces between tabs
tabbed : (piece : List ℕ) (words : List (List ℕ)) (body : Body) → are_runs (piece ∷ words) ≡ true → ((at : ℕ) → Say (tokens_at at (piece ∷ words)) [] body)
    → Codes (9 ∷ (spaced (piece ∷ words) ++ 9 ∷ [])) [] body
tabbed piece words body runs says = record {
  legal = legal_append (spaced (piece ∷ words)) (9 ∷ []) (spaced_legal (piece ∷ words) runs) refl;
  tokens_of = λ at. tokens_at (suc at) (piece ∷ words);
  cut = λ at.
      let live = (9, at) ∷ [] in
      let code = spaced (piece ∷ words) in
      let done = cut_runs piece words live (suc at) runs tt in
      let all = pieces (laid live (suc at) code) in
      ap (λ l. in_order 8 (without_end_blank (pieces l))) (laid_append code (9 ∷ []) live (suc at))
      ∙ ap (in_order 8) (blank_trimmed all (suc at + length code) done.ends)
      ∙ done.tokens;
  say = λ at. says (suc at);
}

-- a name and a comma, as they are cut
tag_cut : (first : ℕ) (others : List ℕ) (at : ℕ) → are_coded (first ∷ others) ≡ true
    → pieces (laid [] at ((first ∷ others) ++ 44 ∷ [])) ≡ Mark Comma (at + length (first ∷ others)) ∷ Run first others at (at + length (first ∷ others)) ∷ []
tag_cut first others at coded =
    ap pieces (laid_append (first ∷ others) (44 ∷ []) [] at) ∙ ap (λ l. with_byte 44 (at + length (first ∷ others)) l) (run first others [] at coded tt)

-- pieces between tabs after a tag and a comma
following_tag : (first : ℕ) (others : List ℕ) (piece : List ℕ) (words : List (List ℕ)) (body : Body) → is_name (first ∷ others) ≡ true
    → is_reserved (name_number (first ∷ others)) ≡ false → are_runs (piece ∷ words) ≡ true → ((at : ℕ) → Say (tokens_at at (piece ∷ words)) [] body)
    → Codes (((first ∷ others) ++ 44 ∷ []) ++ 9 ∷ (spaced (piece ∷ words) ++ 9 ∷ [])) (name_number (first ∷ others) ∷ []) body
following_tag first others piece words body is free runs says =
    let name = first ∷ others in
    let coded = name_run name is in
    let prefix = name ++ 44 ∷ [] in
    let code = spaced (piece ∷ words) in
    record {
      legal = legal_append prefix (9 ∷ (code ++ 9 ∷ [])) (legal_append name (44 ∷ []) (coded_are_legal name coded) refl)
          (legal_append code (9 ∷ []) (spaced_legal (piece ∷ words) runs) refl);
      tokens_of = λ at. run_token at name ∷ comma_token (at + length name) ∷ tokens_at (suc (at + length prefix)) (piece ∷ words);
      cut = λ at.
          let end = at + length prefix in
          let live = (9, end) ∷ laid [] at prefix in
          let cut = ap (with_byte 9 end) (tag_cut first others at coded) in
          let done = cut_runs piece words live (suc end) runs (starts_of live Comma (at + length name) _ cut) in
          let all = pieces (laid live (suc end) code) in
          ap (λ l. in_order 8 (without_end_blank (pieces l))) (laid_append prefix (9 ∷ (code ++ 9 ∷ [])) [] at ∙ laid_append code (9 ∷ []) live (suc end))
          ∙ ap (in_order 8) (blank_trimmed all (suc end + length code) done.ends)
          ∙ done.tokens
          ∙ ap (λ p. in_order 8 p ++ tokens_at (suc end) (piece ∷ words)) cut;
      say = λ at. tagged_says name at (at + length name) (tokens_at (suc (at + length prefix)) (piece ∷ words)) body is free (says (suc (at + length prefix)));
    }

-- the same for a cell that is tagged or not
labelled : (b : Bool) (name : List ℕ) (piece : List ℕ) (words : List (List ℕ)) (body : Body) → is_name name ≡ true → is_reserved (name_number name) ≡ false
    → are_runs (piece ∷ words) ≡ true → ((at : ℕ) → Say (tokens_at at (piece ∷ words)) [] body)
    → Codes ((if b then name ++ 44 ∷ [] else []) ++ 9 ∷ (spaced (piece ∷ words) ++ 9 ∷ [])) (label b (name_number name)) body
labelled true [] piece words body is free runs says = absurd (cc is)
labelled true (first ∷ others) piece words body is free runs says = following_tag first others piece words body is free runs says
labelled false name piece words body is free runs says = tabbed piece words body runs says

pub origin_codes : (a : ℕ) → a < 4096 → Codes (42 ∷ octal4 a) [] (Origin (number_parts a))
origin_codes a small = record {
  legal = coded_are_legal (octal4 a) (coded4 a);
  tokens_of = λ at. record { kind = Star; start = star_start at; end = star_end at } ∷ tokens_at (suc at) (octal4 a ∷ []);
  cut = λ at.
      let live = (42, at) ∷ [] in
      let done = cut_runs (octal4 a) [] live (suc at) (one (coded4 a)) tt in
      let all = pieces (laid live (suc at) (octal4 a)) in
      ap (in_order 8) (same_trimmed all done.ends) ∙ done.tokens;
  say = λ at. origin_says a (suc at) (record { kind = Star; start = star_start at; end = star_end at }) small refl;
}
  where
    star_start : ℕ → ℕ
    star_start at = limit at

    star_end : ℕ → ℕ
    star_end at = limit (at + 1)

    one : {b : Bool} → b ≡ true → (b && true) ≡ true
    one e = rw e refl

    same_trimmed : (all : List Piece) → EndsInRun all → without_end_blank all ≡ all
    same_trimmed all ends = rw ends.is refl

pub field_codes : (n : ℕ) → n < 8 → Codes (codes "FIELD " ++ octal_digit n ∷ []) [] (Field (number_parts n))
field_codes n small = record {
  legal = digit_legal (octal_digit n ∷ []) (is_coded_one n);
  tokens_of = λ at. tokens_at at (codes "FIELD" ∷ (octal_digit n ∷ []) ∷ []);
  cut = λ at.
      let done = cut_runs (codes "FIELD") ((octal_digit n ∷ []) ∷ []) [] at (one (is_coded_one n)) tt in
      ap (in_order 8) (same_trimmed (pieces (laid [] at (codes "FIELD " ++ octal_digit n ∷ []))) done.ends) ∙ done.tokens;
  say = λ at. field_says n at small;
}
  where
    one : {b : Bool} → b ≡ true → (b && true) ≡ true
    one e = rw e refl

    is_coded_one : (n : ℕ) → are_coded (octal_digit n ∷ []) ≡ true
    is_coded_one n = let o = octal n in rw o.coded refl

    digit_legal : (l : List ℕ) → are_coded l ≡ true → all_legal (codes "FIELD " ++ l) ≡ true
    digit_legal l e = coded_are_legal l e

    same_trimmed : (all : List Piece) → EndsInRun all → without_end_blank all ≡ all
    same_trimmed all ends = rw ends.is refl

-- nothing at all
nothing_codes : Codes [] [] Nothing
nothing_codes = record { legal = refl; tokens_of = λ at. []; cut = λ at. refl; say = λ at. record { fine = refl; said_is = refl } }

-- ## Lines after a text

-- a text stands at the beginning of a line, and its statements say this
pub record StandsAt (look : Look) (tagged : ℕ → Bool) (text : List ℕ) (place field : ℕ) (pairs : List (ℕ × ℕ)) : Type 0 where
  pub no_comment : in_comment text ≡ false
  pub not_over : is_over text ≡ false
  pub begins : stretch text ≡ []
  pub stands : Stands look tagged (statements text) place field pairs

line_step : (look : Look) (tagged : ℕ → Bool) (text code tags after : List ℕ) (place field : ℕ) (pairs : List (ℕ × ℕ)) (next_place next_field : ℕ) (next_pairs : List (ℕ × ℕ)) (body : Body)
    → StandsAt look tagged text place field pairs → Codes code tags body → Ends text code after
    → ((line : ℕ) (tokens : List Token) → Stands look tagged (Ok (statement_of line false tokens tags body) ∷ statements text) next_place next_field next_pairs)
    → StandsAt look tagged after next_place next_field next_pairs
line_step look tagged text code tags after place field pairs next_place next_field next_pairs body is codes ended step =
    let statement : statements after ≡ Ok (statement_of ended.line false (codes.tokens_of (length text)) tags body) ∷ statements text =
    ended.statement
    ∙ ap (λ live. judge_statement ended.line false (laid live (length text) code) (radix_after (statements text)) ∷ statements text) is.begins
    ∙ ap (λ r. judge_statement ended.line false (laid [] (length text) code) r ∷ statements text) is.stands.radix_is
    ∙ ap (λ s. s ∷ statements text) (judged_code code tags body ended.line (length text) codes) in
    record {
      no_comment = ended.no_comment;
      not_over = ended.not_over;
      begins = ended.begins;
      stands = subst (λ s. Stands look tagged s next_place next_field next_pairs) (sym statement) (step ended.line (codes.tokens_of (length text)));
    }

-- ## The lines of a cell

-- the place and the field after a word for this cell, or after none
abbrev pub Beyond : Option ℕ → ℕ → ℕ → Type 0
Beyond None place field = (place ≡ 128) × (field ≡ 0)
Beyond (Some cell) place field = (place ≡ cell % 4096 + 1) × (field ≡ cell / 4096)

-- the pieces of a statement are a word at a cell
pub record IsShown (look : Look) (tagged : ℕ → Bool) (cell word : ℕ) (words : List (List ℕ)) : Type 0 where
  pub first : List ℕ
  pub others : List (List ℕ)
  pub some : words ≡ first ∷ others
  pub runs : are_runs (first ∷ others) ≡ true
  pub body : Body
  pub says : (at : ℕ) → Say (tokens_at at (first ∷ others)) [] body
  pub means : IsWordOf look tagged body (cell % 4096) word
  pub names : IsByTag look tagged cell word body

field_part : (look : Look) (tagged : ℕ → Bool) (text : List ℕ) (before : Option ℕ) (cell place field : ℕ) (pairs : List (ℕ × ℕ)) → cell < 32768 → StandsAt look tagged text place field pairs
    → field ≡ next_field before
    → StandsAt look tagged (text_from text (if nat_eq (cell / 4096) (next_field before) then [] else field_line cell))
    (if nat_eq (cell / 4096) (next_field before) then place else 128) (cell / 4096) pairs
field_part look tagged text before cell place field pairs small is following =
    elim (eqb_tells (cell / 4096) (next_field before)) [
      | inl same ↦ rw same.0 (subst (λ f. StandsAt look tagged text place f pairs) (following ∙ sym same.1) is)
      | inr other ↦
          let n = cell / 4096 in
          let code = codes "FIELD " ++ octal_digit n ∷ [] in
          let field_codes_here = field_codes n (omega (arith, small)) in
          rw other.0
          (line_step look tagged text code [] (text_from text (field_line cell)) place field pairs 128 n pairs (Field (number_parts n)) is field_codes_here
          (ends text code is.no_comment is.not_over field_codes_here.legal)
          (λ line tokens. field_step look tagged (statements text) place field pairs line tokens n (omega (arith, small)) is.stands))
    ]

origin_part : (look : Look) (tagged : ℕ → Bool) (text : List ℕ) (next : Bool) (cell place : ℕ) (pairs : List (ℕ × ℕ)) → StandsAt look tagged text place (cell / 4096) pairs
    → (next ≡ true → place ≡ cell % 4096)
    → StandsAt look tagged (text_from text (if next then [] else origin_line cell)) (cell % 4096) (cell / 4096) pairs
origin_part look tagged text true cell place pairs is here = subst (λ p. StandsAt look tagged text p (cell / 4096) pairs) (here refl) is
origin_part look tagged text false cell place pairs is here =
    let a = cell % 4096 in
    let code = 42 ∷ octal4 a in
    let codes_here = origin_codes a (omega arith) in
    line_step look tagged text code [] (text_from text (origin_line cell)) place (cell / 4096) pairs a (cell / 4096) pairs (Origin (number_parts a)) is codes_here
    (ends text code is.no_comment is.not_over codes_here.legal)
    (λ line tokens. origin_step look tagged (statements text) place (cell / 4096) pairs line tokens a (omega arith) is.stands)

comment_on_line : (cell word : ℕ) → has_cr (octal_digit (cell / 4096) ∷ octal4 (cell % 4096) ++ 32 ∷ octal4 word) ≡ false
comment_on_line cell word =
    let o = octal (cell / 4096) in
    let a = octal (cell % 4096 / 512) in
    let b = octal (cell % 4096 / 64) in
    let c = octal (cell % 4096 / 8) in
    let d = octal (cell % 4096) in
    let e = octal (word / 512) in
    let f = octal (word / 64) in
    let g = octal (word / 8) in
    let h = octal word in
    rw (o.return, a.return, b.return, c.return, d.return, e.return, f.return, g.return, h.return) refl

-- comments on lines of their own
notes_part : (look : Look) (tagged : ℕ → Bool) (text : List ℕ) (notes : List (List ℕ)) (place field : ℕ) (pairs : List (ℕ × ℕ)) → all_graphic notes ≡ true
    → StandsAt look tagged text place field pairs → StandsAt look tagged (text_from text (note_lines notes)) place field pairs
notes_part look tagged text [] place field pairs graphic is = is
notes_part look tagged text (note ∷ notes) place field pairs graphic is =
    let parts = both (are_graphic note) (all_graphic notes) graphic in
    let line = (47 ∷ note) ++ line_end in
    let one =
    line_step look tagged text [] [] (text_from text line) place field pairs place field pairs Nothing is nothing_codes
    (ends_commented text [] note is.no_comment is.not_over refl (no_return note parts.0))
    (λ line tokens. nothing_step look tagged (statements text) place field pairs line tokens is.stands) in
    subst (λ t. StandsAt look tagged t place field pairs)
    (sym (ap (text_from text) (sym (append_assoc (47 ∷ note) line_end (note_lines notes))) ∙ text_append line (note_lines notes) text))
    (notes_part look tagged (text_from text line) notes place field pairs parts.1 one)

-- an empty line, or none
gap_part : (look : Look) (tagged : ℕ → Bool) (text : List ℕ) (gap : Bool) (place field : ℕ) (pairs : List (ℕ × ℕ)) → StandsAt look tagged text place field pairs
    → StandsAt look tagged (text_from text (if gap then line_end else [])) place field pairs
gap_part look tagged text false place field pairs is = is
gap_part look tagged text true place field pairs is =
    line_step look tagged text [] [] (text_from text line_end) place field pairs place field pairs Nothing is nothing_codes
    (ends text [] is.no_comment is.not_over refl)
    (λ line tokens. nothing_step look tagged (statements text) place field pairs line tokens is.stands)

word_part : (look : Look) (tagged : ℕ → Bool) (text : List ℕ) (cell word : ℕ) (pairs : List (ℕ × ℕ)) → AreNotes look → IsNaming look.name → cell < 32768
    → IsShown look tagged cell word (statement look tagged cell word)
    → StandsAt look tagged text (cell % 4096) (cell / 4096) pairs
    → StandsAt look tagged (text_from text (word_line look tagged cell word)) (cell % 4096 + 1) (cell / 4096) (pairs ++ (cell, word) ∷ [])
word_part look tagged text cell word pairs notes naming small shown is =
    let place = cell % 4096 in
    let field = cell / 4096 in
    let words = shown.first ∷ shown.others in
    let prefix = tag_part look.name tagged cell in
    let code = prefix ++ 9 ∷ (spaced words ++ 9 ∷ []) in
    let tags = label (tagged cell) (name_in look.name cell) in
    let codes_here =
    labelled (tagged cell) (look.name cell) shown.first shown.others shown.body (naming.are_names cell small) (naming.not_reserved cell small) shown.runs shown.says in
    let remark = look.remark cell in
    let digits = octal_digit field ∷ octal4 place ++ 32 ∷ octal4 word in
    let line = code ++ (47 ∷ ((digits ++ remark) ++ 13 ∷ 10 ∷ [])) in
    let shape : word_line look tagged cell word ≡ line =
    ap (λ w. prefix ++ with_lead 9 w ++ 9 ∷ comment cell word ++ remark ++ line_end) shown.some
    ∙ ap (λ l. prefix ++ l ++ 9 ∷ comment cell word ++ remark ++ line_end) (led_spaced 9 shown.first shown.others)
    ∙ regroup prefix (spaced words) (47 ∷ digits) remark (13 ∷ 10 ∷ []) in
    let done =
    line_step look tagged text code tags (text_from text line) place field pairs (place + 1) field (pairs ++ (cell, word) ∷ []) shown.body is codes_here
    (ends_commented text code (digits ++ remark) is.no_comment is.not_over codes_here.legal
    (no_return_more digits remark (comment_on_line cell word) (no_return remark (notes.remark cell small))))
    (λ line tokens. word_step look tagged (statements text) pairs line tokens shown.body cell word naming small shown.means shown.names is.stands) in
    subst (λ t. StandsAt look tagged (text_from text t) (place + 1) field (pairs ++ (cell, word) ∷ [])) (sym shape) done
  where
    regroup : (p w c r e : List ℕ) → (((p ++ (9 ∷ w)) ++ 9 ∷ c) ++ r) ++ e ≡ (p ++ 9 ∷ (w ++ 9 ∷ [])) ++ ((c ++ r) ++ e)
    regroup p w c r e =
        ap (λ l. l ++ e) (append_assoc (p ++ (9 ∷ w)) (9 ∷ c) r)
        ∙ append_assoc (p ++ (9 ∷ w)) (9 ∷ (c ++ r)) e
        ∙ append_assoc p (9 ∷ w) (9 ∷ ((c ++ r) ++ e))
        ∙ ap (λ l. p ++ 9 ∷ l) (sym (append_assoc w (9 ∷ []) ((c ++ r) ++ e)))
        ∙ sym (append_assoc p (9 ∷ (w ++ 9 ∷ [])) ((c ++ r) ++ e))

-- where the cell is the next, its place is the next
next_place : (before : Option ℕ) (cell place field : ℕ) → Beyond before place field → is_next before cell ≡ true
    → (if nat_eq (cell / 4096) (next_field before) then place else 128) ≡ cell % 4096
next_place None cell place field following next = absurd cc
next_place (Some b) cell place field following next =
    let parts = both (nat_eq (cell / 4096) (b / 4096)) (nat_eq (cell % 4096) (b % 4096 + 1)) next in
    rw parts.0 (following.0 ∙ sym (equal (cell % 4096) (b % 4096 + 1) parts.1))
  where
    equal : (a b : ℕ) → nat_eq a b ≡ true → a ≡ b
    equal a b e = elim (eqb_tells a b) [ inl same ↦ same.1 | inr other ↦ absurd (clash (nat_eq a b) e other.0) ]
      where
        clash : (t : Bool) → t ≡ true → t ≡ false → ⊥
        clash true e f = cc
        clash false e f = cc

field_then : (before : Option ℕ) (place field : ℕ) → Beyond before place field → field ≡ next_field before
field_then None place field following = following.1
field_then (Some b) place field following = following.1

cell_step : (look : Look) (tagged : ℕ → Bool) (text : List ℕ) (before : Option ℕ) (cell word place field : ℕ) (pairs : List (ℕ × ℕ)) → AreNotes look → IsNaming look.name
    → cell < 32768 → IsShown look tagged cell word (statement look tagged cell word) → Beyond before place field → StandsAt look tagged text place field pairs
    → StandsAt look tagged (text_from text (cell_lines look tagged before cell word)) (cell % 4096 + 1) (cell / 4096) (pairs ++ (cell, word) ∷ [])
cell_step look tagged text before cell word place field pairs notes naming small shown following is =
    let a = if nat_eq (cell / 4096) (next_field before) then [] else field_line cell in
    let b = if is_next before cell then [] else origin_line cell in
    let n = note_lines (look.above cell) in
    let w = word_line look tagged cell word in
    let g = if look.has_gap cell then line_end else [] in
    let t = text_from text a in
    let u = text_from t b in
    let v = text_from u n in
    let first = field_part look tagged text before cell place field pairs small is (field_then before place field following) in
    let second =
    origin_part look tagged t (is_next before cell) cell (if nat_eq (cell / 4096) (next_field before) then place else 128) pairs first (next_place before cell place field following) in
    let third = notes_part look tagged u (look.above cell) (cell % 4096) (cell / 4096) pairs (notes.above cell small) second in
    let fourth = word_part look tagged v cell word pairs notes naming small shown third in
    let whole : text_from text (cell_lines look tagged before cell word) ≡ text_from (text_from v w) g =
    text_append (a ++ b ++ n ++ w) g text
    ∙ ap (λ l. text_from l g) (text_append (a ++ b ++ n) w text)
    ∙ ap (λ l. text_from (text_from l w) g) (text_append (a ++ b) n text)
    ∙ ap (λ l. text_from (text_from (text_from l n) w) g) (text_append a b text) in
    subst (λ l. StandsAt look tagged l (cell % 4096 + 1) (cell / 4096) (pairs ++ (cell, word) ∷ [])) (sym whole)
    (gap_part look tagged (text_from v w) (look.has_gap cell) (cell % 4096 + 1) (cell / 4096) (pairs ++ (cell, word) ∷ []) fourth)

-- ## All lines

pub record StandsBeyond (look : Look) (tagged : ℕ → Bool) (text : List ℕ) (before : Option ℕ) (pairs : List (ℕ × ℕ)) : Type 0 where
  pub place : ℕ
  pub field : ℕ
  pub following : Beyond before place field
  pub stands : StandsAt look tagged text place field pairs

-- each cell's statement is its word
abbrev pub AreShown : Look → (ℕ → Bool) → List (ℕ × ℕ) → Type 0
AreShown look tagged [] = Unit {0}
AreShown look tagged (pair ∷ others) = (pair.0 < 32768) × IsShown look tagged pair.0 pair.1 (statement look tagged pair.0 pair.1) × AreShown look tagged others

pub newest_last : (pair : ℕ × ℕ) (pairs : List (ℕ × ℕ)) → reverse (pair ∷ pairs) ≡ reverse pairs ++ pair ∷ []
newest_last pair pairs = reverse-append (pair ∷ []) pairs

text_begun : (look : Look) (tagged : ℕ → Bool) → IsNaming look.name → StandsAt look tagged [] 128 0 []
unfolding statements
text_begun look tagged naming = record { no_comment = refl; not_over = refl; begins = refl; stands = stands_first look tagged naming }

pub lines_stand : (look : Look) (tagged : ℕ → Bool) (pairs : List (ℕ × ℕ)) → AreNotes look → IsNaming look.name → AreShown look tagged pairs → StandsBeyond look tagged (text_of (lines_of look tagged pairs)) (newest_cell pairs) (reverse pairs)
lines_stand look tagged [] notes naming shown = record { place = 128; field = 0; following = (refl, refl); stands = text_begun look tagged naming }
lines_stand look tagged (pair ∷ older) notes naming shown =
    let before = lines_stand look tagged older notes naming shown.2 in
    let lines = cell_lines look tagged (newest_cell older) pair.0 pair.1 in
    let done =
    cell_step look tagged (text_of (lines_of look tagged older)) (newest_cell older) pair.0 pair.1 before.place before.field (reverse older) notes naming shown.0 shown.1 before.following before.stands in
    record {
      place = pair.0 % 4096 + 1;
      field = pair.0 / 4096;
      following = (refl, refl);
      stands =
          subst (λ t. StandsAt look tagged t (pair.0 % 4096 + 1) (pair.0 / 4096) (reverse (pair ∷ older))) (sym (text_append (lines_of look tagged older) lines []))
          (subst (λ p. StandsAt look tagged (text_from (text_of (lines_of look tagged older)) lines) (pair.0 % 4096 + 1) (pair.0 / 4096) p) (sym (newest_last pair older)) done);
    }
