-- What the lines of cells leave.
use Rattle.std.proofs.Common.{◌≡◌, ℕ, ◌+◌, ◌/◌, ◌%◌, ◌<◌, true, suc, None, Ok, length, List, [], ◌∷◌, ◌++◌, refl, ap, sym, subst, ◌∙◌, arith}
use Rattle.word12.specs.declared.sizes.TheConstants.{CORE, FIELD}
use Rattle.word12.specs.Octal.{octal4}
use Rattle.pal_lex.specs.Text.{limit, text_from}
use Rattle.tape_source.specs.Lines.{field_line, line_end, origin_line}
use Rattle.pal8_asm.specs.Sources.{Entry, Source, number, pass_over, with_next}
use Rattle.pal8_source.specs.Plain.{lines_of_word}
use Rattle.pal8_source.specs.Checked.{as_profile}
use Rattle.pal8_source.proofs.LexLemmas.{Reaches}
use Rattle.pal8_source.proofs.PlainLineLemmas.{field_ends, origin_ends, word_ends}
use Rattle.pal8_source.proofs.PassLemmas.{field_passes, field_statement, left_at, origin_passes, origin_statement, word_entry, word_passes, word_statement}

pub text_append : (a b text : List ℕ) → text_from text (a ++ b) ≡ text_from (text_from text a) b
text_append [] b text = refl
text_append (x ∷ a) b text = text_append a b (x ∷ text)

-- a text ends with a line, and leaves this
pub record Leaves (text : List ℕ) (location field : ℕ) (entries : List Entry) : Type 0 where
  pub source : Source
  pub reaches : Reaches text [] source
  pub left : pass_over as_profile source ≡ Ok (left_at location field entries)

field_leaves : (text : List ℕ) (location field : ℕ) (entries : List Entry) (cell : ℕ) → cell < CORE → Leaves text location field entries
    → Leaves (text_from text (field_line cell)) 0o200 (cell / FIELD) entries
field_leaves text location field entries cell small it =
    let e = field_ends text it.source cell small it.reaches in
    let eight : e.n.octal < 8 = omega (arith, small, e.octal) in
    let at = length text in
    let start = limit at in
    let end = limit (suc (suc (suc (suc at))) + 1) in
    let line = field_statement e.n e.line e.at e.start e.end start end in
    record {
      source = line ∷ it.source;
      reaches = e.reaches;
      left =
          ap (with_next line) it.left ∙ field_passes location field entries e.n e.line e.at e.start e.end (omega (arith, eight)) start end eight
          ∙ ap (λ v. Ok (left_at 0o200 v entries)) e.octal;
    }

origin_leaves : (text : List ℕ) (location field : ℕ) (entries : List Entry) (cell : ℕ) → Leaves text location field entries
    → Leaves (text_from text (origin_line cell)) (cell % FIELD) field entries
origin_leaves text location field entries cell it =
    let e = origin_ends text it.source cell it.reaches in
    let start = limit (length text) in
    let end = limit (length text + 1) in
    let line = origin_statement e.n e.line e.at e.start e.end start end in
    record {
      source = line ∷ it.source;
      reaches = e.reaches;
      left =
          ap (with_next line) it.left ∙ origin_passes location field entries e.n e.line e.at e.start e.end (omega (arith, e.octal)) start end
          ∙ ap (λ v. Ok (left_at v field entries)) e.octal;
    }

-- an entry is the word of a cell
pub record IsWordOf (pair : ℕ × ℕ) (e : Entry) : Type 0 where
  pub late : e.late ≡ None
  pub punched : e.is_punched ≡ true
  pub cell : e.cell ≡ pair.0
  pub steps : e.steps ≡ number pair.1
  pub small : pair.1 < 4096

-- the same with one entry more
pub record LeavesWord (text : List ℕ) (cell word : ℕ) (entries : List Entry) : Type 0 where
  pub entry : Entry
  pub is_word : IsWordOf (cell, word) entry
  pub leaves : Leaves text (cell % FIELD + 1) (cell / FIELD) (entries ++ entry ∷ [])

word_leaves : (text : List ℕ) (entries : List Entry) (cell word : ℕ) → word < 4096 → Leaves text (cell % FIELD) (cell / FIELD) entries
    → LeavesWord (text_from text (octal4 word ++ line_end)) cell word entries
word_leaves text entries cell word small it =
    let e = word_ends text it.source word small it.reaches in
    let line = word_statement e.n e.line e.at e.start e.end in
    let passes = word_passes (cell % FIELD) (cell / FIELD) entries e.n e.line e.at e.start e.end (omega (arith, small, e.octal)) (omega arith) in
    record {
      entry = word_entry (cell % FIELD) (cell / FIELD) e.n e.line e.at e.start e.end;
      is_word = record { late = refl; punched = refl; cell = omega arith; steps = ap number e.octal; small = small };
      leaves = record { source = line ∷ it.source; reaches = e.reaches; left = ap (with_next line) it.left ∙ passes };
    }

-- the three lines of a cell
pub lines_leave : (text : List ℕ) (location field : ℕ) (entries : List Entry) (cell word : ℕ) → cell < CORE → word < 4096 → Leaves text location field entries
    → LeavesWord (text_from text (lines_of_word cell word)) cell word entries
lines_leave text location field entries cell word in_core small it =
    let first = field_leaves text location field entries cell in_core it in
    let second = origin_leaves (text_from text (field_line cell)) 0o200 (cell / FIELD) entries cell first in
    let third = word_leaves (text_from (text_from text (field_line cell)) (origin_line cell)) entries cell word small second in
    subst (λ t. LeavesWord t cell word entries)
    (sym (text_append (field_line cell) (origin_line cell ++ (octal4 word ++ line_end)) text ∙ text_append (origin_line cell) (octal4 word ++ line_end) (text_from text (field_line cell))))
    third
