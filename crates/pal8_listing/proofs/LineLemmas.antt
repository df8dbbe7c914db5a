-- The words of a text begin in lines that rise.
use Rattle.std.proofs.Common.{◌≡◌, ℕ, ◌+◌, ◌-◌, ◌≤◌, Bool, true, false, nat_eq, ◌&&◌, not, if◌then◌else◌, Option, Some, None, is_some, Result, Ok, Err, List, [], ◌∷◌, ◌++◌, refl, sym, ap, subst, arith}
use Rattle.pal_lex.specs.Text.{limit}
use Rattle.pal8_lex.specs.Text.{line_after, line_count, live}
use Rattle.pal8_lex.specs.Pieces.{ends, pieces}
use Rattle.pal8_lex.specs.Statements.{statement_of}
use Rattle.pal8_grammar.specs.SourceNames.{NameState}
use Rattle.pal8_grammar.specs.Bodies.{Phrase}
use Rattle.pal8_grammar.specs.declared.steps.Step.{Step}
use Rattle.pal8_grammar.specs.declared.faults.GrammarFault.{GrammarFault}
use Rattle.pal8_values.specs.declared.sums.Spot.{Spot}
use Rattle.pal8_asm.specs.Marks.{marks_of}
use Rattle.pal8_places.specs.Places.{Standing, has_later, spot_at, truth_of}
use Rattle.pal8_asm.specs.Sources.{Entry, PassResult, Remainder, Statement, brackets_with, defined_name, end_of_pass, entry_at, first_left, late_entry, next_spot, open_value, pass_over, place_of, remainder_of_text, statement_at, statements, statements_of, with_brackets, with_end, with_entries, with_late_by, with_next, with_phrase, with_said, with_selected, with_skipped, words_in}
use Rattle.pal8_places.specs.Brackets.{is_selected}
use Rattle.pal8_places.specs.declared.faults.Code.{Code}
use Rattle.pal8_asm.specs.declared.faults.Fault.{Fault}
use Rattle.pal8_asm.specs.declared.faults.Place.{Place}
use Rattle.pal8_asm.specs.declared.marks.Mark.{Mark}
use Rattle.pal8_places.specs.declared.options.Options.{Options}

-- ## Numbers that rise

abbrev pub Rises : ℕ → List ℕ → Type 0
Rises low [] = Unit {0}
Rises low (n ∷ ns) = (low ≤ n) × Rises n ns

abbrev pub AtMost : ℕ → List ℕ → Type 0
AtMost high [] = Unit {0}
AtMost high (n ∷ ns) = (n ≤ high) × AtMost high ns

pub rise_lower : (ns : List ℕ) (low lower : ℕ) → lower ≤ low → Rises low ns → Rises lower ns
rise_lower [] low lower le p = tt
rise_lower (n ∷ ns) low lower le p = (omega (arith, le, p.0), p.1)

pub most_more : (ns : List ℕ) (high higher : ℕ) → high ≤ higher → AtMost high ns → AtMost higher ns
most_more [] high higher le p = tt
most_more (n ∷ ns) high higher le p = (omega (arith, le, p.0), most_more ns high higher le p.1)

rise_on : (ns : List ℕ) (low high : ℕ) → low ≤ high → Rises low ns → AtMost high ns → Rises low (ns ++ high ∷ [])
rise_on [] low high le p q = (le, tt)
rise_on (n ∷ ns) low high le p q = (p.0, rise_on ns n high q.0 p.1 q.1)

most_on : (ns : List ℕ) (high : ℕ) → AtMost high ns → AtMost high (ns ++ high ∷ [])
most_on [] high q = (omega arith, tt)
most_on (n ∷ ns) high q = (q.0, most_on ns high q.1)

-- ## Words that are to be made

abbrev pub entry_lines : List Entry → List ℕ
entry_lines [] = []
entry_lines (e ∷ es) = e.place.line ∷ entry_lines es

abbrev pub Begin : ℕ → ℕ → List Entry → Type 0
Begin low high es = Rises low (entry_lines es) × AtMost high (entry_lines es)

lines_on : (es : List Entry) (e : Entry) → entry_lines (es ++ e ∷ []) ≡ entry_lines es ++ e.place.line ∷ []
lines_on [] e = refl
lines_on (x ∷ es) e = ap (λ l. x.place.line ∷ l) (lines_on es e)

begin_on : (es : List Entry) (e : Entry) (low : ℕ) → low ≤ e.place.line → Begin low e.place.line es → Begin low e.place.line (es ++ e ∷ [])
begin_on es e low le p = (
  subst (λ l. Rises low l) (sym (lines_on es e)) (rise_on (entry_lines es) low e.place.line le p.0 p.1),
  subst (λ l. AtMost e.place.line l) (sym (lines_on es e)) (most_on (entry_lines es) e.place.line p.1),
)

begin_words : (words : List (List Step)) (place : Place) (spot : Spot) (es : List Entry) (low : ℕ) → low ≤ place.line → Begin low place.line es
    → Begin low place.line (with_entries place spot words es)
begin_words [] place spot es low le p = p
begin_words (steps ∷ words) place spot es low le p =
    begin_words words place (next_spot spot) (es ++ entry_at place spot steps ∷ []) low le (begin_on es (entry_at place spot steps) low le p)

begin_if : (t : Bool) (es : List Entry) (e : Entry) (low : ℕ) → low ≤ e.place.line → Begin low e.place.line es → Begin low e.place.line (if t then es ++ e ∷ [] else es)
begin_if true es e low le p = begin_on es e low le p
begin_if false es e low le p = p

begin_late : (name : Option ℕ) (place : Place) (spot : Spot) (steps : List Step) (names : NameState) (es : List Entry) (low : ℕ) → low ≤ place.line → Begin low place.line es
    → Begin low place.line (with_late_by place spot steps names name es)
begin_late None place spot steps names es low le p = p
begin_late (Some name) place spot steps names es low le p = begin_if (has_later names.own steps) es (late_entry place spot name steps names) low le p

-- ## Statements

abbrev fine : Remainder → PassResult
fine left = Ok left

fine_same : (a b : Remainder) → fine a ≡ fine b → a ≡ b
fine_same a b is = cc

fault_fine : (fault : Fault) (a : Remainder) → Err fault ≡ fine a → ⊥
fault_fine fault a is = cc

module _ (s : Statement) (left after : Remainder) (low : ℕ) (le : low ≤ s.line) (p : Begin low s.line left.entries) where
  brackets_by : (standing : Standing) (es : List Entry) (brackets : Result (List Bool) Fault) → Begin low s.line es → with_brackets s standing es brackets ≡ fine after
      → Begin low s.line after.entries
  brackets_by standing es (Err fault) q is = absurd (fault_fine fault after is)
  brackets_by standing es (Ok brackets) q is = subst (λ (r : Remainder). Begin low s.line r.entries) (fine_same _ after is) q

  phrase_by : (phrase : Phrase) (standing : Result Standing Code) → with_phrase s phrase left standing ≡ fine after → Begin low s.line after.entries
  phrase_by phrase (Err fault) is = absurd (fault_fine _ after is)
  phrase_by phrase (Ok standing) is =
      brackets_by standing _ (brackets_with (place_of s) s.end left.brackets (truth_of phrase.0 phrase.1 standing))
      (begin_late (defined_name phrase.0) (place_of s) (spot_at left.standing.position) phrase.1 standing.names _ low le
      (begin_words (words_in left.standing.position.options phrase.0 (open_value standing) phrase.1 s.string (standing.position.location - left.standing.position.location)) (place_of s) (spot_at left.standing.position) left.entries low le p))
      is

  said_by : (said : Result Phrase GrammarFault) → with_said s left said ≡ fine after → Begin low s.line after.entries
  said_by (Err fault) is = absurd (fault_fine _ after is)
  said_by (Ok phrase) is = phrase_by phrase _ is

  next_by : (over selected : Bool) → (if over then fine left else (if selected then with_selected s left else fine (with_skipped s left))) ≡ fine after → Begin low s.line after.entries
  next_by true selected is = subst (λ (r : Remainder). Begin low s.line r.entries) (fine_same left after is) p
  next_by false true is = said_by _ is
  next_by false false is = subst (λ (r : Remainder). Begin low s.line r.entries) (fine_same (with_skipped s left) after is) p

  begin_next : with_next s (fine left) ≡ fine after → Begin low s.line after.entries
  begin_next is = next_by (is_some left.end) (is_selected left.brackets) is

first_line : (n : ℕ) → 1 ≤ limit (1 + n)
first_line n = omega arith

later_line : (n k : ℕ) → limit (1 + n) ≤ limit (1 + (k + n))
later_line n k = omega arith

module _ (options : Options) (x : ℕ × ℕ) (older : List (ℕ × ℕ)) (before : (left : Remainder) → pass_over options (statements_of older) ≡ fine left → Begin 1 (line_after older) left.entries) where
  result_by : (result : PassResult) → pass_over options (statements_of older) ≡ result → (left : Remainder) → with_next (statement_at (limit x.1) (statement_of x.0 older)) result ≡ fine left
      → Begin 1 (line_after older) left.entries
  result_by (Err fault) e left is = absurd (fault_fine fault left is)
  result_by (Ok r) e left is = begin_next (statement_at (limit x.1) (statement_of x.0 older)) r left 1 (first_line (line_count older)) (before r e) is

  ends_by : (t : Bool) (left : Remainder) → pass_over options (if t then statement_at (limit x.1) (statement_of x.0 older) ∷ statements_of older else statements_of older) ≡ fine left
      → Begin 1 (line_after older) left.entries
  ends_by true left is = result_by (pass_over options (statements_of older)) refl left is
  ends_by false left is = before left is

  begin_byte : (left : Remainder) → pass_over options (statements_of (x ∷ older)) ≡ fine left → Begin 1 (line_after (x ∷ older)) left.entries
  begin_byte left is =
      let p = ends_by (ends (pieces older) x.0) left is in
      (p.0, most_more (entry_lines left.entries) (line_after older) (line_after (x ∷ older)) (later_line (line_count older) (if nat_eq x.0 0o15 then 1 else 0)) p.1)

begin_bytes : (options : Options) (bytes : List (ℕ × ℕ)) (left : Remainder) → pass_over options (statements_of bytes) ≡ fine left → Begin 1 (line_after bytes) left.entries
begin_bytes options [] left is = subst (λ (r : Remainder). Begin 1 (line_after []) r.entries) (fine_same (first_left options) left is) (tt, tt)
begin_bytes options (x ∷ older) left is = begin_byte options x older (begin_bytes options older) left is

-- ## Texts

end_by : (text : List ℕ) (left after : Remainder) (brackets : List Bool) (end : Option Place) → with_end text left brackets end ≡ fine after → left ≡ after
end_by text left after [] None is = absurd (fault_fine _ after is)
end_by text left after [] (Some place) is = fine_same left after is
end_by text left after (b ∷ brackets) None is = absurd (fault_fine _ after is)
end_by text left after (b ∷ brackets) (Some place) is = absurd (fault_fine _ after is)

pass_by : (options : Options) (text : List ℕ) (result : PassResult) → pass_over options (statements text) ≡ result → (left : Remainder) → end_of_pass text result ≡ fine left
    → Begin 1 (line_after (live text)) left.entries
pass_by options text (Err fault) e left is = absurd (fault_fine fault left is)
pass_by options text (Ok r) e left is =
    subst (λ (r : Remainder). Begin 1 (line_after (live text)) r.entries) (end_by text r left r.brackets r.end is) (begin_bytes options (live text) r e)

-- the words of a text begin in lines that rise, in none after its last
pub begin_text : (options : Options) (text : List ℕ) (left : Remainder) → remainder_of_text options text ≡ Ok left → Begin 1 (line_after (live text)) left.entries
begin_text options text left is = pass_by options text (pass_over options (statements text)) refl left is

-- ## Marks

abbrev pub mark_lines : List Mark → List ℕ
mark_lines [] = []
mark_lines (m ∷ ms) = m.line ∷ mark_lines ms

abbrev marked : Bool → Mark → List Mark
marked t m = if t then m ∷ [] else []

rise_by : (t : Bool) (m : Mark) (ms : List Mark) (low : ℕ) → low ≤ m.line → Rises m.line (mark_lines ms) → Rises low (mark_lines (marked t m ++ ms))
rise_by true m ms low le p = (le, p)
rise_by false m ms low le p = rise_lower (mark_lines ms) m.line low le p

most_by : (t : Bool) (m : Mark) (ms : List Mark) (high : ℕ) → m.line ≤ high → AtMost high (mark_lines ms) → AtMost high (mark_lines (marked t m ++ ms))
most_by true m ms high le p = (le, p)
most_by false m ms high le p = p

pub rise_marks : (es : List Entry) (low : ℕ) → Rises low (entry_lines es) → Rises low (mark_lines (marks_of es))
rise_marks [] low p = tt
rise_marks (e ∷ es) low p = rise_by (e.is_punched && not (is_some e.late)) _ (marks_of es) low p.0 (rise_marks es e.place.line p.1)

pub most_marks : (es : List Entry) (high : ℕ) → AtMost high (entry_lines es) → AtMost high (mark_lines (marks_of es))
most_marks [] high p = tt
most_marks (e ∷ es) high p = most_by (e.is_punched && not (is_some e.late)) _ (marks_of es) high p.0 (most_marks es high p.1)
