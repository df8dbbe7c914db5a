-- Comments with the cells of a chain.
use Rattle.std.proofs.Common.{◌≡◌, ℕ, suc, true, false, true≢false, is_some, Option, Some, None, List, [], ◌∷◌, ◌++◌, ◌<◌, length, slice_index_or, append-nil, append_assoc, refl, ap, sym, subst, ◌∙◌}
use Rattle.std.proofs.lemmas.List.{get_or_default}
use Rattle.word12.specs.Octal.{octal5}
use Rattle.source_notes.specs.Notes.{cells_line, note_lines, some_cells}
use Rattle.source_notes.specs.Tables.{IsChain}

-- what is still to be put of a text: so many cells at most of a chain
pub record IsPutTo (next : List (Option ℕ)) (whole text : List ℕ) (first : Option ℕ) (left : ℕ) : Type 0 where
  pub rest : List ℕ
  pub is_chain : IsChain next first rest
  pub is : whole ≡ text ++ some_cells left rest

pub puts : (next : List (Option ℕ)) (whole text text' : List ℕ) (cell left : ℕ) → text' ≡ text ++ 0o40 ∷ octal5 cell
    → IsPutTo next whole text (Some cell) (suc left) → IsPutTo next whole text' (slice_index_or next cell None) left
puts next whole text text' cell left more put = step put.rest put.is_chain put.is
  where
    step : (cells : List ℕ) → IsChain next (Some cell) cells → whole ≡ text ++ some_cells (suc left) cells
        → IsPutTo next whole text' (slice_index_or next cell None) left
    step [] chain is = absurd chain
    step (other ∷ cells) chain is = record {
      rest = cells;
      is_chain = chain.1;
      is =
          is
          ∙ ap (λ c. text ++ (0o40 ∷ octal5 c ++ some_cells left cells)) (sym chain.0)
          ∙ sym (append_assoc text (0o40 ∷ octal5 cell) (some_cells left cells))
          ∙ ap (λ l. l ++ some_cells left cells) (sym more);
    }

-- the same of what is read in place
pub put_more : (next : List (Option ℕ)) (whole text text' : List ℕ) (first : Option ℕ) (cell at : ℕ) (read : Option ℕ) (left left' : ℕ)
    → suc left' ≡ left → first ≡ Some cell
    → at ≡ cell → at < length next → read ≡ slice_index_or next at read → text' ≡ text ++ 0o40 ∷ octal5 cell
    → IsPutTo next whole text first left → IsPutTo next whole text' read left'
put_more next whole text text' first cell at read left left' less is same inside found more put =
    subst (λ o. IsPutTo next whole text' o left') (sym (found ∙ get_or_default next at read None inside ∙ ap (λ c. slice_index_or next c None) same))
    (puts next whole text text' cell left' more (subst (λ n. IsPutTo next whole text (Some cell) n) (sym less)
    (subst (λ o. IsPutTo next whole text o left) is put)))

-- ## Lines

-- a chain of no cell has no line
pub no_line : (next : List (Option ℕ)) (first : Option ℕ) (text words cells : List ℕ) → is_some first ≡ false → IsChain next first cells
    → text ≡ text ++ note_lines (cells_line words cells)
no_line next None text words [] none chain = sym (append-nil text)
no_line next None text words (cell ∷ cells) none chain = absurd chain
no_line next (Some first) text words cells none chain = absurd (true≢false none)

pub one_line : (next : List (Option ℕ)) (first : Option ℕ) (a b c d e words cells : List ℕ) → is_some first ≡ true → b ≡ a ++ 0o57 ∷ []
    → c ≡ b ++ words
    → d ≡ c ++ some_cells 8 cells → e ≡ d ++ 0o15 ∷ 0o12 ∷ [] → IsChain next first cells → e ≡ a ++ note_lines (cells_line words cells)
one_line next None a b c d e words cells some slash put listed end chain = absurd (true≢false (sym some))
one_line next (Some first) a b c d e words [] some slash put listed end chain = absurd chain
one_line next (Some first) a b c d e words (cell ∷ cells) some slash put listed end chain =
    joined a b c d e words (some_cells 8 (cell ∷ cells)) slash put listed end
  where
    joined : (a b c d e words some : List ℕ) → b ≡ a ++ 0o57 ∷ [] → c ≡ b ++ words → d ≡ c ++ some → e ≡ d ++ 0o15 ∷ 0o12 ∷ []
        → e ≡ a ++ (0o57 ∷ (words ++ some) ++ 0o15 ∷ 0o12 ∷ [])
    joined a b c d e words some slash put listed end =
        end ∙ ap (λ l. l ++ 0o15 ∷ 0o12 ∷ []) (listed ∙ ap (λ l. l ++ some) (put ∙ ap (λ l. l ++ words) slash)) ∙ simp append_assoc

pub lines_join : (xs ys : List (List ℕ)) → note_lines (xs ++ ys) ≡ note_lines xs ++ note_lines ys
lines_join [] ys = refl
lines_join (note ∷ xs) ys =
    ap (λ l. 0o57 ∷ note ++ (0o15 ∷ 0o12 ∷ l)) (lines_join xs ys)
    ∙ sym (ap (λ l. 0o57 ∷ l) (append_assoc note (0o15 ∷ 0o12 ∷ note_lines xs) (note_lines ys)))

pub both_lines : (a b c : List ℕ) (xs ys : List (List ℕ)) → b ≡ a ++ note_lines xs → c ≡ b ++ note_lines ys → c ≡ a ++ note_lines (xs ++ ys)
both_lines a b c xs ys first second =
    second ∙ ap (λ l. l ++ note_lines ys) first ∙ append_assoc a (note_lines xs) (note_lines ys) ∙ ap (λ l. a ++ l) (sym (lines_join xs ys))
