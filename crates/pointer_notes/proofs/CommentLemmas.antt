-- Comments with the cells of a chain.
use Rattle.std.proofs.Common.{◌≡◌, ℕ, suc, ◌/◌, true, false, true≢false, is_some, Bool, Option, Some, None, List, [], ◌∷◌, ◌++◌, ◌<◌, slice_index_or, append-nil, append_assoc, refl, ap, sym, subst, ◌∙◌}
use Rattle.std.specs.Prelude.{codes}
use Rattle.word12.specs.Octal.{octal5}
use Rattle.source_notes.specs.Notes.{cells_line, note_lines, some_cells}
use Rattle.word12.specs.declared.sizes.TheConstants.{CORE}
use Rattle.source_notes.specs.Referrers.{cells_below}
use Rattle.pointer_notes.specs.Tables.{AreChains, HasCells, IsChain, halves}
use Rattle.pointer_notes.proofs.NodeLemmas.{at_cell}

-- what is still to be put of a text: so many cells at most of a chain
pub record IsPutTo (next : List (Option ℕ)) (whole text : List ℕ) (first : Option ℕ) (left : ℕ) : Type 0 where
  pub rest : List ℕ
  pub is_chain : IsChain next first rest
  pub is : whole ≡ text ++ some_cells left (halves rest)

pub puts : (next : List (Option ℕ)) (whole text text' : List ℕ) (node left : ℕ) → text' ≡ text ++ 0o40 ∷ octal5 (node / 2)
    → IsPutTo next whole text (Some node) (suc left) → IsPutTo next whole text' (slice_index_or next node None) left
puts next whole text text' node left more put = step put.rest put.is_chain put.is
  where
    step : (nodes : List ℕ) → IsChain next (Some node) nodes → whole ≡ text ++ some_cells (suc left) (halves nodes)
        → IsPutTo next whole text' (slice_index_or next node None) left
    step [] chain is = absurd chain
    step (other ∷ nodes) chain is = record {
      rest = nodes;
      is_chain = chain.1;
      is =
          is
          ∙ ap (λ n. text ++ (0o40 ∷ octal5 (n / 2) ++ some_cells left (halves nodes))) (sym chain.0)
          ∙ sym (append_assoc text (0o40 ∷ octal5 (node / 2)) (some_cells left (halves nodes)))
          ∙ ap (λ l. l ++ some_cells left (halves nodes)) (sym more);
    }

-- the same of what is read in place
pub put_more : (next : List (Option ℕ)) (whole text text' : List ℕ) (first : Option ℕ) (node cell : ℕ) (read : Option ℕ) (left left' : ℕ)
    → suc left' ≡ left → first ≡ Some node → read ≡ slice_index_or next node None → cell ≡ node / 2
    → text' ≡ text ++ 0o40 ∷ octal5 cell → IsPutTo next whole text first left → IsPutTo next whole text' read left'
put_more next whole text text' first node cell read left left' less is found half more put =
    subst (λ o. IsPutTo next whole text' o left') (sym found)
    (puts next whole text text' node left' (more ∙ ap (λ c. text ++ 0o40 ∷ octal5 c) half)
    (subst (λ n. IsPutTo next whole text (Some node) n) (sym less) (subst (λ o. IsPutTo next whole text o left) is put)))

pub put_begins : (next : List (Option ℕ)) (text : List ℕ) (first : Option ℕ) (nodes : List ℕ) → IsChain next first nodes
    → IsPutTo next (text ++ some_cells 8 (halves nodes)) text first 8
put_begins next text first nodes chain = record { rest = nodes; is_chain = chain; is = refl }

-- no number is left
pub put_none : (next : List (Option ℕ)) (whole text : List ℕ) (first : Option ℕ) (left : ℕ) → is_some first ≡ false → IsPutTo next whole text first left
    → text ≡ whole
put_none next whole text first left none put = by first none put.rest put.is_chain put.is
  where
    by : (first : Option ℕ) → is_some first ≡ false → (nodes : List ℕ) → IsChain next first nodes → whole ≡ text ++ some_cells left (halves nodes) → text ≡ whole
    by None none [] chain is = sym (is ∙ append-nil text)
    by None none (node ∷ nodes) chain is = absurd chain
    by (Some node) none nodes chain is = absurd (true≢false none)

-- more are left than there is place for
pub put_many : (next : List (Option ℕ)) (whole text text' : List ℕ) (first : Option ℕ) (left : ℕ) → left ≡ 0 → is_some first ≡ true
    → text' ≡ text ++ codes " .." → IsPutTo next whole text first left → text' ≡ whole
put_many next whole text text' first left full some more put = by first some put.rest put.is_chain put.is
  where
    by : (first : Option ℕ) → is_some first ≡ true → (nodes : List ℕ) → IsChain next first nodes → whole ≡ text ++ some_cells left (halves nodes) → text' ≡ whole
    by None some nodes chain is = absurd (true≢false (sym some))
    by (Some node) some [] chain is = absurd chain
    by (Some node) some (other ∷ nodes) chain is = more ∙ sym (is ∙ ap (λ n. text ++ some_cells n (other / 2 ∷ halves nodes)) full)

-- ## Lines

-- a chain of no number has no line
pub no_line : (next : List (Option ℕ)) (first : Option ℕ) (text words nodes : List ℕ) → is_some first ≡ false → IsChain next first nodes
    → text ≡ text ++ note_lines (cells_line words (halves nodes))
no_line next None text words [] none chain = sym (append-nil text)
no_line next None text words (node ∷ nodes) none chain = absurd chain
no_line next (Some first) text words nodes none chain = absurd (true≢false none)

pub joined : (a b c d e words some : List ℕ) → b ≡ a ++ 0o57 ∷ [] → c ≡ b ++ words → d ≡ c ++ some → e ≡ d ++ 0o15 ∷ 0o12 ∷ []
    → e ≡ a ++ (0o57 ∷ (words ++ some) ++ 0o15 ∷ 0o12 ∷ [])
joined a b c d e words some slash put listed end =
    end ∙ ap (λ l. l ++ 0o15 ∷ 0o12 ∷ []) (listed ∙ ap (λ l. l ++ some) (put ∙ ap (λ l. l ++ words) slash)) ∙ simp append_assoc

pub one_line : (next : List (Option ℕ)) (first : Option ℕ) (a b c d e words nodes : List ℕ) → is_some first ≡ true → b ≡ a ++ 0o57 ∷ []
    → c ≡ b ++ words
    → d ≡ c ++ some_cells 8 (halves nodes) → e ≡ d ++ 0o15 ∷ 0o12 ∷ [] → IsChain next first nodes
    → e ≡ a ++ note_lines (cells_line words (halves nodes))
one_line next None a b c d e words nodes some slash put listed end chain = absurd (true≢false (sym some))
one_line next (Some first) a b c d e words [] some slash put listed end chain = absurd chain
one_line next (Some first) a b c d e words (node ∷ nodes) some slash put listed end chain =
    joined a b c d e words (some_cells 8 (node / 2 ∷ halves nodes)) slash put listed end

-- the line of a chain of these cells
pub cells_of : (next : List (Option ℕ)) (first : Option ℕ) (a e words cells : List ℕ)
    → ((nodes : List ℕ) → IsChain next first nodes → e ≡ a ++ note_lines (cells_line words (halves nodes))) → HasCells next first cells
    → e ≡ a ++ note_lines (cells_line words cells)
cells_of next first a e words cells puts has = puts has.nodes has.chain ∙ ap (λ l. a ++ note_lines (cells_line words l)) has.are

pub line_at : (names : ℕ → ℕ → Bool) (first next lent_first lent : List (Option ℕ)) (cell : ℕ) (read : Option ℕ) (a e words : List ℕ)
    → AreChains names first next → lent_first ≡ first → lent ≡ next → cell < CORE → read ≡ slice_index_or lent_first cell None
    → ((nodes : List ℕ) → IsChain lent read nodes → e ≡ a ++ note_lines (cells_line words (halves nodes)))
    → e ≡ a ++ note_lines (cells_line words (cells_below (names cell) CORE))
line_at names first next lent_first lent cell read a e words are lends_first lends small found puts =
    cells_of next read a e words (cells_below (names cell) CORE) (λ nodes chain. puts nodes (subst (λ l. IsChain l read nodes) (sym lends) chain))
    (at_cell names first next lent_first cell read are lends_first small found)

pub lines_join : (xs ys : List (List ℕ)) → note_lines (xs ++ ys) ≡ note_lines xs ++ note_lines ys
lines_join [] ys = refl
lines_join (note ∷ xs) ys =
    ap (λ l. 0o57 ∷ note ++ (0o15 ∷ 0o12 ∷ l)) (lines_join xs ys)
    ∙ sym (ap (λ l. 0o57 ∷ l) (append_assoc note (0o15 ∷ 0o12 ∷ note_lines xs) (note_lines ys)))

pub both_lines : (a b c : List ℕ) (xs ys : List (List ℕ)) → b ≡ a ++ note_lines xs → c ≡ b ++ note_lines ys → c ≡ a ++ note_lines (xs ++ ys)
both_lines a b c xs ys first second =
    second ∙ ap (λ l. l ++ note_lines ys) first ∙ append_assoc a (note_lines xs) (note_lines ys) ∙ ap (λ l. a ++ l) (sym (lines_join xs ys))
