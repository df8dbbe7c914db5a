-- How pieces of letters and digits, joined by blanks, are cut into tokens.
use Rattle.std.proofs.Common.{◌≡◌, ℕ, ◌+◌, Bool, true, false, ◌&&◌, ◌||◌, not, suc, length, List, [], ◌∷◌, ◌++◌, refl, ap, ◌∙◌, arith, append_assoc, append-nil}
use Rattle.pal_lex.specs.Text.{limit}
use Rattle.pal_lex.specs.Cutting.{Piece, Run, Mark, is_coded, are_coded, is_legal, has_illegal, pieces, with_byte, with_character}
use Rattle.pal_lex.specs.Steps.{with_characters}
use Rattle.pal_lex.specs.Runs.{run_kind, in_order}
use Rattle.pal_lex.specs.declared.pieces.Token.{Token}
use Rattle.pal_lex.specs.declared.pieces.Kind.{Kind}
use Rattle.pal_lex.specs.declared.pieces.Kind.TheVariants.{BadNumber, Blank}
use Rattle.tape_source.specs.Lines.{with_lead}
use Rattle.tape_source.proofs.ByteLemmas.{both, all_legal}
use Rattle.tape_source.proofs.TextLemmas.{laid}

pub laid_append : (a b : List ℕ) (live : List (ℕ × ℕ)) (at : ℕ) → laid live at (a ++ b) ≡ laid (laid live at a) (at + length a) b
laid_append [] b live at = ap (λ n. laid live n b) (none at)
  where
    none : (n : ℕ) → n ≡ n + 0
    none n = omega arith
laid_append (x ∷ a) b live at =
    laid_append a b ((x, at) ∷ live) (suc at) ∙ ap (λ n. laid (laid ((x, at) ∷ live) (suc at) a) n b) (turned at (length a))
  where
    turned : (n k : ℕ) → suc n + k ≡ n + suc k
    turned n k = omega arith

-- legal bytes leave no illegal one
pub legal_laid : (bytes : List ℕ) (live : List (ℕ × ℕ)) (at : ℕ) → all_legal bytes ≡ true → has_illegal live ≡ false → has_illegal (laid live at bytes) ≡ false
legal_laid [] live at legal fine = fine
legal_laid (b ∷ bytes) live at legal fine =
    let parts = both (is_legal b) (all_legal bytes) legal in
    legal_laid bytes ((b, at) ∷ live) (suc at) parts.1 (two (is_legal b) (has_illegal live) parts.0 fine)
  where
    two : (a c : Bool) → a ≡ true → c ≡ false → (not a || c) ≡ false
    two true c e f = f
    two false c e f = absurd cc

-- ## One run

-- no run stands at the end
abbrev pub Starts : List Piece → Type 0
Starts [] = Unit {0}
Starts (Run first others start end ∷ before) = ⊥
Starts (Mark kind place ∷ before) = Unit {0}

characters : (bytes : List ℕ) (live : List (ℕ × ℕ)) (at : ℕ) → are_coded bytes ≡ true → pieces (laid live at bytes) ≡ with_characters bytes at (pieces live)
characters [] live at coded = refl
characters (b ∷ bytes) live at coded =
    let parts = both (is_coded b) (are_coded bytes) coded in
    characters bytes ((b, at) ∷ live) (suc at) parts.1
    ∙ ap (with_characters bytes (suc at)) (coded_byte b at (pieces live) parts.0)
    ∙ ap (λ n. with_characters bytes n (with_character b at (pieces live))) (next at)
  where
    next : (n : ℕ) → suc n ≡ n + 1
    next n = omega arith

    coded_byte : (b at : ℕ) (before : List Piece) → is_coded b ≡ true → with_byte b at before ≡ with_character b at before
    coded_byte b at before e = rw e refl

going_on : (bytes so_far : List ℕ) (first start at : ℕ) (before : List Piece)
    → with_characters bytes at (Run first so_far start at ∷ before) ≡ Run first (so_far ++ bytes) start (at + length bytes) ∷ before
going_on [] so_far first start at before = ap (λ n. Run first so_far start n ∷ before) (none at) ∙ ap (λ l. Run first l start (at + 0) ∷ before) (empty so_far)
  where
    none : (n : ℕ) → n ≡ n + 0
    none n = omega arith

    empty : (l : List ℕ) → l ≡ l ++ []
    empty [] = refl
    empty (x ∷ l) = ap (λ r. x ∷ r) (empty l)
going_on (b ∷ bytes) so_far first start at before =
    going_on bytes (so_far ++ b ∷ []) first start (at + 1) before
    ∙ ap (λ l. Run first l start (at + 1 + length bytes) ∷ before) (append_assoc so_far (b ∷ []) bytes)
    ∙ ap (λ n. Run first (so_far ++ b ∷ bytes) start n ∷ before) (turned at (length bytes))
  where
    turned : (n k : ℕ) → n + 1 + k ≡ n + suc k
    turned n k = omega arith

begun : (first at : ℕ) (before : List Piece) → Starts before → with_character first at before ≡ Run first [] at (at + 1) ∷ before
begun first at [] starts = refl
begun first at (Run f o s e ∷ before) starts = absurd starts
begun first at (Mark kind place ∷ before) starts = refl

pub run : (first : ℕ) (others : List ℕ) (live : List (ℕ × ℕ)) (at : ℕ) → are_coded (first ∷ others) ≡ true → Starts (pieces live)
    → pieces (laid live at (first ∷ others)) ≡ Run first others at (at + suc (length others)) ∷ pieces live
run first others live at coded starts =
    characters (first ∷ others) live at coded
    ∙ ap (with_characters others (at + 1)) (begun first at (pieces live) starts)
    ∙ going_on others [] first at (at + 1) (pieces live)
    ∙ ap (λ n. Run first others at n ∷ pieces live) (turned at (length others))
  where
    turned : (n k : ℕ) → n + 1 + k ≡ n + suc k
    turned n k = omega arith

-- ## Runs joined by blanks

-- pieces joined by blanks
abbrev pub spaced : List (List ℕ) → List ℕ
spaced [] = []
spaced (piece ∷ []) = piece
spaced (piece ∷ next ∷ others) = piece ++ 32 ∷ spaced (next ∷ others)

pub led_spaced : (byte : ℕ) (piece : List ℕ) (others : List (List ℕ)) → with_lead byte (piece ∷ others) ≡ byte ∷ spaced (piece ∷ others)
led_spaced byte piece [] = ap (λ l. byte ∷ l) (append-nil piece)
led_spaced byte piece (next ∷ others) = ap (λ l. byte ∷ piece ++ l) (led_spaced 32 next others)

-- letters and digits, one at least
abbrev pub is_run : List ℕ → Bool
is_run [] = false
is_run (first ∷ others) = are_coded (first ∷ others)

abbrev pub are_runs : List (List ℕ) → Bool
are_runs [] = true
are_runs (piece ∷ others) = is_run piece && are_runs others

abbrev pub kind_of : List ℕ → Kind
kind_of [] = BadNumber
kind_of (first ∷ others) = run_kind 8 first others

abbrev pub run_token : ℕ → List ℕ → Token
run_token at piece = record { kind = kind_of piece; start = limit at; end = limit (at + length piece) }

abbrev pub blank_token : ℕ → Token
blank_token at = record { kind = Blank; start = limit at; end = limit (at + 1) }

-- the tokens of pieces joined by blanks, from a place on
abbrev pub tokens_at : ℕ → List (List ℕ) → List Token
tokens_at at [] = []
tokens_at at (piece ∷ []) = run_token at piece ∷ []
tokens_at at (piece ∷ next ∷ others) = run_token at piece ∷ blank_token (at + length piece) ∷ tokens_at (suc (at + length piece)) (next ∷ others)

-- a run stands at the end
pub record EndsInRun (all : List Piece) : Type 0 where
  pub first : ℕ
  pub others : List ℕ
  pub start : ℕ
  pub end : ℕ
  pub before : List Piece
  pub is : all ≡ Run first others start end ∷ before

pub record IsCut (live : List (ℕ × ℕ)) (at : ℕ) (words : List (List ℕ)) : Type 0 where
  pub tokens : in_order 8 (pieces (laid live at (spaced words))) ≡ in_order 8 (pieces live) ++ tokens_at at words
  pub ends : EndsInRun (pieces (laid live at (spaced words)))

pub starts_of : (live : List (ℕ × ℕ)) (kind : Kind) (place : ℕ) (before : List Piece) → pieces live ≡ Mark kind place ∷ before → Starts (pieces live)
starts_of live kind place before e = rw e tt

pub cut_runs : (piece : List ℕ) (words : List (List ℕ)) (live : List (ℕ × ℕ)) (at : ℕ) → are_runs (piece ∷ words) ≡ true → Starts (pieces live) → IsCut live at (piece ∷ words)
cut_runs [] words live at runs starts = absurd cc
cut_runs (first ∷ others) [] live at runs starts =
    let parts = both (are_coded (first ∷ others)) true runs in
    let one = run first others live at parts.0 starts in
    record {
      tokens = ap (in_order 8) one;
      ends = record { first = first; others = others; start = at; end = at + suc (length others); before = pieces live; is = one };
    }
cut_runs (first ∷ others) (next ∷ words) live at runs starts =
    let piece = first ∷ others in
    let end = at + length piece in
    let parts = both (are_coded piece) (are_runs (next ∷ words)) runs in
    let one = run first others live at parts.0 starts in
    let blank = (32, end) ∷ laid live at piece in
    let blanked : pieces blank ≡ Mark Blank end ∷ Run first others at end ∷ pieces live = ap (with_byte 32 end) one in
    let whole : laid live at (piece ++ 32 ∷ spaced (next ∷ words)) ≡ laid blank (suc end) (spaced (next ∷ words)) = laid_append piece (32 ∷ spaced (next ∷ words)) live at in
    let rest = cut_runs next words blank (suc end) parts.1 (starts_of blank Blank end _ blanked) in
    record {
      tokens =
          ap (λ l. in_order 8 (pieces l)) whole ∙ rest.tokens
          ∙ ap (λ p. in_order 8 p ++ tokens_at (suc end) (next ∷ words)) blanked
          ∙ regroup (in_order 8 (pieces live)) (run_token at piece) (blank_token end) (tokens_at (suc end) (next ∷ words));
      ends = record {
        first = rest.ends.first;
        others = rest.ends.others;
        start = rest.ends.start;
        end = rest.ends.end;
        before = rest.ends.before;
        is = ap pieces whole ∙ rest.ends.is;
      };
    }
  where
    regroup : (a : List Token) (x y : Token) (b : List Token) → ((a ++ x ∷ []) ++ y ∷ []) ++ b ≡ a ++ (x ∷ y ∷ b)
    regroup a x y b = append_assoc (a ++ x ∷ []) (y ∷ []) b ∙ append_assoc a (x ∷ []) (y ∷ b)
