-- What a part of a text leaves.
use Rattle.std.proofs.Common.{◌≡◌, ℕ, Bool, true, false, ◌&&◌, not, if◌then◌else◌, Option, Some, None, Ok, Err, length, List, [], ◌∷◌, ◌++◌, refl, sym, ap, subst, ◌∙◌}
use Rattle.std.specs.Option.{option_or}
use Rattle.pal_lex.specs.Text.{limit}
use Rattle.pal8_lex.specs.Text.{as_read, is_dropped, line_after, live}
use Rattle.pal8_lex.specs.Laws.{LinesEnd}
use Rattle.pal8_lex.specs.Rules.{end_of, ends_by}
use Rattle.pal8_lex.specs.Pieces.{Piece, after_blank, ends, head_of, open_of, pieces, string_of, tokens_of, with_byte}
use Rattle.pal8_lex.specs.Statements as lex_statements
use Rattle.pal8_lex.specs.Statements.{is_string, statement_of}
use Rattle.pal8_lex.specs.declared.rules.End.{End}
use Rattle.pal8_lex.specs.declared.rules.End.TheVariants as end
use Rattle.pal8_lex.specs.declared.rules.Head.TheVariants as heads
use Rattle.pal8_lex.specs.declared.rules.Open.{Open}
use Rattle.pal8_lex.specs.declared.rules.Open.TheVariants as following
use Rattle.pal8_lex.specs.declared.rules.Shape.{Shape}
use Rattle.pal8_lex.specs.declared.rules.Shape.TheVariants as shape
use Rattle.pal8_lex.specs.declared.tokens.Token.{Token}
use Rattle.pal8_asm.specs.Sources as asm
use Rattle.pal8_places.specs.Places.{Standing}
use Rattle.pal8_asm.specs.declared.faults.Place.{Place}
use Rattle.pal8_asm.specs.Sources.{Entry, PassResult, Remainder, Statement, statement_at, statements, with_next, with_selected, with_skipped}
use Rattle.pal8_places.specs.Brackets.{is_selected}
use Rattle.pal8_tape.specs.JoinLaws.{PartIsRead, if_fine}
use Rattle.pal8_tape.specs.Joins.{before_tokens, closing_bytes, empty_statement, first_pause, has_none, is_pause, part_by, pass_on, pauses, remainder_by, tokens_after, whole_lines}
use Rattle.pal8_tape.proofs.ByteLemmas.{ended_one, self_longer}

-- ## Before the tokens of a statement

-- what a byte leaves of the statement that goes on, by whether it is there and ends that
abbrev pieces_by : Bool → Bool → ℕ → List ℕ → List Piece
pieces_by dropped ended b text = if dropped then pieces (live text) else (if ended then [] else with_byte (as_read b, length text) (pieces (live text)))

pieces_dropped : (dropped : Bool) (b : ℕ) (text : List ℕ) → pieces (if dropped then live text else (as_read b, length text) ∷ live text)
    ≡ pieces_by dropped (ends (pieces (live text)) (as_read b)) b text
pieces_dropped true b text = refl
pieces_dropped false b text = refl

-- a byte after which the statement that goes on has tokens ends none
no_end_by : (dropped ended : Bool) (b : ℕ) (text : List ℕ) → has_none (tokens_of (pieces_by dropped ended b text)) ≡ false → (not dropped && ended) ≡ false
no_end_by true ended b text some = refl
no_end_by false true b text some = absurd cc
no_end_by false false b text some = refl

live_by : (ended : Bool) (b : ℕ) (text : List ℕ) → ended ≡ false
    → (if ended then statement_at (limit (length text)) (statement_of (as_read b) (live text)) ∷ statements text else statements text) ≡ statements text
live_by true b text none = absurd cc
live_by false b text none = refl

same_statements_by : (dropped ended : Bool) (b : ℕ) (text : List ℕ) → ended ≡ ends (pieces (live text)) (as_read b) → (not dropped && ended) ≡ false
    → asm.statements_of (if dropped then live text else (as_read b, length text) ∷ live text) ≡ statements text
same_statements_by true ended b text is none = refl
same_statements_by false ended b text is none = live_by (ends (pieces (live text)) (as_read b)) b text (sym is ∙ none)

module _ (b : ℕ) (older : List ℕ) where
  more_pieces : pieces (live (b ∷ older)) ≡ pieces_by (is_dropped b) (ends (pieces (live older)) (as_read b)) b older
  more_pieces = pieces_dropped (is_dropped b) b older

  no_end : has_none (tokens_after (b ∷ older)) ≡ false → (not (is_dropped b) && ends (pieces (live older)) (as_read b)) ≡ false
  no_end some = no_end_by (is_dropped b) (ends (pieces (live older)) (as_read b)) b older (sym (ap (λ p. has_none (tokens_of p)) more_pieces) ∙ some)

  same_statements : has_none (tokens_after (b ∷ older)) ≡ false → statements (b ∷ older) ≡ statements older
  same_statements some = same_statements_by (is_dropped b) (ends (pieces (live older)) (as_read b)) b older refl (no_end some)

-- before the tokens of the statement that goes on there are the same statements, and no token
before_by : (b : ℕ) (older : List ℕ) (test : Bool) → has_none (tokens_after (b ∷ older)) ≡ test
    → (statements (before_tokens older) ≡ statements older) × (has_none (tokens_after (before_tokens older)) ≡ true)
    → (statements (if test then b ∷ older else before_tokens older) ≡ statements (b ∷ older)) × (has_none (tokens_after (if test then b ∷ older else before_tokens older)) ≡ true)
before_by b older true is before = (refl, is)
before_by b older false is before = (before.0 ∙ sym (same_statements b older is), before.1)

pub before_is : (text : List ℕ) → (statements (before_tokens text) ≡ statements text) × (has_none (tokens_after (before_tokens text)) ≡ true)
before_is [] = (refl, refl)
before_is (b ∷ older) = before_by b older (has_none (tokens_after (b ∷ older))) refl (before_is older)

-- ## `>` before them

some_added : (l : List Token) (t : Token) → has_none (l ++ t ∷ []) ≡ true → ⊥
some_added [] t is = cc
some_added (x ∷ l) t is = cc

-- without a token there is no head, and no string
pub record IsBare (before : List Piece) : Type 0 where
  pub head : head_of before ≡ heads.Empty
  pub string : string_of before ≡ []
  pub cut : is_string (open_of before) ≡ false

blank_cut : (o : Open) → is_string (after_blank o) ≡ false
blank_cut following.Start = refl
blank_cut following.Blank = refl
blank_cut (following.Run weight) = refl
blank_cut following.Term = refl
blank_cut following.Quote = refl
blank_cut (following.String delimiter) = refl
blank_cut following.Comment = refl
blank_cut following.Title = refl

bare_by : (older : List Piece) (s : Shape) (first : ℕ × ℕ) (others : List (ℕ × ℕ)) → (has_none (tokens_of older) ≡ true → IsBare older)
    → has_none (tokens_of (record { shape = s; first = first; others = others } ∷ older)) ≡ true → IsBare (record { shape = s; first = first; others = others } ∷ older)
bare_by older shape.Run first others bare none = absurd (some_added (tokens_of older) _ none)
bare_by older shape.Blank first others bare none = record { head = (bare none).head; string = (bare none).string; cut = blank_cut (open_of older) }
bare_by older (shape.Mark k) first others bare none = absurd (some_added (tokens_of older) _ none)
bare_by older shape.Quote first others bare none = absurd (some_added (tokens_of older) _ none)
bare_by older shape.OpenString first others bare none = absurd (some_added (tokens_of older) _ none)
bare_by older shape.ClosedString first others bare none = absurd (some_added (tokens_of older) _ none)
bare_by older shape.Comment first others bare none = record { head = (bare none).head; string = (bare none).string; cut = refl }
bare_by older shape.Title first others bare none = record { head = (bare none).head; string = (bare none).string; cut = refl }

bare : (before : List Piece) → has_none (tokens_of before) ≡ true → IsBare before
bare [] none = record { head = refl; string = refl; cut = refl }
bare (p ∷ older) none = bare_by older p.shape p.first p.others (bare older) none

after_blank_ends : (o : Open) → ends_by (after_blank o) heads.Empty 0o76 ≡ true
after_blank_ends following.Start = refl
after_blank_ends following.Blank = refl
after_blank_ends (following.Run weight) = refl
after_blank_ends following.Term = refl
after_blank_ends following.Quote = refl
after_blank_ends (following.String delimiter) = refl
after_blank_ends following.Comment = refl
after_blank_ends following.Title = refl

true_false : {A : Type 0} → true ≡ false → A
true_false is = absurd cc

-- where a byte begins the first token, `>` ends a statement
first_token : (before : List Piece) (x : ℕ × ℕ) → has_none (tokens_of before) ≡ true → has_none (tokens_of (with_byte x before)) ≡ false → ends before 0o76 ≡ true
first_token [] x none some = refl
first_token (p ∷ older) x none some = by_shape p.shape p.first p.others none some
  where
    by_shape : (s : Shape) (first : ℕ × ℕ) (others : List (ℕ × ℕ)) → has_none (tokens_of (record { shape = s; first = first; others = others } ∷ older)) ≡ true
        → has_none (tokens_of (with_byte x (record { shape = s; first = first; others = others } ∷ older))) ≡ false
        → ends (record { shape = s; first = first; others = others } ∷ older) 0o76 ≡ true
    by_shape shape.Run first others none some = absurd (some_added (tokens_of older) _ none)
    by_shape shape.Blank first others none some = ap (λ h. ends_by (after_blank (open_of older)) h 0o76) ((bare older none).head) ∙ after_blank_ends (open_of older)
    by_shape (shape.Mark k) first others none some = absurd (some_added (tokens_of older) _ none)
    by_shape shape.Quote first others none some = absurd (some_added (tokens_of older) _ none)
    by_shape shape.OpenString first others none some = absurd (some_added (tokens_of older) _ none)
    by_shape shape.ClosedString first others none some = absurd (some_added (tokens_of older) _ none)
    by_shape shape.Comment first others none some = true_false (sym none ∙ some)
    by_shape shape.Title first others none some = true_false (sym none ∙ some)

none_before : (text : List ℕ) → has_none (tokens_after text) ≡ true → before_tokens text ≡ text
none_before [] none = refl
none_before (b ∷ older) none = ap (λ t. if t then b ∷ older else before_tokens older) none

fresh_by : (dropped ended : Bool) (b : ℕ) (text : List ℕ) → has_none (tokens_after text) ≡ true → has_none (tokens_of (pieces_by dropped ended b text)) ≡ false
    → ends (pieces (live text)) 0o76 ≡ true
fresh_by true ended b text none some = true_false (sym none ∙ some)
fresh_by false true b text none some = true_false some
fresh_by false false b text none some = first_token (pieces (live text)) (as_read b, length text) none some

closing_by : (b : ℕ) (older : List ℕ) (test : Bool) → has_none (tokens_after (b ∷ older)) ≡ false → has_none (tokens_after older) ≡ test
    → (has_none (tokens_after older) ≡ false → ends (pieces (live (before_tokens older))) 0o76 ≡ true) → ends (pieces (live (before_tokens older))) 0o76 ≡ true
closing_by b older false some is before = before is
closing_by b older true some is before = ap (λ t. ends (pieces (live t)) 0o76) (none_before older is)
    ∙ fresh_by (is_dropped b) (ends (pieces (live older)) (as_read b)) b older is (sym (ap (λ p. has_none (tokens_of p)) (more_pieces b older)) ∙ some)

pub closing_ends : (text : List ℕ) → has_none (tokens_after text) ≡ false → ends (pieces (live (before_tokens text))) 0o76 ≡ true
closing_ends [] some = true_false some
closing_ends (b ∷ older) some =
    ap (λ t. ends (pieces (live (if t then b ∷ older else before_tokens older))) 0o76) some
    ∙ closing_by b older (has_none (tokens_after older)) some refl (closing_ends older)

-- ## Empty statements

abbrev empty_at : ℕ → ℕ → End → Statement
empty_at line at e = record { line = line; at = at; tokens = []; string = []; is_cut = false; end = e }

module _ (line at : ℕ) (standing : Standing) (entries : List Entry) where
  line_by : (brackets : List Bool) (e : Option Place)
      → with_next (empty_at line at end.Line) (Ok record { standing = standing; entries = entries; brackets = brackets; end = e })
      ≡ Ok record { standing = standing; entries = entries; brackets = brackets; end = e }
  line_by brackets (Some place) = refl
  line_by [] None = refl
  line_by (true ∷ outer) None = refl
  line_by (false ∷ outer) None = refl

  close_by : (brackets : List Bool) (e : Option Place)
      → if_fine (with_next (empty_at line at end.Close) (Ok record { standing = standing; entries = entries; brackets = brackets; end = e }))
      ≡ if_fine (with_next (empty_at 1 0 end.Close) (Ok record { standing = standing; entries = entries; brackets = brackets; end = e }))
  close_by brackets (Some place) = refl
  close_by [] None = refl
  close_by (true ∷ outer) None = refl
  close_by (false ∷ outer) None = refl

-- the end of a line is nothing
line_is_nothing : (line at : ℕ) (left : PassResult) → with_next (empty_at line at end.Line) left ≡ left
line_is_nothing line at (Err fault) = refl
line_is_nothing line at (Ok left) = line_by line at left.standing left.entries left.brackets left.end

close_anywhere : (line at : ℕ) (left : PassResult) → if_fine (with_next (empty_at line at end.Close) left) ≡ if_fine (with_next (empty_at 1 0 end.Close) left)
close_anywhere line at (Err fault) = refl
close_anywhere line at (Ok left) = close_by line at left.standing left.entries left.brackets left.end

none_there : (tokens : List Token) → has_none tokens ≡ true → tokens ≡ []
none_there [] none = refl
none_there (t ∷ tokens) none = absurd cc

-- a statement without a token is empty
empty_is : (b : ℕ) (t : List ℕ) → has_none (tokens_of (pieces (live t))) ≡ true → ended_one b t ≡ empty_at (line_after (live t)) (limit (length t)) (end_of (as_read b))
empty_is b t none =
    let without = bare (pieces (live t)) none in
    ap (λ l. record { line = line_after (live t); at = limit (length t); tokens = l; string = string_of (pieces (live t)); is_cut = is_string (open_of (pieces (live t))); end = end_of (as_read b) })
    (none_there (tokens_of (pieces (live t))) none)
    ∙ ap (λ l. record { line = line_after (live t); at = limit (length t); tokens = []; string = l; is_cut = is_string (open_of (pieces (live t))); end = end_of (as_read b) }) without.string
    ∙ ap (λ l. record { line = line_after (live t); at = limit (length t); tokens = []; string = []; is_cut = l; end = end_of (as_read b) }) without.cut

-- ## Parts

tested : (test : Bool) (s : lex_statements.Statement) (older : List lex_statements.Statement) → (if test then s ∷ older else older) ≡ s ∷ older → test ≡ true
tested true s older is = refl
tested false s older is = absurd (self_longer s older is)

module _ (ended : LinesEnd) (left : PassResult) where
  line_ends : (t : List ℕ) → ends (pieces (live t)) 0o15 ≡ true
  line_ends t = tested (ends (pieces (live t)) 0o15) (statement_of 0o15 (live t)) (lex_statements.statements t) (ended t)

  line_statements : (t : List ℕ) → statements (0o12 ∷ t) ≡ ended_one 0o12 t ∷ statements t
  line_statements t = ap (λ q. if q then ended_one 0o12 t ∷ statements t else statements t) (line_ends t)

  -- a line end after a text of which no token is left
  line_passed : (t : List ℕ) → has_none (tokens_after t) ≡ true → pass_on left (statements (0o12 ∷ t)) ≡ pass_on left (statements t)
  line_passed t none =
      ap (pass_on left) (line_statements t) ∙ ap (λ s. with_next s (pass_on left (statements t))) (empty_is 0o12 t none)
      ∙ line_is_nothing (line_after (live t)) (limit (length t)) (pass_on left (statements t))

  closed_statements : (t : List ℕ) → ends (pieces (live t)) 0o76 ≡ true → statements (0o76 ∷ t) ≡ ended_one 0o76 t ∷ statements t
  closed_statements t closes = ap (λ q. if q then ended_one 0o76 t ∷ statements t else statements t) closes

  closed_none : (t : List ℕ) → ends (pieces (live t)) 0o76 ≡ true → has_none (tokens_after (0o76 ∷ t)) ≡ true
  closed_none t closes = ap (λ q. has_none (tokens_of (if q then [] else with_byte (0o76, length t) (pieces (live t))))) closes

  module _ (here : List ℕ) (some : has_none (tokens_after here) ≡ false) where
    same_before : pass_on left (statements (before_tokens here)) ≡ pass_on left (statements here)
    same_before = ap (pass_on left) (before_is here).0

    plain_part : pass_on left (statements (0o12 ∷ before_tokens here)) ≡ with_next (empty_at 1 0 end.Line) (pass_on left (statements here))
    plain_part = line_passed (before_tokens here) (before_is here).1 ∙ same_before ∙ sym (line_is_nothing 1 0 (pass_on left (statements here)))

    closing_part : if_fine (pass_on left (statements (0o12 ∷ 0o76 ∷ before_tokens here))) ≡ if_fine (with_next (empty_at 1 0 end.Close) (pass_on left (statements here)))
    closing_part =
        let t = before_tokens here in
        let closes = closing_ends here some in
        ap if_fine (line_passed (0o76 ∷ t) (closed_none t closes) ∙ ap (pass_on left) (closed_statements t closes)
        ∙ ap (λ s. with_next s (pass_on left (statements t))) (empty_is 0o76 t (before_is here).1))
        ∙ close_anywhere (line_after (live t)) (limit (length t)) (pass_on left (statements t))
        ∙ ap (λ l. if_fine (with_next (empty_at 1 0 end.Close) l)) same_before

    part_at : (e : End) → if_fine (pass_on left (statements (0o12 ∷ closing_bytes e ++ before_tokens here))) ≡ if_fine (with_next (empty_statement e) (pass_on left (statements here)))
    part_at end.Semicolon = ap if_fine plain_part
    part_at end.Line = ap if_fine plain_part
    part_at end.Open = ap if_fine plain_part
    part_at end.Close = closing_part
    part_at end.Dollar = ap if_fine plain_part

  -- where a text pauses it has tokens
  and_first : (a b : Bool) → (a && b) ≡ true → a ≡ true
  and_first true b is = refl
  and_first false b is = is

  and_second : (a b : Bool) → (a && b) ≡ true → b ≡ true
  and_second true b is = is
  and_second false b is = absurd cc

  pause_has_tokens : (tokens : List Token) (e : End) → is_pause tokens e ≡ true → has_none tokens ≡ false
  pause_has_tokens [] e is = absurd cc
  pause_has_tokens (t ∷ tokens) e is = refl

  pauses_there : (older : List ℕ) (b : ℕ) (at : List ℕ × End) (test : Bool) → pauses left older b ≡ test
      → (if test then Some (older, end_of (as_read b)) else None) ≡ Some at → has_none (tokens_after at.0) ≡ false
  pauses_there older b at true is same =
      subst (λ (it : List ℕ × End). has_none (tokens_after it.0) ≡ false) (same_at (older, end_of (as_read b)) at same)
      (pause_has_tokens (tokens_after older) (end_of (as_read b)) (and_first _ _ (and_second _ _ is)))
    where
      same_at : (one other : List ℕ × End) → Some one ≡ Some other → one ≡ other
      same_at one other is = cc
  pauses_there older b at false is same = absurd cc

  pauses_by : (older : List ℕ) (b : ℕ) (at : List ℕ × End) (o : Option (List ℕ × End)) → (o ≡ Some at → has_none (tokens_after at.0) ≡ false)
      → option_or o (if pauses left older b then Some (older, end_of (as_read b)) else None) ≡ Some at → has_none (tokens_after at.0) ≡ false
  pauses_by older b at (Some first) before is = before is
  pauses_by older b at None before is = pauses_there older b at (pauses left older b) refl is

  has_tokens : (text : List ℕ) (at : List ℕ × End) → first_pause left text ≡ Some at → has_none (tokens_after at.0) ≡ false
  has_tokens [] at is = absurd cc
  has_tokens (b ∷ older) at is = pauses_by older b at (first_pause left older) (has_tokens older at) is

  part_by_pause : (whole : List ℕ) (o : Option (List ℕ × End)) → first_pause left whole ≡ o → if_fine (pass_on left (statements (part_by whole o))) ≡ if_fine (remainder_by left whole o)
  part_by_pause whole None is = refl
  part_by_pause whole (Some at) is = part_at at.0 (has_tokens whole at is) at.1

pub part_read : LinesEnd → PartIsRead
part_read ended left text = part_by_pause ended left (whole_lines text) (first_pause left (whole_lines text)) refl
