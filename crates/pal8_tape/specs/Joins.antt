-- Several PAL8 sources as one text (PAL8, the assembler of OS/8, in this project's profile): at PAUSE the next one goes on. A text has the newest byte
-- first.
use Rattle.std.specs.Prelude.{ℕ, nat_eq, Bool, true, false, ◌&&◌, not, if◌then◌else◌, is_some, Option, Some, None, Ok, Err, codes, length, map, List, [], ◌∷◌, ◌++◌}
use Rattle.std.specs.Option.{option_or}
use Rattle.std.specs.Borrow.{Bor}
use Rattle.word12.specs.Sixbit.{name_number}
use Rattle.pal_lex.specs.Text.{text_of}
use Rattle.pal8_lex.specs.Text.{as_read, is_dropped, live}
use Rattle.pal8_lex.specs.Rules.{end_of}
use Rattle.pal8_lex.specs.Pieces.{ends, pieces, tokens_of}
use Rattle.pal8_lex.specs.declared.tokens.Token.{Token}
use Rattle.pal8_lex.specs.declared.rules.End.{End}
use Rattle.pal8_lex.specs.declared.rules.End.TheVariants as end
use Rattle.pal8_grammar.specs.SourceNames.{vocabulary_of}
use Rattle.pal8_grammar.specs.Bodies.{name_of, opens}
use Rattle.pal8_places.specs.declared.options.Options.{Options}
use Rattle.pal8_asm.specs.Sources.{PassResult, Source, Statement, first_left, statements, with_next}
use Rattle.pal8_places.specs.Brackets.{is_selected}

-- ## Statements

-- what the statements of a text leave after those of the texts before it
abbrev pub pass_on : PassResult → Source → PassResult
pass_on left [] = left
pass_on left (s ∷ older) = with_next s (pass_on left older)

-- the next statement is selected, and no `$` has ended the source
abbrev pub is_read : PassResult → Bool
is_read (Err fault) = false
is_read (Ok left) = not (is_some left.end) && is_selected left.brackets

-- a name begins memory references in the next statement, if that is read
abbrev pub is_operation : PassResult → ℕ → Bool
is_operation (Err fault) name = false
is_operation (Ok left) name = not (is_some left.end) && is_some ((vocabulary_of left.standing.names).operation name)

-- ## PAUSE

abbrev pub is_pause_name : Option ℕ → Bool
is_pause_name None = false
is_pause_name (Some name) = nat_eq name (name_number (codes "PAUSE"))

-- one token, which is the name PAUSE
abbrev pub is_lone_pause : List Token → Bool
is_lone_pause [] = false
is_lone_pause (t ∷ []) = is_pause_name (name_of t.kind)
is_lone_pause (t ∷ next ∷ others) = false

-- PAUSE without tags (one that `<` ends is a bad statement, as each is that is no condition)
abbrev pub is_pause : List Token → End → Bool
is_pause tokens end = is_lone_pause tokens && not (opens end)

-- a byte after a text ends a statement
abbrev pub ends_statement : List ℕ → ℕ → Bool
ends_statement older b = not (is_dropped b) && ends (pieces (live older)) (as_read b)

-- the tokens so far of the statement that goes on after a text
abbrev pub tokens_after : List ℕ → List Token
tokens_after text = tokens_of (pieces (live text))

-- a byte after a text ends PAUSE, which is selected
abbrev pub pauses : PassResult → List ℕ → ℕ → Bool
pauses left older b = ends_statement older b && (is_pause (tokens_after older) (end_of (as_read b)) && is_read (pass_on left (statements older)))

-- the first PAUSE of a text: the bytes before the one that ends it, and what end that is
abbrev pub first_pause : PassResult → List ℕ → Option (List ℕ × End)
first_pause left [] = None
first_pause left (b ∷ older) = option_or (first_pause left older) (if pauses left older b then Some (older, end_of (as_read b)) else None)

-- ## What is joined of a text that others follow

abbrev pub has_none : List Token → Bool
has_none [] = true
has_none (t ∷ others) = false

-- a text without the tokens of the statement that goes on, and what follows the first of them
abbrev pub before_tokens : List ℕ → List ℕ
before_tokens [] = []
before_tokens (b ∷ older) = if has_none (tokens_after (b ∷ older)) then b ∷ older else before_tokens older

-- a `>` that ends PAUSE closes its bracket
abbrev pub closing_bytes : End → List ℕ
closing_bytes end.Semicolon = []
closing_bytes end.Line = []
closing_bytes end.Open = []
closing_bytes end.Close = 0o76 ∷ []
closing_bytes end.Dollar = []

-- the last line of a text goes on
abbrev pub is_line_open : List (ℕ × ℕ) → Bool
is_line_open [] = false
is_line_open (x ∷ older) = not (nat_eq x.0 0o15)

-- a text whose last line is ended
abbrev pub whole_lines : List ℕ → List ℕ
whole_lines text = if is_line_open (live text) then 0o12 ∷ text else text

abbrev pub part_by : List ℕ → Option (List ℕ × End) → List ℕ
part_by text None = text
part_by text (Some at) = 0o12 ∷ closing_bytes at.1 ++ before_tokens at.0

-- A text up to its PAUSE, or the whole text. Then a line ends.
abbrev pub part : PassResult → List ℕ → List ℕ
part left text = part_by (whole_lines text) (first_pause left (whole_lines text))

-- PAUSE counts as an empty statement, and what ends it but for `>` as the end of a line.
abbrev pub line_end : End → End
line_end end.Semicolon = end.Line
line_end end.Line = end.Line
line_end end.Open = end.Line
line_end end.Close = end.Close
line_end end.Dollar = end.Line

abbrev pub empty_statement : End → Statement
empty_statement end = record { line = 1; at = 0; tokens = []; string = []; is_cut = false; end = line_end end }

abbrev pub remainder_by : PassResult → List ℕ → Option (List ℕ × End) → PassResult
remainder_by left text None = pass_on left (statements text)
remainder_by left text (Some at) = with_next (empty_statement at.1) (pass_on left (statements at.0))

-- what the statements of a text leave up to its PAUSE, after those of the texts before it
abbrev pub remainder_after : PassResult → List ℕ → PassResult
remainder_after left text = remainder_by left (whole_lines text) (first_pause left (whole_lines text))

-- ## Joins

-- the join of texts, which stand in their order, after those that leave this: each but the last up to its PAUSE, and the last as it is
abbrev pub join_from : PassResult → List (List ℕ) → List ℕ
join_from left [] = []
join_from left (text ∷ []) = text
join_from left (text ∷ next ∷ others) = join_from (remainder_after left text) (next ∷ others) ++ part left text

-- how many bytes of it are of each text that another follows
abbrev pub counts_from : PassResult → List (List ℕ) → List ℕ
counts_from left [] = []
counts_from left (text ∷ []) = []
counts_from left (text ∷ next ∷ others) = length (part left text) ∷ counts_from (remainder_after left text) (next ∷ others)

abbrev pub texts_of : List (List ℕ) → List (List ℕ)
texts_of [] = []
texts_of (source ∷ others) = text_of source ∷ texts_of others

-- the text that sources join to, the newest byte first, where each source has its bytes in their order, and all are read by these options
abbrev pub join_of : Options → List (List ℕ) → List ℕ
join_of options sources = join_from (Ok (first_left options)) (texts_of sources)

-- how many bytes of it are of each source that another follows
abbrev pub counts_of : Options → List (List ℕ) → List ℕ
counts_of options sources = counts_from (Ok (first_left options)) (texts_of sources)

-- the bytes of the join in their order
abbrev pub joined_bytes : Options → List (List ℕ) → List ℕ
joined_bytes options sources = text_of (join_of options sources)

-- the bytes of sources that are lent
abbrev pub bytes_in : List (Bor (List ℕ)) → List (List ℕ)
bytes_in sources = map (λ source. source.now) sources
