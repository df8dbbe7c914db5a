-- Texts of the host in a file, and their lines.
use Rattle.std.proofs.Common.{◌≡◌, ◌∙◌, ℕ, ◌&&◌, Bool, true, false, true≢false, not, nat_eq, if◌then◌else◌, List, [], ◌∷◌, ◌++◌, refl, sym, ap}
use Rattle.std.proofs.lemmas.Bool.{and_parts, eqb-true, not-true}
use Rattle.char_pack.specs.Texts.{is_storable, may_stand}
use Rattle.archive_files.specs.Getting.{is_before_lf, line_feeds}
use Rattle.archive_files.specs.HostTexts.{with_returns, file_text, lines_text, is_unbroken}
use Rattle.archive_files.specs.Laws.{has_return, is_line, AreLines, HasLineEnds}

-- ## What stays

-- a byte that no LF follows stays
feeds-other : (byte : ℕ) (others : List ℕ) → is_before_lf others ≡ false → line_feeds (byte ∷ others) ≡ byte ∷ line_feeds others
feeds-other byte others apart = go (nat_eq byte 13) (is_before_lf others) apart
  where
    go : (b c : Bool) → c ≡ false → (if b && c then line_feeds others else byte ∷ line_feeds others) ≡ byte ∷ line_feeds others
    go true true is = absurd (true≢false is)
    go true false is = refl
    go false c is = refl

-- a byte that is no CR stays
feeds-plain : (byte : ℕ) (others : List ℕ) → nat_eq byte 13 ≡ false → line_feeds (byte ∷ others) ≡ byte ∷ line_feeds others
feeds-plain byte others plain = go (nat_eq byte 13) plain
  where
    go : (b : Bool) → b ≡ false → (if b && is_before_lf others then line_feeds others else byte ∷ line_feeds others) ≡ byte ∷ line_feeds others
    go true is = absurd (true≢false is)
    go false is = refl

-- a text without CR has no CR to leave out
pub feeds-none : (text : List ℕ) → has_return text ≡ false → line_feeds text ≡ text
feeds-none [] none = refl
feeds-none (byte ∷ others) none = go (nat_eq byte 13) refl none (feeds-none others)
  where
    go : (b : Bool) → nat_eq byte 13 ≡ b → (if b then true else has_return others) ≡ false → (has_return others ≡ false → line_feeds others ≡ others)
        → line_feeds (byte ∷ others) ≡ byte ∷ others
    go true is none rest = absurd (true≢false none)
    go false is none rest = feeds-plain byte others is ∙ ap (λ l. byte ∷ l) (rest none)

-- where LFs have CRs before them, no text begins with LF
returns-begin : (text : List ℕ) → is_before_lf (with_returns text) ≡ false
returns-begin [] = refl
returns-begin (byte ∷ others) = go (nat_eq byte 10) refl
  where
    go : (b : Bool) → nat_eq byte 10 ≡ b → is_before_lf (if b then 13 ∷ 10 ∷ with_returns others else byte ∷ with_returns others) ≡ false
    go true is = refl
    go false is = is

-- the CRs that came before LFs are left out again
pub feeds-returns : (text : List ℕ) → line_feeds (with_returns text) ≡ text
feeds-returns [] = refl
feeds-returns (byte ∷ others) = go (nat_eq byte 10) refl (feeds-returns others)
  where
    go : (b : Bool) → nat_eq byte 10 ≡ b → line_feeds (with_returns others) ≡ others → line_feeds (if b then 13 ∷ 10 ∷ with_returns others else byte ∷ with_returns others) ≡ byte ∷ others
    go true is rest = ap (λ l. 10 ∷ l) rest ∙ ap (λ b. b ∷ others) (sym (eqb-true byte 10 is))
    go false is rest = feeds-other byte (with_returns others) (returns-begin others) ∙ ap (λ l. byte ∷ l) rest

-- ## What may stand in a file

storable-cons : (byte : ℕ) (others : List ℕ) → may_stand byte ≡ true → is_storable others ≡ true → is_storable (byte ∷ others) ≡ true
storable-cons byte others head rest = rw head rest

storable-feeds : (text : List ℕ) → is_storable text ≡ true → is_storable (line_feeds text) ≡ true
storable-feeds [] storable = refl
storable-feeds (byte ∷ others) storable =
    let parts = and_parts (may_stand byte) (is_storable others) storable in
    go (nat_eq byte 13 && is_before_lf others) parts.0 (storable-feeds others parts.1)
  where
    go : (b : Bool) → may_stand byte ≡ true → is_storable (line_feeds others) ≡ true
        → is_storable (if b then line_feeds others else byte ∷ line_feeds others) ≡ true
    go true head rest = rest
    go false head rest = storable-cons byte (line_feeds others) head rest

storable-returns : (text : List ℕ) → is_storable text ≡ true → is_storable (with_returns text) ≡ true
storable-returns [] storable = refl
storable-returns (byte ∷ others) storable =
    let parts = and_parts (may_stand byte) (is_storable others) storable in
    go (nat_eq byte 10) parts.0 (storable-returns others parts.1)
  where
    go : (b : Bool) → may_stand byte ≡ true → is_storable (with_returns others) ≡ true
        → is_storable (if b then 13 ∷ 10 ∷ with_returns others else byte ∷ with_returns others) ≡ true
    go true head rest = rest
    go false head rest = storable-cons byte (with_returns others) head rest

pub storable-file : (host : List ℕ) → is_storable host ≡ true → is_storable (file_text host) ≡ true
storable-file host storable = storable-returns (line_feeds host) (storable-feeds host storable)

-- ## Lines

-- no LF comes next in a line, nor where CR stands after it
unbroken-next : (line rest : List ℕ) → is_unbroken line ≡ true → is_before_lf (line ++ 13 ∷ rest) ≡ false
unbroken-next [] rest is = refl
unbroken-next (byte ∷ others) rest is = not-true (nat_eq byte 10) (and_parts (not (nat_eq byte 10)) (is_unbroken others) is).0

unbroken-begin : (line : List ℕ) → is_unbroken line ≡ true → is_before_lf line ≡ false
unbroken-begin [] is = refl
unbroken-begin (byte ∷ others) is = not-true (nat_eq byte 10) (and_parts (not (nat_eq byte 10)) (is_unbroken others) is).0

unbroken-rest : (byte : ℕ) (others : List ℕ) → is_unbroken (byte ∷ others) ≡ true → is_unbroken others ≡ true
unbroken-rest byte others is = (and_parts (not (nat_eq byte 10)) (is_unbroken others) is).1

line-unbroken : (line : List ℕ) → is_line line ≡ true → is_unbroken line ≡ true
line-unbroken [] is = refl
line-unbroken (byte ∷ []) is = rw (and_parts (not (nat_eq byte 10)) (not (nat_eq byte 13)) is).0 refl
line-unbroken (byte ∷ next ∷ others) is =
    let parts = and_parts (not (nat_eq byte 10)) (is_line (next ∷ others)) is in
    rw parts.0 (line-unbroken (next ∷ others) parts.1)

-- a line after which CR LF stands
feeds-crlf : (line rest : List ℕ) → is_unbroken line ≡ true → line_feeds (line ++ 13 ∷ 10 ∷ rest) ≡ line ++ 10 ∷ line_feeds rest
feeds-crlf [] rest is = refl
feeds-crlf (byte ∷ others) rest is =
    let more = unbroken-rest byte others is in
    feeds-other byte (others ++ 13 ∷ 10 ∷ rest) (unbroken-next others (10 ∷ rest) more) ∙ ap (λ l. byte ∷ l) (feeds-crlf others rest more)

-- a line after which LF stands
feeds-lf : (line rest : List ℕ) → is_line line ≡ true → line_feeds (line ++ 10 ∷ rest) ≡ line ++ 10 ∷ line_feeds rest
feeds-lf [] rest is = refl
feeds-lf (byte ∷ []) rest is =
    feeds-plain byte (10 ∷ rest) (not-true (nat_eq byte 13) (and_parts (not (nat_eq byte 10)) (not (nat_eq byte 13)) is).1)
feeds-lf (byte ∷ next ∷ others) rest is =
    let more = (and_parts (not (nat_eq byte 10)) (is_line (next ∷ others)) is).1 in
    feeds-other byte ((next ∷ others) ++ 10 ∷ rest) (unbroken-begin (next ∷ others) (line-unbroken (next ∷ others) more))
    ∙ ap (λ l. byte ∷ l) (feeds-lf (next ∷ others) rest more)

feeds-last : (last : List ℕ) → is_unbroken last ≡ true → line_feeds last ≡ last
feeds-last [] is = refl
feeds-last (byte ∷ others) is =
    let more = unbroken-rest byte others is in
    feeds-other byte others (unbroken-begin others more) ∙ ap (λ l. byte ∷ l) (feeds-last others more)

returns-plain : (byte : ℕ) (others : List ℕ) → not (nat_eq byte 10) ≡ true → with_returns (byte ∷ others) ≡ byte ∷ with_returns others
returns-plain byte others plain = go (nat_eq byte 10) plain
  where
    go : (b : Bool) → not b ≡ true → (if b then 13 ∷ 10 ∷ with_returns others else byte ∷ with_returns others) ≡ byte ∷ with_returns others
    go true is = absurd (true≢false (sym is))
    go false is = refl

returns-lf : (line rest : List ℕ) → is_unbroken line ≡ true → with_returns (line ++ 10 ∷ rest) ≡ line ++ 13 ∷ 10 ∷ with_returns rest
returns-lf [] rest is = refl
returns-lf (byte ∷ others) rest is =
    let parts = and_parts (not (nat_eq byte 10)) (is_unbroken others) is in
    returns-plain byte (others ++ 10 ∷ rest) parts.0 ∙ ap (λ l. byte ∷ l) (returns-lf others rest parts.1)

returns-last : (last : List ℕ) → is_unbroken last ≡ true → with_returns last ≡ last
returns-last [] is = refl
returns-last (byte ∷ others) is =
    let parts = and_parts (not (nat_eq byte 10)) (is_unbroken others) is in
    returns-plain byte others parts.0 ∙ ap (λ l. byte ∷ l) (returns-last others parts.1)

-- lines of a file as lines of the host
feeds-file : (lines : List (List ℕ)) (last : List ℕ) → AreLines lines → is_unbroken last ≡ true
    → line_feeds (lines_text (13 ∷ 10 ∷ []) lines last) ≡ lines_text (10 ∷ []) lines last
feeds-file [] last are unbroken = feeds-last last unbroken
feeds-file (line ∷ lines) last are unbroken =
    feeds-crlf line (lines_text (13 ∷ 10 ∷ []) lines last) (line-unbroken line are.0)
    ∙ ap (λ l. line ++ 10 ∷ l) (feeds-file lines last are.1 unbroken)

-- lines of the host have no CR to leave out
feeds-host : (lines : List (List ℕ)) (last : List ℕ) → AreLines lines → is_unbroken last ≡ true
    → line_feeds (lines_text (10 ∷ []) lines last) ≡ lines_text (10 ∷ []) lines last
feeds-host [] last are unbroken = feeds-last last unbroken
feeds-host (line ∷ lines) last are unbroken =
    feeds-lf line (lines_text (10 ∷ []) lines last) are.0 ∙ ap (λ l. line ++ 10 ∷ l) (feeds-host lines last are.1 unbroken)

-- lines of the host as lines of a file
returns-host : (lines : List (List ℕ)) (last : List ℕ) → AreLines lines → is_unbroken last ≡ true
    → with_returns (lines_text (10 ∷ []) lines last) ≡ lines_text (13 ∷ 10 ∷ []) lines last
returns-host [] last are unbroken = returns-last last unbroken
returns-host (line ∷ lines) last are unbroken =
    returns-lf line (lines_text (10 ∷ []) lines last) (line-unbroken line are.0)
    ∙ ap (λ l. line ++ 13 ∷ 10 ∷ l) (returns-host lines last are.1 unbroken)

-- a text of a file with its line ends, that was got and is put
pub put-again : (chars : List ℕ) → HasLineEnds chars → file_text (line_feeds chars) ≡ chars
put-again chars is =
    ap (λ l. file_text (line_feeds l)) is.chars_are
    ∙ ap file_text (feeds-file is.lines is.last is.are_lines is.unbroken)
    ∙ ap with_returns (feeds-host is.lines is.last is.are_lines is.unbroken)
    ∙ returns-host is.lines is.last is.are_lines is.unbroken
    ∙ sym is.chars_are
