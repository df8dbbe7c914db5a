-- The lines of cells, one after the other.
use Rattle.std.proofs.Common.{◌≡◌, ℕ, zero, suc, ◌+◌, ◌<◌, if◌then◌else◌, List, [], ◌∷◌, ◌++◌, codes, Option, Some, refl, ap, sym, ◌∙◌, arith, append_assoc}
use Rattle.tape_source.specs.Lines.{comment, line_end}
use Rattle.pal8_source.specs.Lines.{cell_lines, heading, is_written, rest_after, rest_of_text, lines_below, lines_unless, lines_with, newest_below, with_marks}
use Rattle.pal8_source.specs.Sheets.{Sheet}
use Rattle.pal8_source.specs.Steps.{quoted_line}
use Rattle.pal8_source.specs.Texts.{characters, delimiters, first_absent, text_size}

pub more : (o a b x y : List ℕ) → x ≡ o ++ a → y ≡ x ++ b → y ≡ o ++ (a ++ b)
more o a b x y e f = f ∙ ap (λ l. l ++ b) e ∙ append_assoc o a b

-- a line by its head, its comment and its tail
pub whole_line : (o h c r e u v z : List ℕ) → u ≡ o ++ h → v ≡ u ++ c → z ≡ v ++ (r ++ e) → z ≡ o ++ (((h ++ c) ++ r) ++ e)
whole_line o h c r e u v z f g i =
    i ∙ sym (append_assoc v r e) ∙ ap (λ l. l ++ e) (more o (h ++ c) r v (v ++ r) (more o h c u v f g) refl) ∙ append_assoc o ((h ++ c) ++ r) e

pub text_lines : (s : Sheet) (before : Option ℕ) (cell word n mark : ℕ) (text : List ℕ) → 0 < n → text ≡ characters s cell n
    → first_absent delimiters (characters s cell n) ≡ Some mark → lines_with s before cell word n ≡ heading before cell ++ quoted_line mark text cell word
text_lines s before cell word zero mark text some is marked = absurd (omega (arith, some))
text_lines s before cell word (suc n) mark text some is marked =
    ap (λ q. heading before cell ++ (0o11 ∷ codes "TEXT " ++ q ++ 0o11 ∷ comment cell word ++ line_end))
    (ap (λ m. with_marks m (characters s cell (suc n))) marked ∙ ap (with_marks (Some mark)) (sym is))

pub none_below : (s : Sheet) → lines_below s 0 ≡ []
unfolding lines_below
none_below s = refl

one_more : (s : Sheet) (n : ℕ) → lines_below s (suc n) ≡ lines_below s n ++ lines_unless (rest_of_text s n) (cell_lines s (newest_below s n) n (s.words n))
unfolding lines_below
one_more s n = refl

next : (n : ℕ) → suc n ≡ n + 1
next n = omega arith

pub more_lines : (s : Sheet) (n cell left : ℕ) (before : Option ℕ) (old new : List ℕ) → old ≡ lines_below s n → before ≡ newest_below s n → left ≡ rest_of_text s n
    → cell ≡ n → new ≡ old ++ lines_unless left (cell_lines s before cell (s.words cell)) → new ≡ lines_below s (n + 1)
more_lines s n cell left before old new old_is before_is left_is cell_is new_is =
    new_is ∙ ap (λ o. o ++ lines_unless left (cell_lines s before cell (s.words cell))) old_is
    ∙ ap (λ l. lines_below s n ++ lines_unless l (cell_lines s before cell (s.words cell))) left_is
    ∙ ap (λ b. lines_below s n ++ lines_unless (rest_of_text s n) (cell_lines s b cell (s.words cell))) before_is
    ∙ ap (λ c. lines_below s n ++ lines_unless (rest_of_text s n) (cell_lines s (newest_below s n) c (s.words c))) cell_is
    ∙ sym (one_more s n) ∙ ap (lines_below s) (next n)

pub more_newest : (s : Sheet) (n cell : ℕ) (before new : Option ℕ) → before ≡ newest_below s n → cell ≡ n
    → new ≡ (if is_written s cell then Some cell else before) → new ≡ newest_below s (n + 1)
more_newest s n cell before new before_is cell_is new_is =
    new_is ∙ ap (λ b. if is_written s cell then Some cell else b) before_is ∙ ap (λ c. if is_written s c then Some c else newest_below s n) cell_is
    ∙ ap (newest_below s) (next n)

pub more_left : (s : Sheet) (n cell left new : ℕ) → left ≡ rest_of_text s n → cell ≡ n → new ≡ rest_after left (text_size s cell) → new ≡ rest_of_text s (n + 1)
more_left s n cell left new left_is cell_is new_is =
    new_is ∙ ap (λ l. rest_after l (text_size s cell)) left_is ∙ ap (λ c. rest_after (rest_of_text s n) (text_size s c)) cell_is ∙ ap (rest_of_text s) (next n)
