-- The words of a text, one after the other.
use Rattle.std.proofs.Common.{◌≡◌, ℕ, zero, suc, ◌+◌, ◌-◌, ◌/◌, ◌%◌, ◌<◌, ◌≤◌, nat_eq, Bool, true, false, ◌&&◌, not, if◌then◌else◌, List, [], ◌++◌, Option, Some, None, refl, ap, sym, ◌∙◌, arith}
use Rattle.std.proofs.Common.{append_assoc}
use Rattle.std.proofs.lemmas.Bool.{le-ltb, lt-ltb}
use Rattle.pal8_source.specs.Sheets.{Sheet, is_datum}
use Rattle.pal8_source.specs.Steps.{ends_text, words_and}
use Rattle.pal8_source.specs.Texts.{character, characters, delimiters, first_absent, goes_on, length_from, length_with, size_with, size_from, word_at}

one_less : (k count : ℕ) → k < count → count - k ≡ suc (count - (k + 1))
one_less k count small = omega (arith, small)

one_on : (first k : ℕ) → suc (first + k) ≡ first + (k + 1)
one_on first k = omega arith

-- the characters of one word more
pub more_characters : (s : Sheet) (first k count : ℕ) → k < count
    → characters s (first + k) (count - k)
    ≡ character (word_at s (first + k) / 0o100) ++ character (word_at s (first + k) % 0o100) ++ characters s (first + (k + 1)) (count - (k + 1))
more_characters s first k count small =
    ap (λ n. characters s (first + k) n) (one_less k count small)
    ∙ ap (λ f. character (word_at s (first + k) / 0o100) ++ character (word_at s (first + k) % 0o100) ++ characters s f (count - (k + 1))) (one_on first k)

pub no_more_characters : (s : Sheet) (first k count : ℕ) → count ≤ k → characters s (first + k) (count - k) ≡ []
no_more_characters s first k count all = ap (λ n. characters s (first + k) n) (none k count all)
  where
    none : (k count : ℕ) → count ≤ k → count - k ≡ 0
    none k count all = omega (arith, all)

-- ## The length of a text

abbrev after : Sheet → ℕ → ℕ → ℕ
after s cell later = if is_datum s cell then length_with (word_at s cell / 0o100) (word_at s cell % 0o100) later else 0

one_word : (s : Sheet) (first k most : ℕ) → k < most
    → length_from s (first + k) (most - k) ≡ after s (first + k) (length_from s (first + (k + 1)) (most - (k + 1)))
one_word s first k most small =
    ap (λ n. length_from s (first + k) n) (one_less k most small) ∙ ap (λ f. after s (first + k) (length_from s f (most - (k + 1)))) (one_on first k)

last_word : (high low later : ℕ) (l : Bool) → nat_eq low 0 ≡ l → l ≡ true → length_with high low later ≡ 1
last_word high low zero l is holds = ap (λ (b : Bool). if b then 1 else 0) (is ∙ holds)
last_word high low (suc later) l is holds = ap (λ (b : Bool). if b then 1 else if nat_eq high 0 then 0 else suc (suc later)) (is ∙ holds)

split : (a b : Bool) → (a && b) ≡ true → (a ≡ true) × (b ≡ true)
split true b e = (refl, e)
split false b e = absurd cc

pub not_other : (a : Bool) → not a ≡ false → a ≡ true
not_other true e = refl
not_other false e = absurd cc

pub neither : (a : Bool) → not a ≡ true → a ≡ false
neither true e = absurd cc
neither false e = refl

ended_with : (k : ℕ) → words_and k 1 ≡ k + 1
ended_with k = refl

pub ends : (s : Sheet) (first k most : ℕ) → k < most → ends_text s (first + k) ≡ true → words_and k (length_from s (first + k) (most - k)) ≡ k + 1
ends s first k most small holds =
    let later = length_from s (first + (k + 1)) (most - (k + 1)) in
    let cell = first + k in
    let both = split (is_datum s cell) (nat_eq (word_at s cell % 0o100) 0) holds in
    ap (words_and k)
    (one_word s first k most small
    ∙ ap (λ (b : Bool). if b then length_with (word_at s cell / 0o100) (word_at s cell % 0o100) later else 0) both.0
    ∙ last_word (word_at s cell / 0o100) (word_at s cell % 0o100) later _ refl both.1)

goes : (k high low later : ℕ) → nat_eq low 0 ≡ false → nat_eq high 0 ≡ false → words_and k (length_with high low later) ≡ words_and (k + 1) later
goes k high low zero lows highs = ap (λ (b : Bool). words_and k (if b then 1 else 0)) lows
goes k high low (suc later) lows highs =
    ap (λ (b : Bool). words_and k (if b then 1 else if nat_eq high 0 then 0 else suc (suc later))) lows
    ∙ ap (λ (b : Bool). words_and k (if b then 0 else suc (suc later))) highs
    ∙ sum k later
  where
    sum : (k later : ℕ) → k + suc (suc later) ≡ k + 1 + suc later
    sum k later = omega arith

pub goes_further : (s : Sheet) (first k most : ℕ) → k < most → goes_on s (first + k) ≡ true
    → words_and k (length_from s (first + k) (most - k)) ≡ words_and (k + 1) (length_from s (first + (k + 1)) (most - (k + 1)))
goes_further s first k most small holds =
    let later = length_from s (first + (k + 1)) (most - (k + 1)) in
    let cell = first + k in
    let both = split (is_datum s cell) (not (nat_eq (word_at s cell % 0o100) 0) && not (nat_eq (word_at s cell / 0o100) 0)) holds in
    let halves = split (not (nat_eq (word_at s cell % 0o100) 0)) (not (nat_eq (word_at s cell / 0o100) 0)) both.1 in
    ap (words_and k)
    (one_word s first k most small
    ∙ ap (λ (b : Bool). if b then length_with (word_at s cell / 0o100) (word_at s cell % 0o100) later else 0) both.0)
    ∙ goes k (word_at s cell / 0o100) (word_at s cell % 0o100) later (neither _ halves.0) (neither _ halves.1)

stays : (datum low high : Bool) (k later : ℕ) → (datum && low) ≡ false → (datum && (not low && not high)) ≡ false
    → ◌≡◌ {A = ℕ} (if datum then (if low then 1 else if high then 0 else suc later) else 0) 0
stays true true high k later fails over = absurd cc
stays true false true k later fails over = refl
stays true false false k later fails over = absurd cc
stays false low high k later fails over = refl

stays_none : (datum low : Bool) → (datum && low) ≡ false → ◌≡◌ {A = ℕ} (if datum then (if low then 1 else 0) else 0) 0
stays_none true true fails = absurd cc
stays_none true false fails = refl
stays_none false low fails = refl

stop_here : (s : Sheet) (cell later : ℕ) → ends_text s cell ≡ false → goes_on s cell ≡ false → after s cell later ≡ 0
stop_here s cell zero fails over = stays_none (is_datum s cell) (nat_eq (word_at s cell % 0o100) 0) fails
stop_here s cell (suc later) fails over =
    stays (is_datum s cell) (nat_eq (word_at s cell % 0o100) 0) (nat_eq (word_at s cell / 0o100) 0) 0 (suc later) fails over

pub stops : (s : Sheet) (first k most : ℕ) → k < most → ends_text s (first + k) ≡ false → goes_on s (first + k) ≡ false
    → words_and k (length_from s (first + k) (most - k)) ≡ 0
stops s first k most small fails over =
    ap (words_and k) (one_word s first k most small ∙ stop_here s (first + k) (length_from s (first + (k + 1)) (most - (k + 1))) fails over)

pub none_left : (s : Sheet) (first k most : ℕ) → most ≤ k → words_and k (length_from s (first + k) (most - k)) ≡ 0
none_left s first k most all = ap (λ n. words_and k (length_from s (first + k) n)) (none k most all)
  where
    none : (k most : ℕ) → most ≤ k → most - k ≡ 0
    none k most all = omega (arith, all)

pub more_put : (s : Sheet) (first k count : ℕ) (text one two : List ℕ) (n : ℕ) → k < count → n ≡ word_at s (first + k)
    → one ≡ text ++ character (n / 0o100) → two ≡ one ++ character (n % 0o100)
    → text ++ characters s (first + k) (count - k) ≡ two ++ characters s (first + (k + 1)) (count - (k + 1))
more_put s first k count text one two n small is high low =
    let a = character (n / 0o100) in
    let b = character (n % 0o100) in
    let rest = characters s (first + (k + 1)) (count - (k + 1)) in
    ap (λ l. text ++ l) (more_characters s first k count small ∙ ap (λ m. character (m / 0o100) ++ character (m % 0o100) ++ rest) (sym is))
    ∙ sym (append_assoc text (a ++ b) rest)
    ∙ ap (λ l. l ++ rest) (sym (append_assoc text a b) ∙ ap (λ l. l ++ b) (sym high) ∙ sym low)

-- ## The text at a cell

few : (n : ℕ) (mark : Option ℕ) → n < 3 → size_with n mark ≡ 0
few n None small = refl
few n (Some mark) small = ap (λ (b : Bool). if b then 0 else n) (lt-ltb n 3 small)

enough : (n mark : ℕ) → 3 ≤ n → size_with n (Some mark) ≡ n
enough n mark large = ap (λ (b : Bool). if b then 0 else n) (le-ltb n 3 large)

size_is : (s : Sheet) (cell count : ℕ) → count ≡ length_from s cell (4096 - cell % 4096)
    → size_from s cell ≡ size_with count (first_absent delimiters (characters s cell count))
unfolding size_from
size_is s cell count is = ap (λ n. size_with n (first_absent delimiters (characters s cell n))) (sym is)

pub too_short : (s : Sheet) (cell count : ℕ) → count ≡ length_from s cell (4096 - cell % 4096) → count < 3 → size_from s cell ≡ 0
too_short s cell count is small = size_is s cell count is ∙ few count (first_absent delimiters (characters s cell count)) small

pub unmarked : (s : Sheet) (cell count : ℕ) → count ≡ length_from s cell (4096 - cell % 4096) → first_absent delimiters (characters s cell count) ≡ None
    → size_from s cell ≡ 0
unmarked s cell count is none = size_is s cell count is ∙ ap (size_with count) none

pub marked : (s : Sheet) (cell count mark : ℕ) → count ≡ length_from s cell (4096 - cell % 4096) → 3 ≤ count
    → first_absent delimiters (characters s cell count) ≡ Some mark → size_from s cell ≡ count
marked s cell count mark is large some = size_is s cell count is ∙ ap (size_with count) some ∙ enough count mark large

pub length_is : (s : Sheet) (cell first address count : ℕ) → count ≡ length_from s first (4096 - address) → first ≡ cell → address ≡ cell % 4096
    → count ≡ length_from s cell (4096 - cell % 4096)
length_is s cell first address count is same at = is ∙ ap (λ f. length_from s f (4096 - address)) same ∙ ap (λ a. length_from s cell (4096 - a)) at
