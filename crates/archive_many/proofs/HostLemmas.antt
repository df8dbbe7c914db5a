-- Paths of the host, and names as they are typed.
use Rattle.std.proofs.Common.{◌≡◌, ◌≢◌, ◌∙◌, ◌≤◌, ◌<◌, ◌-◌, ℕ, zero, suc, Bool, true, false, cond, if◌then◌else◌, subst, Option, Some, None, List, [], ◌∷◌, ◌++◌, get_or, map, take, drop, length, append_assoc, refl, sym, ap, arith, inl, inr}
use Rattle.std.specs.Prelude.{◌&&◌, nat_le}
use Rattle.std.specs.Str.{IsAscii}
use Rattle.std.proofs.lemmas.List.{length-map, take_all}
use Rattle.std.proofs.lemmas.Bool.Decides.{nat_tests}
use Rattle.name_spelling.specs.Laws.{TypedAreShort, are_safe, is_safe}
use Rattle.name_spelling.specs.Reading.{typed_name}
use Rattle.archive_many.specs.HostNames.{IsFolder, IsLastPart, NamesVolume, capital_of, has_no_slash, is_slash}

-- ## The last part of a path

tail-is : (c : ℕ) (l : List ℕ) → take (length (c ∷ l) - 1) l ≡ l
tail-is c l = take_all (length (c ∷ l) - 1) l (omega arith)

-- of a path the part from the last slash on is known so far, and a rest of it is to come
abbrev pub SoFar : List ℕ → List ℕ → List ℕ → Type 0
SoFar path part rest = (folder : List ℕ) × (seen : List ℕ) × (path ≡ folder ++ part) × IsFolder folder × (part ≡ seen ++ rest) × (has_no_slash seen ≡ true)

pub begun : (path : List ℕ) → SoFar path path path
begun path = ([], [], refl, inl refl, refl, refl)

no-slash-step : (b : Bool) (one two : Bool) → (one ≡ true → two ≡ true) → cond b false one ≡ true → cond b false two ≡ true
no-slash-step true one two more none = none
no-slash-step false one two more none = more none

no-slash-more : (seen : List ℕ) (c : ℕ) → is_slash c ≡ false → has_no_slash seen ≡ true → has_no_slash (seen ++ c ∷ []) ≡ true
no-slash-more [] c is none = rw is refl
no-slash-more (d ∷ seen) c is none = no-slash-step (is_slash d) (has_no_slash seen) (has_no_slash (seen ++ c ∷ [])) (no-slash-more seen c is) none

pub at-slash : (path part rest : List ℕ) → 1 ≤ length rest → get_or rest 0 0 ≡ 0o57 → SoFar path part rest → SoFar path (take (length rest - 1) (drop 1 rest)) (take (length rest - 1) (drop 1 rest))
at-slash path part [] some is so = absurd (omega (arith, some))
at-slash path part (c ∷ rest) some is so =
    rw (tail-is c rest) (
      so.0 ++ (so.1 ++ c ∷ []),
      [],
      so.2 ∙ ap (λ l. so.0 ++ l) (so.4 ∙ sym (append_assoc so.1 (c ∷ []) rest)) ∙ sym (append_assoc so.0 (so.1 ++ c ∷ []) rest),
      inr (so.0 ++ so.1, sym (append_assoc so.0 so.1 (c ∷ [])) ∙ ap (λ x. (so.0 ++ so.1) ++ x ∷ []) is),
      refl,
      refl,
    )

no-slash-here : (c : ℕ) → c ≢ 0o57 → is_slash c ≡ false
no-slash-here c is = grind (arith, nat_tests)

pub at-other : (path part rest : List ℕ) → 1 ≤ length rest → get_or rest 0 0 ≢ 0o57 → SoFar path part rest → SoFar path part (take (length rest - 1) (drop 1 rest))
at-other path part [] some is so = absurd (omega (arith, some))
at-other path part (c ∷ rest) some is so =
    rw (tail-is c rest)
    (so.0, so.1 ++ c ∷ [], so.2, so.3, so.4 ∙ sym (append_assoc so.1 (c ∷ []) rest), no-slash-more so.1 c (no-slash-here c is) so.5)

-- ## Typed names are short

none-if : TypedAreShort → (text : List ℕ) (o : Option ℕ) → typed_name text ≡ o → 25 < length text → None ≡ typed_name text
none-if law text None is long = sym is
none-if law text (Some name) is long = absurd (omega (arith, long, law text name is))

-- a longer text is no name
pub long-none : TypedAreShort → (f : ℕ → ℕ) (text : List ℕ) → 25 < length text → None ≡ typed_name (map f text)
long-none law f text long = none-if law (map f text) (typed_name (map f text)) refl (omega (arith, long, length-map text f))

-- ## Safe characters

both-safe : (a b : Bool) → (a && b) ≡ true → (a ≡ true) × (b ≡ true)
both-safe true b is = (refl, is)
both-safe false b is = absurd (cc)

ascii-nil : IsAscii []
ascii-nil i = omega arith

ascii-cons : (c : ℕ) (cs : List ℕ) → c < 128 → IsAscii cs → IsAscii (c ∷ cs)
ascii-cons c cs low rest zero = low
ascii-cons c cs low rest (suc i) = rest i

safe-low : (c : ℕ) → is_safe c ≡ true → c < 128
safe-low c is = grind (arith, nat_tests)

pub safe-ascii : (text : List ℕ) → are_safe text ≡ true → IsAscii text
safe-ascii [] safe = ascii-nil
safe-ascii (c ∷ cs) safe = let parts = both-safe (is_safe c) (are_safe cs) safe in ascii-cons c cs (safe-low c parts.0) (safe-ascii cs parts.1)

-- no small letter stands in it
safe-capital : (c : ℕ) → is_safe c ≡ true → capital_of c ≡ c
safe-capital c is = ap (λ (b : Bool). if b then c - 0o40 else c) (no-small c is)
  where
    no-small : (c : ℕ) → is_safe c ≡ true → (nat_le 0o141 c && nat_le c 0o172) ≡ false
    no-small c is = grind (arith, nat_tests)

safe-raised : (text : List ℕ) → are_safe text ≡ true → map capital_of text ≡ text
safe-raised [] safe = refl
safe-raised (c ∷ cs) safe =
    let parts = both-safe (is_safe c) (are_safe cs) safe in
    ap (λ n. n ∷ map capital_of cs) (safe-capital c parts.0) ∙ ap (λ l. c ∷ l) (safe-raised cs parts.1)

-- and no slash
safe-slash : (c : ℕ) → is_safe c ≡ true → is_slash c ≡ false
safe-slash c is = grind (arith, nat_tests)

safe-part : (text : List ℕ) → are_safe text ≡ true → has_no_slash text ≡ true
safe-part [] safe = refl
safe-part (c ∷ cs) safe =
    let parts = both-safe (is_safe c) (are_safe cs) safe in
    ap (λ (b : Bool). if b then false else has_no_slash cs) (safe-slash c parts.0) ∙ safe-part cs parts.1

-- ## The part after a slash

slash-in : (seen rest : List ℕ) → has_no_slash (seen ++ 0o57 ∷ rest) ≡ true → ⊥
slash-in [] rest none = absurd (cc)
slash-in (c ∷ seen) rest none = by (is_slash c) (slash-in seen rest) none
  where
    by : (b : Bool) → (has_no_slash (seen ++ 0o57 ∷ rest) ≡ true → ⊥) → (if b then false else has_no_slash (seen ++ 0o57 ∷ rest)) ≡ true → ⊥
    by true more none = absurd (cc)
    by false more none = more none

last-slash : (before text : List ℕ) → before ++ 0o57 ∷ [] ≡ [] → ⊥
last-slash [] text is = cc
last-slash (c ∷ before) text is = cc

same-following : (x y : ℕ) (xs ys : List ℕ) → x ∷ xs ≡ y ∷ ys → xs ≡ ys
same-following x y xs ys is = cc

-- a part that has no slash, after a text that ends with one, is the last part
one-part : (folder before text part : List ℕ) → before ++ 0o57 ∷ part ≡ folder ++ 0o57 ∷ text → has_no_slash text ≡ true → has_no_slash part ≡ true → part ≡ text
one-part [] [] text part is none also = same-following 0o57 0o57 part text is
one-part [] (c ∷ before) text part is none also = absurd (slash-in before part (subst (λ l. has_no_slash l ≡ true) (sym (same-following c 0o57 (before ++ 0o57 ∷ part) text is)) none))
one-part (c ∷ folder) [] text part is none also = absurd (slash-in folder text (subst (λ l. has_no_slash l ≡ true) (same-following 0o57 c part (folder ++ 0o57 ∷ text) is) also))
one-part (c ∷ folder) (d ∷ before) text part is none also = one-part folder before text part (same-following d c (before ++ 0o57 ∷ part) (folder ++ 0o57 ∷ text) is) none also

last-is : (folder text part : List ℕ) → IsLastPart (folder ++ 0o57 ∷ text) part → has_no_slash text ≡ true → part ≡ text
last-is folder text part last none = elim last.is_folder [
  | inl empty ↦ absurd (slash-in folder text (subst (λ l. has_no_slash l ≡ true) (sym (last.path_is ∙ ap (λ l. l ++ part) empty)) last.no_slash))
  | inr ended ↦ one-part folder ended.0 text part (sym (append_assoc ended.0 (0o57 ∷ []) part) ∙ ap (λ l. l ++ part) (sym ended.1) ∙ sym last.path_is) none last.no_slash
]

-- a safe text in a folder is taken for the name that it spells
pub names-back : (folder text : List ℕ) (name : Option ℕ) → are_safe text ≡ true → NamesVolume (folder ++ 0o57 ∷ text) name → name ≡ typed_name text
names-back folder text name safe names =
    names.2 ∙ ap (λ l. typed_name (map capital_of l)) (last-is folder text names.0 names.1 (safe-part text safe)) ∙ ap typed_name (safe-raised text safe)
