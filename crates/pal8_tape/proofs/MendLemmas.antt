-- The text in which a statement that has a fault is harmless.
use Rattle.std.proofs.Common.{◌≡◌, ℕ, ◌+◌, ◌-◌, ◌≤◌, ◌<◌, Option, Some, None, Result, Ok, Err, OnOk, length, take, drop, replicate, List, [], ◌∷◌, ◌++◌, refl, sym, ap, subst, ◌∙◌, arith, append_assoc, length-append, length-drop}
use Rattle.std.proofs.lemmas.List.{length-replicate, length-take-le}
use Rattle.pal_lex.specs.Text.{limit, text_of}
use Rattle.pal8_lex.specs.Reading.{HasRead, Progress}
use Rattle.pal8_lex.specs.declared.rules.End.{End}
use Rattle.pal8_asm.specs.Pushing.{EndsStatement, shown_statement}
use Rattle.pal8_asm.specs.Sources.{Statement, statements}
use Rattle.source_places.proofs.PlaceLemmas.{length_from}
use Rattle.pal8_tape.specs.Mending.{with_blanks, with_part}
use Rattle.pal8_tape.specs.MendSteps.{harmless_text, harmless_text_with}
use Rattle.pal8_tape.specs.declared.mending.Mending.{Mending}
use Rattle.std.specs.declared.alloc.AllocError.{AllocError}

pub length_taken : (bytes : List ℕ) (n : ℕ) → n ≤ length bytes → length (text_of (take n bytes)) ≡ n
length_taken bytes n inside = length_from (take n bytes) [] ∙ ap (λ k. k + 0) (length-take-le n bytes inside) ∙ omega arith

limited : (n at : ℕ) → n ≡ at → at < 18446744073709551615 → at ≡ limit n
limited n at is small = omega (arith, is, small)

module _ (m : Mending) (at : ℕ) (older : List ℕ) (b : ℕ) (new : Progress) (text : List ℕ) (next : text ≡ b ∷ older) (found : Option (List ℕ)) (is : found ≡ harmless_text m (statements older)) where
  -- a byte that ends no statement
  pub none_more : EndsStatement older b None new → (found ≡ harmless_text m (statements text)) × HasRead new text
  none_more it = (is ∙ ap (harmless_text m) (sym it.0 ∙ ap statements (sym next)), subst (HasRead new) (sym next) it.1)

  -- a statement more
  pub found_more : (e : End) (s : Statement) (after : Option (List ℕ)) → EndsStatement older b (Some e) new → s ≡ shown_statement at e new → length older ≡ at
      → at < 18446744073709551615 → (result : Result (Unit {0}) AllocError) → OnOk result (after ≡ harmless_text_with m s found)
      → OnOk result ((after ≡ harmless_text m (statements text)) × HasRead new text)
  found_more e s after it shown long small (Ok nothing) finds = (
    finds ∙ ap (harmless_text_with m s) is ∙ ap (λ x. harmless_text m (x ∷ statements older)) (shown ∙ ap (λ n. shown_statement n e new) (limited (length older) at long small))
        ∙ ap (harmless_text m) (sym it.0 ∙ ap statements (sym next)),
    subst (HasRead new) (sym next) it.1,
  )
  found_more e s after it shown long small (Err refused) finds = tt

-- ## The other bytes

take_first : {A : Type 0} (l rest : List A) → take (length l) (l ++ rest) ≡ l
take_first [] rest = refl
take_first (x ∷ l) rest = ap (λ t. x ∷ t) (take_first l rest)

drop_first : {A : Type 0} (l rest : List A) → drop (length l) (l ++ rest) ≡ rest
drop_first [] rest = refl
drop_first (x ∷ l) rest = drop_first l rest

blanks_long : (count : ℕ) (part : List ℕ) → length (with_blanks count part) ≡ count
blanks_long count part =
    let blank : ℕ = 0o40 in
    length-take-le count (part ++ replicate count blank) (omega (arith, length-append part (replicate count blank), length-replicate count blank))

module _ (start end : ℕ) (part text : List ℕ) (before : start ≤ end) (inside : end ≤ length text) where
  first_long : length (take start text) ≡ start
  first_long = length-take-le start text (omega (arith, before, inside))

  front_long : length (take start text ++ with_blanks (end - start) part) ≡ end
  front_long =
      omega (arith, before, first_long, blanks_long (end - start) part, length-append (take start text) (with_blanks (end - start) part))

  same_length : length (with_part start end part text) ≡ length text
  same_length =
      omega (arith, inside, front_long, length-drop end text, length-append (take start text ++ with_blanks (end - start) part) (drop end text))

  same_front : take start (with_part start end part text) ≡ take start text
  same_front =
      ap (take start) (append_assoc (take start text) (with_blanks (end - start) part) (drop end text))
      ∙ ap (λ n. take n (take start text ++ (with_blanks (end - start) part ++ drop end text))) (sym first_long)
      ∙ take_first (take start text) (with_blanks (end - start) part ++ drop end text)

  same_rest : drop end (with_part start end part text) ≡ drop end text
  same_rest =
      ap (λ n. drop n (with_part start end part text)) (sym front_long) ∙ drop_first (take start text ++ with_blanks (end - start) part) (drop end text)

pub others_kept : (start end : ℕ) (part text : List ℕ) → start ≤ end → end ≤ length text
    → (length (with_part start end part text) ≡ length text) × (take start (with_part start end part text) ≡ take start text)
    × (drop end (with_part start end part text) ≡ drop end text)
others_kept start end part text before inside =
    (same_length start end part text before inside, same_front start end part text before inside, same_rest start end part text before inside)
