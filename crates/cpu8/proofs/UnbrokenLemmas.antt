-- Fields without breaks.
use Rattle.std.proofs.Common.{◌≡◌, ℕ, ◌+◌, ◌*◌, ◌<◌, ◌≤◌, Bool, true, false, true≢false, List, length, get_or, take, drop, set, arith, ap, sym, subst, ◌∙◌}
use Rattle.std.specs.List.{list_any}
use Rattle.std.proofs.lemmas.Bool.{false_from_ne_true}
use Rattle.std.proofs.lemmas.Bool.Decides.{eqb_tells}
use Rattle.std.proofs.lemmas.List.{get_or-take, get_or-drop, get_or-set_same, get_or-set_other, length-take-le, length-drop}
use Rattle.std.proofs.lemmas.List.Folds.{list_any_at}
use Rattle.std.proofs.Math.Logic.{⊎_elim}
use Rattle.cpu8.specs.State.{place}
use Rattle.cpu8.specs.Go.{is_break}
use Rattle.cpu8.specs.QuietSteps.{IsUnbroken, AreUnbroken}

-- none of the field's part of the list is a break
pub unbroken-part : (breaks : List Bool) (field n : ℕ) (p : Bool → Bool) → p true ≡ true → n ≡ 4096 → 4096 * field + 4096 ≤ length breaks
    → list_any p (take n (drop (4096 * field) breaks)) ≡ false → IsUnbroken breaks field
unbroken-part breaks field n p tests size within none address below =
    let rest = drop (4096 * field) breaks in
    let enough : n ≤ length rest = omega (arith, size, within, length-drop (4096 * field) breaks) in
    let inside : address < length (take n rest) = omega (arith, below, size, length-take-le n rest enough) in
    let at : get_or (take n rest) address false ≡ is_break breaks (place field address) =
    get_or-take n rest address false (omega (arith, below, size)) ∙ get_or-drop (4096 * field) breaks address false in
    false_from_ne_true (is_break breaks (place field address))
    (λ has. true≢false (sym (list_any_at p (take n rest) address false inside (ap p (at ∙ has) ∙ tests)) ∙ none))

-- one field more is told of
pub unbroken-set : (breaks fields : List Bool) (field : ℕ) (answer : Bool) → AreUnbroken breaks fields → field < length fields
    → (answer ≡ true → IsUnbroken breaks field) → AreUnbroken breaks (set fields field answer)
unbroken-set breaks fields field answer others within this other told =
    ⊎_elim
    (λ same. subst (λ f. IsUnbroken breaks f) (sym same.1)
    (this (sym (get_or-set_same fields field answer false within) ∙ (ap (λ f. get_or (set fields field answer) f false) (sym same.1) ∙ told))))
    (λ differs. others other (sym (get_or-set_other fields field other answer false differs.1) ∙ told))
    (eqb_tells other field)
