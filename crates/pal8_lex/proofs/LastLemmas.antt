-- The last item of a list.
use Rattle.std.proofs.Common.{◌≡◌, ◌-◌, length, get_or, List, [], ◌∷◌, ◌++◌, refl, ap, ◌∙◌, arith, length-append}
use Rattle.std.proofs.Math.ListN.{set}
use Rattle.std.proofs.Math.Seq.{set-append_seam}

pub last_at : {A : Type 0} (before : List A) (last other : A) → get_or (before ++ last ∷ []) (length before) other ≡ last
last_at [] last other = refl
last_at (x ∷ before) last other = last_at before last other

pub last_place : {A : Type 0} (before : List A) (last : A) → length (before ++ last ∷ []) - 1 ≡ length before
last_place before last = omega (arith, length-append before (last ∷ []))

-- the last item is another one
pub changed_last : {A : Type 0} (items before : List A) (last item : A) (more : A → A) → items ≡ before ++ last ∷ []
    → item ≡ get_or items (length items - 1) item → set items (length items - 1) (more item) ≡ before ++ more last ∷ []
changed_last items before last item more e at =
    let same : item ≡ last = at ∙ ap (λ l. get_or l (length l - 1) item) e ∙ ap (λ n. get_or (before ++ last ∷ []) n item) (last_place before last) ∙ last_at before last item in
    ap (λ l. set l (length l - 1) (more item)) e ∙ ap (λ n. set (before ++ last ∷ []) n (more item)) (last_place before last)
    ∙ set-append_seam before last [] (more item) ∙ ap (λ v. before ++ more v ∷ []) same
