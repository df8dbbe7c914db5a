-- Maps of files that differ in one name.
use Rattle.std.proofs.Common.{◌≡◌, ◌≢◌, ℕ, cond, eqb, Some, None, ap, sym, ◌∙◌, arith, inl, inr}
use Rattle.std.specs.Ordering.{nat_cmp, eq_by_cmp}
use Rattle.std.specs.FinMap.{get, insert, remove, get-insert, get-remove, same_map, nat_cmp-IsAntisymmetric}
use Rattle.std.proofs.lemmas.Cmp.{nat_cmp_total}
use Rattle.std.proofs.lemmas.Bool.Decides.{nat_tests, eqb_tells}
use Rattle.os8_dir.specs.Files.{Files, FileData}

tied : (a b : ℕ) → eq_by_cmp nat_cmp b a ≡ eqb a b
tied a b = grind (arith, nat_tests)

pub get-without : (m : Files) (name q : ℕ) → get (remove m name) q ≡ cond (eqb name q) None (get m q)
get-without m name q = get-remove nat_cmp_total m name q ∙ ap (λ b. cond b None (get m q)) (tied name q)

pub get-with : (m : Files) (name : ℕ) (h : FileData) (q : ℕ) → get (insert m name h) q ≡ cond (eqb name q) (Some h) (get m q)
get-with m name h q = get-insert nat_cmp_total m name h q ∙ ap (λ b. cond b (Some h) (get m q)) (tied name q)

pub files-removed : (old new : Files) (name : ℕ) → get new name ≡ None → ((q : ℕ) → name ≢ q → get new q ≡ get old q) → new ≡ remove old name
files-removed old new name gone others =
    same_map nat_cmp_total nat_cmp-IsAntisymmetric new (remove old name) (λ q. elim (eqb_tells name q) [
      | inl p ↦ ap (get new) (sym p.1) ∙ gone ∙ sym (get-without old name q ∙ ap (λ b. cond b None (get old q)) p.0)
      | inr p ↦ others q p.1 ∙ sym (get-without old name q ∙ ap (λ b. cond b None (get old q)) p.0)
    ])

pub files-inserted : (old new : Files) (name : ℕ) (h : FileData) → get new name ≡ Some h → ((q : ℕ) → name ≢ q → get new q ≡ get old q) → new ≡ insert old name h
files-inserted old new name h there others =
    same_map nat_cmp_total nat_cmp-IsAntisymmetric new (insert old name h) (λ q. elim (eqb_tells name q) [
      | inl p ↦ ap (get new) (sym p.1) ∙ there ∙ sym (get-with old name h q ∙ ap (λ b. cond b (Some h) (get old q)) p.0)
      | inr p ↦ others q p.1 ∙ sym (get-with old name h q ∙ ap (λ b. cond b (Some h) (get old q)) p.0)
    ])

pub files-same : (old new : Files) → ((q : ℕ) → get new q ≡ get old q) → new ≡ old
files-same old new same = same_map nat_cmp_total nat_cmp-IsAntisymmetric new old same
