-- The files of a rescued volume are just those that were kept.
use Rattle.std.proofs.Common.{◌≡◌, ◌≢◌, ℕ, cond, eqb, Some, None, List, [], ◌∷◌, refl, ap, ◌∙◌, arith, inl, inr}
use Rattle.std.specs.Ordering.{nat_cmp, eq_by_cmp}
use Rattle.std.specs.FinMap.{from_entries, get, insert, get-insert, get-from_entries}
use Rattle.std.proofs.lemmas.Cmp.{nat_cmp_total}
use Rattle.std.proofs.lemmas.Bool.Decides.{nat_tests, eqb_tells}
use Rattle.os8_dir.specs.Files.{Files, FileData}
use Rattle.os8_dir.specs.Names.{with_end_zeros}
use Rattle.volume_salvage.specs.Rescued.{with_files}
use Rattle.volume_salvage.specs.RescueLaws.{AreThere}
use Rattle.volume_salvage.specs.Rows.{Differ, HasNone}
use Rattle.volume_salvage.specs.declared.volumes.KeptFile.{KeptFile}

tied : (a b : ℕ) → eq_by_cmp nat_cmp b a ≡ eqb a b
tied a b = grind (arith, nat_tests)

get-with : (m : Files) (name : ℕ) (h : FileData) (q : ℕ) → get (insert m name h) q ≡ cond (eqb name q) (Some h) (get m q)
get-with m name h q = get-insert nat_cmp_total m name h q ∙ ap (λ b. cond b (Some h) (get m q)) (tied name q)

get-same : (m : Files) (name : ℕ) (h : FileData) → get (insert m name h) name ≡ Some h
get-same m name h = get-with m name h name ∙ elim (eqb_tells name name) [ inl p ↦ ap (λ b. cond b (Some h) (get m name)) p.0 | inr p ↦ absurd (p.1 refl) ]

get-other : (m : Files) (name : ℕ) (h : FileData) (q : ℕ) → name ≢ q → get (insert m name h) q ≡ get m q
get-other m name h q apart = get-with m name h q ∙ elim (eqb_tells name q) [ inl p ↦ absurd (apart p.1) | inr p ↦ ap (λ b. cond b (Some h) (get m q)) p.0 ]

untouched : (info name : ℕ) (files : Files) (kept : List KeptFile) → HasNone name kept → get (with_files info files kept) name ≡ get files name
untouched info name files [] none = refl
untouched info name files (f ∷ fs) none =
    untouched info name (insert files f.name (with_end_zeros info f.info, f.words.items)) fs none.1 ∙ get-other files f.name (with_end_zeros info f.info, f.words.items) name none.0

are-there : (info : ℕ) (files : Files) (kept : List KeptFile) → Differ kept → AreThere info (with_files info files kept) kept
are-there info files [] differ = tt
are-there info files (f ∷ fs) differ = (
  untouched info f.name (insert files f.name (with_end_zeros info f.info, f.words.items)) fs differ.0 ∙ get-same files f.name (with_end_zeros info f.info, f.words.items),
  are-there info (insert files f.name (with_end_zeros info f.info, f.words.items)) fs differ.1,
)

pub kept-are-there : (info : ℕ) (kept : List KeptFile) → Differ kept → AreThere info (with_files info (from_entries []) kept) kept
kept-are-there info kept differ = are-there info (from_entries []) kept differ

pub others-are-not : (info name : ℕ) (kept : List KeptFile) → HasNone name kept → get (with_files info (from_entries []) kept) name ≡ None
others-are-not info name kept none = untouched info name (from_entries []) kept none ∙ get-from_entries nat_cmp_total [] name
