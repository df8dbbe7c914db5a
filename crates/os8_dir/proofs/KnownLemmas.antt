-- The names of the files of a draft as a set.
use Rattle.std.proofs.Common.{◌≡◌, ℕ, zero, suc, true, false, not, ◌||◌, cond, eqb, List, [], ◌∷◌, ◌++◌, refl, ap, sym, ◌∙◌}
use Rattle.std.proofs.Math.Bool.{or-false}
use Rattle.std.specs.BTreeSet.{BTreeSet}
use Rattle.os8_dir.specs.declared.entries.DirEntry.{DirEntry}
use Rattle.os8_dir.specs.declared.entries.DirEntry.TheVariants.{File, Empty}
use Rattle.os8_dir.specs.Entries.{is_zero, contains, names_of, tidy}
use Rattle.os8_dir.specs.Reading.{is_new}
use Rattle.os8_dir.specs.Steps.{has_key, is_new_to, is_named}
use Rattle.os8_dir.proofs.LawLemmas.{names_of-tidy, names_of-append, append-nil}

-- a set that has the names of a list tells which are new
pub is_new_to-known : (es : List DirEntry) (names : BTreeSet ℕ) (e : DirEntry) → ((q : ℕ) → has_key names q ≡ contains (names_of es) q) → is_new_to (has_key names) e ≡ is_new (names_of es) e
is_new_to-known es names (File name info size) known = ap (λ b. is_zero size || not b) (known name)
is_new_to-known es names (Empty size) known = refl

contains-more : (ns : List ℕ) (name q : ℕ) → contains (ns ++ name ∷ []) q ≡ (contains ns q || eqb name q)
contains-more [] name q = elim (eqb name q) as (λ b. cond b true false ≡ (false || b)) [ true ↦ refl | false ↦ refl ]
contains-more (n ∷ ns) name q = elim (eqb n q) as (λ b. cond b true (contains (ns ++ name ∷ []) q) ≡ (cond b true (contains ns q) || eqb name q)) [ true ↦ refl | false ↦ contains-more ns name q ]

contains-entry : (ns : List ℕ) (e : DirEntry) (q : ℕ) → contains (ns ++ names_of (e ∷ [])) q ≡ (contains ns q || is_named q e)
contains-entry ns (File name info zero) q = rw (append-nil ns) (sym (or-false (contains ns q)))
contains-entry ns (File name info (suc size)) q = contains-more ns name q
contains-entry ns (Empty size) q = rw (append-nil ns) (sym (or-false (contains ns q)))

-- the set with one more name has those of the list with one more entry
pub has_key-more : (es : List DirEntry) (old new : BTreeSet ℕ) (e : DirEntry) (q : ℕ) → has_key old q ≡ contains (names_of es) q → has_key new q ≡ (has_key old q || is_named q e) → has_key new q ≡ contains (names_of (tidy (es ++ e ∷ []))) q
has_key-more es old new e q known more = rw (names_of-tidy (es ++ e ∷ []), names_of-append es (e ∷ []), contains-entry (names_of es) e q) (more ∙ ap (λ b. b || is_named q e) known)
