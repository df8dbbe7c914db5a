-- The information words of files.
use Rattle.std.proofs.Common.{◌≡◌, ℕ, zero, suc, ◌+◌, List, [], ◌∷◌, take, Some, refl, ap, sym, ◌∙◌, inl, inr}
use Rattle.std.proofs.lemmas.Bool.Decides.{eqb_tells}
use Rattle.os8_dir.specs.declared.entries.DirEntry.{DirEntry}
use Rattle.os8_dir.specs.declared.entries.DirEntry.TheVariants.{File, Empty}
use Rattle.os8_dir.specs.Names.{with_end_zeros}
use Rattle.os8_dir.specs.Entries.{DirectoryState, AreWritable}
use Rattle.os8_dir.specs.Found.{FilePlace, files_at, find, information_of, IsDirectory}
use Rattle.os8_dir.specs.Steps.{information_in}

-- they are those of the file that is found
pub information-found : (name place : ℕ) (es : List DirEntry) → information_in name es ≡ information_of (find name (files_at place es))
information-found name place [] = refl
information-found name place (File own info zero ∷ es) = information-found name place es
information-found name place (File own info (suc size) ∷ es) = elim (eqb_tells own name) [
  | inl here ↦ rw here.0 refl
  | inr there ↦ rw there.0 (information-found name (place + suc size) es)
]
information-found name place (Empty size ∷ es) = information-found name (place + size) es

some-same : (f g : FilePlace) → Some f ≡ Some g → f ≡ g
some-same f g same = cc

-- after those of the directory's number they are 0
writable-found : (info name place : ℕ) (es : List DirEntry) (f : FilePlace) → AreWritable info es → find name (files_at place es) ≡ Some f → with_end_zeros 10 (take info f.info) ≡ f.info
writable-found info name place [] f all found = cc
writable-found info name place (File own words zero ∷ es) f all found = writable-found info name place es f all.1 found
writable-found info name place (File own words (suc size) ∷ es) f all found = elim (eqb_tells own name) [
  | inl here ↦ let same : record { name = own; info = words; place = place; size = suc size } ≡ f = some-same _ f (rw here.0 at found) in
      ap (λ (g : FilePlace). with_end_zeros 10 (take info g.info)) (sym same) ∙ all.0.1 ∙ ap (λ (g : FilePlace). g.info) same
  | inr there ↦ writable-found info name (place + suc size) es f all.1 (rw there.0 at found)
]
writable-found info name place (Empty size ∷ es) f all found = writable-found info name (place + size) es f all.1 found

pub file-information : (volume name : ℕ) (d : DirectoryState) (f : FilePlace) → IsDirectory volume d → find name (files_at d.first d.entries) ≡ Some f → with_end_zeros 10 (take d.info f.info) ≡ f.info
file-information volume name d f is found = writable-found d.info name d.first d.entries f is.writable found
