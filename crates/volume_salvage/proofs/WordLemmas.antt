-- Files with the words of their blocks.
use Rattle.std.proofs.Common.{◌≡◌, ℕ, ◌+◌, ◌≤◌, ◌∙◌, List, [], ◌∷◌, ◌++◌, sym, ap, subst, append_assoc}
use Rattle.std.proofs.lemmas.List.{append-nil}
use Rattle.os8_dir.specs.Files.{run}
use Rattle.volume_salvage.specs.declared.volumes.KeptFile.{KeptFile}
use Rattle.archive_survey.specs.declared.answers.FoundFile.{FoundFile}
use Rattle.archive_survey.specs.Laws.{AreInside}
use Rattle.volume_salvage.specs.Salvaging.{AreFilesOf}

pub first-inside : (volume : ℕ) (f : FoundFile) (rest others : List FoundFile) → rest ≡ f ∷ others → AreInside volume rest → f.place + f.size ≤ volume
first-inside volume f rest others is inside = (subst (AreInside volume) is inside).1

pub others-inside : (volume : ℕ) (f : FoundFile) (rest others : List FoundFile) → rest ≡ f ∷ others → AreInside volume rest → AreInside volume others
others-inside volume f rest others is inside = (subst (AreInside volume) is inside).2

-- files so far, and whatever comes of the rest
abbrev pub GoOn : List (List ℕ) → List FoundFile → List KeptFile → List FoundFile → Type 0
GoOn blocks all kept rest = (more : List KeptFile) → AreFilesOf blocks rest more → AreFilesOf blocks all (kept ++ more)

pub one-kept : (blocks : List (List ℕ)) (all rest others : List FoundFile) (f : FoundFile) (k : KeptFile) (kept new : List KeptFile) → GoOn blocks all kept rest → rest ≡ f ∷ others
    → k.name ≡ f.name → k.info ≡ f.info → k.words.items ≡ run blocks f.place f.size → new ≡ kept ++ k ∷ [] → GoOn blocks all new others
one-kept blocks all rest others f k kept new so is name info words is_new = λ more of.
    let whole : AreFilesOf blocks (f ∷ others) (k ∷ more) = (name, info, words, of) in
    subst (AreFilesOf blocks all) (sym (ap (λ l. l ++ more) is_new ∙ append_assoc kept (k ∷ []) more)) (so (k ∷ more) (subst (λ r. AreFilesOf blocks r (k ∷ more)) (sym is) whole))

pub all-kept : (blocks : List (List ℕ)) (all rest : List FoundFile) (kept : List KeptFile) → GoOn blocks all kept rest → rest ≡ [] → AreFilesOf blocks all kept
all-kept blocks all rest kept so is = subst (AreFilesOf blocks all) (append-nil kept) (so [] (subst (λ r. AreFilesOf blocks r []) (sym is) tt))
