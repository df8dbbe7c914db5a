-- The lines of files.
use Rattle.std.proofs.Common.{◌≡◌, ℕ, ◌∙◌, Option, List, [], ◌∷◌, ◌++◌, refl, sym, ap, append_assoc, append-nil}
use Rattle.volume_salvage.specs.declared.faults.Refusal.{Refusal}
use Rattle.archive_survey.specs.declared.answers.FoundFile.{FoundFile}
use Rattle.volume_salvage.specs.Salvaging.{file_line, file_lines}

pub line-more : (files more : List FoundFile) (refusals others : List (Option Refusal)) (f : FoundFile) (refusal : Option Refusal) (out new all : List ℕ) → files ≡ f ∷ more
    → refusals ≡ refusal ∷ others → new ≡ out ++ file_line f refusal → out ++ file_lines files refusals ≡ all → new ++ file_lines more others ≡ all
line-more files more refusals others f refusal out new all is_files is_refusals is_new before =
    ap (λ l. l ++ file_lines more others) is_new
    ∙ append_assoc out (file_line f refusal) (file_lines more others)
    ∙ ap (λ l. out ++ file_lines l (refusal ∷ others)) (sym is_files)
    ∙ ap (λ l. out ++ file_lines files l) (sym is_refusals)
    ∙ before

pub no-refusals : (files : List FoundFile) (refusals : List (Option Refusal)) (out all : List ℕ) → refusals ≡ [] → out ++ file_lines files refusals ≡ all → out ≡ all
no-refusals files refusals out all none before = sym (append-nil out) ∙ ap (λ l. out ++ l) (sym (no-line files)) ∙ ap (λ l. out ++ file_lines files l) (sym none) ∙ before
  where
    no-line : (files : List FoundFile) → file_lines files [] ≡ []
    no-line [] = refl
    no-line (f ∷ files) = refl

pub no-files : (files : List FoundFile) (refusals : List (Option Refusal)) (out all : List ℕ) → files ≡ [] → out ++ file_lines files refusals ≡ all → out ≡ all
no-files files refusals out all none before = sym (append-nil out) ∙ ap (λ l. out ++ file_lines l refusals) (sym none) ∙ before
