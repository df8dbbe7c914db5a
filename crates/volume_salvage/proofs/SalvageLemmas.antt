-- What a salvage is made of.
use Rattle.std.proofs.Common.{◌≡◌, ◌∙◌, ℕ, Option, List, ◌++◌, length, ap, subst}
use Rattle.volume_salvage.specs.Rescued.{IsFitted}
use Rattle.volume_salvage.specs.declared.faults.Refusal.{Refusal}
use Rattle.volume_salvage.specs.declared.fitting.FittedVolume.{FittedVolume}
use Rattle.volume_salvage.specs.declared.volumes.KeptFile.{KeptFile}
use Rattle.archive_survey.specs.declared.answers.FoundFile.{FoundFile}
use Rattle.archive_survey.specs.declared.answers.Survey.{Survey}
use Rattle.archive_survey.specs.Findings.{findings, files_found}
use Rattle.archive_survey.specs.Lines.{survey_losses}
use Rattle.archive_survey.specs.Surveying.{IsSurveyOf}
use Rattle.volume_salvage.specs.Salvaging.{AreFilesOf, IsSalvageOf, count_kept, file_lines}
use Rattle.volume_salvage.specs.declared.salvages.Salvage.{Salvage}

pub salvaged : (blocks : List (List ℕ)) (survey : Survey) (kept lent : List KeptFile) (fitted : FittedVolume) (salvage : Salvage) (first second : List FoundFile) (shown counted : List (Option Refusal)) (count : ℕ)
    → IsSurveyOf blocks survey → first ≡ survey.files.items → AreFilesOf blocks first kept → lent ≡ kept → count ≡ length blocks → IsFitted count lent fitted
    → second ≡ survey.files.items → shown ≡ fitted.refusals.items → salvage.losses.items ≡ survey.losses.items ++ file_lines second shown
    → counted ≡ fitted.refusals.items → salvage.files ≡ count_kept counted → salvage.image.items ≡ fitted.image.items → IsSalvageOf blocks salvage
salvaged blocks survey kept lent fitted salvage first second shown counted count told is_first files is_lent is_count fits is_second is_shown losses is_counted number image = record {
  kept = kept;
  files = subst (λ l. AreFilesOf blocks l kept) (is_first ∙ told.files) files;
  volume = fitted;
  fitted = subst (λ n. IsFitted n kept fitted) is_count (subst (λ l. IsFitted count l fitted) is_lent fits);
  image = image;
  losses = losses ∙ ap (λ l. l ++ file_lines second shown) told.losses ∙ ap (λ l. survey_losses blocks ++ file_lines l shown) (is_second ∙ told.files)
      ∙ ap (λ l. survey_losses blocks ++ file_lines (files_found (findings blocks)) l) is_shown;
  count = number ∙ ap count_kept is_counted;
}
