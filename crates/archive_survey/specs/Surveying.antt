-- What a survey of an image reports.
use Rattle.std.specs.Prelude.{◌≡◌, ℕ, List, Result, Ok, Err}
use Rattle.volume_image.specs.Image.{IsImageOf, ReadsImage}
use Rattle.volume_image.specs.declared.faults.ImageFault.{ImageFault}
use Rattle.archive_survey.specs.declared.answers.Survey.{Survey}
use Rattle.archive_survey.specs.Findings.{findings, files_found}
use Rattle.archive_survey.specs.Lines.{survey_text, survey_losses, survey_faults}

-- the lines of a volume's directory, those of them that report faults, its sound files, and how many faults it reports
pub record IsSurveyOf (blocks : List (List ℕ)) (survey : Survey) : Type 0 where
  pub text : survey.text.items ≡ survey_text blocks
  pub losses : survey.losses.items ≡ survey_losses blocks
  pub files : survey.files.items ≡ files_found (findings blocks)
  pub faults : survey.faults ≡ survey_faults blocks

-- the same of an image
pub record IsSurveyed (image : List ℕ) (survey : Survey) : Type 0 where
  pub blocks : List (List ℕ)
  pub is_image : IsImageOf image blocks
  pub told : IsSurveyOf blocks survey

-- what is answered where an image is to be surveyed: bytes that are none are refused as a mount refuses them
abbrev pub Surveys : List ℕ → Result Survey ImageFault → Type 0
Surveys image (Ok survey) = IsSurveyed image survey
Surveys image (Err fault) = ReadsImage image (Err fault)
