mod AgainLemmas
pub mod BackLemmas
pub mod CallLemmas
mod ChoiceLemmas
mod ChangeLemmas
mod GoneLemmas
mod GotBackLemmas
mod CopyLemmas
mod HeldLemmas
mod LaidLemmas
mod LeftLemmas
mod LineLemmas
pub mod MakeLemmas
mod ManyBackLemmas
pub mod OpenLemmas
mod PatchLemmas
mod PlugLemmas
pub mod PrepareLemmas
mod PutLemmas
pub mod QuestionLemmas
pub mod RefuseLemmas
mod RefusedLemmas
mod RescueLemmas
pub mod SeenLemmas
mod SoundLemmas
pub mod StoreLemmas
mod TextLemmas
mod ThenLemmas
mod TouchLemmas
pub mod AloneLemmas
