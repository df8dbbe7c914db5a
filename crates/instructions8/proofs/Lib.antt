mod NameLemmas
mod RowLemmas
mod StepLemmas
mod ShownLemmas
