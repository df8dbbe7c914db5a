use Rattle.image_files.proofs.years.hint_text.Goals as goal

-- src/years.rt:141:1
pub returns : goal.returns
returns c = c.in_ok-text.ensures.ok
