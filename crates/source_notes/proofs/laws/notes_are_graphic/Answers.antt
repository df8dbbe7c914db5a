use Rattle.source_notes.specs.Characters.{data_of}
use Rattle.source_notes.proofs.GraphicLemmas.{graphic_above, graphic_characters}
use Rattle.source_notes.proofs.laws.notes_are_graphic.Goals as goal

pub returns : goal.returns
returns c = record {
  above = graphic_above;
  remark = λ words is_code cell. graphic_characters (data_of words is_code) cell;
}
