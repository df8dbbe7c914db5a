use Rattle.std.proofs.Common.{◌∙◌}
use Rattle.archive_files.specs.declared.forms.GetForm.TheVariants as get_as
use Rattle.archive_many.proofs.LawLemmas.{frames-got, others-lie, others-stay, put-got, put-there}
use Rattle.archive_many.proofs.laws.put_many_is_got.Goals as goal

pub returns : goal.returns
returns c =
    let law = c.image_round_trip.ensures.written_is_read_back in
    record {
      there = λ image before following file info new put none. put-there image before following file info new put none;
      got = λ image before following file info new blocks found form bytes put none opened named gets.
          put-got law image before following file info new blocks found form bytes put none opened named gets;
      frames = λ image before following file info new blocks found bytes put none opened named form small gets.
          frames-got file bytes form (put-got law image before following file info new blocks found get_as.Frames bytes put none opened named gets)
          ∙ (c.packed_bytes.ensures.blocks file.bytes.items small).reads_back;
      others = λ image files info new name held put none was. others-stay law image files info new name held put none was;
      places = λ image files info new old blocks file held put none was opened lies. others-lie c.files_found.ensures law image files info new old blocks file held put none was opened lies;
    }
