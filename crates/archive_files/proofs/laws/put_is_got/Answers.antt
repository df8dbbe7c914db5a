use Rattle.std.proofs.Common.{◌∙◌, ◌-◌, ◌*◌, List, ℕ, subst, sym, length}
use Rattle.char_pack.specs.Packing.{packed_blocks, block_count, block_frames}
use Rattle.archive_files.specs.declared.forms.GetForm.TheVariants.{Frames, Text, Tape}
use Rattle.archive_files.specs.Asking.{OfName}
use Rattle.archive_files.specs.Getting.{IsTapeOf}
use Rattle.archive_files.specs.HostTexts.{file_text, text_words}
use Rattle.archive_files.specs.Laws.{whole_blocks}
use Rattle.archive_files.proofs.LawLemmas.{other_stays, put_file}
use Rattle.archive_files.proofs.AgainLemmas.{got_again}
use Rattle.archive_files.proofs.ComeBackLemmas.{tape-zeros, lines-back, words-back}
use Rattle.archive_files.proofs.HostTextLemmas.{feeds-none}
use Rattle.archive_files.proofs.laws.put_is_got.Goals as goal

pub returns : goal.returns
returns c =
    let law = c.image_round_trip.ensures.written_is_read_back in
    let longer = c.longer_tape.ensures in
    let none = c.no_fault.ensures in
    let read = c.stored_text.ensures.characters in
    record {
      frames = λ image name bytes info new answer small puts gets.
          got_again law longer none new.bytes.items (OfName name) (packed_blocks bytes) (whole_blocks bytes) Frames answer
          (put_file image name (packed_blocks bytes) info new puts.1) (sym (c.packed_bytes.ensures.blocks bytes small).reads_back) gets;
      tape = λ image name bytes tape info new answer small is puts gets.
          got_again law longer none new.bytes.items (OfName name) (packed_blocks bytes) tape Tape answer
          (put_file image name (packed_blocks bytes) info new puts.1)
          (subst (λ (l : List ℕ). IsTapeOf l tape) (sym (c.packed_bytes.ensures.blocks bytes small).reads_back)
          (tape-zeros bytes tape (block_frames * block_count (length bytes) - length bytes) is)) gets;
      lines = record {
        ends = λ image name bytes info new answer puts gets.
            got_again law longer none new.bytes.items (OfName name) (text_words (file_text bytes)) _ Text answer
            (put_file image name (text_words (file_text bytes)) info new puts.1) (sym (lines-back read bytes puts.0)) gets;
        plain = λ image name bytes info new answer plain puts gets.
            got_again law longer none new.bytes.items (OfName name) (text_words (file_text bytes)) bytes Text answer
            (put_file image name (text_words (file_text bytes)) info new puts.1) (sym (lines-back read bytes puts.0 ∙ feeds-none bytes plain)) gets;
      };
      text = λ image other again chars wanted info given new storable ends file gets puts.
          words-back read law image wanted again chars info given other new storable ends file gets puts.1;
      others = λ image name bytes one info kind form new before answer blocks own differ puts gets_before gets_after.
          got_again law longer none new.bytes.items one gets_before.0 before.items form answer
          (other_stays law c.sound_directory.ensures image name _ gets_before.0 one info new blocks own differ puts.1 gets_before.1) gets_before.2 gets_after;
    }
