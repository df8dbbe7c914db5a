use Rattle.archive_files.specs.Getting.{Gets}
use Rattle.image_files.specs.Stored.{words_of}
use Rattle.archive_files.specs.Asking.{target_of}
use Rattle.keeper_laws.proofs.GotBackLemmas.{has-it, has-put, looks-first}
use Rattle.keeper_laws.proofs.ManyBackLemmas.{frames-back, tape-back, text-back}
use Rattle.keeper_laws.proofs.verb_laws.file_comes_back.Goals as goal

pub returns-clause-puts : goal.returns-clause-puts
returns-clause-puts c form place file files image opening opened old new judged puts =
    let law = c.put_is_got.ensures in
    let put = has-put form image files old new puts in
    let found = c.found_again.ensures.unsaved form.image place file image opening opened judged in
    let it = has-it form image file files old new put found
    (λ differ. c.kept_kind.ensures image put.made.bytes.items put.begun put.ended differ put.saves)
    (λ kept. c.found_again.ensures.saved form.image place file put.made.bytes.items kept.file image opening opened judged kept.is kept.kind) in
    record {
      saved = it.saved;
      held = it.held;
      frames = λ before following one name are last named is small.
          frames-back form.image it.saved image.bytes.items files (words_of form.info) put.made put.puts it.found
          c.image_round_trip.ensures.written_is_read_back c.longer_tape.ensures c.no_fault.ensures c.put_many_is_got.ensures.there c.packed_bytes.ensures.blocks
          before following one name are last named is small;
      tape = λ one name tape are named is small is_tape.
          tape-back form.image it.saved image.bytes.items files (words_of form.info) put.made put.puts it.found one name are named law.tape tape is small is_tape;
      text = λ one name are named is. text-back form.image it.saved image.bytes.items files (words_of form.info) put.made put.puts it.found one name are named law.lines is;
    }

pub returns-clause-gets : goal.returns-clause-gets
returns-clause-gets c file how form old new result strict p =
    looks-first (λ bytes. Gets bytes (target_of file) how) form (λ begun ended answer. c.found_again.ensures.looks form begun ended answer strict) old new result p
