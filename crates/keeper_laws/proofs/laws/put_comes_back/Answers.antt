use Rattle.std.proofs.Common.{List, Ok, subst}
use Rattle.name_spelling.specs.Reading.{typed_name}
use Rattle.archive_many.specs.Putting.{PutsAll}
use Rattle.archive_many.specs.declared.putting.NewFile.{NewFile}
use Rattle.image_files.specs.Stored.{words_of}
use Rattle.put_commands.specs.Putting.{paths_of}
use Rattle.keeper_laws.specs.Stored.{AreGiven}
use Rattle.archive_files.specs.Asking.{OfName}
use Rattle.archive_files.proofs.AgainLemmas.{got_again}
use Rattle.keeper_laws.proofs.BackLemmas.{is-printed}
use Rattle.keeper_laws.proofs.ManyBackLemmas.{frames-back, named-so, other-file, tape-back, text-back, typed-so}
use Rattle.keeper_laws.proofs.laws.put_comes_back.Goals as goal

pub returns-clause-named : goal.returns-clause-named
returns-clause-named c form ok old new stored file text are is =
    let puts = subst (λ (l : List NewFile). PutsAll stored.image.bytes.items l (words_of form.info) (Ok stored.stored)) are stored.puts in
    typed-so (typed_name text) file.name (named-so form (paths_of form) file text (subst (λ (l : List NewFile). AreGiven form (paths_of form) l) are stored.given) is) puts.put.1.named

pub returns-clause-frames : goal.returns-clause-frames
returns-clause-frames c form ok old new stored before following file name are last named is small =
    frames-back form.image stored.has.file stored.image.bytes.items stored.files (words_of form.info) stored.stored stored.puts stored.has.found
    c.image_round_trip.ensures.written_is_read_back c.longer_tape.ensures c.no_fault.ensures c.put_many_is_got.ensures.there c.packed_bytes.ensures.blocks before following file name are last named is small

pub returns-clause-tape : goal.returns-clause-tape
returns-clause-tape c form ok old new stored file name tape are named is small is_tape =
    tape-back form.image stored.has.file stored.image.bytes.items stored.files (words_of form.info) stored.stored stored.puts stored.has.found file name are named c.put_is_got.ensures.tape tape is small is_tape

pub returns-clause-text : goal.returns-clause-text
returns-clause-text c form ok old new stored file name are named is =
    text-back form.image stored.has.file stored.image.bytes.items stored.files (words_of form.info) stored.stored stored.puts stored.has.found file name are named c.put_is_got.ensures.lines is

pub returns-clause-others : goal.returns-clause-others
returns-clause-others c form ok old new stored name number how before named none gets =
    is-printed form.image stored.has.file stored.stored.bytes.items name before.items how stored.has.found
    (λ answer again. got_again c.image_round_trip.ensures.written_is_read_back c.longer_tape.ensures c.no_fault.ensures stored.stored.bytes.items (OfName name) gets.0 before.items how answer
    (other-file c.put_many_is_got.ensures.others stored.image.bytes.items name gets.0 number stored.files (words_of form.info) stored.stored stored.puts none named gets.1) gets.2 again)
