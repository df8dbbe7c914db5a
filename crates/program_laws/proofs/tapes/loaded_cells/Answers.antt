use Rattle.std.proofs.Common.{refl}
use Rattle.bin_tape.specs.Items.{words_of}
use Rattle.program_laws.proofs.TapeLemmas.{laid, not-laid}
use Rattle.program_laws.proofs.tapes.loaded_cells.Goals as goal

pub returns-clause-loads : goal.returns-clause-loads
returns-clause-loads c frames old new items is_tape loaded = laid items (words_of items) refl frames old new loaded (c.one_reading.ensures frames loaded.items items loaded.is_tape is_tape)

pub returns-clause-words : goal.returns-clause-words
returns-clause-words c frames old new pairs tape loaded = laid tape.items pairs tape.words frames old new loaded (c.one_reading.ensures frames loaded.items tape.items loaded.is_tape tape.is_tape)

pub returns-clause-refused : goal.returns-clause-refused
returns-clause-refused c = not-laid
