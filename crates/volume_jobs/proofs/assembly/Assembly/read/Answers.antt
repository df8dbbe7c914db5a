use Rattle.std.proofs.Common.{◌∙◌, arith, ap}
use Rattle.std.proofs.lemmas.Result.{err_from_is_err_and}
use Rattle.os8_dir.specs.Files.{files_of}
use Rattle.pal_blocks.specs.Progress.{block_of}
use Rattle.volume_jobs.specs.Sources.{names_of}
use Rattle.volume_jobs.specs.State.{words_in}
use Rattle.volume_jobs.proofs.SourceLemmas.{words_count, block_inside, source_read, not_taken, not_read}
use Rattle.volume_jobs.proofs.assembly.Assembly.read.Goals as goal

pub name_at-name-requires-clause-inside : goal.name_at-name-requires-clause-inside
name_at-name-requires-clause-inside g c =
    let sources = words_in (files_of c.args.files.now.blocks) (names_of c.args.self.now.holds) in
    omega (arith, (c.due-source.ensures.inside sources c.args.left c.requires.stands.reads c.requires.more).source, words_count (files_of c.args.files.now.blocks) (names_of c.args.self.now.holds))

pub read_block-requires : goal.read_block-requires
read_block-requires g c = λ running size is.
    let files = files_of c.args.files.now.blocks in
    let names = names_of c.args.self.now.holds in
    let inside = c.due-source.ensures.inside (words_in files names) c.args.left c.requires.stands.reads c.requires.more in
    block_inside files names c.due-source.result.source c.due-source.result.block size c.name_at-name.result c.name_at-name.ensures c.requires.stands.there inside.source inside.block is

pub returns-in_err-read_block-clause-turn : goal.returns-in_err-read_block-clause-turn
returns-in_err-read_block-clause-turn g c =
    let files = files_of c.args.files.now.blocks in
    let names = names_of c.args.self.now.holds in
    let inside = c.due-source.ensures.inside (words_in files names) c.args.left c.requires.stands.reads c.requires.more in
    let e = err_from_is_err_and c.from_residual.result c.from_residual.ensures.1 in
    rw (e.1, e.2)
    (not_read c.args.files.now c.read_block.new.self names c.due-source.result.source c.due-source.result.block c.name_at-name.result c.args.left _ c.read_block.new.words c.in_err-read_block.field-0.0 c.args.self.now c.requires.running c.name_at-name.ensures c.requires.stands.there inside.source c.in_err-read_block.ensures)

pub returns-clause-turn : goal.returns-clause-turn
returns-clause-turn g c =
    let files = files_of c.args.files.now.blocks in
    let names = names_of c.args.self.now.holds in
    let inside = c.due-source.ensures.inside (words_in files names) c.args.left c.requires.stands.reads c.requires.more in
    let this = source_read c.args.files.now c.read_block.new.self names c.due-source.result c.name_at-name.result c.read_block.new.words c.name_at-name.ensures c.requires.stands.there inside.source c.in_ok-read_block.ensures
    ∙ ap (block_of (words_in files names)) c.due-source.ensures.due in
    ((c.in_ok-read_block.ensures.running, c.in_ok-read_block.ensures.others), c.in_ok-take.ensures (words_in files names) c.args.left c.requires.stands.reads c.requires.more this)

pub returns-in_err-take-clause-turn : goal.returns-in_err-take-clause-turn
returns-in_err-take-clause-turn g c =
    let files = files_of c.args.files.now.blocks in
    let names = names_of c.args.self.now.holds in
    let inside = c.due-source.ensures.inside (words_in files names) c.args.left c.requires.stands.reads c.requires.more in
    let this = source_read c.args.files.now c.read_block.new.self names c.due-source.result c.name_at-name.result c.read_block.new.words c.name_at-name.ensures c.requires.stands.there inside.source c.in_ok-read_block.ensures
    ∙ ap (block_of (words_in files names)) c.due-source.ensures.due in
    let e = err_from_is_err_and c.from_residual-in_err-take.result c.from_residual-in_err-take.ensures.1 in
    rw (e.1, e.2)
    (not_taken (words_in files names) c.args.files.now c.read_block.new.self c.args.left c.in_err-take.field-0.0 (record { to = c.args.self.now.to; holds = c.args.self.now.holds; assembling = c.take.new.self }) (c.in_ok-read_block.ensures.running, c.in_ok-read_block.ensures.others)
    (c.in_err-take.ensures (words_in files names) c.args.left c.requires.stands.reads c.requires.more this))
