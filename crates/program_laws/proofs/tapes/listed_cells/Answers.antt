use Rattle.std.proofs.Common.{◌∙◌, ap}
use Rattle.tape_reports.specs.Listing.{lines_below}
use Rattle.word12.specs.declared.sizes.TheConstants.{CORE}
use Rattle.program_laws.proofs.tapes.listed_cells.Goals as goal

pub returns : goal.returns
returns c frames text old new listed loaded = listed.lines ∙ ap (λ items. lines_below items CORE) (c.one_reading.ensures frames listed.items loaded.items listed.is_tape loaded.is_tape)
