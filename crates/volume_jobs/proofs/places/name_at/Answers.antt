use Rattle.std.proofs.Common.{◌∙◌, arith}
use Rattle.volume_jobs.proofs.PlaceLemmas.{few_names, not_there, there_is}
use Rattle.volume_jobs.proofs.places.name_at.Goals as goal

pub offset_bounds-places-place : goal.offset_bounds-places-place
offset_bounds-places-place c = omega (arith, c.requires.inside, few_names c.args.places.now, c.well_formed)

pub bounds-places-place : goal.bounds-places-place
bounds-places-place c = omega (arith, c.requires.inside, few_names c.args.places.now)

pub unreachable-requires : goal.unreachable-requires
unreachable-requires c = not_there c.args.places.now c.args.place c.index-places-place.result c.requires.first c.requires.inside c.index-places-place.is c.in-None.is

pub returns : goal.returns
returns c = c.name.ensures ∙ there_is c.args.places.now c.args.place c.index-places-place.result c.in-Some.hold c.requires.first c.requires.inside c.index-places-place.is c.in-Some.is
