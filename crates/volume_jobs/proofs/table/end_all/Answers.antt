use Rattle.std.proofs.Common.{rules, arith}
use Rattle.volume_jobs.proofs.EndLemmas.{none_at}
use Rattle.volume_jobs.proofs.table.end_all.Goals as goal

pub let_none_go-requires : goal.let_none_go-requires
let_none_go-requires g c = none_at c.let_all_go.new.places 0 _ (c.let_all_go.ensures.none 0 _ (omega (arith, c.requires))) (search rules)

pub let_none_go-requires-2 : goal.let_none_go-requires-2
let_none_go-requires-2 g c = none_at c.let_all_go.new.places 1 _ (c.let_all_go.ensures.none 1 _ (omega (arith, c.requires))) (search rules)

pub let_none_go-requires-3 : goal.let_none_go-requires-3
let_none_go-requires-3 g c = none_at c.let_all_go.new.places 2 _ (c.let_all_go.ensures.none 2 _ (omega (arith, c.requires))) (search rules)

pub let_none_go-requires-4 : goal.let_none_go-requires-4
let_none_go-requires-4 g c = none_at c.let_all_go.new.places 3 _ (c.let_all_go.ensures.none 3 _ (omega (arith, c.requires))) (search rules)

pub let_none_go-requires-5 : goal.let_none_go-requires-5
let_none_go-requires-5 g c = none_at c.let_all_go.new.places 4 _ (c.let_all_go.ensures.none 4 _ (omega (arith, c.requires))) (search rules)

pub let_none_go-requires-6 : goal.let_none_go-requires-6
let_none_go-requires-6 g c = none_at c.let_all_go.new.places 5 _ (c.let_all_go.ensures.none 5 _ (omega (arith, c.requires))) (search rules)

pub let_none_go-requires-7 : goal.let_none_go-requires-7
let_none_go-requires-7 g c = none_at c.let_all_go.new.places 6 _ (c.let_all_go.ensures.none 6 _ (omega (arith, c.requires))) (search rules)

pub let_none_go-requires-8 : goal.let_none_go-requires-8
let_none_go-requires-8 g c = none_at c.let_all_go.new.places 7 _ (c.let_all_go.ensures.none 7 _ (omega (arith, c.requires))) (search rules)
