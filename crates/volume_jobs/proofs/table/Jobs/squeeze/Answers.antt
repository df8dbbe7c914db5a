use Rattle.std.proofs.Common.{◌∙◌, ◌+◌, ◌≤◌, Ok, sym, subst, ap}
use Rattle.os8_dir.specs.Files.{above_of}
use Rattle.volume_jobs.specs.Calls.{StartsSqueezing}
use Rattle.volume_jobs.proofs.PlainLemmas.{free_at}
use Rattle.volume_jobs.proofs.StartLemmas.{too_many_squeezes, begun_squeeze}
use Rattle.volume_jobs.proofs.table.Jobs.squeeze.Goals as goal

pub put-requires-clause-free : goal.put-requires-clause-free
put-requires-clause-free g c = free_at c.args.self.now c.in-Some.place (sym c.free_place.ensures.place ∙ c.in-Some.is)

pub returns-in-None : goal.returns-in-None
returns-in-None g c = too_many_squeezes c.args.files.now c.args.self.now c.requires (sym c.is_stopped.ensures.value ∙ c.if-is_stopped.false) (sym c.free_place.ensures.place ∙ c.in-None.is)

pub returns-in-Some : goal.returns-in-Some
returns-in-Some g c =
    let running = sym c.is_stopped.ensures.value ∙ c.if-is_stopped.false in
    subst (λ l. StartsSqueezing c.args.files.now c.args.self.now (Ok (c.in-Some.place + 1)) c.args.files.now l) (sym c.put.ensures)
    (begun_squeeze c.args.files.now c.args.self.now c.in-Some.place (c.count-left.result + 1) c.requires running
    (sym c.free_place.ensures.place ∙ c.in-Some.is) c.in-Some.ensures.range (ap (λ n. n + 1) (c.count-left.ensures.running running))
    (subst (λ n. above_of c.args.files.now.blocks ≤ n) (c.count-left.ensures.running running) (c.count-left.ensures.above running)))
