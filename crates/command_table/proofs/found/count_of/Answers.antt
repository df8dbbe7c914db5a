use Rattle.command_table.proofs.Names.{◌∙◌, ◌≤◌, ParsesUnsigned, ExplainsUnsignedError, HasUnsignedDigitsIfOk, one_text-rows, found_of, one_of}
use Rattle.command_table.specs.Values.{values_in}
use Rattle.command_table.specs.Tables.{most_steps}
use Rattle.command_table.proofs.NumberLemmas.{limits_given, unsigned_reads}
use Rattle.command_table.proofs.found.count_of.Goals as goal

pub returns : goal.returns
returns c =
    let same = one_text-rows (found_of c.args.found.now) c.args.id.now in
    let had = limits_given 1 most_steps (λ n. 1 ≤ n) (one_of c.args.id.now (values_in c.args.found.now)) c.get_one.result (λ n least most. least) (λ none. c.get_one.ensures.none (same ∙ none)) (λ text is.
    unsigned_reads _ (λ bs r. ParsesUnsigned 64 10 bs r × ExplainsUnsignedError 10 bs r × HasUnsignedDigitsIfOk bs r) 1 most_steps text c.get_one.result
    (c.get_one.ensures.value text (same ∙ is)) (λ u x g. g.0) (c.requires.taken text is)) in
    record { number = had.0; range = had.1 }
