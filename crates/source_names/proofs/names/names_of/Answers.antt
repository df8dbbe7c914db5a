use Rattle.std.proofs.Common.{refl, subst, sym, ◌∙◌}
use Rattle.flow8.specs.Flow.{word_in}
use Rattle.source_names.specs.Names.{AreNames}
use Rattle.source_names.proofs.NameLemmas.{all_none, are_names, holds_none, whole_size, whole_written}
use Rattle.source_names.proofs.names.names_of.Goals as goal

pub take_all-requires-clause-none : goal.take_all-requires-clause-none
take_all-requires-clause-none c =
    holds_none 0o100000 c.deref_mut.result.now c.new-given.result refl (c.deref_mut.ensures.value ∙ c.in_ok-table.ensures) c.new-given.ensures.values

pub invariant_of-result : goal.invariant_of-result
invariant_of-result c =
    whole_size 0o100000 c.in_ok-table.table.len c.take_all.new.table c.in_ok-table.table.items refl (c.take_all.auto.table ∙ c.deref_mut.ensures.len)
    (c.take_all.auto.table ∙ all_none 0o100000 c.deref_mut.result.now (c.deref_mut.ensures.value ∙ c.in_ok-table.ensures))

pub returns-clause-names : goal.returns-clause-names
returns-clause-names c =
    subst (AreNames (word_in c.args.words.now) c.args.text.now)
    (sym (whole_written c.in_ok-table.table.len c.take_all.new.table c.in_ok-table.table.items (c.take_all.auto.table ∙ c.deref_mut.ensures.len)))
    (are_names (word_in c.args.words.now) c.args.text.now c.take_all.new.table c.take_all.new.given c.in_ok-take_all.ensures.text)
