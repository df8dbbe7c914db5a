use Rattle.std.proofs.Common.{◌≡◌, false, ap, ◌∙◌, arith}
use Rattle.word12.specs.declared.sizes.TheConstants.{CORE}
use Rattle.flow8.specs.Flow.{word_in}
use Rattle.pointer_flow.specs.Calls.{fetches_into}
use Rattle.pointer_flow.specs.Programs.{is_some_below}
use Rattle.pointer_flow.proofs.HandlerLemmas.{flags_none, flags_step, replicated_size}
use Rattle.pointer_flow.proofs.handler_cells.entry_flags.Goals as goal

pub loop-number-init : goal.loop-number-init
loop-number-init c = record {
  size = replicated_size CORE c.in_ok-flags.flags.items false c.in_ok-flags.ensures;
  set = λ cell small. flags_none c.in_ok-flags.flags.items CORE cell (fetches_into (word_in c.args.words.now) cell) c.in_ok-flags.ensures small;
}

pub loop-number-preserved : goal.loop-number-preserved
loop-number-preserved c =
    let step =
    flags_step (λ cell number. fetches_into (word_in c.args.words.now) cell number) c.loop-number.number c.loop-number.flags.len CORE
    c.loop-number.flags.items c.deref_mut.result.now c.set_flag.new.flags c.fetched_entry.result c.loop-number.invariant.size c.loop-number.flags.ok.0
    c.deref_mut.ensures.value c.set_flag.ensures c.fetched_entry.ensures.range
    (λ cell. c.fetched_entry.ensures.cells cell ∙ ap (λ n. fetches_into (word_in c.args.words.now) cell n) c.of.ensures.number) c.loop-number.invariant.set in
    record { size = step.0; set = step.1 }

pub returns : goal.returns
returns c =
    let end : c.loop-number.number ≡ CORE = omega (arith, c.loop-number-test.false, c.loop-number.auto.number-end) in
    record {
      size = c.loop-number.flags.ok.0 ∙ c.loop-number.invariant.size;
      cells = λ cell small.
          c.loop-number.invariant.set cell small ∙ ap (λ n. is_some_below (fetches_into (word_in c.args.words.now) cell) n) end;
    }
