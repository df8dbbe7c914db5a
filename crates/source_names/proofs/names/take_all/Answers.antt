use Rattle.std.proofs.Common.{◌+◌, length, length-drop, refl, ap, ◌∙◌, arith}
use Rattle.std.proofs.lemmas.Result.{err_from_is_err_and}
use Rattle.flow8.specs.Flow.{word_in}
use Rattle.source_names.proofs.NameLemmas.{is_left, line_following, line_before, stops, takes_more, takes_none}
use Rattle.source_names.proofs.names.take_all.Goals as goal

pub loop-rest-init : goal.loop-rest-init
loop-rest-init c = record {
  size = c.requires.none.size;
  count = omega arith;
  takes = takes_none (word_in c.args.words.now) c.args.text.now c.args.table.now c.args.given.now c.requires.none;
}

pub loop-rest-preserved : goal.loop-rest-preserved
loop-rest-preserved c =
    let rest = c.loop-rest.rest.now in
    let some = is_left (length rest) c.loop-rest-test.ensures in
    let after_size = length-drop 1 c.split_at.result.1.now in
    record {
      size = c.take.auto.table ∙ c.loop-rest.invariant.size;
      count =
          omega (arith, some, after_size, ap (λ l. length l) c.after_end-rest.ensures, c.split_at.ensures.back_len, c.loop-rest.invariant.count);
      takes =
          takes_more (word_in c.args.words.now) c.args.text.now rest c.without_return.result.now c.after_end-rest.result.now c.loop-rest.number
          (c.loop-rest.number + 1)
          c.loop-rest.table c.take.new.table c.loop-rest.given c.take.new.given some
          (line_before rest c.split_at.result.0.now c.without_return.result.now c.line_length.result c.line_length.ensures.value
          c.split_at.ensures.front c.without_return.ensures)
          (line_following rest c.split_at.result.1.now c.after_end-rest.result.now c.line_length.result c.line_length.ensures.value
          c.split_at.ensures.back c.after_end-rest.ensures)
          refl c.loop-rest.invariant.takes c.in_ok-take.ensures;
    }

pub returns-in_err-take-clause-fault : goal.returns-in_err-take-clause-fault
returns-in_err-take-clause-fault c =
    let rest = c.loop-rest.rest.now in
    let p = err_from_is_err_and c.from_residual.result c.from_residual.ensures.1 in
    rw (p.1, p.2) (
    stops (word_in c.args.words.now) c.args.text.now rest c.without_return.result.now c.loop-rest.number (c.loop-rest.number + 1)
    c.loop-rest.table c.take.new.table
    c.loop-rest.given c.take.new.given c.in_err-take.field-0.0 (is_left (length rest) c.loop-rest-test.ensures)
    (line_before rest c.split_at.result.0.now c.without_return.result.now c.line_length.result c.line_length.ensures.value
    c.split_at.ensures.front c.without_return.ensures)
    refl c.loop-rest.invariant.takes c.in_err-take.ensures
    )
