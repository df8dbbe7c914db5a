use Rattle.std.proofs.Common.{Bool, subst, sym, arith}
use Rattle.pal8_tape.specs.Steps.{Puts}
use Rattle.pal8_tape.proofs.JoinLemmas.{part_put}
use Rattle.pal8_tape.proofs.joins.put.Goals as goal

pub returns : goal.returns
returns c = λ left follows.
    subst (λ (last : Bool). Puts last left c.args.text.now c.args.join.now.text.items c.put_part.new.join.items c.args.join.now.counts.items c.put_count.new.counts.items
    c.find_pause.new.pass) (sym c.if-is_last.false)
    (part_put left c.args.text.now c.args.join.now.text.items c.put_part.new.join.items c.args.join.now.counts.items c.put_count.new.counts.items c.in_ok-found.found
    c.find_pause.new.pass c.saturating_sub.result (c.in_ok-found.ensures left follows) c.in_ok-put_part.ensures
    (omega (arith, c.saturating_sub.ensures, c.len.ensures, c.len-before.ensures)) c.in_ok-put_count.ensures)
