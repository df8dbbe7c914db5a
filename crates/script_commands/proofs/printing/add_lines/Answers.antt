use Rattle.std.proofs.Common.{inr}
use Rattle.script_commands.proofs.RunLemmas.{added, may_still, passed_over}
use Rattle.script_commands.proofs.printing.add_lines.Goals as goal

pub returns-then-has_room-clause-done : goal.returns-then-has_room-clause-done
returns-then-has_room-clause-done g c start old shown one m d = added start old (g.H.Host.history c.args.host.now) shown c.args.progress.now c.push_lines.new.progress c.args.is_refusal c.args.lines.now one d m c.push_lines.ensures

pub returns-in_err-print_waiting-clause-done : goal.returns-in_err-print_waiting-clause-done
returns-in_err-print_waiting-clause-done g c start old shown one m d =
    passed_over start old _ shown c.print_waiting.new.progress one (c.print_waiting.ensures.done start old shown m.printed d) (inr c.in_err-print_waiting.ensures.fault)

pub returns-clause-done : goal.returns-clause-done
returns-clause-done g c start old shown one m d =
    c.add_first.ensures.done start old shown one
    (may_still c.args.progress.now c.print_waiting.new.progress c.args.is_refusal c.args.lines.now one m c.print_waiting.ensures.save_ending c.in_ok-print_waiting.ensures.still c.print_waiting.ensures.saving c.print_waiting.ensures.image)
    (c.print_waiting.ensures.done start old shown m.printed d)
