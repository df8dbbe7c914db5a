use Rattle.std.proofs.Common.{refl}
use Rattle.script_commands.proofs.RunLemmas.{passed_over, text_after}
use Rattle.script_commands.proofs.watching.print_kept.Goals as goal

pub returns-then-not-keep_change-clause-done : goal.returns-then-not-keep_change-clause-done
returns-then-not-keep_change-clause-done g c start old shown entry are d = passed_over start old _ shown c.keep_change.new.progress _ (c.keep_change.ensures.done start old shown d) (c.if-not-keep_change.ensures.ended refl)

pub returns-in-Ok-clause-done : goal.returns-in-Ok-clause-done
returns-in-Ok-clause-done g c start old shown entry are d = c.add_lines.ensures.done start old shown _
    (record {
      saved = (c.if-not-keep_change.ensures.going refl).0;
      printed = (c.if-not-keep_change.ensures.going refl).1;
      are = are;
      refused = c.is_refusal.ensures;
      kept = c.if-not-keep_change.ensures.image refl;
    })
    (c.show_form.ensures.done start old shown (c.keep_change.ensures.done start old shown d))

pub returns-in-Ok-clause-text : goal.returns-in-Ok-clause-text
returns-in-Ok-clause-text g c is = text_after (g.H.Host.history c.args.host.now) (g.H.Host.history c.keep_change.new.host) (g.H.Host.history c.show_form.new.host) (g.H.Host.history c.add_lines.new.host) _ _ _ _
    c.keep_change.ensures.output c.show_form.ensures.text c.keep_change.ensures.lines c.in-Ok.ensures.text

pub returns-in-Err-clause-done : goal.returns-in-Err-clause-done
returns-in-Err-clause-done g c start old shown entry are d = c.add_lines.ensures.done start old shown _
    (record {
      saved = (c.if-not-keep_change.ensures.going refl).0;
      printed = (c.if-not-keep_change.ensures.going refl).1;
      are = are;
      refused = c.is_refusal.ensures;
      kept = c.if-not-keep_change.ensures.image refl;
    })
    (c.show_form.ensures.done start old shown (c.keep_change.ensures.done start old shown d))
