use Rattle.std.proofs.Common.{◌≡◌, Bool, true, false, ◌&&◌, not, Ok, Err, ap, sym, subst, ◌∙◌}
use Rattle.pal_lex.specs.Joins.{is_lone_pause}
use Rattle.pal_lex.specs.JudgeSteps.{Judges}
use Rattle.pal_lex.specs.Progress.{Progress}
use Rattle.pal_lex.proofs.FinishLemmas.{here, pause_finished, said_finished, fault_finished}
use Rattle.pal_lex.proofs.lexing.Lexer.finish.Goals as goal
use Rattle.pal_lex.proofs.lexing.Lexer.finish.Goals.{else-self-via-then-self+else-is_pause, else-self-via-else-self}

abbrev alone : Progress → Bool
alone l = not l.draft.illegal && is_lone_pause l.draft.tokens

both_ways : {A : Type 0} (b : Bool) → b ≡ true → b ≡ false → A
both_ways true e n = absurd cc
both_ways false e n = absurd cc

pub returns-then-is_pause-clause-answers : goal.returns-then-is_pause-clause-answers
returns-then-is_pause-clause-answers c = λ seam text h.
    pause_finished c.args.self.now c.pause.new.self seam text c.args.byte c.pause.result
    (here c.args.self.now seam text c.args.byte c.requires.reading c.requires.live c.requires.end h)
    (sym (ap (λ (l : Progress). l.may_pause) c.self.view_is) ∙ c.if-self.true) (sym (ap alone c.self.view_is) ∙ sym c.is_pause.ensures ∙ c.if-is_pause.true)
    c.pause.ensures.statement c.pause.ensures.paused

pub returns-in-Ok-clause-answers : goal.returns-in-Ok-clause-answers
returns-in-Ok-clause-answers c = λ seam text h.
    said_finished c.args.self.now c.hand_out.new.self seam text c.args.byte c.in-Ok.said c.hand_out.result c.requires.reading
    (here c.args.self.now seam text c.args.byte c.requires.reading c.requires.live c.requires.end h)
    (subst (λ (l : Progress). Judges l.line l.draft.illegal l.draft.tokens (Ok c.in-Ok.said)) c.self.view_is c.in-Ok.ensures)
    c.hand_out.ensures.statement c.hand_out.ensures.ended

pub returns-in-Err-clause-answers : goal.returns-in-Err-clause-answers
returns-in-Err-clause-answers c = λ seam text h.
    fault_finished c.args.self.now c.fail.new.self seam text c.args.byte c.in-Err.fault
    (here c.args.self.now seam text c.args.byte c.requires.reading c.requires.live c.requires.end h)
    (λ may. elim c.else-self.branch [
      | else-self-via-then-self+else-is_pause w ↦ sym (ap alone c.self.view_is) ∙ sym w.is_pause.ensures ∙ w.if-is_pause.false
      | else-self-via-else-self w ↦ both_ways c.self.inside.may_pause (ap (λ (l : Progress). l.may_pause) c.self.view_is ∙ may) w.if-self.false
    ])
    (subst (λ (l : Progress). Judges l.line l.draft.illegal l.draft.tokens (Err c.in-Err.fault)) c.self.view_is c.in-Err.ensures) c.fail.ensures
