use Rattle.std.proofs.Common.{◌++◌, take, ap, sym, ◌∙◌}
use Rattle.pal_lex.specs.Text.{text_of}
use Rattle.host_sources.specs.JudgeSteps.{faults_of_words}
use Rattle.host_sources.specs.Further.{with_place}
use Rattle.host_sources.proofs.FurtherLemmas.{placed_more}
use Rattle.host_sources.proofs.further.keep.Goals as goal

pub returns-in_ok-push-in-Some : goal.returns-in_ok-push-in-Some
returns-in_ok-push-in-Some c = λ place text.
    ap (faults_of_words place text) c.in_ok-push-in-Some.ensures.items ∙ placed_more place text c.args.found.now.items _
    ∙ ap (λ l. faults_of_words place text c.args.found.now.items ++ l) (sym (ap (with_place place (text_of (take c.args.end text))) c.in-Some.is))
