use Rattle.std.proofs.Common.{subst, sym}
use Rattle.system_session.specs.RunSteps.{watch}
use Rattle.system_session.specs.Session.{SessionView, NoCallFailed, state_of}
use Rattle.system_session.specs.Script.{RunsText}
use Rattle.system_session.proofs.ShownLemmas.{shown_runs}
use Rattle.system_session.proofs.TextLemmas.{ShowsRun, ended_by_reader, ended_kind, ended_reader, text_ended}
use Rattle.system_session.proofs.sessions.Session.run_watched.Goals as goal

pub returns-clause-shown : goal.returns-clause-shown
returns-clause-shown g c first before quiet was =
    let still = subst (λ (s : SessionView). NoCallFailed c.args.self.now s) c.end_run.ensures.same quiet in
    let run = subst (λ (s : SessionView). ShowsRun 16777216 (state_of c.args.self.now) (state_of s) (g.R.ByteReader.remaining c.args.reader.now) (g.R.ByteReader.remaining c.run_read-run.new.reader) (watch g.K.Watcher.contents g.K.Watcher.was_shown first c.args.watcher.now) (watch g.K.Watcher.contents g.K.Watcher.was_shown first c.end_run.new.watcher) c.end_run.result) (sym c.end_run.ensures.same)
    (text_ended 16777216 _ _ _ _ _ (watch g.K.Watcher.contents g.K.Watcher.was_shown first c.run_read-run.new.watcher) _ c.run_read-run.result c.end_run.result (c.run_read-run.ensures.told first still) (c.end_run.ensures.ended first)) in
    (run.0, run.1, run.2 before was)

pub returns-clause-told : goal.returns-clause-told
returns-clause-told g c quiet =
    let first = c.args.watcher.now in
    let still = subst (λ (s : SessionView). NoCallFailed c.args.self.now s) c.end_run.ensures.same quiet in
    let run = text_ended 16777216 _ _ _ _ _ (watch g.K.Watcher.contents g.K.Watcher.was_shown first c.run_read-run.new.watcher) (watch g.K.Watcher.contents g.K.Watcher.was_shown first c.end_run.new.watcher) c.run_read-run.result c.end_run.result (c.run_read-run.ensures.told first still) (c.end_run.ensures.ended first) in
    subst (λ (s : SessionView). RunsText 16777216 (state_of c.args.self.now) (state_of s) (g.R.ByteReader.remaining c.args.reader.now) (g.R.ByteReader.remaining c.run_read-run.new.reader) (g.K.Watcher.contents c.args.watcher.now) (g.K.Watcher.contents c.end_run.new.watcher) c.end_run.result) (sym c.end_run.ensures.same)
    (shown_runs 16777216 _ _ run.0 _ _ _ _ c.end_run.result run.1)

pub returns-clause-taken : goal.returns-clause-taken
returns-clause-taken g c =
    let first = c.args.watcher.now in
    let taken = c.run_read-run.ensures.taken in
    (taken.0, taken.1, taken.2, λ all. ended_reader _ c.run_read-run.result (watch g.K.Watcher.contents g.K.Watcher.was_shown first c.run_read-run.new.watcher) (watch g.K.Watcher.contents g.K.Watcher.was_shown first c.end_run.new.watcher) c.end_run.result (c.end_run.ensures.ended first) (taken.3 all))

pub returns-clause-kind : goal.returns-clause-kind
returns-clause-kind g c =
    let first = c.args.watcher.now in
    ended_kind _ c.run_read-run.result (watch g.K.Watcher.contents g.K.Watcher.was_shown first c.run_read-run.new.watcher) (watch g.K.Watcher.contents g.K.Watcher.was_shown first c.end_run.new.watcher) c.end_run.result (c.end_run.ensures.ended first)

pub returns-clause-cause : goal.returns-clause-cause
returns-clause-cause g c =
    let first = c.args.watcher.now in
    ended_by_reader _ _ c.run_read-run.result (watch g.K.Watcher.contents g.K.Watcher.was_shown first c.run_read-run.new.watcher) (watch g.K.Watcher.contents g.K.Watcher.was_shown first c.end_run.new.watcher) c.end_run.result (c.end_run.ensures.ended first) c.run_read-run.ensures.cause
