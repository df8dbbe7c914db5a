use Rattle.std.proofs.Common.{inl, inr}
use Rattle.archive_many.specs.Putting.{given_count, most_wanted}
use Rattle.image_files.specs.Information.{TakesWords}
use Rattle.image_files.specs.Stored.{words_of}
use Rattle.image_files.proofs.WorkLemmas.{ends_with}
use Rattle.put_commands.proofs.putting.judge_info.Goals as goal

pub returns-in_err-take_words : goal.returns-in_err-take_words
returns-in_err-take_words g c = inl (ends_with (TakesWords (most_wanted 0 (given_count (words_of c.args.form.now.info)) c.args.files.now) c.args.image.now) _ _ _ _ (rw c.most_wanted.ensures at c.in_err-take_words.ensures) c.from_residual.ensures)

pub returns : goal.returns
returns g c = inr (record { given = tt; between = g.H.Host.history c.take_words.new.host; done = rw c.most_wanted.ensures at c.in_ok-take_words.ensures; after = c.note_dates.ensures })
