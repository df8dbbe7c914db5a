use Rattle.std.proofs.Common.{◌++◌, ◌∷◌, [], subst, append-nil, ℕ, List}
use Rattle.bin_tape.specs.Reading.{HasRead}
use Rattle.archive_files.proofs.TapeLemmas.{going_none, going_on}
use Rattle.archive_files.proofs.tapes.is_end.Goals as goal

pub returns-in-End : goal.returns-in-End
returns-in-End c = λ frames reading.
    let answer = rw c.in-End.is at (c.in_ok-tape.ensures.answer frames reading.out reading.read) in
    ((answer.1.items, answer.1.is_tape), going_none c.no_fault.ensures frames reading.out answer.0)

pub returns-in-Nothing : goal.returns-in-Nothing
returns-in-Nothing c = λ frames reading.
    let answer = rw c.in-Nothing.is at (c.in_ok-tape.ensures.answer frames reading.out reading.read) in
    let read = rw c.in-Nothing.is at (c.in_ok-tape.ensures.read frames reading.out reading.read) in
    record {
      out = reading.out;
      read = subst (λ (out : List (ℕ × ℕ)). HasRead c.push.new.self (frames ++ c.args.frame ∷ []) out) (append-nil reading.out) read;
      going = going_on c.no_fault.ensures frames (frames ++ c.args.frame ∷ []) reading.out reading.going answer;
    }
