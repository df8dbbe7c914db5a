use Rattle.std.proofs.Common.{◌≡◌, ◌-◌}
use Rattle.os8_dir.specs.Reading.{with_entries}
use Rattle.os8_dir.proofs.drafts.Draft.add_entries.Given as goal

abbrev pub invariant-loop-done : goal.invariant-loop-done
invariant-loop-done l = with_entries l.count l.volume l.fn.self l.fn.words ≡ with_entries (l.count - l._done) l.volume l.self l.rest
