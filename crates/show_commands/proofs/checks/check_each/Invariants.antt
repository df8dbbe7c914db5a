use Rattle.std.proofs.Common.{◌≡◌, ◌+◌, ◌≤◌, ℕ, Result, List, length, map}
use Rattle.hosts.specs.Event.{Event}
use Rattle.outcome.specs.declared.endings.Ending.{Ending}
use Rattle.show_commands.specs.Checking.{ChecksEach}
use Rattle.show_commands.proofs.checks.check_each.Given as goal

-- what becomes of the files that are left becomes of all
abbrev pub invariant-loop-rest : goal.invariant-loop-rest
invariant-loop-rest g l = record {
  told : l.progress.is_told ≡ l.fn.progress.is_told;
  all : l.progress.all ≡ l.fn.progress.all;
  few : l.refused ≤ l.done;
  count : l.done + length l.rest ≡ length l.fn.files;
  goes_on : (result : Result ℕ Ending) (new : List Event) → ChecksEach l.fn.form l.progress.is_told l.done l.progress.all l.refused (map (λ file. file.bytes.items) l.rest) (g.H.Host.history l.host) result new
      → ChecksEach l.fn.form l.fn.progress.is_told 0 l.fn.progress.all 0 (map (λ file. file.bytes.items) l.fn.files) (g.H.Host.history l.fn.host) result new;
}

abbrev pub decreases-loop-rest : goal.decreases-loop-rest
decreases-loop-rest g l = length l.rest
