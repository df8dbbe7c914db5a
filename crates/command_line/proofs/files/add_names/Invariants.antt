use Rattle.std.proofs.Common.{◌≡◌, ◌++◌, drop, map}
use Rattle.command_table.specs.Found.{capitals}
use Rattle.command_line.proofs.files.add_names.Given as goal

-- the names so far are appended
abbrev pub invariant-loop-text : goal.invariant-loop-text
invariant-loop-text l = map (λ name. name.bytes.items) l.names.items ++ map capitals (map (λ text. text.now) (drop l.text-index l.given))
    ≡ map (λ name. name.bytes.items) l.fn.names.items ++ map capitals (map (λ text. text.now) l.given)
