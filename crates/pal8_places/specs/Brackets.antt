-- The brackets of conditions, which are open at a statement, the newest first: of each whether it is true (PAL8, in this project's profile).
use Rattle.std.specs.Prelude.{Bool, true, false, List, [], ◌∷◌}
use Rattle.pal8_lex.specs.declared.rules.End.{End}
use Rattle.pal8_lex.specs.declared.rules.End.TheVariants as end

-- A bracket that is opened in a false one is false, so the newest speaks for all that are open: statements are selected where it is true.
abbrev pub is_selected : List Bool → Bool
is_selected [] = true
is_selected (holds ∷ outer) = holds

abbrev pub outer_of : List Bool → List Bool
outer_of [] = []
outer_of (newest ∷ outer) = outer

-- the brackets after a statement: `<` opens one that is true or not, `>` closes the newest
abbrev pub brackets_after : End → Bool → List Bool → List Bool
brackets_after end.Semicolon holds brackets = brackets
brackets_after end.Line holds brackets = brackets
brackets_after end.Open holds brackets = holds ∷ brackets
brackets_after end.Close holds brackets = outer_of brackets
brackets_after end.Dollar holds brackets = brackets

abbrev pub has_none : List Bool → Bool
has_none [] = true
has_none (newest ∷ outer) = false

-- a `>` ends a statement where no bracket is open
abbrev pub closes_none : End → List Bool → Bool
closes_none end.Semicolon brackets = false
closes_none end.Line brackets = false
closes_none end.Open brackets = false
closes_none end.Close brackets = has_none brackets
closes_none end.Dollar brackets = false
