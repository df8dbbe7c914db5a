-- The texts of runs of cells, for private clauses.
use Rattle.std.specs.Prelude.{ℕ, Bool, if◌then◌else◌, List, [], ◌∷◌, ◌++◌, codes}
use Rattle.word12.specs.Octal.{octal5}

-- the text of a cell with which a run begins or ends
abbrev pub bound_text : Bool → Bool → ℕ → List ℕ
bound_text is_first is_last cell =
    if is_first then codes "NEVER " ++ octal5 cell
    else if is_last then codes " TO " ++ octal5 cell
    else []

-- the end of the line
abbrev pub end_text : Bool → List ℕ
end_text is_last = if is_last then 10 ∷ [] else []
