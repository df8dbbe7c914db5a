-- How a text goes through frames (OS/8 Software Support Manual; which characters may stand in a text is this project's profile).
use Rattle.std.specs.Prelude.{ℕ, ◌%◌, ◌||◌, nat_eq, Bool, true, false, if◌then◌else◌, List, [], ◌∷◌}
use Rattle.file_kind.specs.Texts.{all_zero, is_end, is_graphic, is_text_character}
use Rattle.block_scan.specs.declared.passages.Passage.{Passage}
use Rattle.block_scan.specs.declared.passages.Passage.TheVariants.{Goes, Ends, Breaks}

abbrev pub end_or_break : Bool → Bool → Passage
end_or_break seen true = Ends seen
end_or_break seen false = Breaks

-- what frames are for a text that reaches them, and has had a graphic character or not
abbrev pub passage : Bool → List ℕ → Passage
passage seen [] = Goes seen
passage seen (frame ∷ others) =
    if is_end frame then Ends seen
    else if nat_eq frame 0 then end_or_break seen (all_zero others)
    else if is_text_character (frame % 0o200) then passage (seen || is_graphic (frame % 0o200)) others
    else Breaks
