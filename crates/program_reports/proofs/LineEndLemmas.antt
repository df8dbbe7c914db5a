-- One byte more of a text whose lines are ended by LF.
use Rattle.std.proofs.Common.{◌≡◌, ◌∙◌, ap, sym, ℕ, ◌+◌, ◌<◌, nat_eq, Bool, List, ◌++◌, length, drop, slice_index, append_assoc}
use Rattle.std.proofs.lemmas.List.{at_drop_more}
use Rattle.program_reports.specs.LineEnds.{line_end_of, lines_from}

pub lines_next : (following after : Bool) (text longer bytes all : List ℕ) (i : ℕ) → i < length bytes
    → after ≡ nat_eq (slice_index bytes i) 0o15 → longer ≡ text ++ line_end_of following (slice_index bytes i)
    → text ++ lines_from following (drop i bytes) ≡ all → longer ++ lines_from after (drop (i + 1) bytes) ≡ all
lines_next following after text longer bytes all i inside after_is longer_is before =
    let byte = slice_index bytes i in
    let rest = drop (i + 1) bytes in
    ap (λ l. l ++ lines_from after rest) longer_is
    ∙ ap (λ b. (text ++ line_end_of following byte) ++ lines_from b rest) after_is
    ∙ append_assoc text (line_end_of following byte) (lines_from (nat_eq byte 0o15) rest)
    ∙ sym (at_drop_more (λ bs. text ++ lines_from following bs) bytes i 0 inside)
    ∙ before
