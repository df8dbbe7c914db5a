-- One byte more of a text whose lines have a prefix.
use Rattle.std.proofs.Common.{◌≡◌, ◌∙◌, ap, sym, ℕ, ◌+◌, ◌<◌, nat_eq, Bool, List, ◌++◌, length, drop, slice_index, append_assoc}
use Rattle.std.proofs.lemmas.List.{at_drop_more}
use Rattle.program_reports.specs.Prefixes.{prefixed_byte, with_prefix_from}

pub prefixed_next : (prefix : List ℕ) (begins after : Bool) (text longer bytes all : List ℕ) (i : ℕ) → i < length bytes
    → after ≡ nat_eq (slice_index bytes i) 0o12 → longer ≡ text ++ prefixed_byte prefix begins (slice_index bytes i)
    → text ++ with_prefix_from prefix begins (drop i bytes) ≡ all → longer ++ with_prefix_from prefix after (drop (i + 1) bytes) ≡ all
prefixed_next prefix begins after text longer bytes all i inside after_is longer_is before =
    let byte = slice_index bytes i in
    let rest = drop (i + 1) bytes in
    ap (λ l. l ++ with_prefix_from prefix after rest) longer_is
    ∙ ap (λ b. (text ++ prefixed_byte prefix begins byte) ++ with_prefix_from prefix b rest) after_is
    ∙ append_assoc text (prefixed_byte prefix begins byte) (with_prefix_from prefix (nat_eq byte 0o12) rest)
    ∙ sym (at_drop_more (λ bs. text ++ with_prefix_from prefix begins bs) bytes i 0 inside)
    ∙ before
