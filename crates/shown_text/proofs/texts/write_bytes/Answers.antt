use Rattle.std.proofs.Common.{◌++◌, sym, ap, ◌∙◌, append_assoc, rules}
use Rattle.std.proofs.Output.{has_written_append}
use Rattle.shown_text.specs.Showing.{shown_text, shown_byte}
use Rattle.shown_text.specs.declared.bytes.TheConstants.{BLANK}
use Rattle.shown_text.proofs.texts.write_bytes.Goals as goal

pub bytes-preserved : goal.bytes-preserved
bytes-preserved g c =
    λ plain.
    let now = c.bytes.invariant plain in
    let b = c.in-Some.byte in (
      now.0 ++ shown_byte BLANK b,
      has_written_append _ _ _ _ _ _ now.1 (search rules),
      append_assoc now.0 (shown_byte BLANK b) _ ∙ ap (λ l. now.0 ++ shown_text l) (sym c.in-Some.ensures) ∙ now.2,
    )
