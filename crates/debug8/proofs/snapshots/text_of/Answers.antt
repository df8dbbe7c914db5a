use Rattle.std.proofs.Common.{◌≡◌, false, ap, ◌∙◌}
use Rattle.serde_json.specs.View.{view}
use Rattle.serde_json.specs.Written.{compact_text, has_float}
use Rattle.debug8.proofs.Json.{snapshot-text}
use Rattle.debug8.proofs.snapshots.text_of.Goals as goal

pub returns : goal.returns
returns c =
    let whole : has_float (view c.in_ok-value.value) ≡ false = ap has_float c.in_ok-value.ensures in
    c.in_ok-text.ensures.text whole ∙ (ap compact_text c.in_ok-value.ensures ∙ snapshot-text c.args.machine.now)
