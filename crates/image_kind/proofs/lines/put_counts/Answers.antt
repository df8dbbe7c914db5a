use Rattle.std.proofs.Common.{◌≡◌, ◌++◌, ◌-◌, ◌∙◌, ap, codes, length, rules}
use Rattle.image_kind.specs.Lines.{count_line}
use Rattle.image_kind.proofs.Joined.{grown_three}
use Rattle.image_kind.proofs.lines.put_counts.Goals as goal

pub returns : goal.returns
returns c =
    let it = c.args.it.now in
    let name = c.args.name.now in
    let long : c.len.result ≡ length it.wide.items = search rules in
    let more : c.saturating_sub-further.result ≡ length it.wide.items - 16 = c.saturating_sub-further.ensures ∙ ap (λ n. n - 16) long in
    grown_three c.args.text.now.bytes.items
    (count_line name (codes ": further words of more than 12 bits, read without the top ones: ") (length it.wide.items - 16))
    (count_line name (codes ": bytes of zeros added at the end: ") it.zeros)
    (count_line name (codes ": bytes cut from the end: ") it.cut)
    _ _ _
    (c.in_ok-put_count.ensures ∙ ap (λ n. c.args.text.now.bytes.items ++ count_line name (codes ": further words of more than 12 bits, read without the top ones: ") n) more)
    c.in_ok-put_count-2.ensures
    c.in_ok-put_count-3.ensures
