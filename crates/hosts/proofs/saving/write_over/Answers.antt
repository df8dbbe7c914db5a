use Rattle.std.proofs.Common.{◌≡◌, ◌∷◌, ◌++◌, length, inr, ◌∙◌, rules}
use Rattle.hosts.specs.Place.{about}
use Rattle.hosts.specs.Saving.{IsCutShort, over_step, writes_over}
use Rattle.hosts.proofs.Over.{finish_step, head_alone, written_both, written_head, both_parts}
use Rattle.hosts.proofs.saving.write_over.Goals as goal

pub returns-clause-over : goal.returns-clause-over
returns-clause-over g c =
    let path = c.args.path.now in
    let bytes = c.args.bytes.now in
    let head = c.split_at.result.0.now in
    let rest = c.split_at.result.1.now in
    let old = about path (g.H.Host.history c.args.host.now) in
    let parts : bytes ≡ head ++ rest = both_parts bytes head rest c.args.first c.split_at.ensures.front c.split_at.ensures.back in
    let steps : about path (g.H.Host.history c.finish_over-2.new.self) ≡ finish_step (length bytes) ∷ over_step 0 head ∷ over_step (length head) rest ∷ old = search rules in
    rw steps (written_both bytes head rest old parts)

pub returns-then-bytes-first-clause-head_last : goal.returns-then-bytes-first-clause-head_last
returns-then-bytes-first-clause-head_last g c =
    let path = c.args.path.now in
    let bytes = c.args.bytes.now in
    let old = about path (g.H.Host.history c.args.host.now) in
    let steps : about path (g.H.Host.history c.finish_over.new.self) ≡ finish_step (length bytes) ∷ over_step 0 bytes ∷ old = search rules in
    rw steps (head_alone c.args.first bytes (writes_over old) c.if-bytes-first.true)

pub returns-in_err-finish_over-clause-cut_short : goal.returns-in_err-finish_over-clause-cut_short
returns-in_err-finish_over-clause-cut_short g c =
    let path = c.args.path.now in
    let bytes = c.args.bytes.now in
    let old = about path (g.H.Host.history c.args.host.now) in
    let writes : writes_over (about path (g.H.Host.history c.finish_over.new.self)) ≡ over_step 0 bytes ∷ writes_over old = search rules in
    let cut : IsCutShort c.args.first bytes old (about path (g.H.Host.history c.finish_over.new.self)) = inr (inr (writes ∙ head_alone c.args.first bytes (writes_over old) c.if-bytes-first.true)) in
    search rules

pub returns-then-bytes-first-clause-over : goal.returns-then-bytes-first-clause-over
returns-then-bytes-first-clause-over g c =
    let path = c.args.path.now in
    let bytes = c.args.bytes.now in
    let old = about path (g.H.Host.history c.args.host.now) in
    let steps : about path (g.H.Host.history c.finish_over.new.self) ≡ finish_step (length bytes) ∷ over_step 0 bytes ∷ old = search rules in
    rw steps (written_head bytes old)
