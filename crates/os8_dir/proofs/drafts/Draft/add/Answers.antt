use Rattle.std.proofs.Common.{◌≡◌, ◌++◌, ◌∷◌, [], true, false, sym, ◌∙◌, arith}
use Rattle.os8_dir.specs.Entries.{names_of}
use Rattle.os8_dir.specs.Reading.{is_new}
use Rattle.os8_dir.proofs.ReadingLemmas.{with_entry-past, with_entry-same, with_entry-more}
use Rattle.os8_dir.proofs.TidyLemmas.{total-tidy, total-append, IsTidy-tidy}
use Rattle.os8_dir.proofs.KnownLemmas.{is_new_to-known, has_key-more}
use Rattle.os8_dir.proofs.drafts.Draft.add.Goals as goal

pub returns-then-self-length : goal.returns-then-self-length
returns-then-self-length c = record {
  reading = rw (← c.self.view_is) (with_entry-past _ _ _ (omega (arith, c.if-self-length.true, c.self.invariant.kept.ends, c.length-length.ensures)));
}

pub returns-then-not-new : goal.returns-then-not-new
returns-then-not-new c =
    let old : is_new (names_of c.self.inside.entries.items) c.args.entry ≡ false = sym (is_new_to-known c.self.inside.entries.items c.self.inside.names c.args.entry c.self.invariant.known) ∙ sym c.in_ok-new.ensures.new ∙ c.if-not-new.true in
    record {
      reading = rw (← c.self.view_is) (with_entry-same _ _ _ (omega (arith, c.if-self-length.false, c.self.invariant.kept.ends, c.length-length.ensures)) old);
    }

pub invariant_of-self-in-Ok : goal.invariant_of-self-in-Ok
invariant_of-self-in-Ok c = record {
  kept = record {
    starts = c.self.invariant.kept.starts;
    few = c.self.invariant.kept.few;
    ends = rw (c.in-Ok.ensures, total-tidy) (omega (arith, total-append c.self.inside.entries.items (c.args.entry ∷ []), c.self.invariant.kept.ends, c.length-length.ensures));
    most = omega (arith, c.if-self-length.false, c.requires.most);
    neat = rw c.in-Ok.ensures (IsTidy-tidy (c.self.inside.entries.items ++ c.args.entry ∷ []));
  };
  known = λ q. rw c.in-Ok.ensures (has_key-more c.self.inside.entries.items c.self.inside.names c.add_name.new.names c.args.entry q (c.self.invariant.known q) (c.in_ok-new.ensures.names q));
}

pub returns-in-Ok : goal.returns-in-Ok
returns-in-Ok c =
    let new : is_new (names_of c.self.inside.entries.items) c.args.entry ≡ true = sym (is_new_to-known c.self.inside.entries.items c.self.inside.names c.args.entry c.self.invariant.known) ∙ sym c.in_ok-new.ensures.new ∙ c.if-not-new.false in
    record {
      reading = rw (← c.self.view_is, c.in-Ok.ensures) (with_entry-more _ _ _ (omega (arith, c.if-self-length.false, c.self.invariant.kept.ends, c.length-length.ensures)) new);
    }
