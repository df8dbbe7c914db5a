use Rattle.std.proofs.Common.{◌∙◌, refl, sym, true≢false}
use Rattle.system_session.proofs.sessions.files.store_fault.Goals as goal

pub returns-then-not-is_storable : goal.returns-then-not-is_storable
returns-then-not-is_storable c = record {
  bad = λ bad. refl;
  stopped = λ storable halted. absurd (true≢false (sym storable ∙ sym c.is_storable.ensures ∙ c.if-not-is_storable.true));
  busy = λ storable running. absurd (true≢false (sym storable ∙ sym c.is_storable.ensures ∙ c.if-not-is_storable.true));
}

pub returns-then-stopped : goal.returns-then-stopped
returns-then-stopped c = record {
  bad = λ bad. absurd (true≢false (sym c.if-not-is_storable.false ∙ c.is_storable.ensures ∙ bad));
  stopped = λ storable halted. refl;
  busy = λ storable running. absurd (true≢false (sym c.if-stopped.true ∙ running));
}

pub returns : goal.returns
returns c = record {
  bad = λ bad. absurd (true≢false (sym c.if-not-is_storable.false ∙ c.is_storable.ensures ∙ bad));
  stopped = λ storable halted. absurd (true≢false (sym halted ∙ c.if-stopped.false));
  busy = λ storable running. refl;
}
