-- What the small steps of making a statement harmless give, for private clauses.
use Rattle.std.specs.Prelude.{◌≡◌, ℕ, Bool, true, false, if◌then◌else◌, Option, Some, None, List, map}
use Rattle.std.specs.Global.{Vec}
use Rattle.pal8_asm.specs.Sources.{Source, Statement}
use Rattle.pal8_tape.specs.Marks.{begins}
use Rattle.pal8_tape.specs.Mending.{harmless_by, harmless_in}
use Rattle.pal8_tape.specs.Further.{ended_text}
use Rattle.pal8_tape.specs.declared.mending.Mending.{Mending}

abbrev pub text_in : Option (Vec ℕ) → Option (List ℕ)
text_in None = None
text_in (Some text) = Some text.items

-- texts were made harmless in place, or there are no such texts
abbrev pub Mends : Option (List (List ℕ)) → Bool → List (Vec ℕ) → Type 0
Mends whole true new = whole ≡ Some (map (λ text. text.items) new)
Mends whole false new = whole ≡ None

-- the text of a source, which is the last one or not
abbrev pub text_if_last : Bool → List ℕ → List ℕ
text_if_last true text = text
text_if_last false text = ended_text text

-- the text in which a statement is harmless, if it is one of these
abbrev pub harmless_text : Mending → Source → Option (List ℕ)
harmless_text m source = harmless_in m.is_passed m.text.now m.start source

-- the same with one statement more
abbrev pub harmless_text_with : Mending → Statement → Option (List ℕ) → Option (List ℕ)
harmless_text_with m s found = if begins m.start s.tokens then harmless_by m.is_passed m.text.now m.start s.at s.tokens s.end else found
