-- What the small steps of reading give, for private clauses.
use Rattle.std.specs.Prelude.{◌≡◌, Bool, true, false, Option, Some, None, Result, Ok, Err, List, [], ◌∷◌}
use Rattle.std.specs.declared.alloc.AllocError.{AllocError}
use Rattle.pal8_grammar.specs.SourceNames.{names_of, vocabulary_of}
use Rattle.pal8_grammar.specs.declared.source_names.SourceNames.{SourceNames}
use Rattle.pal8_grammar.specs.Values.{Reading, Setting, after_literal}
use Rattle.pal8_grammar.specs.Bodies.{Phrase}
use Rattle.pal8_grammar.specs.declared.bodies.Body.{Body}
use Rattle.pal8_grammar.specs.declared.steps.Step.{Step}
use Rattle.pal8_grammar.specs.declared.stands.Outer.{Outer}
use Rattle.pal8_grammar.specs.declared.stands.Rules.{Rules}

-- what a value reads by: the names before it, and how values are read
abbrev pub setting_of : SourceNames → Rules → Setting
setting_of names rules = record { names = vocabulary_of (names_of names); radix = rules.radix; has_literals = rules.has_literals }

-- the innermost of literals is taken off, if one is open
abbrev pub Pops : List Outer → Option Outer → List Outer → Type 0
Pops literals None new = (literals ≡ []) × (new ≡ [])
Pops literals (Some outer) new = literals ≡ outer ∷ new

-- the innermost literal was closed, if one was open
abbrev pub Closes : Reading → Result (Option Outer) AllocError → Reading → Type 0
Closes old (Ok None) new = (old.literals ≡ []) × (new ≡ old)
Closes old (Ok (Some outer)) new = (old.literals ≡ outer ∷ new.literals) × (new ≡ after_literal outer new.literals old.steps)
Closes old (Err refused) new = Unit {0}

-- a token was taken, or can't stand there
abbrev pub Takes : Option Reading → Result Bool AllocError → Reading → Type 0
Takes next (Ok true) new = next ≡ Some new
Takes next (Ok false) new = next ≡ None
Takes next (Err refused) new = Unit {0}

-- the steps of a value were read, or it is none
abbrev pub Reads : Option (List Step) → Result Bool AllocError → Reading → Type 0
Reads steps (Ok true) new = steps ≡ Some new.steps
Reads steps (Ok false) new = steps ≡ None
Reads steps (Err refused) new = Unit {0}

-- a body was read, with its steps, or it is none
abbrev pub ReadsBody : Option Phrase → Result (Option Body) AllocError → Reading → Type 0
ReadsBody phrase (Ok (Some body)) new = phrase ≡ Some (body, new.steps)
ReadsBody phrase (Ok None) new = phrase ≡ None
ReadsBody phrase (Err refused) new = Unit {0}
