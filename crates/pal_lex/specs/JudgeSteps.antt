-- What a lexer makes of a byte and of a whole stretch, for private clauses.
use Rattle.std.specs.Prelude.{◌≡◌, ℕ, ◌+◌, nat_eq, Bool, true, false, ◌||◌, if◌then◌else◌, Some, None, Result, Ok, Err, List, []}
use Rattle.pal_lex.specs.Grammar.{phrase_of_tokens, has_bad_number}
use Rattle.pal_faults.specs.declared.lexical.LexFault.{LexFault}
use Rattle.pal_faults.specs.declared.lexical.LexFault.TheVariants.{IC, SY, NU, NE, Memory}
use Rattle.pal_lex.specs.declared.pieces.Token.{Token}
use Rattle.pal_lex.specs.Text.{is_ignored, limit}
use Rattle.pal_lex.specs.Drafting.{cut}
use Rattle.pal_lex.specs.Statements.{radix_by}
use Rattle.pal_lex.specs.Progress.{Progress}
use Rattle.pal_lex.specs.declared.lexing.State.TheVariants.{Reading, Paused, Over, Failed}
use Rattle.pal_lex.specs.declared.phrases.Body.{Body}
use Rattle.pal_lex.specs.declared.phrases.Body.TheVariants.{Pause}
use Rattle.pal_lex.specs.declared.phrases.Said.{Said}
use Rattle.pal_lex.specs.declared.phrases.Statement.{Statement}
use Rattle.pal_lex.specs.declared.runs.Radix.TheVariants.{Octal}

abbrev pub comment_after : Bool → ℕ → Bool
comment_after comment b = if nat_eq b 0o15 then false else (if nat_eq b 0o57 then true else comment)

-- the answer for a stretch with these tokens, or that memory ran out
abbrev pub Judges : ℕ → Bool → List Token → Result Said LexFault → Type 0
Judges line illegal tokens (Ok s) = (illegal ≡ false) × (has_bad_number tokens ≡ false) × (phrase_of_tokens tokens ≡ Some s)
Judges line illegal tokens (Err (IC at)) = (at ≡ line) × (illegal ≡ true)
Judges line illegal tokens (Err (NU at)) = (at ≡ line) × (illegal ≡ false) × (has_bad_number tokens ≡ true)
Judges line illegal tokens (Err (SY at)) = (at ≡ line) × (illegal ≡ false) × (has_bad_number tokens ≡ false) × (phrase_of_tokens tokens ≡ None)
Judges line illegal tokens (Err (NE at)) = ⊥
Judges line illegal tokens (Err Memory) = Unit {0}

-- a byte means nothing, where a comment goes on or not
abbrev pub dies : Bool → ℕ → Bool
dies comment b = is_ignored b || comment_after comment b

-- one byte is counted
abbrev pub after_byte : ℕ → Progress → Progress
after_byte b l = record {
  state = l.state;
  source = l.source;
  may_pause = l.may_pause;
  comment = comment_after l.comment b;
  place = limit (l.place + 1);
  line = if nat_eq b 0o15 then limit (l.line + 1) else l.line;
  radix = l.radix;
  keeps_tokens = l.keeps_tokens;
  draft = l.draft;
}

-- a byte ended a statement with this body
abbrev pub after_statement : ℕ → Body → Progress → Progress
after_statement b body l = after_byte b (record {
  state = if nat_eq b 0o44 then Over else l.state;
  source = l.source;
  may_pause = l.may_pause;
  comment = l.comment;
  place = l.place;
  line = l.line;
  radix = radix_by body l.radix;
  keeps_tokens = l.keeps_tokens;
  draft = cut Octal [];
})

-- the statement that a byte ended
abbrev pub ended_statement : ℕ → Said → Progress → Statement
ended_statement b s l = record { line = l.line; tags = s.tags; body = s.body; last = nat_eq b 0o44; source = l.source; tokens = if l.keeps_tokens then l.draft.tokens else [] }

-- PAUSE ended the source
abbrev pub after_pause : Progress → Progress
after_pause l = record {
  state = Paused;
  source = l.source;
  may_pause = l.may_pause;
  comment = l.comment;
  place = l.place;
  line = l.line;
  radix = l.radix;
  keeps_tokens = l.keeps_tokens;
  draft = cut Octal [];
}

-- the statement that is PAUSE
abbrev pub pause_statement : Progress → Statement
pause_statement l = record { line = l.line; tags = []; body = Pause; last = false; source = l.source; tokens = if l.keeps_tokens then l.draft.tokens else [] }

-- the next source begins
abbrev pub next : Bool → Progress → Progress
next last l = record {
  state = Reading;
  source = limit (l.source + 1);
  may_pause = if last then false else true;
  comment = false;
  place = 0;
  line = l.line;
  radix = l.radix;
  keeps_tokens = l.keeps_tokens;
  draft = l.draft;
}

-- a fault was met: want of memory leaves all as it was
abbrev pub after_fault : LexFault → Progress → Progress
after_fault (IC line) l = record l { state = Failed (IC line) }
after_fault (SY line) l = record l { state = Failed (SY line) }
after_fault (NU line) l = record l { state = Failed (NU line) }
after_fault (NE line) l = record l { state = Failed (NE line) }
after_fault Memory l = l
