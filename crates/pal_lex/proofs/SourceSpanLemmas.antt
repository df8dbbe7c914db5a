-- The places of tokens in one of several sources.
use Rattle.std.proofs.Common.{◌≡◌, ℕ, ◌-◌, Bool, true, false, ◌&&◌, not, if◌then◌else◌, length, List, [], ◌∷◌, ◌++◌, refl, ap, sym, subst, ◌∙◌, arith, length-append}
use Rattle.pal_lex.specs.Text.{in_comment, is_dead, is_end, ends_statement, stretch, since}
use Rattle.pal_lex.specs.Cutting.{has_illegal}
use Rattle.pal_lex.specs.Runs.{base, tokens}
use Rattle.pal_lex.specs.Joins.{is_lone_pause, pauses}
use Rattle.pal_lex.specs.Statements.{radix_after, statements}
use Rattle.pal_lex.specs.Spans.{AllSpell, bytes_between, HasSourceSpans, HasAllOfSource, PauseHasSpans, PauseHasAll}
use Rattle.pal_lex.specs.declared.runs.Radix.TheVariants.{Octal}
use Rattle.pal_lex.proofs.CoverLemmas.{covers_in}
use Rattle.pal_lex.proofs.JoinLemmas.{clear_comment, clear_stretch, dead_joined, bytes_joined}
use Rattle.pal_lex.proofs.ShapeLemmas.{same_illegal}
use Rattle.pal_lex.proofs.SpanLemmas.{has_tokens, spells_in}

since_by : (dead end : Bool) (b place seam other : ℕ) (live same : List (ℕ × ℕ)) → place - seam ≡ other → since seam live ≡ same
    → since seam (if dead then live else (if end then [] else (b, place) ∷ live)) ≡ (if dead then same else (if end then [] else (b, other) ∷ same))
since_by true end b place seam other live same p e = e
since_by false true b place seam other live same p e = refl
since_by false false b place seam other live same p e = ap (λ n. (b, n) ∷ since seam live) p ∙ ap (λ l. (b, other) ∷ l) e

-- the stretch of a source, with its own places
since_joined : (here before : List ℕ) → in_comment before ≡ false → stretch before ≡ [] → since (length before) (stretch (here ++ before)) ≡ stretch here
since_joined [] before quiet none = ap (since (length before)) none
since_joined (b ∷ here) before quiet none =
    ap (λ (d : Bool). since (length before) (if d then stretch (here ++ before) else (if is_end b then [] else (b, length (here ++ before)) ∷ stretch (here ++ before)))) (dead_joined here before b quiet)
    ∙ since_by (is_dead here b) (is_end b) b (length (here ++ before)) (length before) (length here) (stretch (here ++ before)) (stretch here)
    (omega (arith, length-append here before)) (since_joined here before quiet none)

legal_here : (here before : List ℕ) → in_comment before ≡ false → stretch before ≡ [] → has_illegal (stretch (here ++ before)) ≡ false → has_illegal (stretch here) ≡ false
legal_here here before quiet none legal = sym (same_illegal (stretch (here ++ before)) (stretch here) (bytes_joined here before quiet none)) ∙ legal

pub source_spans : HasSourceSpans
source_spans before here later b statement clear e =
    let quiet = clear_comment before clear.0 in
    let none = clear_stretch before clear.0 in
    let radix = radix_after (statements (here ++ before)) in
    subst (λ (l : List (ℕ × ℕ)). AllSpell (later ++ b ∷ here) (base radix) (tokens radix l)) (sym (since_joined here before quiet none))
    (spells_in radix here later b (legal_here here before quiet none (has_tokens (here ++ before) b statement e).0))

pub source_has_all : HasAllOfSource
source_has_all before here later b statement clear small e =
    let quiet = clear_comment before clear.0 in
    let none = clear_stretch before clear.0 in
    let radix = radix_after (statements (here ++ before)) in
    ap (λ l. bytes_between (later ++ b ∷ here) (tokens radix l)) (since_joined here before quiet none)
    ∙ covers_in radix here later b small (legal_here here before quiet none (has_tokens (here ++ before) b statement e).0)

-- ## PAUSE

legal_by : (ends illegal alone : Bool) → (ends && (not illegal && alone)) ≡ true → illegal ≡ false
legal_by ends false alone e = refl
legal_by true true alone e = absurd cc
legal_by false true alone e = absurd cc

pause_is_legal : (text : List ℕ) (b : ℕ) → pauses text b ≡ true → has_illegal (stretch text) ≡ false
pause_is_legal text b e = legal_by (ends_statement text b) (has_illegal (stretch text)) (is_lone_pause (tokens Octal (stretch text))) e

pub pause_spells : PauseHasSpans
pause_spells before here later b clear e =
    let quiet = clear_comment before clear.0 in
    let none = clear_stretch before clear.0 in
    let radix = radix_after (statements (here ++ before)) in
    subst (λ (l : List (ℕ × ℕ)). AllSpell (later ++ b ∷ here) (base radix) (tokens radix l)) (sym (since_joined here before quiet none))
    (spells_in radix here later b (legal_here here before quiet none (pause_is_legal (here ++ before) b e)))

pub pause_has_all : PauseHasAll
pause_has_all before here later b clear small e =
    let quiet = clear_comment before clear.0 in
    let none = clear_stretch before clear.0 in
    let radix = radix_after (statements (here ++ before)) in
    ap (λ l. bytes_between (later ++ b ∷ here) (tokens radix l)) (since_joined here before quiet none)
    ∙ covers_in radix here later b small (legal_here here before quiet none (pause_is_legal (here ++ before) b e))
