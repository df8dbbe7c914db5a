-- What statements name.
use Rattle.std.proofs.Common.{◌≡◌, ℕ, ◌<◌, Bool, true, false, if◌then◌else◌, Ok, is_some, length, take, get_or, List, [], ◌∷◌, ◌++◌, refl, ap, sym, ◌∙◌, append_assoc, append-nil, arith}
use Rattle.pal_sym.specs.Permanent.{permanent}
use Rattle.pal_lex.specs.Text.{ends_statement, text_of}
use Rattle.pal_lex.specs.Statements.{statements}
use Rattle.pal_lex.specs.Reading.{with_tokens}
use Rattle.pal_lex.specs.declared.phrases.Statement.{Statement}
use Rattle.pal_lex.specs.declared.pieces.Token.{Token}
use Rattle.source_listing.specs.References.{body_names, newest_names, names_ended, mentions_at, mentions}
use Rattle.source_listing.specs.declared.spots.Spot.{Spot}
use Rattle.source_listing.specs.declared.references.Mention.{Mention}
use Rattle.source_listing.proofs.TextLemmas.{length_taken}

mentioned-append : (spot : Spot) (a b : List ℕ) → mentions_at spot (a ++ b) ≡ mentions_at spot a ++ mentions_at spot b
mentioned-append spot [] b = refl
mentioned-append spot (n ∷ a) b =
    let first = if is_some (permanent n) then [] else record { name = n; spot = spot } ∷ [] in
    ap (λ l. first ++ l) (mentioned-append spot a b) ∙ sym (append_assoc first (mentions_at spot a) (mentions_at spot b))

pub puts_both : (spot : Spot) (tags names : List ℕ) (old middle new : List Mention) → middle ≡ old ++ mentions_at spot tags → new ≡ middle ++ mentions_at spot names
    → new ≡ old ++ mentions_at spot (tags ++ names)
puts_both spot tags names old middle new first second =
    second ∙ ap (λ l. l ++ mentions_at spot names) first ∙ append_assoc old (mentions_at spot tags) (mentions_at spot names)
    ∙ ap (λ l. old ++ l) (sym (mentioned-append spot tags names))

pub named_none : (spot : Spot) (found : List Mention) (text : List ℕ) (b : ℕ) → ends_statement text b ≡ false → found ≡ found ++ mentions_at spot (names_ended text b)
named_none spot found text b none =
    sym (ap (λ (t : Bool). found ++ mentions_at spot (if t then newest_names (statements (b ∷ text)) else [])) none ∙ append-nil found)

pub named_some : (spot : Spot) (text : List ℕ) (b : ℕ) (s : Statement) (tokens : List Token) → ends_statement text b ≡ true → statements (b ∷ text) ≡ Ok (with_tokens tokens s) ∷ statements text
    → mentions_at spot (s.tags ++ body_names s.body) ≡ mentions_at spot (names_ended text b)
named_some spot text b s tokens ends more =
    ap (mentions_at spot) (sym (ap (λ (t : Bool). if t then newest_names (statements (b ∷ text)) else []) ends ∙ ap newest_names more))

pub named_more : (spots : ℕ → Spot) (bytes : List ℕ) (n : ℕ) (spot : Spot) (old new : List Mention) → n < length bytes → spot ≡ spots n
    → new ≡ old ++ mentions_at spot (names_ended (text_of (take n bytes)) (get_or bytes n 0)) → old ≡ mentions spots (text_of (take n bytes))
    → new ≡ mentions spots (get_or bytes n 0 ∷ text_of (take n bytes))
named_more spots bytes n spot old new inside is puts so_far =
    let here = text_of (take n bytes) in
    let ended = names_ended here (get_or bytes n 0) in
    puts ∙ ap (λ l. l ++ mentions_at spot ended) so_far
    ∙ ap (λ s. mentions spots here ++ mentions_at s ended) (is ∙ ap spots (sym (length_taken bytes n (omega (arith, inside)))))

pub same_mentions : (f g : ℕ → Spot) (text : List ℕ) → ((n : ℕ) → n < length text → f n ≡ g n) → mentions f text ≡ mentions g text
same_mentions f g [] same = refl
same_mentions f g (b ∷ older) same =
    ap (λ l. l ++ mentions_at (f (length older)) (names_ended older b)) (same_mentions f g older (λ n inside. same n (omega (arith, inside))))
    ∙ ap (λ s. mentions g older ++ mentions_at s (names_ended older b)) (same (length older) (omega arith))
