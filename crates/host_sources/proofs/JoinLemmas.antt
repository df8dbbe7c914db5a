-- The text that sources join to.
use Rattle.std.proofs.Common.{◌≡◌, inl, inr, ℕ, ◌≤◌, Bool, true, false, Some, None, length, take, get_or, nat_eq, List, [], ◌∷◌, ◌++◌, ap, sym, subst, ◌∙◌, append_assoc, append-nil, arith}
use Rattle.std.proofs.lemmas.Bool.Decides.{nat_tests}
use Rattle.std.specs.Borrow.{Bor}
use Rattle.char_pack.specs.Texts.{host_text}
use Rattle.pal_lex.specs.Text.{text_of}
use Rattle.pal_lex.specs.Joins.{before_pause, text_with_next, join_of}
use Rattle.host_sources.specs.Sources.{texts_of, newest_first, counts_by, counts_of}
use Rattle.host_sources.specs.Steps.{Puts}
use Rattle.host_sources.proofs.NameLemmas.{following_one, first_of_rest}
use Rattle.host_sources.proofs.PauseLemmas.{text_joined, true_false}
use Rattle.host_sources.proofs.TextLemmas.{length_taken}

-- What stands in the join of sources and of those before them, and how many bytes of each, when one more was put there.
pub record HasPut (source : Bor (List ℕ)) (others : List (Bor (List ℕ))) (old new counts counts_then : List ℕ) : Type 0 where
  pub text : join_of (texts_of (source ∷ others)) ++ text_of old ≡ join_of (texts_of others) ++ text_of new
  pub counts_are : counts ++ counts_of (texts_of (source ∷ others)) ≡ counts_then ++ counts_of (texts_of others)

-- there are others after this one
some_more : (next : Bor (List ℕ)) (later : List (Bor (List ℕ))) → nat_eq (length (next ∷ later)) 0 ≡ false
some_more next later = grind (arith, nat_tests)

pub put_prefix : (source : Bor (List ℕ)) (others : List (Bor (List ℕ))) (last : Bool) (bytes old new counts counts_then : List ℕ) → bytes ≡ host_text source.now → last ≡ nat_eq (length others) 0
    → Puts last bytes true old new counts counts_then → HasPut source others old new counts counts_then
put_prefix source [] last bytes old new counts counts_then is none puts = true_false (sym none ∙ puts.0)
put_prefix source (next ∷ later) last bytes old new counts counts_then is none puts =
    let count = puts.1.0 in
    let prefix = text_of (take count bytes) in
    let others = texts_of (next ∷ later) in
    let paused : before_pause (text_of (host_text source.now)) ≡ Some prefix = ap (λ b. before_pause (text_of b)) (sym is) ∙ puts.1.1 in
    record {
      text = ap (λ f. text_with_next (text_of (host_text source.now)) f (join_of others) ++ text_of old) paused
          ∙ append_assoc (join_of others) prefix (text_of old)
          ∙ ap (λ l. join_of others ++ l) (sym (text_joined old (take count bytes)) ∙ ap text_of (sym puts.1.3));
      counts_are = ap (λ f. counts ++ counts_by f (counts_of others)) paused
          ∙ ap (λ n. counts ++ n ∷ counts_of others) (length_taken bytes count puts.1.2)
          ∙ sym (append_assoc counts (count ∷ []) (counts_of others)) ∙ ap (λ l. l ++ counts_of others) (sym puts.1.4);
    }

-- what stands in the join of sources and of those before them, when the last that counts was put there
pub record HasPutLast (source : Bor (List ℕ)) (others : List (Bor (List ℕ))) (old new counts counts_then : List ℕ) : Type 0 where
  pub text : join_of (texts_of (source ∷ others)) ++ text_of old ≡ text_of new
  pub counts_are : counts ++ counts_of (texts_of (source ∷ others)) ≡ counts_then

whole : (source : Bor (List ℕ)) (bytes old new : List ℕ) → bytes ≡ host_text source.now → new ≡ old ++ bytes → text_of (host_text source.now) ++ text_of old ≡ text_of new
whole source bytes old new is put = ap (λ b. text_of b ++ text_of old) (sym is) ∙ sym (text_joined old bytes) ∙ ap text_of (sym put)

pub put_last : (source : Bor (List ℕ)) (others : List (Bor (List ℕ))) (last : Bool) (bytes old new counts counts_then : List ℕ) → bytes ≡ host_text source.now → last ≡ nat_eq (length others) 0
    → Puts last bytes false old new counts counts_then → HasPutLast source others old new counts counts_then
put_last source [] last bytes old new counts counts_then is none puts =
    record { text = whole source bytes old new is puts.1; counts_are = append-nil counts ∙ sym puts.2 }
put_last source (next ∷ later) last bytes old new counts counts_then is none puts = elim puts.0 [
  | inl ends ↦ true_false (sym ends ∙ none ∙ some_more next later)
  | inr quiet ↦
      (let paused : before_pause (text_of (host_text source.now)) ≡ None = ap (λ b. before_pause (text_of b)) (sym is) ∙ quiet in
      record {
        text = ap (λ f. text_with_next (text_of (host_text source.now)) f (join_of (texts_of (next ∷ later))) ++ text_of old) paused ∙ whole source bytes old new is puts.1;
        counts_are = ap (λ f. counts ++ counts_by f (counts_of (texts_of (next ∷ later)))) paused ∙ append-nil counts ∙ sym puts.2;
      })
]

-- ## The first of the sources that are left

-- the whole join and all counts, when a source of which others follow was put
pub puts_on : (sources rest : List (Bor (List ℕ))) (none : Bor (List ℕ)) (last goes : Bool) (bytes old new counts counts_then : List ℕ) → 1 ≤ length rest
    → newest_first sources ≡ join_of (texts_of rest) ++ text_of old → counts_of (texts_of sources) ≡ counts ++ counts_of (texts_of rest) → bytes ≡ host_text (get_or rest 0 none).now
    → last ≡ nat_eq (length (following_one rest)) 0 → goes ≡ true → Puts last bytes goes old new counts counts_then
    → (newest_first sources ≡ join_of (texts_of (following_one rest)) ++ text_of new) × (counts_of (texts_of sources) ≡ counts_then ++ counts_of (texts_of (following_one rest)))
puts_on sources rest none last goes bytes old new counts counts_then long joins counted is ends goes_on puts =
    let first = first_of_rest rest none long in
    let put = put_prefix (get_or rest 0 none) (following_one rest) last bytes old new counts counts_then is ends (subst (λ g. Puts last bytes g old new counts counts_then) goes_on puts) in
    (joins ∙ ap (λ l. join_of (texts_of l) ++ text_of old) first ∙ put.text, counted ∙ ap (λ l. counts ++ counts_of (texts_of l)) first ∙ put.counts_are)

-- the same when the last that counts was put
pub puts_last : (sources rest : List (Bor (List ℕ))) (none : Bor (List ℕ)) (last goes : Bool) (bytes old new counts counts_then : List ℕ) → 1 ≤ length rest
    → newest_first sources ≡ join_of (texts_of rest) ++ text_of old → counts_of (texts_of sources) ≡ counts ++ counts_of (texts_of rest) → bytes ≡ host_text (get_or rest 0 none).now
    → last ≡ nat_eq (length (following_one rest)) 0 → goes ≡ false → Puts last bytes goes old new counts counts_then
    → (text_of new ≡ newest_first sources) × (counts_then ≡ counts_of (texts_of sources))
puts_last sources rest none last goes bytes old new counts counts_then long joins counted is ends goes_on puts =
    let first = first_of_rest rest none long in
    let put = put_last (get_or rest 0 none) (following_one rest) last bytes old new counts counts_then is ends (subst (λ g. Puts last bytes g old new counts counts_then) goes_on puts) in
    (sym (joins ∙ ap (λ l. join_of (texts_of l) ++ text_of old) first ∙ put.text), sym (counted ∙ ap (λ l. counts ++ counts_of (texts_of l)) first ∙ put.counts_are))
