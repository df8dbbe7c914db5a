-- What a reader of BIN tapes answers tells what frames are.
use Rattle.std.proofs.Common.{◌≡◌, ◌∙◌, ◌↔◌, ℕ, zero, suc, ◌+◌, ◌<◌, ◌≤◌, Bool, true, false, true≢false, Result, Ok, Err, List, [], ◌∷◌, ◌++◌, length, take, drop, append_assoc, refl, sym, ap, subst, arith}
use Rattle.std.specs.Prelude.{slice_index, IsTrue, MatchResult, is_ok}
use Rattle.std.proofs.lemmas.List.{take_all}
use Rattle.bin_tape.specs.Items.{Item}
use Rattle.bin_tape.specs.Tape.{IsTape}
use Rattle.bin_tape.specs.Fault.{IsFault, RefusesFrame}
use Rattle.bin_tape.specs.Laws.{IsClosed}
use Rattle.bin_tape.specs.Reading.{Answers, IsWhole}
use Rattle.bin_tape.specs.declared.faults.TapeFault.{TapeFault}
use Rattle.bin_tape.specs.declared.readers.Tape.{Tape}
use Rattle.bin_tape.specs.declared.readers.Tape.TheVariants.{Nothing, Word, End}
use Rattle.file_kind.specs.Kinds.{IsSomeTape}

split-at : (xs : List ℕ) (i : ℕ) → i < length xs → xs ≡ take i xs ++ slice_index xs i ∷ drop (i + 1) xs
split-at [] i low = absurd (omega (arith, low))
split-at (x ∷ xs) zero low = refl
split-at (x ∷ xs) (suc i) low =
    let same : suc i + 1 ≡ suc (i + 1) = omega arith in
    ap (λ l. x ∷ l) (split-at xs i (omega (arith, low))) ∙ ap (λ m. x ∷ (take i xs ++ slice_index xs i ∷ drop m (x ∷ xs))) (sym same)

-- a frame that is refused
pub refused-none : ((frames rest : List ℕ) (fault : TapeFault) (refused : RefusesFrame frames fault) → IsClosed (refused.before ++ refused.frame ∷ rest)) → (frames : List ℕ) (i : ℕ) (fault : TapeFault) → i < length frames
    → ((rest : List ℕ) → RefusesFrame (take i frames ++ slice_index frames i ∷ rest) fault) → IsTrue false ↔ IsSomeTape frames
refused-none law frames i fault low refuses =
    let refused = refuses (drop (i + 1) frames) in
    let closed : IsClosed frames = subst IsClosed (sym (split-at frames i low ∙ refused.split)) (law _ refused.after fault refused) in
    (λ t. absurd (true≢false (sym t)), λ tape. absurd (closed.not_tape tape.items tape.is_tape))

-- the trailer
pub ended-tape : ((frames more : List ℕ) (items : List Item) → IsTape frames items → IsTape (frames ++ more) items) → (frames : List ℕ) (i : ℕ) (out : List (ℕ × ℕ)) (tape : Tape) → i < length frames → tape ≡ End
    → Answers (take i frames) out (slice_index frames i) (Ok tape) → IsTrue true ↔ IsSomeTape frames
ended-tape law frames i out Nothing low is answers = absurd cc
ended-tape law frames i out (Word cell word) low is answers = absurd cc
ended-tape law frames i out End low is answers =
    let whole = answers.1 in
    let same : (take i frames ++ slice_index frames i ∷ []) ++ drop (i + 1) frames ≡ frames = append_assoc (take i frames) (slice_index frames i ∷ []) (drop (i + 1) frames) ∙ sym (split-at frames i low) in (
      λ t. record { items = whole.items; is_tape = subst (λ l. IsTape l whole.items) same (law _ (drop (i + 1) frames) whole.items whole.is_tape) },
      λ tape. refl,
    )

-- all frames
pub whole-tape : (frames : List ℕ) (index : ℕ) (out : List (ℕ × ℕ)) (answer : Result (Unit {0}) TapeFault) (b : Bool) → length frames ≤ index
    → MatchResult answer (λ it. IsWhole (take index frames) out) (λ fault. IsFault (take index frames) fault)
    → ((all : List ℕ) (items : List Item) (fault : TapeFault) → IsTape all items → IsFault all fault → ⊥) → b ≡ is_ok answer → IsTrue b ↔ IsSomeTape frames
whole-tape frames index out (Ok it) b all whole none e = (
  λ t. record { items = whole.items; is_tape = subst (λ (part : List ℕ). IsTape part whole.items) (take_all index frames all) whole.is_tape },
  λ tape. e,
)
whole-tape frames index out (Err fault) b all is none e = (
  λ t. absurd (true≢false (sym t ∙ e)),
  λ tape. absurd (none frames tape.items fault tape.is_tape (subst (λ (part : List ℕ). IsFault part fault) (take_all index frames all) is)),
)
