-- What a prefix keeps after one more leader frame, and after one more word.
use Rattle.std.proofs.Common.{◌≡◌, ℕ, ◌<◌, ◌⊎◌, inl, inr, Bool, not, true, false, Option, Some, None, ◌∙◌, ap, refl, sym, subst, arith, append_assoc, append-nil, List, [], ◌∷◌, ◌++◌}
use Rattle.bin_tape.specs.Items.{Item, Leader, Word, IsPrefix, frames_of_items, has_origin, words_but_last}
use Rattle.bin_tape.specs.Tape.{IsPart}
use Rattle.bin_tape.specs.Prefix.{ReadsItems, KeepsFrames, IsLast, part_of}
use Rattle.bin_tape.specs.declared.prefixes.Prefix.{Prefix}
use Rattle.bin_tape.specs.declared.prefixes.LastWord.{LastWord}
use Rattle.bin_tape.proofs.ItemLemmas.{words_none, words_some}

-- with no first frame of a pair, the prefix stands after whole items
pub reads_whole : (prefix : Prefix) (items : List Item) (part : List ℕ) → ReadsItems prefix items part → prefix.first ≡ None → ReadsItems prefix items []
reads_whole prefix items part r none =
    subst (λ (p : List ℕ). ReadsItems prefix items p) (sym r.first ∙ ap part_of none) r

pub part_none : (prefix : Prefix) (items : List Item) (part : List ℕ) → ReadsItems prefix items part → prefix.first ≡ None → part ≡ []
part_none prefix items part r none = sym r.first ∙ ap part_of none

not_true : (b : Bool) → not b ≡ true → b ≡ false
not_true true h = cc
not_true false h = refl

pub leader_kept : (prefix later : Prefix) (items : List Item) (part : List ℕ) (frame : ℕ)
    → ReadsItems prefix items part → prefix.first ≡ None → not prefix.has_origin ≡ true → (frame ≡ 0) ⊎ (frame ≡ 128)
    → ((before : List Item) (f : ℕ) → ReadsItems prefix before [] → IsPrefix (Leader f ∷ before) → ReadsItems later (Leader f ∷ before) [])
    → KeepsFrames later (frames_of_items items ++ part ++ frame ∷ []) (words_but_last items)
leader_kept prefix later items part frame r none begins leader step = record {
  items = Leader frame ∷ items;
  part = [];
  reads = step items frame (reads_whole prefix items part r none) (leader, is_false, r.is_prefix);
  frames = rw (part_none prefix items part r none) (simp (append_assoc, append-nil));
  words = refl;
}
  where
    is_false : has_origin items ≡ false
    is_false = sym r.origin ∙ not_true prefix.has_origin begins

-- after the first frame of a word stands an origin
pub part_origin : (items : List Item) (high : ℕ) → IsPart items (high ∷ []) → high < 64 → has_origin items ≡ true
part_origin items high part small = elim part.1 [ inl large ↦ absurd (omega (arith, large, small)) | inr origin ↦ origin ]

pub word_none : (prefix later : Prefix) (items : List Item) (high low : ℕ) → high < 64 → prefix.last ≡ None
    → ReadsItems prefix items (high ∷ [])
    → ((before : List Item) (part : List ℕ) → ReadsItems prefix before part → has_origin before ≡ true → ReadsItems later (Word high low ∷ before) [])
    → KeepsFrames later (frames_of_items items ++ high ∷ [] ++ low ∷ []) (words_but_last items)
word_none prefix later items high low small none r step = record {
  items = Word high low ∷ items;
  part = [];
  reads = step items (high ∷ []) r (part_origin items high r.begun small);
  frames = simp (append_assoc, append-nil);
  words = sym (words_none items (subst (λ (l : Option LastWord). IsLast l items) none r.last));
}

pub word_some : (prefix later : Prefix) (items : List Item) (high low : ℕ) (last : LastWord) → high < 64 → prefix.last ≡ Some last
    → ReadsItems prefix items (high ∷ [])
    → ((before : List Item) (part : List ℕ) → ReadsItems prefix before part → has_origin before ≡ true → ReadsItems later (Word high low ∷ before) [])
    → KeepsFrames later (frames_of_items items ++ high ∷ [] ++ low ∷ []) (words_but_last items ++ (last.cell, last.word) ∷ [])
word_some prefix later items high low last small some r step = record {
  items = Word high low ∷ items;
  part = [];
  reads = step items (high ∷ []) r (part_origin items high r.begun small);
  frames = simp (append_assoc, append-nil);
  words = sym (words_some items last (subst (λ (l : Option LastWord). IsLast l items) some r.last));
}
