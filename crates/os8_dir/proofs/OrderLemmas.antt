-- Names are in order of their words.
use Rattle.std.proofs.Common.{ℕ, ◌<◌, List, [], ◌∷◌, arith, inl, inr}
use Rattle.os8_dir.specs.Names.{name_of, IsFourWords, IsBefore}

pub name_of-order : (name other : List ℕ) → IsFourWords name → IsFourWords other → IsBefore name other → name_of name < name_of other
name_of-order (a ∷ b ∷ c ∷ d ∷ []) (e ∷ f ∷ g ∷ h ∷ []) four four' before = elim before [
  | inl first ↦ omega arith
  | inr following ↦ elim following.1 [
    | inl second ↦ omega arith
    | inr rest ↦ elim rest.1 [
      | inl third ↦ omega arith
      | inr last ↦ elim last.1 [ inl fourth ↦ omega arith | inr none ↦ absurd none.1 ]
    ]
  ]
]
name_of-order [] other four four' before = absurd four
name_of-order (a ∷ []) other four four' before = absurd four
name_of-order (a ∷ b ∷ []) other four four' before = absurd four
name_of-order (a ∷ b ∷ c ∷ []) other four four' before = absurd four
name_of-order (a ∷ b ∷ c ∷ d ∷ x ∷ xs) other four four' before = absurd four
name_of-order (a ∷ b ∷ c ∷ d ∷ []) [] four four' before = absurd four'
name_of-order (a ∷ b ∷ c ∷ d ∷ []) (e ∷ []) four four' before = absurd four'
name_of-order (a ∷ b ∷ c ∷ d ∷ []) (e ∷ f ∷ []) four four' before = absurd four'
name_of-order (a ∷ b ∷ c ∷ d ∷ []) (e ∷ f ∷ g ∷ []) four four' before = absurd four'
name_of-order (a ∷ b ∷ c ∷ d ∷ []) (e ∷ f ∷ g ∷ h ∷ x ∷ xs) four four' before = absurd four'
