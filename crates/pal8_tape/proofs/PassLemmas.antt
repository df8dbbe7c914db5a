-- Statements, one at a time.
use Rattle.std.proofs.Common.{◌≡◌, Bool, true, false, if◌then◌else◌, is_some, None, Result, Ok, Err, List, refl, sym, ap, subst, ◌∙◌}
use Rattle.pal8_lex.specs.declared.rules.End.{End}
use Rattle.pal8_lex.specs.declared.rules.End.TheVariants as end
use Rattle.pal8_asm.specs.Sources.{Entry, PassResult, Remainder, Statement, with_next, with_selected, with_skipped}
use Rattle.pal8_places.specs.Brackets.{brackets_after, is_selected}
use Rattle.pal8_asm.specs.Sources as asm
use Rattle.pal8_asm.specs.Walking.{Passes, remainder_after}
use Rattle.pal8_asm.specs.declared.walks.Walk.{Walk}
use Rattle.pal8_places.specs.declared.faults.Code.{Code}
use Rattle.pal8_places.specs.declared.faults.Stop.{Stop}
use Rattle.pal8_places.specs.declared.faults.Stop.TheVariants.{At}
use Rattle.pal8_asm.specs.declared.faults.Fault.{Fault}
use Rattle.pal8_tape.specs.Passing.{Follows, FollowsBy, PassState, is_settled, remainder_at}
use Rattle.pal8_tape.specs.Steps.{is_dollar}

-- a statement with a fault
pub fault_settles : (s : Statement) (old new : Walk) (stop : Stop) (why : Code) → stop ≡ At why → Passes s old (Err stop) new → (entries : List Entry)
    → is_settled (with_selected s (remainder_after old entries None)) ≡ true
fault_settles s old new stop why is passes entries = ap is_settled (subst (λ (f : Stop). Passes s old (Err f) new) is passes entries)

-- ## A pass

-- after a fault or the `$` nothing changes
pub settled_stays : (s : Statement) (left : PassResult) → is_settled left ≡ true → is_settled (with_next s left) ≡ true
settled_stays s (Err fault) settled = refl
settled_stays s (Ok left) settled =
    ap (λ t. is_settled (if t then Ok left else (if is_selected left.brackets then with_selected s left else Ok (with_skipped s left)))) settled ∙ settled

module _ (s : Statement) (p : PassState) (left : PassResult) where
  pub over_stays : p.is_over ≡ true → Follows p left → Follows p (with_next s left)
  over_stays over follows =
      subst (λ o. FollowsBy o p (with_next s left)) (sym over) (settled_stays s left (subst (λ o. FollowsBy o p left) over follows))

  pub going : p.is_over ≡ false → Follows p left → (entries : List Entry) × (left ≡ Ok (remainder_at p.names p.position entries p.brackets None))
  going over follows = subst (λ o. FollowsBy o p left) over follows

  -- a statement that isn't selected
  pub skipped : (new : List Bool) → p.is_over ≡ false → is_selected p.brackets ≡ false → new ≡ brackets_after s.end false p.brackets → Follows p left
      → FollowsBy false record { names = p.names; position = p.position; brackets = new; is_over = false } (with_next s left)
  skipped new over out is follows =
      let it = going over follows in (
        it.0,
        ap (with_next s) it.1 ∙ ap (λ t. if t then with_selected s (remainder_at p.names p.position it.0 p.brackets None) else Ok (with_skipped s (remainder_at p.names p.position it.0 p.brackets None))) out
            ∙ ap (λ b. Ok (remainder_at p.names p.position it.0 b None)) (sym is),
      )

  module _ (over : p.is_over ≡ false) (in_it : is_selected p.brackets ≡ true) (follows : Follows p left) where
    next_is : with_next s left ≡ with_selected s (remainder_at p.names p.position (going over follows).0 p.brackets None)
    next_is =
        let it = going over follows in
        ap (with_next s) it.1 ∙ ap (λ t. if t then with_selected s (remainder_at p.names p.position it.0 p.brackets None) else Ok (with_skipped s (remainder_at p.names p.position it.0 p.brackets None))) in_it

    -- one that is selected, with a fault
    pub fails : is_settled (with_selected s (remainder_at p.names p.position (going over follows).0 p.brackets None)) ≡ true → is_settled (with_next s left) ≡ true
    fails settled = ap is_settled next_is ∙ settled

    abbrev pub Leaves : PassState → Type 0
    Leaves new = (more : List Entry)
        × (with_selected s (remainder_at p.names p.position (going over follows).0 p.brackets None) ≡ Ok (remainder_at new.names new.position more new.brackets (asm.end_of s)))

    ends_by : (e : End) (new : PassState) → s.end ≡ e → new.is_over ≡ is_dollar e
        → Leaves new → Follows new (with_next s left)
    ends_by end.Dollar new is done leaves =
        subst (λ o. FollowsBy o new (with_next s left)) (sym done) (ap is_settled (next_is ∙ leaves.1) ∙ ap (λ e. is_some (asm.dollar_at e record { line = s.line; start = s.at })) is)
    ends_by end.Semicolon new is done leaves = subst (λ o. FollowsBy o new (with_next s left)) (sym done)
        (leaves.0, next_is ∙ leaves.1 ∙ ap (λ e. Ok (remainder_at new.names new.position leaves.0 new.brackets (asm.dollar_at e record { line = s.line; start = s.at }))) is)
    ends_by end.Line new is done leaves = subst (λ o. FollowsBy o new (with_next s left)) (sym done)
        (leaves.0, next_is ∙ leaves.1 ∙ ap (λ e. Ok (remainder_at new.names new.position leaves.0 new.brackets (asm.dollar_at e record { line = s.line; start = s.at }))) is)
    ends_by end.Open new is done leaves = subst (λ o. FollowsBy o new (with_next s left)) (sym done)
        (leaves.0, next_is ∙ leaves.1 ∙ ap (λ e. Ok (remainder_at new.names new.position leaves.0 new.brackets (asm.dollar_at e record { line = s.line; start = s.at }))) is)
    ends_by end.Close new is done leaves = subst (λ o. FollowsBy o new (with_next s left)) (sym done)
        (leaves.0, next_is ∙ leaves.1 ∙ ap (λ e. Ok (remainder_at new.names new.position leaves.0 new.brackets (asm.dollar_at e record { line = s.line; start = s.at }))) is)

    -- one that is selected
    pub taken : (new : PassState) → new.is_over ≡ is_dollar s.end
        → Leaves new → Follows new (with_next s left)
    taken new done leaves = ends_by s.end new refl done leaves
