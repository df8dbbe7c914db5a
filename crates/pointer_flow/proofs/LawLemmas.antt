-- The laws of the flow.
use Rattle.std.proofs.Common.{◌≡◌, ℕ, Bool, true}
use Rattle.pointer_flow.specs.Programs.{Program}
use Rattle.pointer_flow.specs.Flow.{IsDirect, IsInFlow, IsKnown, IsLeftOut, IsWide, IsCandidate, NoCell, NoPointer, start, goes, Writes}
use Rattle.pointer_flow.specs.Laws.{IsClosed}
use Rattle.pointer_flow.specs.declared.states.State.{State}
use Rattle.pointer_flow.proofs.GrowLemmas.{reach_grows, writes_grow}

pub least : (p : Program) (has : State → Bool) → IsClosed p has → (s : State) → IsInFlow p s → has s ≡ true
least p has closed _ (start cell among opens) = closed.starts cell among opens
least p has closed _ (goes s next word pointer skips before given followed may is opens) =
    closed.next s next word pointer skips (least p has closed s before) given followed may is opens

pub direct_wide : (p : Program) (s : State) → IsDirect p s → IsWide p s
direct_wide p s direct = reach_grows p NoPointer (IsCandidate p) NoCell NoCell (λ pointer word never. absurd never) (λ cell never. never) s direct

pub flow_wide : (p : Program) (s : State) → IsInFlow p s → IsWide p s
flow_wide p s in_flow =
    reach_grows p (IsKnown p) (IsCandidate p) (IsLeftOut p) NoCell (λ pointer word known. known.candidate) (λ cell never. absurd never) s in_flow

pub kept : (p : Program) (pointer word : ℕ) → IsKnown p pointer word → (s : State) → IsInFlow p s → Writes p (IsKnown p) s pointer → ⊥
kept p pointer word known s in_flow writes =
    known.unwritten (record {
      writer = s;
      wide = flow_wide p s in_flow;
      writes = writes_grow p (IsKnown p) (IsCandidate p) s pointer (λ other value is. is.candidate) writes;
    })
