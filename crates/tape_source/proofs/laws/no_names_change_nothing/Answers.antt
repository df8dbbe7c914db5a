use Rattle.std.proofs.Common.{refl, ap, subst, sym, ◌∙◌}
use Rattle.tape_source.specs.Looks.{IsNaming, Look, plain}
use Rattle.tape_source.proofs.TagLemmas.{tag_naming}
use Rattle.tape_source.proofs.FaultLemmas.{all_fault, reached_fault}
use Rattle.tape_source.proofs.UnnamedLemmas.{empty_text, unnamed_notes, unnamed_source}
use Rattle.tape_source.proofs.laws.no_names_change_nothing.Goals as goal

pub returns-clause-all : goal.returns-clause-all
returns-clause-all c = λ frames names text named none.
    let source = named.source in
    record {
      items = source.items;
      is_tape = source.is_tape;
      notes = unnamed_notes named.table plain source.notes;
      naming = tag_naming;
      lines = source.lines ∙ unnamed_source named.table plain source.items none refl refl source.is_tape.is_prefix.3;
      says = source.says;
    }

pub returns-clause-reached : goal.returns-clause-reached
returns-clause-reached c = λ frames starts names text named none.
    let source = named.source in
    record {
      look = named.look;
      source = record {
        items = source.items;
        is_tape = source.is_tape;
        notes = unnamed_notes named.table named.look source.notes;
        naming = subst (λ (l : Look). IsNaming l.name) (sym named.told) tag_naming;
        lines =
            source.lines
            ∙ unnamed_source named.table named.look source.items none (ap (λ (l : Look). l.name) named.told) (ap (λ (l : Look). l.has_name) named.told)
            source.is_tape.is_prefix.3;
        says = source.says;
      };
      told = named.told;
      reached = named.reached;
    }

pub returns-clause-empty : goal.returns-clause-empty
returns-clause-empty c = empty_text

pub returns-clause-all_fault : goal.returns-clause-all_fault
returns-clause-all_fault c = all_fault

pub returns-clause-reached_fault : goal.returns-clause-reached_fault
returns-clause-reached_fault c = reached_fault
