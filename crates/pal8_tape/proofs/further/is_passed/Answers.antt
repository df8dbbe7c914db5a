use Rattle.std.proofs.Common.{Err, ap, subst, sym, ◌∙◌}
use Rattle.pal_lex.specs.Text.{text_of}
use Rattle.pal8_asm.specs.Assembling.{ReadsText}
use Rattle.pal8_asm.specs.Sources.{remainder_of_text}
use Rattle.pal8_asm.specs.declared.faults.AsmFault.{AsmFault}
use Rattle.pal8_tape.specs.Further.{is_ok}
use Rattle.pal8_tape.proofs.further.is_passed.Goals as goal

pub returns-in-Err-At-clause-passed : goal.returns-in-Err-At-clause-passed
returns-in-Err-At-clause-passed c =
    let fails = subst (λ (f : AsmFault). ReadsText c.args.options (text_of c.deref.result.now) (Err f) c.read.new.self) c.in-Err-At.field-0-is
    (c.in-Err-At.ensures c.args.options c.new-assembler.ensures) in
    sym (ap (λ t. is_ok (remainder_of_text c.args.options (text_of t))) (sym (c.deref.ensures.value ∙ c.in_ok-join.ensures.text)) ∙ ap is_ok fails)
