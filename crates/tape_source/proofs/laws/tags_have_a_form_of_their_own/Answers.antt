use Rattle.tape_source.proofs.FormLemmas.{form_is_tag, tag_form}
use Rattle.tape_source.proofs.laws.tags_have_a_form_of_their_own.Goals as goal

pub returns : goal.returns
returns c = record { tags = tag_form; others = form_is_tag }
