use Rattle.std.proofs.Common.{◌∙◌, ap, subst, sym, true, ◌≡◌}
use Rattle.name_spelling.specs.Laws.{are_safe}
use Rattle.name_spelling.specs.Reading.{typed_name}
use Rattle.archive_many.proofs.HostLemmas.{names-back}
use Rattle.archive_many.proofs.VolumeLemmas.{each-named, names-differ}
use Rattle.archive_many.proofs.laws.host_names_come_back.Goals as goal

pub returns : goal.returns
returns c = record {
  back =
      λ blocks before following file folder text name small is shown names.
      names-back folder text name (subst (λ l. are_safe l ≡ true) (sym shown) (c.safe_names.ensures file.name)) names
      ∙ ap typed_name shown
      ∙ c.typed_names.ensures file.name small (each-named c.sound_directory.ensures blocks before following file is);
  differ = names-differ c.shown_names.ensures c.sound_directory.ensures;
}
