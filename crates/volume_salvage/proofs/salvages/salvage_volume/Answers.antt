use Rattle.std.proofs.Common.{refl}
use Rattle.volume_salvage.proofs.SalvageLemmas.{salvaged}
use Rattle.volume_salvage.proofs.salvages.salvage_volume.Goals as goal

pub returns : goal.returns
returns c =
    salvaged c.args.volume.now.blocks c.in_ok-survey.survey c.in_ok-kept.kept.items c.deref-2.result.now c.in_ok-fitted.fitted _ c.deref.result.now c.deref-3.result.now c.deref-4.result.now c.deref-5.result.now
    c.blocks-2.result c.in_ok-survey.ensures c.deref.ensures.value c.in_ok-kept.ensures c.deref-2.ensures.value c.blocks-2.ensures.count c.in_ok-fitted.ensures c.deref-3.ensures.value c.deref-4.ensures.value
    c.in_ok-put_files.ensures c.deref-5.ensures.value c.count_kept-files.ensures refl
