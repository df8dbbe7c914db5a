use Rattle.image_files.proofs.KeepLemmas.{input-keeps, looks-at-keeps, looks-image-keeps, looks-keeps, opens-keeps, prints-keeps, refuses-keeps}
use Rattle.image_files.proofs.laws.kept_files.Goals as goal

pub returns-clause-looks : goal.returns-clause-looks
returns-clause-looks c = looks-keeps

pub returns-clause-looks_image : goal.returns-clause-looks_image
returns-clause-looks_image c = looks-image-keeps

pub returns-clause-looks_at : goal.returns-clause-looks_at
returns-clause-looks_at c = looks-at-keeps

pub returns-clause-opens : goal.returns-clause-opens
returns-clause-opens c = opens-keeps

pub returns-clause-input : goal.returns-clause-input
returns-clause-input c = input-keeps

pub returns-clause-prints : goal.returns-clause-prints
returns-clause-prints c = prints-keeps

pub returns-clause-refuses : goal.returns-clause-refuses
returns-clause-refuses c = λ why size old ending new p path. refuses-keeps path why size old ending new p
