use Rattle.program_laws.proofs.CharacterLemmas.{bare-says, device-says, file-says, text-has}
use Rattle.program_laws.proofs.characters.characters_of_words.Goals as goal

pub returns-clause-text : goal.returns-clause-text
returns-clause-text c options own steps string size = text-has options string

pub returns-clause-file : goal.returns-clause-file
returns-clause-file c = file-says

pub returns-clause-bare : goal.returns-clause-bare
returns-clause-bare c = bare-says

pub returns-clause-device : goal.returns-clause-device
returns-clause-device c = device-says
