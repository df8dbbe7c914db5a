-- Plain command lines of `get` are taken, each by itself.
use Rattle.command_table.proofs.Names.{codes, refl, [], ◌∷◌}
use Rattle.std.proofs.Common.{ℕ, List}
use Rattle.command_line.specs.Plain.{IsTaken, alone, in_place, with_value}
use Rattle.command_line.proofs.EnteredLemmas.{taken}

pub get-file : (image file text : List ℕ) → IsTaken (codes "get") (in_place (codes "IMAGE") image ∷ in_place (codes "NAME") file ∷ [])
get-file image file text = taken (codes "get") (in_place (codes "IMAGE") image ∷ in_place (codes "NAME") file ∷ []) refl

pub get-text : (image file text : List ℕ) → IsTaken (codes "get") (in_place (codes "IMAGE") image ∷ in_place (codes "NAME") file ∷ alone (codes "text") ∷ [])
get-text image file text = taken (codes "get") (in_place (codes "IMAGE") image ∷ in_place (codes "NAME") file ∷ alone (codes "text") ∷ []) refl

pub get-tape : (image file text : List ℕ) → IsTaken (codes "get") (in_place (codes "IMAGE") image ∷ in_place (codes "NAME") file ∷ alone (codes "tape") ∷ [])
get-tape image file text = taken (codes "get") (in_place (codes "IMAGE") image ∷ in_place (codes "NAME") file ∷ alone (codes "tape") ∷ []) refl

pub get-bin : (image file text : List ℕ) → IsTaken (codes "get") (in_place (codes "IMAGE") image ∷ in_place (codes "NAME") file ∷ alone (codes "bin") ∷ [])
get-bin image file text = taken (codes "get") (in_place (codes "IMAGE") image ∷ in_place (codes "NAME") file ∷ alone (codes "bin") ∷ []) refl

pub get-at : (image file text : List ℕ) → IsTaken (codes "get") (in_place (codes "IMAGE") image ∷ with_value (codes "at") text ∷ [])
get-at image file text = taken (codes "get") (in_place (codes "IMAGE") image ∷ with_value (codes "at") text ∷ []) refl

pub get-into : (image file text : List ℕ) → IsTaken (codes "get") (in_place (codes "IMAGE") image ∷ in_place (codes "NAME") file ∷ with_value (codes "into") text ∷ [])
get-into image file text = taken (codes "get") (in_place (codes "IMAGE") image ∷ in_place (codes "NAME") file ∷ with_value (codes "into") text ∷ []) refl

pub get-lenient : (image file text : List ℕ) → IsTaken (codes "get") (in_place (codes "IMAGE") image ∷ in_place (codes "NAME") file ∷ alone (codes "lenient") ∷ [])
get-lenient image file text = taken (codes "get") (in_place (codes "IMAGE") image ∷ in_place (codes "NAME") file ∷ alone (codes "lenient") ∷ []) refl

pub get-all : (image file text : List ℕ) → IsTaken (codes "get") (in_place (codes "IMAGE") image ∷ alone (codes "all") ∷ with_value (codes "into") text ∷ [])
get-all image file text = taken (codes "get") (in_place (codes "IMAGE") image ∷ alone (codes "all") ∷ with_value (codes "into") text ∷ []) refl

pub get-blocks : (image file text : List ℕ) → IsTaken (codes "get") (in_place (codes "IMAGE") image ∷ alone (codes "blocks") ∷ in_place (codes "NAME") file ∷ in_place (codes "NAME") text ∷ [])
get-blocks image file text = taken (codes "get") (in_place (codes "IMAGE") image ∷ alone (codes "blocks") ∷ in_place (codes "NAME") file ∷ in_place (codes "NAME") text ∷ []) refl
