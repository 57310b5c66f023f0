use Rattle.edn_duplicates.proofs.Texts.{text_inside}
use Rattle.edn_duplicates.proofs.laws.texts_say_nothing_twice.Goals as goal

pub returns : goal.returns
returns c = λ depth f here rest t. text_inside t
