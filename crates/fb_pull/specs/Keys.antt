-- The key of an item, as the definitions see it.
-- Datomic, Pull (:as).
use Rattle.edn_model.specs.Form as edn
use Rattle.fb_pull.specs.declared.keys.Key.{Key}
use Rattle.fb_pull.specs.declared.keys.Key.TheVariants.{Word, Str}

abbrev pub model_key : Key → edn.Form
model_key (Word text) = edn.keyword text.now
model_key (Str text) = edn.string text.now
