-- The patterns of the program, as the definitions see them.
-- Datomic, Pull.
use Rattle.std.specs.Prelude.{List, [], ◌∷◌, map}
use Rattle.std.specs.Arc.{arc_value}
use Rattle.std.specs.Option.{option_map}
use Rattle.edn_model.specs.Form as edn
use Rattle.edn_form.specs.View.{form_of}
use Rattle.pull_model.specs.Patterns as model
use Rattle.pull_model.specs.Reading as reading
use Rattle.pull_pattern.specs.declared.options.OptionName.{OptionName}
use Rattle.pull_pattern.specs.declared.options.OptionName.TheVariants.{As, Default}
use Rattle.pull_pattern.specs.declared.options.OptionName.TheVariants.{Limit as LimitName}
use Rattle.pull_pattern.specs.declared.patterns.Limit.{Limit}
use Rattle.pull_pattern.specs.declared.patterns.Limit.TheVariants.{First, All}
use Rattle.pull_pattern.specs.declared.patterns.Label.{Label}
use Rattle.pull_pattern.specs.declared.patterns.Label.TheVariants.{Key, Str}
use Rattle.pull_pattern.specs.declared.patterns.Options.{Options}
use Rattle.pull_pattern.specs.declared.patterns.Item.{Item}
use Rattle.pull_pattern.specs.declared.patterns.Below.{Below}
use Rattle.pull_pattern.specs.declared.patterns.Pattern.{Pattern}
use Rattle.pull_pattern.specs.declared.patterns.Below.TheFolds.{fold-Below, fold-Item, fold-Pattern}
use Rattle.pull_pattern.specs.declared.patterns.Below.TheOpen.{Below-F, Item-F, Pattern-F}

abbrev pub model_option : OptionName → reading.OptionName
model_option As = reading.as_name
model_option Default = reading.default_name
model_option LimitName = reading.limit_name

abbrev pub model_limit : Limit → model.Limit
model_limit (First n) = model.first n
model_limit All = model.all

abbrev pub model_label : Label → edn.Form
model_label (Key k) = edn.keyword k
model_label (Str s) = edn.string s

abbrev pub model_options : Options → model.Options
model_options o =
    record {
      renamed = option_map model_label o.renamed;
      default = option_map (λ f. form_of (arc_value f)) o.default;
      limit = option_map model_limit o.limit;
    }

-- the items in order
abbrev pub pattern_from : List model.Item → model.Pattern
pattern_from [] = model.no_items
pattern_from (i ∷ is) = model.item i (pattern_from is)

-- one level, with each item inside already seen as such
abbrev pub item_step : Item-F model.Below model.Item model.Pattern → model.Item
item_step Item-F.Wildcard = model.wildcard
item_step (Item-F.Own options) = model.own (model_options options)
item_step (Item-F.Attribute name options below) = model.attribute name (model_options options) below

abbrev pub below_step : Below-F model.Below model.Item model.Pattern → model.Below
below_step Below-F.Usual = model.usual
below_step (Below-F.Under pattern) = model.under pattern
below_step (Below-F.Times n) = model.times n
below_step Below-F.Unlimited = model.unlimited

abbrev pub pattern_step : Pattern-F model.Below model.Item model.Pattern → model.Pattern
pattern_step p = pattern_from (arc_value p.items).items

abbrev pub model_item : Item → model.Item
model_item = fold-Item model.Below model.Item model.Pattern below_step item_step pattern_step

abbrev pub model_below : Below → model.Below
model_below = fold-Below model.Below model.Item model.Pattern below_step item_step pattern_step

abbrev pub model_pattern : Pattern → model.Pattern
model_pattern = fold-Pattern model.Below model.Item model.Pattern below_step item_step pattern_step

-- some items as a pattern
abbrev pub model_items : List Item → List model.Item
model_items = map model_item

abbrev pub pattern_of : List Item → model.Pattern
pattern_of items = pattern_from (model_items items)
