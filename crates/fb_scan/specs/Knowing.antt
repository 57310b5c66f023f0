-- What a scan knows of the attribute at which it ends.
-- This project's own choice.
use Rattle.std.specs.Prelude.{ℕ, List, Option, None}
use Rattle.std.specs.Option.{option_map}
use Rattle.fb_values.specs.declared.facts.Entry.{Entry}
use Rattle.fb_values.specs.declared.indexes.Order.{Order}
use Rattle.fb_model.specs.Facts.{facts}
use Rattle.fb_model.specs.Schema.{covers}
use Rattle.fb_scan.specs.declared.ends.End.{End}
use Rattle.fb_scan.specs.declared.ends.End.TheVariants.{Never, Behind, Before}
use Rattle.fb_scan.specs.declared.held.Known.{Known}

-- the attribute at which a scan ends
abbrev pub last_attribute : End → Option ℕ
last_attribute Never = None
last_attribute (Behind probe) = probe.now.a
last_attribute (Before probe) = probe.now.a

-- that attribute, with whether the index holds it
abbrev pub known_at : List Entry → Order → End → Option Known
known_at h order end =
    option_map (λ a. record { a = a; is_held = covers (facts h) order a }) (last_attribute end)
