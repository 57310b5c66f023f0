-- The facts that a probe leads to, and the probes by which a snapshot looks for a value.
-- This project's own choice.
use Rattle.std.specs.Prelude.{◌≡◌, ◌⊎◌, ℕ, true, List, None, Some}
use Rattle.fb_values.specs.declared.facts.Datom.{Datom}
use Rattle.fb_values.specs.declared.facts.Value.{Value}
use Rattle.fb_values.specs.declared.indexes.Order.TheVariants.{Eavt, Aevt, Avet}
use Rattle.fb_values.specs.declared.indexes.Probe.{Probe}
use Rattle.fb_model.specs.Schema.{covers}
use Rattle.seg_tree.specs.Indexes.{tree_in}
use Rattle.seg_tree.specs.Nodes.{tree_datoms}
use Rattle.fb_index.specs.Ranges.{led_to}
use Rattle.fb_index.specs.Sides.{whole}
use Rattle.fb_index.specs.declared.sides.Extent.TheVariants.{Held}
use Rattle.fb_view.specs.SnapshotModel.{SnapshotModel}

-- what the probe leads to, of what holds
abbrev pub facts_led : Probe → SnapshotModel → List Datom
facts_led probe k =
    led_to probe (whole Held probe.order (tree_datoms (tree_in k.now probe.order)) k.live)

-- the probe gives the triple, and may leave out the value
abbrev pub IsTripleProbe : ℕ → ℕ → Value → Probe → Type 0
IsTripleProbe e a v probe =
    (probe ≡ record { order = Eavt; e = Some e; a = Some a; v = Some v; t = None })
    ⊎ (probe ≡ record { order = Eavt; e = Some e; a = Some a; v = None; t = None })

-- the probe gives the attribute in AEVT;
-- or where the facts say that AVET holds the attribute, in AVET, maybe with the value
abbrev pub IsValueProbe : List Datom → ℕ → Value → Probe → Type 0
IsValueProbe facts a v probe =
    (probe ≡ record { order = Aevt; e = None; a = Some a; v = None; t = None })
    ⊎ ((covers facts Avet a ≡ true)
    × ((probe ≡ record { order = Avet; e = None; a = Some a; v = Some v; t = None })
    ⊎ (probe ≡ record { order = Avet; e = None; a = Some a; v = None; t = None })))
