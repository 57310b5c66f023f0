-- The facts with a value, as a snapshot tells them.
use Rattle.std.proofs.Common.{◌≡◌, ◌∙◌, ℕ, Bool, true, ◌&&◌, List, ap, sym, subst, eqb}
use Rattle.std.specs.Prelude.{Contains, IsTrue, None, Some}
use Rattle.std.proofs.lemmas.Bool.{and_parts, eqb-true}
use Rattle.fb_values.specs.declared.facts.Datom.{Datom}
use Rattle.fb_values.specs.declared.facts.Entry.{Entry}
use Rattle.fb_values.specs.declared.facts.Value.{Value}
use Rattle.fb_values.specs.declared.indexes.Order.{Order}
use Rattle.fb_values.specs.declared.indexes.Order.TheVariants.{Avet, Aevt}
use Rattle.fb_values.specs.declared.indexes.Probe.{Probe}
use Rattle.fb_model.specs.Facts.{facts, value_eq}
use Rattle.fb_model.specs.Rising.{IsRisingListOf}
use Rattle.fb_model.specs.Schema.{covers}
use Rattle.fb_facts.specs.FactLists.{facts_in, is_under}
use Rattle.fb_schema.proofs.Lookups.{covers-described}
use Rattle.fb_view.specs.SnapshotModel.{SnapshotModel, Stands}
use Rattle.fb_view.specs.Facts.{facts_led}
use Rattle.fb_view.proofs.Answering.{told}
use Rattle.fb_view.proofs.Probing.{led_valued}
use Rattle.fb_view.proofs.Telling.{whole_by}
use Rattle.fb_tuple_guard.specs.Sharing.{has_value, HasAllWith}

-- what the lists of a history's facts are
abbrev pub AreRising : Type 0
AreRising = (h : List Entry) (order : Order) (passes : Datom → Bool)
    → IsRisingListOf order (facts_in order passes h) (λ d. Contains (facts h) d × IsTrue (passes d))

abbrev pub valued : ℕ → Value → Probe
valued a v = record { order = Avet; e = None; a = Some a; v = Some v; t = None }

pub valued_told : (k : SnapshotModel) → Stands k → (a : ℕ) (v : Value) → covers k.schema Avet a ≡ true
    → facts_led (valued a v) k ≡ facts_in Avet (has_value a v) k.entries
valued_told k stands a v held =
    told k stands (valued a v) (has_value a v) (led_valued a v)
    (λ d there is. covered d (eqb-true d.a a (and_parts (eqb d.a a) (value_eq d.v v) is).0))
    (whole_by (λ x b w. eqb b a && value_eq w v))
  where
    covered : (d : Datom) → d.a ≡ a → IsTrue (covers (facts k.entries) Avet d.a)
    covered d same =
        sym (ap (λ ds. covers ds Avet d.a) stands.schema_is ∙ covers-described (facts k.entries) Avet d.a)
        ∙ ap (covers k.schema Avet) same ∙ held

-- what holds by the value, and all of the attribute
pub valued_all : AreRising → (h : List Entry) (a : ℕ) (v : Value) (ds : List Datom) → ds ≡ facts_in Avet (has_value a v) h
    → HasAllWith h a v ds
valued_all rising h a v ds is d there has =
    subst (λ (l : List Datom). Contains l d) (sym is) (((rising h Avet (has_value a v)).members d).1 (there, has))

pub under_all : AreRising → (h : List Entry) (a : ℕ) (v : Value) (ds : List Datom) → ds ≡ facts_in Aevt (is_under a) h
    → HasAllWith h a v ds
under_all rising h a v ds is d there has =
    subst (λ (l : List Datom). Contains l d) (sym is)
    (((rising h Aevt (is_under a)).members d).1 (there, (and_parts (eqb d.a a) (value_eq d.v v) has).0))
