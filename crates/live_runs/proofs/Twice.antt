-- Changes of a changed list are changes of the list.
use Rattle.std.proofs.Common.{◌≡◌, ◌⊎◌, inl, inr, List}
use Rattle.std.specs.Prelude.{◌↔◌, Contains}
use Rattle.fb_values.specs.declared.facts.Datom.{Datom}
use Rattle.fb_values.specs.declared.indexes.Order.{Order}
use Rattle.fb_values.specs.Rising.{IsRising}
use Rattle.live_runs.specs.Changed.{HasNoTwins, changed, MayChange}
use Rattle.live_runs.proofs.Changed.{IsOfChanged, changed_rises, from_changed, into_changed, changed_is, decided}

-- Two changes, of which the second one follows the first, as one: what meets is in neither.
pub record AreTogether (order : Order) (gone0 come0 gone1 come1 gone come : List Datom) : Type 0 where
  pub gone_rises : IsRising order gone
  pub come_rises : IsRising order come
  pub goes : (d : Datom) → Contains gone d
      ↔ ((Contains gone0 d × (Contains come1 d → ⊥)) ⊎ (Contains gone1 d × (Contains come0 d → ⊥)))
  pub comes : (d : Datom) → Contains come d
      ↔ ((Contains come0 d × (Contains gone1 d → ⊥)) ⊎ (Contains come1 d × (Contains gone0 d → ⊥)))

module _ (order : Order) (table gone0 come0 gone1 come1 gone come base : List Datom) (single : HasNoTwins table)
    (may0 : MayChange order table gone0 come0 base) (may1 : MayChange order table gone1 come1 (changed order gone0 come0 base))
    (both : AreTogether order gone0 come0 gone1 come1 gone come) where
  -- what goes second and did not come first was in the list
  was_there : (d : Datom) → Contains gone1 d → (Contains come0 d → ⊥) → Contains base d × (Contains gone0 d → ⊥)
  was_there d goes not_new =
      elim (from_changed order table gone0 come0 base single may0 d (may1.there d goes)) [
        | inl stayed ↦ stayed
        | inr new ↦ absurd (not_new new)
      ]

  not_before : (d : Datom) → Contains come1 d → (Contains gone0 d → ⊥) → Contains base d → ⊥
  not_before d comes stays inside = may1.fresh d comes (into_changed order table gone0 come0 base single may0 d (inl (inside, stays)))

  pub together_may : MayChange order table gone come base
  together_may =
      record {
        rising = may0.rising;
        gone_rises = both.gone_rises;
        come_rises = both.come_rises;
        within = may0.within;
        come_within = λ d inside. elim ((both.comes d).0 inside) [ inl a ↦ may0.come_within d a.0 | inr b ↦ may1.come_within d b.0 ];
        there = λ d inside. elim ((both.goes d).0 inside) [ inl a ↦ may0.there d a.0 | inr b ↦ (was_there d b.0 b.1).0 ];
        fresh = λ d inside was. elim ((both.comes d).0 inside) [ inl a ↦ may0.fresh d a.0 was | inr b ↦ not_before d b.0 b.1 was ];
      }

  pub twice : changed order gone1 come1 (changed order gone0 come0 base) ≡ changed order gone come base
  twice =
      changed_is order table gone1 come1 (changed order gone0 come0 base) single may1 (changed order gone come base)
      (changed_rises order table gone come base single together_may) from into
    where
      from : (d : Datom) → Contains (changed order gone come base) d → IsOfChanged gone1 come1 (changed order gone0 come0 base) d
      from d inside =
          elim (from_changed order table gone come base single together_may d inside) [
            | inl stayed ↦ elim (decided order table gone0 d single (λ x x_in. may0.within x (may0.there x x_in)) (may0.within d stayed.0)) [
              | inl went ↦ elim (decided order table come1 d single may1.come_within (may0.within d stayed.0)) [
                | inl back ↦ inr back
                | inr out ↦ absurd (stayed.1 ((both.goes d).1 (inl (went, out))))
              ]
              | inr stays ↦
                  inl (
                    into_changed order table gone0 come0 base single may0 d (inl (stayed.0, stays)),
                    λ goes. stayed.1 ((both.goes d).1 (inr (goes, λ new. may0.fresh d new stayed.0))),
                  )
            ]
            | inr comes ↦ elim ((both.comes d).0 comes) [
              | inl a ↦ inl (into_changed order table gone0 come0 base single may0 d (inr a.0), a.1)
              | inr b ↦ inr b.0
            ]
          ]

      into : (d : Datom) → IsOfChanged gone1 come1 (changed order gone0 come0 base) d → Contains (changed order gone come base) d
      into d (inl stayed) =
          into_changed order table gone come base single together_may d (elim (from_changed order table gone0 come0 base single may0 d stayed.0) [
            | inl was ↦ inl (was.0, λ goes. elim ((both.goes d).0 goes) [ inl a ↦ was.1 a.0 | inr b ↦ stayed.1 b.0 ])
            | inr new ↦ inr ((both.comes d).1 (inl (new, stayed.1)))
          ])
      into d (inr comes) =
          into_changed order table gone come base single together_may d
          (elim (decided order table gone0 d single (λ x x_in. may0.within x (may0.there x x_in)) (may1.come_within d comes)) [
            | inl went ↦ inl (
              may0.there d went,
              λ goes. elim ((both.goes d).0 goes) [
                | inl a ↦ a.1 comes
                | inr b ↦ may1.fresh d comes (may1.there d b.0)
              ],
            )
            | inr stays ↦ inr ((both.comes d).1 (inr (comes, stays)))
          ])
