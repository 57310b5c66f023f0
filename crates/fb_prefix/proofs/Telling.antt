-- What has the prefix that is sought is not below the probe, where that prefix is whole.
use Rattle.std.proofs.Common.{◌≡◌, ℕ, ◌-◌, ◌^◌, ◌<◌, Bool, true, false, not, ◌&&◌, List, [], ◌∷◌, length, take, Option, Some, None, refl, arith}
use Rattle.std.specs.Option.{is_some}
use Rattle.std.specs.Ordering.{nat_cmp, is_gt}
use Rattle.std.specs.Cmp.{tied_back}
use Rattle.std.specs.Cmp.Lexicographic.{slice_cmp}
use Rattle.std.specs.declared.cmp.Ordering.TheVariants.{Equal}
use Rattle.fb_values.specs.declared.facts.Value.{Value}
use Rattle.fb_values.specs.declared.facts.Value.TheVariants.{Keyword, Str, Bool as Boolean, Long, Ref, Instant}
use Rattle.fb_values.specs.declared.facts.Value.TheVariants.{Uuid, Symbol, Uri}
use Rattle.fb_values.specs.declared.facts.Datom.{Datom}
use Rattle.fb_values.specs.declared.indexes.Order.{Order}
use Rattle.fb_values.specs.declared.indexes.Order.TheVariants.{Eavt, Aevt, Avet, Vaet}
use Rattle.fb_values.specs.declared.indexes.Probe.{Probe}
use Rattle.fb_values.specs.Orders.{value_cmp, key_of, given}
use Rattle.fb_values.specs.OrderLaws.{value_cmp_total}
use Rattle.fb_prefix.specs.declared.parts.Part.{Part}
use Rattle.fb_prefix.specs.declared.prefixes.Prefix.{Prefix}
use Rattle.fb_prefix.specs.Parts.{entity_part, attribute_part, value_part, sixteen}
use Rattle.fb_prefix.specs.Prefixes.{pair, put, behind_value, value_and_entity, prefix_in}
use Rattle.fb_prefix.specs.Probes.{sought_at, sought_in, is_below}
use Rattle.fb_prefix.proofs.Agreeing.{nat_equal, pair_same, put_same}
use Rattle.fb_prefix.proofs.Contents.{held_agrees, attributes_agree, attribute_below, values_agree, long_range, short_range, value_below}
use Rattle.fb_prefix.proofs.Law.{entity_below}
use Rattle.fb_prefix.proofs.Least.{probe_at}

abbrev Tied : List Value → List Value → Type 0
Tied [] key = Unit {0}
Tied (v ∷ g) [] = ⊥
Tied (v ∷ g) (c ∷ key) = (value_cmp c v ≡ Equal) × Tied g key

tied_not_below : (g key : List Value) → Tied g key → is_gt (slice_cmp value_cmp g (take (length g) key)) ≡ false
tied_not_below [] key is = refl
tied_not_below (v ∷ g) [] is = absurd is
tied_not_below (v ∷ g) (c ∷ key) is = rw (tied_back value_cmp_total c v is.0) (tied_not_below g key is.1)

three : (a b c : Bool) → a && b && c ≡ true → (a ≡ true) × (b ≡ true) × (c ≡ true)
three true true true is = (refl, refl, refl)
three true true false is = absurd (cc)
three true false c is = absurd (cc)
three false b c is = absurd (cc)

four : (a b c d : Bool) → a && b && c && d ≡ true → (a ≡ true) × (b ≡ true) × (c ≡ true) × (d ≡ true)
four true true true true is = (refl, refl, refl, refl)
four true true true false is = absurd (cc)
four true true false d is = absurd (cc)
four true false c d is = absurd (cc)
four false b c d is = absurd (cc)

-- ---- what an equal prefix tells, order by order

tell_eavt : (d : Datom) (e a : ℕ) (q : Part) → (entity_part e).is_whole ≡ true → (attribute_part a).is_whole ≡ true
    → prefix_in Eavt d ≡ put (2 ^ 14) (entity_part e) (pair (attribute_part a) q)
    → (nat_cmp d.e e ≡ Equal) × (nat_cmp d.a a ≡ Equal) × ((value_part (2 ^ 59) d.v).n ≡ q.n)
tell_eavt d e a q ew aw same =
    let v = value_part (2 ^ 59) d.v in
    let outer =
    put_same (2 ^ 14) (entity_part d.e) (entity_part e) (pair (attribute_part d.a) v) (pair (attribute_part a) q) (nat_cmp d.e e) (attribute_below d.a)
    (attribute_below a) (held_agrees d.e e (2 ^ 48 - 1)) ew same in
    let inner = pair_same (attribute_part d.a) (attribute_part a) v q (nat_cmp d.a a) (attributes_agree d.a a) aw outer.1 outer.2 in
    (outer.0, inner.0, inner.1)

tell_aevt : (d : Datom) (e a : ℕ) (q : Part) → (entity_part e).is_whole ≡ true → (attribute_part a).is_whole ≡ true
    → prefix_in Aevt d ≡ put (2 ^ 48) (attribute_part a) (pair (entity_part e) q)
    → (nat_cmp d.e e ≡ Equal) × (nat_cmp d.a a ≡ Equal) × ((value_part (2 ^ 59) d.v).n ≡ q.n)
tell_aevt d e a q ew aw same =
    let v = value_part (2 ^ 59) d.v in
    let outer =
    put_same (2 ^ 48) (attribute_part d.a) (attribute_part a) (pair (entity_part d.e) v) (pair (entity_part e) q) (nat_cmp d.a a) (entity_below d.e)
    (entity_below e) (attributes_agree d.a a) aw same in
    let inner = pair_same (entity_part d.e) (entity_part e) v q (nat_cmp d.e e) (held_agrees d.e e (2 ^ 48 - 1)) ew outer.1 outer.2 in
    (inner.0, outer.0, inner.1)

tell_avet : (d : Datom) (a : ℕ) (q : Prefix) → q.high < 2 ^ 50 → (attribute_part a).is_whole ≡ true
    → prefix_in Avet d ≡ put (2 ^ 50) (attribute_part a) q
    → (nat_cmp d.a a ≡ Equal) × ((value_part (2 ^ 45) d.v).n ≡ q.high) × ((value_and_entity d).low ≡ q.low)
tell_avet d a q below aw same =
    put_same (2 ^ 50) (attribute_part d.a) (attribute_part a) (value_and_entity d) q (nat_cmp d.a a) (value_below d.v) below (attributes_agree d.a a) aw
    same

tell_vaet : (d : Datom) (v : Value) (a e : ℕ) → (value_part (2 ^ 45) v).is_whole ≡ true → (attribute_part a).is_whole ≡ true
    → prefix_in Vaet d ≡ put (2 ^ 14) (value_part (2 ^ 45) v) (pair (attribute_part a) (record { n = e; is_whole = true }))
    → (value_cmp d.v v ≡ Equal) × (nat_cmp d.a a ≡ Equal) × (d.e ≡ e)
tell_vaet d v a e vw aw same =
    let ed : Part = record { n = d.e; is_whole = true } in
    let ep : Part = record { n = e; is_whole = true } in
    let outer =
    put_same (2 ^ 14) (value_part (2 ^ 45) d.v) (value_part (2 ^ 45) v) (pair (attribute_part d.a) ed) (pair (attribute_part a) ep) (value_cmp d.v v)
    (attribute_below d.a) (attribute_below a) (values_agree (2 ^ 45) d.v v short_range) vw same in
    let inner = pair_same (attribute_part d.a) (attribute_part a) ed ep (nat_cmp d.a a) (attributes_agree d.a a) aw outer.1 outer.2 in
    (outer.0, inner.0, inner.1)

-- behind a value that is whole comes the entity
whole_behind : (v : Value) (e : ℕ) → (value_part (2 ^ 45) v).is_whole ≡ true → behind_value (value_part (2 ^ 45) v) (sixteen v) e ≡ e
whole_behind (Keyword x) e is = absurd (cc)
whole_behind (Str x) e is = absurd (cc)
whole_behind (Boolean false) e is = refl
whole_behind (Boolean true) e is = refl
whole_behind (Long x) e is = rw is refl
whole_behind (Ref x) e is = rw is refl
whole_behind (Instant x) e is = rw is refl
whole_behind (Uuid x) e is = absurd (cc)
whole_behind (Symbol x) e is = absurd (cc)
whole_behind (Uri x) e is = absurd (cc)

abbrev TiedAt : Order → Option ℕ → Option ℕ → Option Value → Option ℕ → Datom → Type 0
TiedAt order e a v t d =
    (sought_at order e a v t).is_whole ≡ true → prefix_in order d ≡ (sought_at order e a v t).from
    → Tied (given (probe_at order e a v t)) (key_of order d)

abbrev nothing : Part
nothing = record { n = 0; is_whole = true }

tied_eavt : (e a : Option ℕ) (v : Option Value) (t : Option ℕ) (d : Datom) → TiedAt Eavt e a v t d
tied_eavt None a v t d whole same = tt
tied_eavt (Some e) None v t d whole same =
    let are = four (entity_part e).is_whole true true true whole in
    let told = tell_eavt d e 0 nothing are.0 refl same in
    (told.0, tt)
tied_eavt (Some e) (Some a) None t d whole same =
    let are = four (entity_part e).is_whole (attribute_part a).is_whole true true whole in
    let told = tell_eavt d e a nothing are.0 are.1 same in
    (told.0, (told.1, tt))
tied_eavt (Some e) (Some a) (Some v) None d whole same =
    let are = four (entity_part e).is_whole (attribute_part a).is_whole (value_part (2 ^ 59) v).is_whole true whole in
    let told = tell_eavt d e a (value_part (2 ^ 59) v) are.0 are.1 same in
    (told.0, (told.1, (((values_agree (2 ^ 59) d.v v long_range).exact told.2 are.2).0, tt)))
tied_eavt (Some e) (Some a) (Some v) (Some t) d whole same =
    let are = four (entity_part e).is_whole (attribute_part a).is_whole (value_part (2 ^ 59) v).is_whole false whole in
    absurd (cc are.3)

tied_aevt : (e a : Option ℕ) (v : Option Value) (t : Option ℕ) (d : Datom) → TiedAt Aevt e a v t d
tied_aevt e None v t d whole same = tt
tied_aevt None (Some a) v t d whole same =
    let are = four true (attribute_part a).is_whole true true whole in
    let told = tell_aevt d 0 a nothing refl are.1 same in
    (told.1, tt)
tied_aevt (Some e) (Some a) None t d whole same =
    let are = four (entity_part e).is_whole (attribute_part a).is_whole true true whole in
    let told = tell_aevt d e a nothing are.0 are.1 same in
    (told.1, (told.0, tt))
tied_aevt (Some e) (Some a) (Some v) None d whole same =
    let are = four (entity_part e).is_whole (attribute_part a).is_whole (value_part (2 ^ 59) v).is_whole true whole in
    let told = tell_aevt d e a (value_part (2 ^ 59) v) are.0 are.1 same in
    (told.1, (told.0, (((values_agree (2 ^ 59) d.v v long_range).exact told.2 are.2).0, tt)))
tied_aevt (Some e) (Some a) (Some v) (Some t) d whole same =
    let are = four (entity_part e).is_whole (attribute_part a).is_whole (value_part (2 ^ 59) v).is_whole false whole in
    absurd (cc are.3)

tied_avet : (e a : Option ℕ) (v : Option Value) (t : Option ℕ) (d : Datom) → TiedAt Avet e a v t d
tied_avet e None v t d whole same = tt
tied_avet e (Some a) None t d whole same =
    let are = three (attribute_part a).is_whole true (not (is_some e && true && false && is_some t)) whole in
    let q : Prefix = record { high = 0; low = 0 } in
    let told = tell_avet d a q (omega arith) are.0 same in
    (told.0, tt)
tied_avet None (Some a) (Some v) t d whole same =
    let are = three (attribute_part a).is_whole (value_part (2 ^ 45) v).is_whole true whole in
    let q : Prefix = record { high = (value_part (2 ^ 45) v).n; low = behind_value (value_part (2 ^ 45) v) (sixteen v) 0 } in
    let told = tell_avet d a q (value_below v) are.0 same in
    (told.0, (((values_agree (2 ^ 45) d.v v short_range).exact told.1 are.1).0, tt))
tied_avet (Some e) (Some a) (Some v) None d whole same =
    let are = three (attribute_part a).is_whole (value_part (2 ^ 45) v).is_whole true whole in
    let q : Prefix = record { high = (value_part (2 ^ 45) v).n; low = behind_value (value_part (2 ^ 45) v) (sixteen v) e } in
    let told = tell_avet d a q (value_below v) are.0 same in
    let value = (values_agree (2 ^ 45) d.v v short_range).exact told.1 are.1 in
    let entity : d.e ≡ e = cc (told.2, whole_behind d.v d.e value.1, whole_behind v e are.1) in
    (told.0, (value.0, (nat_equal d.e e entity, tt)))
tied_avet (Some e) (Some a) (Some v) (Some t) d whole same =
    let are = three (attribute_part a).is_whole (value_part (2 ^ 45) v).is_whole false whole in
    absurd (cc are.2)

tied_vaet : (e a : Option ℕ) (v : Option Value) (t : Option ℕ) (d : Datom) → TiedAt Vaet e a v t d
tied_vaet e a None t d whole same = tt
tied_vaet e None (Some v) t d whole same =
    let are = three true (value_part (2 ^ 45) v).is_whole (not (is_some e && false && true && is_some t)) whole in
    let told = tell_vaet d v 0 0 are.1 refl same in
    (told.0, tt)
tied_vaet None (Some a) (Some v) t d whole same =
    let are = three (attribute_part a).is_whole (value_part (2 ^ 45) v).is_whole true whole in
    let told = tell_vaet d v a 0 are.1 are.0 same in
    (told.0, (told.1, tt))
tied_vaet (Some e) (Some a) (Some v) None d whole same =
    let are = three (attribute_part a).is_whole (value_part (2 ^ 45) v).is_whole true whole in
    let told = tell_vaet d v a e are.1 are.0 same in
    (told.0, (told.1, (nat_equal d.e e told.2, tt)))
tied_vaet (Some e) (Some a) (Some v) (Some t) d whole same =
    let are = three (attribute_part a).is_whole (value_part (2 ^ 45) v).is_whole false whole in
    absurd (cc are.2)

tied_at : (order : Order) (e a : Option ℕ) (v : Option Value) (t : Option ℕ) (d : Datom) → TiedAt order e a v t d
tied_at Eavt e a v t d whole same = tied_eavt e a v t d whole same
tied_at Aevt e a v t d whole same = tied_aevt e a v t d whole same
tied_at Avet e a v t d whole same = tied_avet e a v t d whole same
tied_at Vaet e a v t d whole same = tied_vaet e a v t d whole same

whole_at : (order : Order) (e a : Option ℕ) (v : Option Value) (t : Option ℕ) (d : Datom) → (sought_at order e a v t).is_whole ≡ true
    → prefix_in order d ≡ (sought_at order e a v t).from → is_below (probe_at order e a v t) d ≡ false
whole_at order e a v t d whole same = tied_not_below (given (probe_at order e a v t)) (key_of order d) (tied_at order e a v t d whole same)

pub whole_sought : (p : Probe) → (sought_in p).is_whole ≡ true → (d : Datom) → prefix_in p.order d ≡ (sought_in p).from → is_below p d ≡ false
whole_sought p whole d same = whole_at p.order p.e p.a p.v p.t d whole same
