-- What is asked of a part of the facts.
use Rattle.std.proofs.Common.{◌≡◌, ℕ, suc, Bool, true, false, cond, not, ◌&&◌, ◌||◌, List, [], ◌∷◌, ◌++◌, length, refl, ap, sym, ◌∙◌, eqb}
use Rattle.std.specs.Prelude.{filter, Contains}
use Rattle.std.specs.List.{list_any}
use Rattle.std.specs.Ordering.{is_lt}
use Rattle.std.proofs.lemmas.Bool.{true≢false, and_parts, and_from, eq-eqb, or_parts, not-true}
use Rattle.fb_values.specs.declared.facts.Datom.{Datom}
use Rattle.fb_values.specs.declared.facts.Entry.{Entry}
use Rattle.fb_values.specs.declared.indexes.Order.{Order}
use Rattle.fb_values.specs.declared.indexes.Order.TheVariants.{Eavt, Aevt}
use Rattle.fb_values.specs.Orders.{key_cmp}
use Rattle.fb_values.specs.OrderLaws.{key_cmp-Equal}
use Rattle.fb_model.specs.History.{said}
use Rattle.fb_model.specs.Rising.{put_in_order, in_order}
use Rattle.fb_model.specs.Facts.{is_of, value_eq, standing, values_of}
use Rattle.fb_model.specs.Schema.{is_about}
use Rattle.fb_model.specs.Laws.{has_no_other_holder}
use Rattle.fb_model.proofs.Members.{any_member, some_member, member_passes, all_members, kept, keep, standing_added, are_of_other_triples}
use Rattle.fb_model.proofs.Members.{standing-apart, filter-standing, in_order_member}
use Rattle.fb_model.proofs.InOrder.{in_order_has, equal_keys}
use Rattle.fb_model.proofs.Triples.{is_of-true, value_eq-refl}
use Rattle.fb_facts.specs.FactLists.{is_under}
use Rattle.tx_after.specs.After.{after, facts_under, values_of as told_values}
use Rattle.tx_after.proofs.WithChanges.{one_of_added}
use Rattle.tx_after.proofs.Promising.{both_ways}
use Rattle.tx_after.proofs.Describing.{length-values}

-- a test that only what passes another one can pass
pub any_of_part : (order : Order) (part test : Datom → Bool) (ds : List Datom) → ((d : Datom) → test d ≡ true → part d ≡ true)
    → list_any test (in_order order (filter part (standing ds))) ≡ list_any test (standing ds)
any_of_part order part test ds within =
    both_ways _ _
    (λ some. let found = some_member test (in_order order (filter part (standing ds))) some in
    any_member test (standing ds) found.0
    (kept part (standing ds) found.0 (in_order_member order (filter part (standing ds)) found.0 found.1)).member found.2)
    (λ some. let found = some_member test (standing ds) some in
    any_member test (in_order order (filter part (standing ds))) found.0
    (in_order_has order (filter part (standing ds))
    (one_of_added order (filter part (standing ds)) (λ x x_in. standing_added ds x (kept part (standing ds) x x_in).member)) found.0
    (keep part (standing ds) found.0 found.1 (within found.0 found.2))) found.2)

pub holder_of_part : (h : List Entry) (changes : List Datom) (d : Datom)
    → has_no_other_holder (facts_under h changes d.a) d ≡ has_no_other_holder (after h changes) d
holder_of_part h changes d =
    both_ways _ _
    (λ alone. all_members _ (after h changes) (λ other member. at other member alone (eqb other.a d.a) refl))
    (λ alone. all_members _ (facts_under h changes d.a) (λ other member.
    member_passes (λ other. not (eqb other.a d.a && value_eq other.v d.v) || eqb other.e d.e) (after h changes) other alone
    (kept (is_under d.a) (after h changes) other (in_order_member Aevt (filter (is_under d.a) (after h changes)) other member)).member))
  where
    at : (other : Datom) → Contains (after h changes) other → has_no_other_holder (facts_under h changes d.a) d ≡ true
        → (b : Bool) → eqb other.a d.a ≡ b → (not (eqb other.a d.a && value_eq other.v d.v) || eqb other.e d.e) ≡ true
    at other member alone false is = ap (λ b. not (b && value_eq other.v d.v) || eqb other.e d.e) is
    at other member alone true is =
        member_passes (λ other. not (eqb other.a d.a && value_eq other.v d.v) || eqb other.e d.e) (facts_under h changes d.a) other alone
        (in_order_has Aevt (filter (is_under d.a) (after h changes)) (one_of_added Aevt (filter (is_under d.a) (after h changes))
        (λ x x_in. standing_added (said h ++ changes) x (kept (is_under d.a) (after h changes) x x_in).member)) other
        (keep (is_under d.a) (after h changes) other member is))

-- ---- as many in order

-- a datom of another triple than those of the list is one more
put-length : (order : Order) (x : Datom) (ds : List Datom) → list_any (is_of x.e x.a x.v) ds ≡ false
    → length (put_in_order order x ds) ≡ suc (length ds)
put-length order x [] alone = refl
put-length order x (y ∷ ds) alone =
    go (is_lt (key_cmp order x y)) refl (is_lt (key_cmp order y x)) refl (put-length order x ds (or_parts _ _ alone).1)
  where
    go : (b : Bool) → is_lt (key_cmp order x y) ≡ b → (c : Bool) → is_lt (key_cmp order y x) ≡ c
        → length (put_in_order order x ds) ≡ suc (length ds)
        → length (cond b (x ∷ y ∷ ds) (cond c (y ∷ put_in_order order x ds) (y ∷ ds))) ≡ suc (length (y ∷ ds))
    go true is c also rest = refl
    go false is true also rest = ap suc rest
    go false is false also rest =
        let place = key_cmp-Equal order x y (equal_keys order x y is also) in
        absurd (true≢false (sym (and_from _ _ (and_from _ _ (eq-eqb y.e x.e (sym place.e)) (eq-eqb y.a x.a (sym place.a)))
        (ap (λ v. value_eq y.v v) place.v ∙ value_eq-refl y.v)) ∙ (or_parts _ _ alone).0))

in_order-length : (order : Order) (ds : List Datom) → are_of_other_triples ds ≡ true → length (in_order order ds) ≡ length ds
in_order-length order [] apart = refl
in_order-length order (x ∷ ds) apart =
    put-length order x (in_order order ds) (none (list_any (is_of x.e x.a x.v) (in_order order ds)) refl)
    ∙ ap suc (in_order-length order ds (and_parts _ _ apart).1)
  where
    none : (b : Bool) → list_any (is_of x.e x.a x.v) (in_order order ds) ≡ b → b ≡ false
    none false is = refl
    none true is =
        let found = some_member (is_of x.e x.a x.v) (in_order order ds) is in
        absurd (true≢false (sym (any_member (is_of x.e x.a x.v) ds found.0 (in_order_member order ds found.0 found.1) found.2)
        ∙ not-true _ (and_parts _ _ apart).0))

about-alike : (e a : ℕ) (d other : Datom) → is_of d.e d.a d.v other ≡ true → is_about e a d ≡ is_about e a other
about-alike e a d other of = let is = is_of-true d.e d.a d.v other of in rw (is.e_is, is.a_is) refl

pub as_many : (h : List Entry) (changes : List Datom) (e a : ℕ)
    → length (told_values h changes e a) ≡ length (values_of (after h changes) e a)
as_many h changes e a =
    length-values (in_order Eavt (filter (is_about e a) (after h changes)))
    ∙ in_order-length Eavt (filter (is_about e a) (after h changes))
    (ap are_of_other_triples (filter-standing (is_about e a) (about-alike e a) (said h ++ changes))
    ∙ standing-apart (filter (is_about e a) (said h ++ changes)))
    ∙ sym (length-values (filter (is_about e a) (after h changes)))
