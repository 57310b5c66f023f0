-- Nothing holds of a user entity behind the last one.
use Rattle.std.proofs.Common.{◌≡◌, ℕ, ◌-◌, ◌<◌, true, false, List, [], ◌∷◌, map, refl, ap, sym, ◌∙◌, arith}
use Rattle.std.specs.Prelude.{nat_lt, nat_eq, Contains, IsTrue}
use Rattle.std.specs.List.{list_any}
use Rattle.std.proofs.lemmas.Bool.{true≢false, and_parts, ltb-true}
use Rattle.fb_values.specs.declared.facts.Datom.{Datom}
use Rattle.fb_values.specs.declared.facts.Entry.{Entry}
use Rattle.fb_values.specs.declared.facts.Value.{Value}
use Rattle.fb_values.specs.declared.indexes.Order.TheVariants.{Eavt}
use Rattle.fb_numbers.specs.Numbers.{user_entity, user_number}
use Rattle.fb_model.specs.History.{said, users_issued}
use Rattle.fb_model.specs.Facts.{holds, facts}
use Rattle.fb_model.specs.Rising.{IsRisingListOf}
use Rattle.fb_model.specs.Schema.{is_about}
use Rattle.fb_model.proofs.Members.{standing_member, any_member}
use Rattle.fb_facts.specs.FactLists.{facts_in, values_of}
use Rattle.held_facts.proofs.Maps.{contains_head}

is_user : (h : List Entry) (e : ℕ) → nat_lt (users_issued h) (user_number e) ≡ true → e ≡ user_entity (user_number e)
is_user h e new =
    let above : users_issued h < e - 17592186044416 = ltb-true (users_issued h) (user_number e) new in
    omega (arith, above)

pub new_holds_nothing : (h : List Entry) (e a : ℕ) (v : Value)
    → ((h : List Entry) (n a : ℕ) (v : Value) → users_issued h < n → holds h (user_entity n) a v ≡ false)
    → nat_lt (users_issued h) (user_number e) ≡ true → holds h e a v ≡ false
new_holds_nothing h e a v law new =
    ap (λ x. holds h x a v) (is_user h e new) ∙ law h (user_number e) a v (ltb-true (users_issued h) (user_number e) new)

no_list : (ds : List Datom) → ((d : Datom) → Contains ds d → ⊥) → ds ≡ []
no_list [] none = refl
no_list (d ∷ ds) none = absurd (none d (contains_head d ds d refl))

pub new_has_no_values : (h : List Entry) (e a : ℕ)
    → IsRisingListOf Eavt (facts_in Eavt (is_about e a) h) (λ d. Contains (facts h) d × IsTrue (is_about e a d))
    → ((h : List Entry) (n : ℕ) → users_issued h < n → list_any (λ d. nat_eq d.e (user_entity n)) (said h) ≡ false)
    → nat_lt (users_issued h) (user_number e) ≡ true → [] ≡ values_of h e a
new_has_no_values h e a told law new = sym (ap (map (λ (d : Datom). d.v)) (no_list (facts_in Eavt (is_about e a) h) none))
  where
    n : ℕ
    n = user_number e

    none : (d : Datom) → Contains (facts_in Eavt (is_about e a) h) d → ⊥
    none d among =
        let is = (told.members d).0 among in
        let e_is = and_parts (nat_eq d.e e) (nat_eq d.a a) is.1 in
        let user : nat_eq d.e (user_entity n) ≡ true = ap (nat_eq d.e) (sym (is_user h e new)) ∙ e_is.0 in
        let met = any_member (λ d. nat_eq d.e (user_entity n)) (said h) d (standing_member (said h) d is.0) user in
        true≢false (sym met ∙ law h n (ltb-true (users_issued h) n new))
