-- Nothing holds of a user entity that is not issued yet.
use Rattle.std.proofs.Common.{◌≡◌, ℕ, ◌-◌, ◌<◌, Bool, true, false, cond, List, [], ◌∷◌, ◌++◌, map, refl, ap, sym, ◌∙◌, arith}
use Rattle.std.specs.Prelude.{nat_lt, nat_eq, Contains}
use Rattle.std.specs.List.{list_any}
use Rattle.std.proofs.lemmas.Bool.{true≢false, and_parts, ltb-true}
use Rattle.fb_values.specs.declared.facts.Datom.{Datom}
use Rattle.fb_values.specs.declared.facts.Entry.{Entry}
use Rattle.fb_values.specs.declared.facts.Value.{Value}
use Rattle.fb_values.specs.declared.indexes.Order.TheVariants.{Eavt}
use Rattle.fb_numbers.specs.Numbers.{user_entity, user_number}
use Rattle.fb_model.specs.History.{said, users_issued}
use Rattle.fb_model.specs.Facts.{holds}
use Rattle.fb_model.specs.Schema.{is_about, is_one}
use Rattle.fb_model.proofs.Members.{standing_member}
use Rattle.fb_facts.specs.FactLists.{facts_in, values_of}
use Rattle.tx_model.proofs.Lists.{first_of}
use Rattle.tx_sweep.proofs.Members.{any_of}
use Rattle.tx_sweep.proofs.Sweeping.{AreTold}
use Rattle.tx_asks.specs.declared.triples.Asking.{Asking}
use Rattle.std.proofs.lemmas.List.{append-nil}
use Rattle.tx_changes.specs.declared.noted.AskedAs.TheVariants.{Replaced}
use Rattle.tx_changes.specs.declared.noted.Noted.{Noted}
use Rattle.tx_changes.specs.Asked.{others_of, replaced_of}
use Rattle.tx_changes.specs.Noted.{as_way}

is_user : (h : List Entry) (e : ℕ) → nat_lt (users_issued h) (user_number e) ≡ true → e ≡ user_entity (user_number e)
is_user h e new =
    let above : users_issued h < e - 17592186044416 = ltb-true (users_issued h) (user_number e) new in
    omega (arith, above)

pub new_holds_nothing : (h : List Entry) (e a : ℕ) (v : Value)
    → ((h : List Entry) (n a : ℕ) (v : Value) → users_issued h < n → holds h (user_entity n) a v ≡ false)
    → nat_lt (users_issued h) (user_number e) ≡ true → holds h e a v ≡ false
new_holds_nothing h e a v law new =
    ap (λ x. holds h x a v) (is_user h e new) ∙ law h (user_number e) a v (ltb-true (users_issued h) (user_number e) new)

no_list : (ds : List Datom) → ((d : Datom) → Contains ds d → ⊥) → ds ≡ []
no_list [] none = refl
no_list (d ∷ ds) none = absurd (none d (first_of d ds))

pub new_has_no_values : AreTold → (h : List Entry) (e a : ℕ)
    → ((h : List Entry) (n : ℕ) → users_issued h < n → list_any (λ d. nat_eq d.e (user_entity n)) (said h) ≡ false)
    → nat_lt (users_issued h) (user_number e) ≡ true → values_of h e a ≡ []
new_has_no_values told h e a law new = ap (map (λ (d : Datom). d.v)) (no_list (facts_in Eavt (is_about e a) h) none)
  where
    none : (d : Datom) → Contains (facts_in Eavt (is_about e a) h) d → ⊥
    none d among =
        let is = ((told h Eavt (is_about e a)).members d).0 among in
        let e_is = and_parts (nat_eq d.e e) (nat_eq d.a a) is.1 in
        let user : nat_eq d.e (user_entity (user_number e)) ≡ true = ap (nat_eq d.e) (sym (is_user h e new)) ∙ e_is.0 in
        true≢false (sym (any_of (λ d. nat_eq d.e (user_entity (user_number e))) (said h) d (standing_member (said h) d is.0) user)
        ∙ law h (user_number e) (ltb-true (users_issued h) (user_number e) new))

pub new_replaces_nothing : AreTold → (h : List Entry) (schema : List Datom) (addition : Asking)
    → ((h : List Entry) (n : ℕ) → users_issued h < n → list_any (λ d. nat_eq d.e (user_entity n)) (said h) ≡ false)
    → nat_lt (users_issued h) (user_number addition.e) ≡ true → (ns : List Noted)
    → ns ≡ ns ++ map (as_way Replaced) (replaced_of h schema addition)
new_replaces_nothing told h schema addition law new ns =
    sym (ap (λ xs. ns ++ map (as_way Replaced) xs) (nothing (is_one schema addition.a)) ∙ append-nil ns)
  where
    nothing : (b : Bool) → cond b (others_of addition (values_of h addition.e addition.a)) [] ≡ []
    nothing true = ap (others_of addition) (new_has_no_values told h addition.e addition.a law new)
    nothing false = refl
