-- The probe that components give is one of their order.
use Rattle.std.proofs.Common.{◌≡◌, ℕ, ◌+◌, Bool, true, false, cond, List, [], ◌∷◌, length, Option, Some, None, Result, Ok, Err, refl, ap}
use Rattle.std.proofs.Common.{◌∙◌}
use Rattle.std.specs.Prelude.{nat_eq, nat_le, MatchBool}
use Rattle.std.specs.List.{zip}
use Rattle.edn_model.specs.Form.{Form}
use Rattle.fb_values.specs.declared.facts.Datom.{Datom}
use Rattle.fb_values.specs.declared.facts.Entry.{Entry}
use Rattle.fb_values.specs.declared.facts.Value.{Value}
use Rattle.fb_values.specs.declared.facts.Value.TheVariants.{Ref}
use Rattle.fb_values.specs.declared.indexes.Order.{Order}
use Rattle.fb_values.specs.declared.indexes.Probe.{Probe}
use Rattle.fb_numbers.specs.Numbers.{type_ref}
use Rattle.fb_model.specs.Facts.{facts}
use Rattle.fb_model.specs.Schema.{Attribute, is_held}
use Rattle.tx_model.specs.Values.{value_in}
use Rattle.view_model.specs.Window.{Window}
use Rattle.view_model.specs.Names.{Id}
use Rattle.read_refusals.specs.declared.reasons.Reason.TheVariants.{NotInIndex}
use Rattle.read_refusals.specs.declared.reasons.Refusal.{Refusal}
use Rattle.read_model.specs.Names.{id_in}
use Rattle.read_model.specs.Given.{Given, is, by_name, wrong, ReadsGiven, Follows}
use Rattle.read_model.specs.Components.{Component, an_entity, an_attribute, a_value, a_t, parts_of, entity_given, attribute_given}
use Rattle.read_model.specs.Components.{plain_given, kind_behind, t_in, attribute_in, with_next, no_component, no_command, AreRead}
use Rattle.read_model.specs.Components.{AreComponents}

-- whatever comes of it has the property
abbrev AllGiven : {X : Type 0} → (X → Type 0) → Given X → Type 0
AllGiven P (is x) = P x
AllGiven P (by_name id make) = (e : ℕ) → P (make e)
AllGiven P (wrong reason) = Unit {0}

-- ---- one component

entity_keeps : {X : Type 0} (P : X → Type 0) (make : ℕ → X) (o : Option Id) → ((e : ℕ) → P (make e)) → AllGiven P (entity_given make o)
entity_keeps P make None all = tt
entity_keeps P make (Some id) all = all

plain_keeps : {A X : Type 0} (P : X → Type 0) (make : A → X) (o : Option A) → ((x : A) → P (make x)) → AllGiven P (plain_given make o)
plain_keeps P make None all = tt
plain_keeps P make (Some x) all = all x

held_keeps : {X : Type 0} (P : X → Type 0) (x : X) (b : Bool) → P x → AllGiven P (cond b (is x) (wrong NotInIndex))
held_keeps P x true holds = holds
held_keeps P x false holds = tt

attribute_keeps : {X : Type 0} (P : X → Type 0) (make : Attribute → X) (order : Order) (o : Option Attribute)
    → ((a : Attribute) → P (make a)) → AllGiven P (attribute_given make order o)
attribute_keeps P make order None all = tt
attribute_keeps P make order (Some a) all = held_keeps P (make a) (is_held order a) (all a)

value_keeps : {X : Type 0} (P : X → Type 0) (facts : List Datom) (make : Value → X) (kind : ℕ) (f : Form) (b : Bool)
    → ((v : Value) → P (make v))
    → AllGiven P (cond b (entity_given (λ e. make (Ref e)) (id_in facts f)) (plain_given make (value_in kind f)))
value_keeps P facts make kind f true all = entity_keeps P (λ e. make (Ref e)) (id_in facts f) (λ e. all (Ref e))
value_keeps P facts make kind f false all = plain_keeps P make (value_in kind f) all

next_keeps : (facts : List Datom) (probe : Probe) (part : Component) (f : Form)
    → AllGiven (λ more. more.order ≡ probe.order) (with_next facts probe part f)
next_keeps facts probe an_entity f =
    entity_keeps (λ (more : Probe). more.order ≡ probe.order) (λ e. record probe { e = Some e }) (id_in facts f) (λ e. refl)
next_keeps facts probe an_attribute f =
    attribute_keeps (λ (more : Probe). more.order ≡ probe.order) (λ a. record probe { a = Some a.id }) probe.order (attribute_in facts f)
    (λ a. refl)
next_keeps facts probe a_value f =
    value_keeps (λ (more : Probe). more.order ≡ probe.order) facts (λ v. record probe { v = Some v }) (kind_behind facts probe) f
    (nat_eq (kind_behind facts probe) type_ref) (λ v. refl)
next_keeps facts probe a_t f =
    plain_keeps (λ (more : Probe). more.order ≡ probe.order) (λ t. record probe { t = Some t }) (t_in f) (λ t. refl)

-- ---- all components

followed : {X Y Goal : Type 0} (at : ℕ) (make : ℕ → X) (P : X → Type 0) (Next : X → Result Y Refusal → Type 0) (y : Y) (found : Option ℕ)
    → ((e : ℕ) → P (make e)) → ((x : X) → P x → Next x (Ok y) → Goal) → Follows at make Next found (Ok y) → Goal
followed at make P Next y None all on refused = absurd (cc)
followed at make P Next y (Some e) all on read = on (make e) (all e) read

-- what could be read came of what was given
read_on : {X Y Goal : Type 0} (h : List Entry) (w : Window) (Selects : Datom → Type 0) (at : ℕ) (given : Given X) (P : X → Type 0)
    (Next : X → Result Y Refusal → Type 0) (y : Y)
    → AllGiven P given → ((x : X) → P x → Next x (Ok y) → Goal) → ReadsGiven h w Selects at given Next (Ok y) → Goal
read_on h w Selects at (is x) P Next y all on read = on x all read
read_on h w Selects at (by_name id make) P Next y all on read = followed at make P Next y read.0 all on read.2
read_on h w Selects at (wrong reason) P Next y all on refused = absurd (cc)

order_read : (h : List Entry) (w : Window) (Selects : Datom → Type 0) (fs : List (Component × Form)) (probe p : Probe) (at : ℕ)
    → AreRead h w Selects probe at fs (Ok p) → p.order ≡ probe.order
order_read h w Selects [] probe p at read = let same : p ≡ probe = cc in ap (λ (q : Probe). q.order) same
order_read h w Selects (next ∷ rest) probe p at read =
    read_on h w Selects at (with_next (facts h) probe next.0 next.1) (λ (more : Probe). more.order ≡ probe.order)
    (λ more. AreRead h w Selects more (at + 1) rest) p
    (next_keeps (facts h) probe next.0 next.1)
    (λ more same behind. order_read h w Selects rest more p (at + 1) behind ∙ same)
    read

pub probe_order : (h : List Entry) (w : Window) (Selects : Datom → Type 0) (order : Order) (fs : List Form) (p : Probe)
    → AreComponents h w Selects order fs (Ok p) → p.order ≡ order
probe_order h w Selects order fs p are = by_length (nat_le (length fs) 4) are
  where
    by_length : (b : Bool)
        → MatchBool b (AreRead h w Selects (no_component order) 2 (zip (parts_of order) fs) (Ok p)) (Ok p ≡ Err no_command)
        → p.order ≡ order
    by_length true read = order_read h w Selects (zip (parts_of order) fs) (no_component order) p 2 read
    by_length false refused = absurd (cc)
