-- The lists that a history tells rise, and have exactly the facts that pass.
use Rattle.std.proofs.Common.{◌≡◌, ℕ, Bool, List, sym, ◌∙◌}
use Rattle.std.specs.Prelude.{filter, Contains, IsTrue}
use Rattle.std.specs.declared.cmp.Ordering.TheVariants.{Equal}
use Rattle.fb_values.specs.declared.facts.Datom.{Datom}
use Rattle.fb_values.specs.declared.facts.Entry.{Entry}
use Rattle.fb_values.specs.declared.facts.Value.{Value}
use Rattle.fb_values.specs.declared.indexes.Order.{Order}
use Rattle.fb_values.specs.Orders.{key_cmp}
use Rattle.fb_values.specs.OrderLaws.{key_cmp-Equal}
use Rattle.fb_model.specs.History.{said}
use Rattle.fb_model.specs.Rising.{IsRisingListOf}
use Rattle.fb_model.specs.Facts.{facts}
use Rattle.fb_model.proofs.Members.{kept, keep, in_order-rises, in_order_member, standing_added}
use Rattle.fb_model.proofs.InOrder.{in_order_has}
use Rattle.fb_facts.specs.FactLists.{facts_in}

abbrev datom : ℕ → ℕ → Value → ℕ → Bool → Datom
datom e a v t added = record { e = e; a = a; v = v; t = t; added = added }

same_parts : (e f a b : ℕ) (v w : Value) (t u : ℕ) (p q : Bool) → e ≡ f → a ≡ b → v ≡ w → t ≡ u → p ≡ q → datom e a v t p ≡ datom f b w u q
same_parts e f a b v w t u p q is_e is_a is_v is_t is_added = cc

-- two facts at one place are one
same_fact : (h : List Entry) (order : Order) (x y : Datom) → Contains (facts h) x → Contains (facts h) y → key_cmp order x y ≡ Equal → x ≡ y
same_fact h order x y x_in y_in equal =
    let place = key_cmp-Equal order x y equal in
    same_parts x.e y.e x.a y.a x.v y.v x.t y.t x.added y.added place.e place.a place.v place.t
    (standing_added (said h) x x_in ∙ sym (standing_added (said h) y y_in))

pub facts_in-rising : (h : List Entry) (order : Order) (passes : Datom → Bool)
    → IsRisingListOf order (facts_in order passes h) (λ d. Contains (facts h) d × IsTrue (passes d))
facts_in-rising h order passes =
    record {
      rising = in_order-rises order (filter passes (facts h));
      members = λ d. (
        λ member. let is = kept passes (facts h) d (in_order_member order (filter passes (facts h)) d member) in (is.member, is.passes),
        λ is. in_order_has order (filter passes (facts h)) (record {
          same =
              λ x y x_in y_in equal.
              same_fact h order x y (kept passes (facts h) x x_in).member (kept passes (facts h) y y_in).member equal;
        }) d (keep passes (facts h) d is.0 is.1),
      );
    }
