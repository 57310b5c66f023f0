-- What is read from left to right has one answer, and where filters are tests the computed one.
use Rattle.std.proofs.Common.{◌≡◌, ℕ, ◌+◌, ◌≤◌, Bool, true, false, cond, List, [], ◌∷◌, ◌++◌, length, length-append, arith, refl, sym, ◌∙◌}
use Rattle.std.proofs.Common.{subst, Option, Some, None, Result, Ok, Err, leb}
use Rattle.std.specs.Prelude.{IsTrue, MatchBool}
use Rattle.std.specs.List.{zip}
use Rattle.std.proofs.lemmas.Bool.{le-leb}
use Rattle.std.specs.Option.{option_map_or}
use Rattle.edn_model.specs.Form.{Form}
use Rattle.fb_values.specs.declared.facts.Datom.{Datom}
use Rattle.fb_values.specs.declared.facts.Entry.{Entry}
use Rattle.fb_values.specs.declared.indexes.Order.{Order}
use Rattle.fb_values.specs.declared.indexes.Order.TheVariants.{Avet}
use Rattle.fb_values.specs.declared.indexes.Probe.{Probe}
use Rattle.fb_model.specs.Facts.{facts}
use Rattle.fb_model.specs.Schema.{Attribute}
use Rattle.view_model.specs.Window.{Window}
use Rattle.view_model.specs.View.{is_selected_by}
use Rattle.view_model.specs.Scan.{Range, between}
use Rattle.read_refusals.specs.declared.reasons.Reason.TheVariants.{BadComponent}
use Rattle.read_refusals.specs.declared.reasons.Refusal.{Refusal}
use Rattle.read_model.specs.Given.{Given, is, by_name, wrong, refusal, Follows, ReadsGiven, reads}
use Rattle.read_model.specs.Components.{Component, parts_of, with_next, no_component, AreRead, AreComponents, no_command, attribute_given}
use Rattle.read_model.specs.Components.{attribute_in, end_given, IsIndexRange, finds, read_by, components, index_range}
use Rattle.read_model.proofs.Finding.{named_one, named_by_tests}

-- ---- one answer

module _ (h : List Entry) (w : Window) (Selects : Datom → Type 0) where
  follows_one : {X Y : Type 0} (at : ℕ) (make : ℕ → X) (Next : X → Result Y Refusal → Type 0)
      → ((x : X) (p q : Result Y Refusal) → Next x p → Next x q → p ≡ q)
      → (found : Option ℕ) (p q : Result Y Refusal) → Follows at make Next found p → Follows at make Next found q → p ≡ q
  follows_one at make Next one None p q first second = first ∙ sym second
  follows_one at make Next one (Some e) p q first second = one (make e) p q first second

  reads_one : {X Y : Type 0} (at : ℕ) (g : Given X) (Next : X → Result Y Refusal → Type 0)
      → ((x : X) (p q : Result Y Refusal) → Next x p → Next x q → p ≡ q)
      → (p q : Result Y Refusal) → ReadsGiven h w Selects at g Next p → ReadsGiven h w Selects at g Next q → p ≡ q
  reads_one at (is x) Next one p q first second = one x p q first second
  reads_one at (by_name id make) Next one p q first second =
      let same = named_one h w Selects id first.0 second.0 first.1 second.1 in
      follows_one at make Next one second.0 p q (subst (λ (o : Option ℕ). Follows at make Next o p) same first.2) second.2
  reads_one at (wrong reason) Next one p q first second = first ∙ sym second

  are_read_one : (fs : List (Component × Form)) (probe : Probe) (at : ℕ) (p q : Result Probe Refusal) → AreRead h w Selects probe at fs p
      → AreRead h w Selects probe at fs q → p ≡ q
  are_read_one [] probe at p q first second = first ∙ sym second
  are_read_one (next ∷ rest) probe at p q first second =
      reads_one at (with_next (facts h) probe next.0 next.1) (λ more. AreRead h w Selects more (at + 1) rest)
      (λ more. are_read_one rest more (at + 1)) p q first second

  pub components_one : (order : Order) (fs : List Form) (p q : Result Probe Refusal) → AreComponents h w Selects order fs p
      → AreComponents h w Selects order fs q → p ≡ q
  components_one order fs p q first second = go (leb (length fs) 4) first second
    where
      go : (few : Bool) → MatchBool few (AreRead h w Selects (no_component order) 2 (zip (parts_of order) fs) p) (p ≡ Err no_command)
          → MatchBool few (AreRead h w Selects (no_component order) 2 (zip (parts_of order) fs) q) (q ≡ Err no_command) → p ≡ q
      go true x y = are_read_one (zip (parts_of order) fs) (no_component order) 2 p q x y
      go false x y = x ∙ sym y

  -- ---- what follows a place that fails

  follows_on : {X Y : Type 0} (at : ℕ) (make : ℕ → X) (Next More : X → Result Y Refusal → Type 0) (r : Refusal)
      → ((x : X) → Next x (Err r) → More x (Err r))
      → (found : Option ℕ) → Follows at make Next found (Err r) → Follows at make More found (Err r)
  follows_on at make Next More r each None same = same
  follows_on at make Next More r each (Some e) next = each (make e) next

  reads_on : {X Y : Type 0} (at : ℕ) (g : Given X) (Next More : X → Result Y Refusal → Type 0) (r : Refusal)
      → ((x : X) → Next x (Err r) → More x (Err r))
      → ReadsGiven h w Selects at g Next (Err r) → ReadsGiven h w Selects at g More (Err r)
  reads_on at (is x) Next More r each next = each x next
  reads_on at (by_name id make) Next More r each next = (next.0, next.1, follows_on at make Next More r each next.0 next.2)
  reads_on at (wrong reason) Next More r each same = same

  are_read_on : (parts : List Component) (fs more : List Form) (probe : Probe) (at : ℕ) (r : Refusal)
      → AreRead h w Selects probe at (zip parts fs) (Err r) → AreRead h w Selects probe at (zip parts (fs ++ more)) (Err r)
  are_read_on [] fs more probe at r read = read
  are_read_on (part ∷ parts) [] more probe at r read = let none : Err r ≡ Ok probe = read in absurd (cc)
  are_read_on (part ∷ parts) (f ∷ fs) more probe at r read =
      reads_on at (with_next (facts h) probe part f) (λ p. AreRead h w Selects p (at + 1) (zip parts fs))
      (λ p. AreRead h w Selects p (at + 1) (zip parts (fs ++ more))) r
      (λ p. are_read_on parts fs more p (at + 1) r) read

  pub components_on : (order : Order) (fs more : List Form) (r : Refusal) → length (fs ++ more) ≤ 4
      → AreComponents h w Selects order fs (Err r) → AreComponents h w Selects order (fs ++ more) (Err r)
  components_on order fs more r few read =
      let all : leb (length (fs ++ more)) 4 ≡ true = le-leb (length (fs ++ more)) 4 few in
      let front : leb (length fs) 4 ≡ true = le-leb (length fs) 4 (omega (arith, few, length-append fs more)) in
      let same : Result Probe Refusal → Type 0 = λ answer. answer ≡ Err no_command in
      let Read : Bool → Type 0 =
      λ b. MatchBool b (AreRead h w Selects (no_component order) 2 (zip (parts_of order) fs) (Err r)) (same (Err r)) in
      let There : Bool → Type 0 =
      λ b. MatchBool b (AreRead h w Selects (no_component order) 2 (zip (parts_of order) (fs ++ more)) (Err r)) (same (Err r)) in
      subst There (sym all) (are_read_on (parts_of order) fs more (no_component order) 2 r (subst Read front read))

  pub range_one : (a start end : Form) (p q : Result Range Refusal) → IsIndexRange h w Selects a start end p
      → IsIndexRange h w Selects a start end q → p ≡ q
  range_one a start end p q first second =
      reads_one 1 (attribute_given (λ (attribute : Attribute). attribute) Avet (attribute_in (facts h) a)) _ (λ attribute.
      reads_one 2 (end_given (facts h) attribute.kind start) _ (λ from.
      reads_one 3 (end_given (facts h) attribute.kind end) (λ to done. done ≡ Ok (between attribute.id from to)) (λ to p q x y. x ∙ sym y)))
      p q first second

-- ---- by tests

module _ (h : List Entry) (w : Window) (filters : List (Datom → Bool)) where
  abbrev Tests : Datom → Type 0
  Tests d = IsTrue (is_selected_by filters d)

  follows_is : {X Y : Type 0} (at : ℕ) (make : ℕ → X) (Next : X → Result Y Refusal → Type 0) (next : X → Result Y Refusal)
      → ((x : X) → Next x (next x))
      → (found : Option ℕ) → Follows at make Next found (option_map_or (λ e. next (make e)) found (Err (refusal BadComponent at)))
  follows_is at make Next next each None = refl
  follows_is at make Next next each (Some e) = each (make e)

  reads_is : {X Y : Type 0} (at : ℕ) (g : Given X) (Next : X → Result Y Refusal → Type 0) (next : X → Result Y Refusal)
      → ((x : X) → Next x (next x))
      → ReadsGiven h w Tests at g Next (reads (finds h w filters) at g next)
  reads_is at (is x) Next next each = each x
  reads_is at (by_name id make) Next next each =
      (finds h w filters id, named_by_tests h w filters id, follows_is at make Next next each (finds h w filters id))
  reads_is at (wrong reason) Next next each = refl

  are_read_is : (fs : List (Component × Form)) (probe : Probe) (at : ℕ)
      → AreRead h w Tests probe at fs (read_by (finds h w filters) (facts h) probe at fs)
  are_read_is [] probe at = refl
  are_read_is (next ∷ rest) probe at =
      reads_is at (with_next (facts h) probe next.0 next.1) (λ more. AreRead h w Tests more (at + 1) rest)
      (λ more. read_by (finds h w filters) (facts h) more (at + 1) rest) (λ more. are_read_is rest more (at + 1))

  pub components_is : (order : Order) (fs : List Form) → AreComponents h w Tests order fs (components h w filters order fs)
  components_is order fs = go (leb (length fs) 4)
    where
      go : (few : Bool)
          → MatchBool few (AreRead h w Tests (no_component order) 2 (zip (parts_of order) fs)
          (cond few (read_by (finds h w filters) (facts h) (no_component order) 2 (zip (parts_of order) fs)) (Err no_command))) (cond few
          (read_by (finds h w filters) (facts h) (no_component order) 2 (zip (parts_of order) fs)) (Err no_command) ≡ Err no_command)
      go true = are_read_is (zip (parts_of order) fs) (no_component order) 2
      go false = refl

  pub range_is : (a start end : Form) → IsIndexRange h w Tests a start end (index_range h w filters a start end)
  range_is a start end =
      reads_is 1 (attribute_given (λ (attribute : Attribute). attribute) Avet (attribute_in (facts h) a)) _ _ (λ attribute.
      reads_is 2 (end_given (facts h) attribute.kind start) _ _ (λ from.
      reads_is 3 (end_given (facts h) attribute.kind end) (λ to done. done ≡ Ok (between attribute.id from to))
      (λ to. Ok (between attribute.id from to)) (λ to. refl)))
