-- What is given at a place, apart from what comes of it.
use Rattle.std.proofs.Common.{◌≡◌, ℕ, suc, zero, ◌+◌, ◌≤◌, Bool, true, false, cond, List, [], ◌∷◌, length, drop, refl, ap, sym, subst}
use Rattle.std.proofs.Common.{arith, Option, Some, None, Result, Ok, Err, eqb}
use Rattle.std.specs.Prelude.{slice_get, MatchBool}
use Rattle.std.specs.List.{zip}
use Rattle.std.proofs.lemmas.Bool.{le-leb}
use Rattle.edn_model.specs.Form as edn
use Rattle.edn_model.specs.Form.{Form}
use Rattle.fb_values.specs.declared.facts.Datom.{Datom}
use Rattle.fb_values.specs.declared.facts.Entry.{Entry}
use Rattle.fb_values.specs.declared.facts.Value.{Value}
use Rattle.fb_values.specs.declared.facts.Value.TheVariants.{Ref}
use Rattle.fb_values.specs.declared.indexes.Order.{Order}
use Rattle.fb_values.specs.declared.indexes.Order.TheVariants.{Avet}
use Rattle.fb_values.specs.declared.indexes.Probe.{Probe}
use Rattle.fb_numbers.specs.Numbers.{type_ref}
use Rattle.fb_model.specs.Facts.{facts}
use Rattle.fb_model.specs.Schema.{Attribute, is_held}
use Rattle.tx_model.specs.Values.{value_in}
use Rattle.view_model.specs.Window.{Window}
use Rattle.view_model.specs.Names.{Id}
use Rattle.view_model.specs.Scan.{Range, between}
use Rattle.read_refusals.specs.declared.reasons.Reason.TheVariants.{BadComponent, NotInIndex}
use Rattle.read_refusals.specs.declared.reasons.Refusal.{Refusal}
use Rattle.read_model.specs.Names.{id_in}
use Rattle.read_model.specs.Given.{Given, is, by_name, wrong, refusal, Follows, ReadsGiven}
use Rattle.read_model.specs.Components.{Component, entity_given, attribute_given, plain_given, value_given, attribute_in, end_given}
use Rattle.read_model.specs.Components.{parts_of, no_component, no_command, with_next, AreRead, AreComponents, IsIndexRange}
use Rattle.fb_names.specs.declared.given.Typed.{Typed}
use Rattle.fb_names.specs.declared.stops.NameStop.{NameStop}
use Rattle.fb_names.specs.declared.stops.NameStop.TheVariants.{Refused, Memory}
use Rattle.fb_names.specs.Answers.{IsGiven, AnswersAs}
use Rattle.fb_names.specs.Attributes.{typed, typed_or}
use Rattle.fb_names.specs.Ranges.{is_nil}

-- ---- another thing made of what is given

abbrev pub map_given : {X Z : Type 0} → (X → Z) → Given X → Given Z
map_given f (is x) = is (f x)
map_given f (by_name id make) = by_name id (λ e. f (make e))
map_given f (wrong reason) = wrong reason

pub value_is : {X Z : Type 0} (f : X → Z) (facts : List Datom) (make : Value → X) (kind : ℕ) (form : Form)
    → map_given f (value_given facts make kind form) ≡ value_given facts (λ v. f (make v)) kind form
value_is {X} {Z} f facts make kind form = go (eqb kind type_ref) (id_in facts form) (value_in kind form)
  where
    go : (b : Bool) (o : Option Id) (p : Option Value)
        → map_given f (cond b (entity_given (λ e. make (Ref e)) o) (plain_given make p))
        ≡ cond b (entity_given (λ e. f (make (Ref e))) o) (plain_given (λ v. f (make v)) p)
    go true None p = refl
    go true (Some id) p = refl
    go false o None = refl
    go false o (Some v) = refl

module _ (h : List Entry) (w : Window) (Selects : Datom → Type 0) (at : ℕ) where
  -- ---- what comes of what is given

  pub given_then : {X Y : Type 0} (g : Given X) (Next : X → Result Y Refusal → Type 0) (x : X) (answer : Result Y Refusal)
      → IsGiven h w Selects at g (Ok x) → Next x answer → ReadsGiven h w Selects at g Next answer
  given_then (is y) Next x answer ok next =
      let same : x ≡ y = cc in
      subst (λ z. Next z answer) same next
  given_then {X} {Y} (by_name id make) Next x answer ok next = (ok.0, ok.1, go ok.0 ok.2)
    where
      go : (found : Option ℕ) → Follows at make (λ z done. done ≡ Ok z) found (Ok x) → Follows at make Next found answer
      go None bad = absurd (cc)
      go (Some e) good =
          let same : x ≡ make e = cc in
          subst (λ z. Next z answer) same next
  given_then (wrong reason) Next x answer bad next = absurd (cc)

  pub given_refused : {X Y : Type 0} (g : Given X) (Next : X → Result Y Refusal → Type 0) (r : Refusal) → IsGiven h w Selects at g (Err r)
      → ReadsGiven h w Selects at g Next (Err r)
  given_refused (is y) Next r bad = absurd (cc)
  given_refused {X} {Y} (by_name id make) Next r none = (none.0, none.1, go none.0 none.2)
    where
      go : (found : Option ℕ) → Follows at make (λ z done. done ≡ Ok z) found (Err r) → Follows at make Next found (Err r)
      go None same = let one : r ≡ refusal BadComponent at = cc in ap (λ z. Err z) one
      go (Some e) bad = absurd (cc)
  given_refused {X} {Y} (wrong reason) Next r same = let one : r ≡ refusal reason at = cc in ap (λ z. Err z) one

  pub given_map : {X Z : Type 0} (f : X → Z) (g : Given X) (x : X) → IsGiven h w Selects at g (Ok x)
      → IsGiven h w Selects at (map_given f g) (Ok (f x))
  given_map f (is y) x ok = let same : x ≡ y = cc in ap (λ z. Ok (f z)) same
  given_map {X} {Z} f (by_name id make) x ok = (ok.0, ok.1, go ok.0 ok.2)
    where
      go : (found : Option ℕ) → Follows at make (λ z done. done ≡ Ok z) found (Ok x)
          → Follows at (λ e. f (make e)) (λ z done. done ≡ Ok z) found (Ok (f x))
      go None bad = absurd (cc)
      go (Some e) good = let same : x ≡ make e = cc in ap (λ z. Ok (f z)) same
  given_map f (wrong reason) x bad = absurd (cc)

  pub refused_map : {X Z : Type 0} (f : X → Z) (g : Given X) (r : Refusal) → IsGiven h w Selects at g (Err r)
      → IsGiven h w Selects at (map_given f g) (Err r)
  refused_map f (is y) r bad = absurd (cc)
  refused_map {X} {Z} f (by_name id make) r none = (none.0, none.1, go none.0 none.2)
    where
      go : (found : Option ℕ) → Follows at make (λ z done. done ≡ Ok z) found (Err r)
          → Follows at (λ e. f (make e)) (λ z done. done ≡ Ok z) found (Err r)
      go None same = let one : r ≡ refusal BadComponent at = cc in ap (λ z. Err z) one
      go (Some e) bad = absurd (cc)
  refused_map {X} {Z} f (wrong reason) r same = let one : r ≡ refusal reason at = cc in ap (λ z. Err z) one

  -- ---- what stands there

  pub attribute_held : {X : Type 0} (make : Attribute → X) (order : Order) (o : Option Attribute) (a : Attribute) → o ≡ Some a
      → is_held order a ≡ true → IsGiven h w Selects at (attribute_given make order o) (Ok (make a))
  attribute_held {X} make order o a same held =
      subst (λ p. IsGiven h w Selects at (attribute_given make order p) (Ok (make a))) (sym same) (go (is_held order a) held)
    where
      go : (b : Bool) → b ≡ true → IsGiven h w Selects at (cond b (is (make a)) (wrong NotInIndex)) (Ok (make a))
      go true held = refl
      go false other = absurd (cc)

-- ---- forms at their places

pub zip_at : {A B : Type 0} (xs : List A) (ys : List B) (i : ℕ) (x : A) (y : B) → slice_get xs i ≡ Some x → slice_get ys i ≡ Some y
    → drop i (zip xs ys) ≡ (x, y) ∷ drop (suc i) (zip xs ys)
zip_at [] ys i x y at_x at_y = absurd (cc)
zip_at (a ∷ xs) [] i x y at_x at_y = absurd (cc)
zip_at (a ∷ xs) (b ∷ ys) zero x y at_x at_y = let one : a ≡ x = cc in let two : b ≡ y = cc in cc
zip_at (a ∷ xs) (b ∷ ys) (suc i) x y at_x at_y = zip_at xs ys i x y at_x at_y

-- what is read from a place on comes to the answer, wherever reading began
module _ (h : List Entry) (w : Window) (Selects : Datom → Type 0) (probe : Probe) (parts : List Component) (fs : List Form) (i : ℕ)
    (part : Component) (f : Form) (at_part : slice_get parts i ≡ Some part) (at_form : slice_get fs i ≡ Some f) where
  abbrev Behind : Probe → Result Probe Refusal → Type 0
  Behind more answer = AreRead h w Selects more (i + 2 + 1) (drop (suc i) (zip parts fs)) answer

  from_here : (answer : Result Probe Refusal) → ReadsGiven h w Selects (i + 2) (with_next (facts h) probe part f) Behind answer
      → AreRead h w Selects probe (i + 2) (drop i (zip parts fs)) answer
  from_here answer read =
      subst (λ rest. AreRead h w Selects probe (i + 2) rest answer) (sym (zip_at parts fs i part f at_part at_form)) read

  pub one_more : (more : Probe) (answer : Result Probe Refusal) → IsGiven h w Selects (i + 2) (with_next (facts h) probe part f) (Ok more)
      → AreRead h w Selects more (i + 1 + 2) (drop (i + 1) (zip parts fs)) answer
      → AreRead h w Selects probe (i + 2) (drop i (zip parts fs)) answer
  one_more more answer read rest =
      let place : i + 1 + 2 ≡ i + 2 + 1 = omega arith in
      let count : i + 1 ≡ suc i = omega arith in
      let behind : AreRead h w Selects more (i + 2 + 1) (drop (i + 1) (zip parts fs)) answer =
      subst (λ n. AreRead h w Selects more n (drop (i + 1) (zip parts fs)) answer) place rest in
      let next : Behind more answer = subst (λ n. AreRead h w Selects more (i + 2 + 1) (drop n (zip parts fs)) answer) count behind in
      from_here answer (given_then h w Selects (i + 2) (with_next (facts h) probe part f) Behind more answer read next)

  pub refused_here : (r : Refusal) → IsGiven h w Selects (i + 2) (with_next (facts h) probe part f) (Err r)
      → AreRead h w Selects probe (i + 2) (drop i (zip parts fs)) (Err r)
  refused_here r read = from_here (Err r) (given_refused h w Selects (i + 2) (with_next (facts h) probe part f) Behind r read)

-- ---- refusals and want of memory

pub stopped : {X Y : Type 0} (P : Result X Refusal → Type 0) (Q : Result Y Refusal → Type 0)
    → ((r : Refusal) → P (Err r) → Q (Err r)) → (stop : NameStop) → AnswersAs P (Err stop) → AnswersAs Q (Err stop)
stopped P Q each (Refused r) refused = each r refused
stopped P Q each Memory none = tt

-- an attribute with its type
pub record IsTyped (order : Order) (o : Option Attribute) (x : Typed) : Type 0 where
  pub attribute : Attribute
  pub there : o ≡ Some attribute
  pub held : is_held order attribute ≡ true
  pub same : typed attribute ≡ x

pub typed_ok : (order : Order) (at : ℕ) (o : Option Attribute) (x : Typed) → Ok x ≡ typed_or order at o → IsTyped order o x
typed_ok order at None x other = absurd (cc)
typed_ok order at (Some a) x chosen = go (is_held order a) refl chosen
  where
    go : (b : Bool) → is_held order a ≡ b → Ok x ≡ cond b (Ok (typed a)) (Err (refusal NotInIndex at)) → IsTyped order (Some a) x
    go true held is_x = let one : x ≡ typed a = cc in record { attribute = a; there = refl; held = held; same = sym one }
    go false held other = absurd (cc)

pub typed_refused : {X : Type 0} (h : List Entry) (w : Window) (Selects : Datom → Type 0) (make : Attribute → X) (order : Order) (at : ℕ)
    (o : Option Attribute) (r : Refusal)
    → Err r ≡ typed_or order at o → IsGiven h w Selects at (attribute_given make order o) (Err r)
typed_refused h w Selects make order at None r same = let one : r ≡ refusal BadComponent at = cc in ap (λ z. Err z) one
typed_refused {X} h w Selects make order at (Some a) r chosen = go (is_held order a) chosen
  where
    go : (b : Bool) → Err r ≡ cond b (Ok (typed a)) (Err (refusal NotInIndex at))
        → IsGiven h w Selects at (cond b (is (make a)) (wrong NotInIndex)) (Err r)
    go true other = absurd (cc)
    go false same = let one : r ≡ refusal NotInIndex at = cc in ap (λ z. Err z) one

-- ---- values

module _ (h : List Entry) (w : Window) (Selects : Datom → Type 0) (at : ℕ) where
  pub value_found : {X : Type 0} (make : Value → X) (kind : ℕ) (f : Form) (v : Value)
      → IsGiven h w Selects at (value_given (facts h) (λ u. u) kind f) (Ok v)
      → IsGiven h w Selects at (value_given (facts h) make kind f) (Ok (make v))
  value_found make kind f v found =
      subst (λ g. IsGiven h w Selects at g (Ok (make v))) (value_is make (facts h) (λ u. u) kind f)
      (given_map h w Selects at make (value_given (facts h) (λ u. u) kind f) v found)

  pub value_refused : {X : Type 0} (make : Value → X) (kind : ℕ) (f : Form) (r : Refusal)
      → IsGiven h w Selects at (value_given (facts h) (λ u. u) kind f) (Err r)
      → IsGiven h w Selects at (value_given (facts h) make kind f) (Err r)
  value_refused make kind f r refused =
      subst (λ g. IsGiven h w Selects at g (Err r)) (value_is make (facts h) (λ u. u) kind f)
      (refused_map h w Selects at make (value_given (facts h) (λ u. u) kind f) r refused)

-- all of the forms
pub are_components : (h : List Entry) (w : Window) (Selects : Datom → Type 0) (order : Order) (fs : List Form)
    (answer : Result Probe Refusal)
    → length fs ≤ 4 → AreRead h w Selects (no_component order) 2 (zip (parts_of order) fs) answer
    → AreComponents h w Selects order fs answer
are_components h w Selects order fs answer few read =
    subst (λ b. MatchBool b (AreRead h w Selects (no_component order) 2 (zip (parts_of order) fs) answer) (answer ≡ Err no_command))
    (sym (le-leb (length fs) 4 few)) read

-- ---- ranges

pub end_is_value : (facts : List Datom) (kind : ℕ) (f : Form) → is_nil f ≡ false → end_given facts kind f ≡ value_given facts Some kind f
end_is_value facts kind edn.nil other = absurd (cc)
end_is_value facts kind f value = refl

module _ (h : List Entry) (w : Window) (Selects : Datom → Type 0) (a start end : Form) where
  abbrev ToEnd : Attribute → Option Value → Option Value → Result Range Refusal → Type 0
  ToEnd attribute from to done = done ≡ Ok (between attribute.id from to)

  abbrev FromStart : Attribute → Option Value → Result Range Refusal → Type 0
  FromStart attribute from done = ReadsGiven h w Selects 3 (end_given (facts h) attribute.kind end) (ToEnd attribute from) done

  abbrev OfAttribute : Attribute → Result Range Refusal → Type 0
  OfAttribute attribute done = ReadsGiven h w Selects 2 (end_given (facts h) attribute.kind start) (FromStart attribute) done

  abbrev TheAttribute : Given Attribute
  TheAttribute = attribute_given (λ (attribute : Attribute). attribute) Avet (attribute_in (facts h) a)

  pub attribute_refused : (r : Refusal) → Err r ≡ typed_or Avet 1 (attribute_in (facts h) a) → IsIndexRange h w Selects a start end (Err r)
  attribute_refused r same =
      given_refused h w Selects 1 TheAttribute OfAttribute r
      (typed_refused h w Selects (λ (attribute : Attribute). attribute) Avet 1 (attribute_in (facts h) a) r same)

  module _ (x : Typed) (t : IsTyped Avet (attribute_in (facts h) a) x) where
    one : IsGiven h w Selects 1 TheAttribute (Ok t.attribute)
    one = attribute_held h w Selects 1 (λ (attribute : Attribute). attribute) Avet (attribute_in (facts h) a) t.attribute t.there t.held

    kind_is : x.kind ≡ t.attribute.kind
    kind_is = sym (ap (λ (y : Typed). y.kind) t.same)

    of_kind : (at : ℕ) (f : Form) (answer : Result (Option Value) Refusal) → IsGiven h w Selects at (end_given (facts h) x.kind f) answer
        → IsGiven h w Selects at (end_given (facts h) t.attribute.kind f) answer
    of_kind at f answer given = subst (λ k. IsGiven h w Selects at (end_given (facts h) k f) answer) kind_is given

    pub start_refused : (r : Refusal) → IsGiven h w Selects 2 (end_given (facts h) x.kind start) (Err r)
        → IsIndexRange h w Selects a start end (Err r)
    start_refused r refused =
        given_then h w Selects 1 TheAttribute OfAttribute t.attribute (Err r) one
        (given_refused h w Selects 2 (end_given (facts h) t.attribute.kind start) (FromStart t.attribute) r
        (of_kind 2 start (Err r) refused))

    pub end_refused : (from : Option Value) (r : Refusal) → IsGiven h w Selects 2 (end_given (facts h) x.kind start) (Ok from)
        → IsGiven h w Selects 3 (end_given (facts h) x.kind end) (Err r) → IsIndexRange h w Selects a start end (Err r)
    end_refused from r two refused =
        given_then h w Selects 1 TheAttribute OfAttribute t.attribute (Err r) one
        (given_then h w Selects 2 (end_given (facts h) t.attribute.kind start) (FromStart t.attribute) from (Err r)
        (of_kind 2 start (Ok from) two)
        (given_refused h w Selects 3 (end_given (facts h) t.attribute.kind end) (ToEnd t.attribute from) r (of_kind 3 end (Err r) refused)))

    pub range_found : (from to : Option Value) → IsGiven h w Selects 2 (end_given (facts h) x.kind start) (Ok from)
        → IsGiven h w Selects 3 (end_given (facts h) x.kind end) (Ok to) → IsIndexRange h w Selects a start end (Ok (between x.id from to))
    range_found from to two three =
        subst (λ (y : Typed). IsIndexRange h w Selects a start end (Ok (between y.id from to))) t.same
        (given_then h w Selects 1 TheAttribute OfAttribute t.attribute (Ok (between t.attribute.id from to)) one
        (given_then h w Selects 2 (end_given (facts h) t.attribute.kind start) (FromStart t.attribute) from
        (Ok (between t.attribute.id from to)) (of_kind 2 start (Ok from) two)
        (given_then h w Selects 3 (end_given (facts h) t.attribute.kind end) (ToEnd t.attribute from) to
        (Ok (between t.attribute.id from to)) (of_kind 3 end (Ok to) three) refl)))
