-- A visit of an entity and its parts: what is visited leads only to what is visited or waits on the stack.
use Rattle.std.proofs.Common.{◌≡◌, ℕ, ◌+◌, ◌<◌, ◌≤◌, Bool, true, false, cond, not, ◌&&◌, ◌||◌, List, [], ◌∷◌, ◌++◌, length, map}
use Rattle.std.proofs.Common.{append_assoc, refl, ap, sym, ◌∙◌, subst, arith, inl, inr, ◌⊎◌}
use Rattle.std.specs.Prelude.{nat_eq, Contains, filter, filter_map, is_some, Option, None, Some}
use Rattle.std.specs.Option.{option_map_or}
use Rattle.std.specs.List.{All, cons_option}
use Rattle.std.proofs.lemmas.Bool.{true≢false, or_cases, or_left, or_right, eqb-true, eq-eqb}
use Rattle.std.proofs.lemmas.List.{append-nil, length-append}
use Rattle.std.proofs.lemmas.List.Elements.{All-append}
use Rattle.std.proofs.lemmas.List.Folds.{list_any-append}
use Rattle.fb_values.specs.declared.facts.Datom.{Datom}
use Rattle.fb_values.specs.declared.facts.Entry.{Entry}
use Rattle.fb_values.specs.declared.facts.Value.{Value}
use Rattle.fb_values.specs.declared.facts.Value.TheVariants.{Ref}
use Rattle.fb_values.specs.declared.indexes.Order.TheVariants.{Eavt, Vaet}
use Rattle.fb_model.specs.Facts.{is_of, value_eq, facts}
use Rattle.fb_model.specs.Schema.{attribute_of, entity_in, is_part}
use Rattle.fb_model.proofs.Members.{kept, keep}
use Rattle.fb_model.proofs.Triples.{value_eq-true, value_eq-refl}
use Rattle.fb_facts.specs.FactLists.{facts_of, refs_to, is_of_entity, is_ref_to}
use Rattle.tx_model.specs.Tempids.{db_of}
use Rattle.tx_model.specs.Changes.{withdrawn, set_withdrawn, is_in, is_value_in, is_about_set, closed_set, component_links, part_in}
use Rattle.tx_model.specs.Changes.{link_to}
use Rattle.tx_model.proofs.Lists.{image_of, has_image}
use Rattle.tx_asks.specs.declared.triples.Asking.{Asking}
use Rattle.tx_sweep.specs.declared.found.Sweep.{Sweep}
use Rattle.tx_sweep.specs.Sweep.{asking_at, said_of, part_to, is_asked_upto, keeps, has_visited, has_pair, is_about_one, is_ref_to_one}
use Rattle.tx_sweep.specs.Sweep.{AreSwept, IsAskedOf, Sweeps, Visits}
use Rattle.tx_sweep.proofs.Members.{any_of, some_of, all_of, each_of, made_of, makes, count, count-in_order}
use Rattle.tx_sweep.proofs.ClosedSets.{closed_set-itself, closed_set-closed, closed_set-least}
use Rattle.tx_sweep.proofs.Sweeping.{AreTold, all_members, told-left, told-right, told-by, is_of-itself, about-same}

-- ---- parts and links

-- the fact leads from its entity to a part of it
part_in-some : (facts : List Datom) (d : Datom) (link : ℕ × ℕ) → part_in facts d ≡ Some link
    → (link.0 ≡ d.e) × (part_to facts d ≡ Some link.1)
part_in-some facts d link is = go (is_part facts d.a) d.v is
  where
    first : (x y : ℕ × ℕ) → Some x ≡ Some y → x ≡ y
    first x y e = cc

    go : (b : Bool) (v : Value) → cond b (link_to d.e v) None ≡ Some link → (link.0 ≡ d.e) × (cond b (entity_in v) None ≡ Some link.1)
    go true (Ref part) is = let e = first (d.e, part) link is in (sym (ap (λ (x : ℕ × ℕ). x.0) e), ap (λ (x : ℕ × ℕ). Some x.1) e)
    go true v is = absurd (cc)
    go false v is = absurd (cc)

part_to-some : (facts : List Datom) (d : Datom) (part : ℕ) → part_to facts d ≡ Some part → part_in facts d ≡ Some (d.e, part)
part_to-some facts d part is = go (is_part facts d.a) d.v is
  where
    go : (b : Bool) (v : Value) → cond b (entity_in v) None ≡ Some part → cond b (link_to d.e v) None ≡ Some (d.e, part)
    go true (Ref x) is = let same : x ≡ part = cc in ap (λ p. Some (d.e, p)) same
    go true v is = absurd (cc)
    go false v is = absurd (cc)

-- the schema tells of the parts
abbrev pub TellsParts : List Datom → List Datom → Type 0
TellsParts schema facts = (d : Datom) → part_to schema d ≡ part_to facts d

pub tells_parts : (schema : List Datom) (h : List Entry)
    → ((e : ℕ) → attribute_of schema e ≡ attribute_of (facts h) e) → TellsParts schema (facts h)
tells_parts schema h same = λ d. ap (λ attribute. cond (option_map_or (λ a. a.component) attribute false) (entity_in d.v) None) (same d.a)

-- a part that a fact of the entity tells of, as a link
link_of : (facts : List Datom) (d : Datom) (part : ℕ) → Contains facts d → part_to facts d ≡ Some part
    → Contains (component_links facts) (d.e, part)
link_of facts d part among is = makes (part_in facts) facts d (d.e, part) among (part_to-some facts d part is)

-- the entity's facts have each link from it
part_of_link : AreTold → (h : List Entry) (schema : List Datom) → TellsParts schema (facts h)
    → (link : ℕ × ℕ) → Contains (component_links (facts h)) link
    → is_in (filter_map (part_to schema) (facts_of h link.0)) link.1 ≡ true
part_of_link law h schema tells link among =
    let from = made_of (part_in (facts h)) (facts h) link among in
    let parts = part_in-some (facts h) from.source link from.gives in
    let listed = ((law h Eavt (is_of_entity link.0)).members from.source).1 (from.among, eq-eqb from.source.e link.0 (sym parts.0)) in
    any_of (nat_eq link.1) (filter_map (part_to schema) (facts_of h link.0)) link.1
    (makes (part_to schema) (facts_of h link.0) from.source link.1 listed (tells from.source ∙ parts.1)) (eq-eqb link.1 link.1 refl)

-- a part of a member of the closed set is a member
part_reached : AreTold → (h : List Entry) (schema : List Datom) → TellsParts schema (facts h)
    → (root e : ℕ) → is_in (closed_set (facts h) root) e ≡ true
    → (x : ℕ) → is_in (filter_map (part_to schema) (facts_of h e)) x ≡ true → is_in (closed_set (facts h) root) x ≡ true
part_reached law h schema tells root e inside x among =
    let one = some_of (nat_eq x) (filter_map (part_to schema) (facts_of h e)) among in
    let x_is : x ≡ one.0 = eqb-true x one.0 one.2 in
    let from = made_of (part_to schema) (facts_of h e) one.0 one.1 in
    let d = from.source in
    let is = ((law h Eavt (is_of_entity e)).members d).0 from.among in
    let e_is : d.e ≡ e = eqb-true d.e e is.1 in
    let link = link_of (facts h) d one.0 is.0 (sym (tells d) ∙ from.gives) in
    let kept_link =
    each_of (λ (link : ℕ × ℕ). not (is_in (closed_set (facts h) root) link.0) || is_in (closed_set (facts h) root) link.1)
    (component_links (facts h)) (d.e, one.0) (closed_set-closed (facts h) root) link in
    subst (λ y. is_in (closed_set (facts h) root) y ≡ true) (sym x_is)
    (through (is_in (closed_set (facts h) root) d.e) (is_in (closed_set (facts h) root) one.0) kept_link
    (ap (is_in (closed_set (facts h) root)) e_is ∙ inside))
  where
    through : (p q : Bool) → (not p || q) ≡ true → p ≡ true → q ≡ true
    through true true link_kept is = refl
    through true false link_kept is = absurd (true≢false (sym link_kept))
    through false q link_kept is = absurd (true≢false (sym is))

-- ---- what is said of an entity

abbrev pub set_asked : List Entry → ℕ → List Datom
set_asked h root = set_withdrawn (db_of h) root

-- the retraction of a fact about the closed set is asked
fact_asked : (h : List Entry) (place root : ℕ) (d : Datom) → Contains (facts h) d → is_about_set (closed_set (facts h) root) d ≡ true
    → IsAskedOf place (set_asked h root) (asking_at place d)
fact_asked h place root d among about =
    let in_asked =
    has_image (withdrawn (db_of h)) (filter (is_about_set (closed_set (facts h) root)) (facts h)) d
    (keep (is_about_set (closed_set (facts h) root)) (facts h) d among about) in
    (refl, any_of (is_of d.e d.a d.v) (set_asked h root) (withdrawn (db_of h) d) in_asked (is_of-itself d))

value_inside : (set : List ℕ) (e : ℕ) (v : Value) → value_eq v (Ref e) ≡ true → is_in set e ≡ true → is_value_in set v ≡ true
value_inside set e v same inside = subst (λ w. is_value_in set w ≡ true) (sym (value_eq-true v (Ref e) same)) inside

said_is_asked : AreTold → (h : List Entry) (place root e : ℕ) → is_in (closed_set (facts h) root) e ≡ true
    → All (IsAskedOf place (set_asked h root)) (said_of h place e)
said_is_asked law h place root e inside =
    All-append (IsAskedOf place (set_asked h root)) (map (asking_at place) (facts_of h e)) (map (asking_at place) (refs_to h e))
    (all_members (IsAskedOf place (set_asked h root)) (map (asking_at place) (facts_of h e)) about)
    (all_members (IsAskedOf place (set_asked h root)) (map (asking_at place) (refs_to h e)) referring)
  where
    about : (asking : Asking) → Contains (map (asking_at place) (facts_of h e)) asking → IsAskedOf place (set_asked h root) asking
    about asking among =
        let from = image_of (asking_at place) (facts_of h e) asking among in
        let d = from.original in
        let is = ((law h Eavt (is_of_entity e)).members d).0 from.among in
        let e_is : d.e ≡ e = eqb-true d.e e is.1 in
        subst (IsAskedOf place (set_asked h root)) from.image_is
        (fact_asked h place root d is.0 (or_left _ _ (ap (is_in (closed_set (facts h) root)) e_is ∙ inside)))

    referring : (asking : Asking) → Contains (map (asking_at place) (refs_to h e)) asking → IsAskedOf place (set_asked h root) asking
    referring asking among =
        let from = image_of (asking_at place) (refs_to h e) asking among in
        let d = from.original in
        let is = ((law h Vaet (is_ref_to e)).members d).0 from.among in
        subst (IsAskedOf place (set_asked h root)) from.image_is (fact_asked h place root d is.0
        (or_right (is_in (closed_set (facts h) root) d.e) _ (value_inside (closed_set (facts h) root) e d.v is.1 inside)))

about_told : AreTold → (h : List Entry) (place e : ℕ) (d : Datom) → Contains (facts h) d → d.e ≡ e
    → is_asked_upto place (said_of h place e) d ≡ true
about_told law h place e d among e_is =
    let listed = ((law h Eavt (is_of_entity e)).members d).1 (among, eq-eqb d.e e e_is) in
    told-left place (map (asking_at place) (facts_of h e)) (map (asking_at place) (refs_to h e)) d
    (told-by place (map (asking_at place) (facts_of h e)) d (asking_at place d) (has_image (asking_at place) (facts_of h e) d listed)
    (omega arith) (is_of-itself d))

referring_told : AreTold → (h : List Entry) (place e : ℕ) (d : Datom) → Contains (facts h) d → d.v ≡ Ref e
    → is_asked_upto place (said_of h place e) d ≡ true
referring_told law h place e d among v_is =
    let listed = ((law h Vaet (is_ref_to e)).members d).1 (among, ap (λ v. value_eq v (Ref e)) v_is ∙ value_eq-refl (Ref e)) in
    told-right place (map (asking_at place) (facts_of h e)) (map (asking_at place) (refs_to h e)) d
    (told-by place (map (asking_at place) (refs_to h e)) d (asking_at place d) (has_image (asking_at place) (refs_to h e) d listed)
    (omega arith) (is_of-itself d))

-- ---- the visit

pub record IsVisiting (h : List Entry) (place root : ℕ) (stack : List ℕ) (before after : Sweep) : Type 0 where
  pub more : List Asking
  pub grown : after.askings.items ≡ before.askings.items ++ more
  pub asks : All (IsAskedOf place (set_asked h root)) more
  -- what waits is part of the closed set, and the root waits or was visited
  pub reached : (x : ℕ) → is_in stack x ≡ true → is_in (closed_set (facts h) root) x ≡ true
  pub come : (is_in stack root || has_visited after root) ≡ true
  pub pairs : (x a : ℕ) → has_pair after x a ≡ has_pair before x a
  pub closed : (link : ℕ × ℕ) → Contains (component_links (facts h)) link → has_visited after link.0 ≡ true
      → (is_in stack link.1 || has_visited after link.1) ≡ true
  pub about : (d : Datom) → Contains (facts h) d → is_about_one (has_visited after) d ≡ true
      → is_asked_upto place after.askings.items d ≡ true
  pub paired : (d : Datom) → Contains (facts h) d → has_pair after d.e d.a ≡ true → is_asked_upto place after.askings.items d ≡ true

pub visiting_first : (h : List Entry) (place root : ℕ) (found : Sweep) → AreSwept (facts h) place found
    → IsVisiting h place root (root ∷ []) found found
visiting_first h place root found swept =
    record {
      more = [];
      grown = sym (append-nil found.askings.items);
      asks = λ k d below. absurd (omega (arith, below));
      reached = λ x inside. only x (nat_eq x root) refl inside;
      come = or_left _ _ (or_left _ _ (eq-eqb root root refl));
      pairs = λ x a. refl;
      closed =
          λ link among visited. or_right _ _ (through (has_visited found link.0) (has_visited found link.1) (each_of (λ (link : ℕ × ℕ).
          not (has_visited found link.0) || has_visited found link.1) (component_links (facts h)) link swept.closed among) visited);
      about = swept.about;
      paired = swept.paired;
    }
  where
    only : (x : ℕ) (b : Bool) → nat_eq x root ≡ b → (b || false) ≡ true → is_in (closed_set (facts h) root) x ≡ true
    only x true same inside =
        subst (λ y. is_in (closed_set (facts h) root) y ≡ true) (sym (eqb-true x root same)) (closed_set-itself (facts h) root)
    only x false same inside = absurd (true≢false (sym inside))

    through : (p q : Bool) → (not p || q) ≡ true → p ≡ true → q ≡ true
    through true true link_kept is = refl
    through true false link_kept is = absurd (true≢false (sym link_kept))
    through false q link_kept is = absurd (true≢false (sym is))

pub visiting_last : (h : List Entry) (place root : ℕ) (before after : Sweep) → IsVisiting h place root [] before after
    → Sweeps (facts h) place (set_asked h root) before after
visiting_last h place root before after visiting =
    record {
      more = visiting.more;
      grown = visiting.grown;
      asks = visiting.asks;
      told = told;
      kept = record { closed = closed; about = visiting.about; paired = visiting.paired };
    }
  where
    link_kept : (link : ℕ × ℕ) (b : Bool) → has_visited after link.0 ≡ b
        → (has_visited after link.0 ≡ true → has_visited after link.1 ≡ true) → (not b || has_visited after link.1) ≡ true
    link_kept link true is next = next is
    link_kept link false is next = refl

    closed : keeps (has_visited after) (component_links (facts h)) ≡ true
    closed =
        all_of (λ (link : ℕ × ℕ). not (has_visited after link.0) || has_visited after link.1) (component_links (facts h))
        (λ link among. link_kept link (has_visited after link.0) refl (visiting.closed link among))

    inside : (x : ℕ) → is_in (closed_set (facts h) root) x ≡ true → has_visited after x ≡ true
    inside = closed_set-least (facts h) root (has_visited after) closed visiting.come

    value_too : (v : Value) → is_value_in (closed_set (facts h) root) v ≡ true → is_ref_to_one (has_visited after) v ≡ true
    value_too (Ref e) is = inside e is
    value_too v is = absurd (true≢false (sym is))

    about_too : (d : Datom) → is_about_set (closed_set (facts h) root) d ≡ true → is_about_one (has_visited after) d ≡ true
    about_too d is = elim (or_cases (is_in (closed_set (facts h) root) d.e) (is_value_in (closed_set (facts h) root) d.v) is) [
      | inl first ↦ or_left _ _ (inside d.e first)
      | inr value ↦ or_right (has_visited after d.e) _ (value_too d.v value)
    ]

    told : (d : Datom) → Contains (set_asked h root) d → is_asked_upto place after.askings.items d ≡ true
    told d among =
        let from = image_of (withdrawn (db_of h)) (filter (is_about_set (closed_set (facts h) root)) (facts h)) d among in
        let is = kept (is_about_set (closed_set (facts h) root)) (facts h) from.original from.among in
        let one : is_asked_upto place after.askings.items (withdrawn (db_of h) from.original) ≡ true =
        visiting.about from.original is.member (about_too from.original is.passes) in
        subst (λ x. is_asked_upto place after.askings.items x ≡ true) from.image_is one

-- ---- one more entity is visited

module _ (stack : List ℕ) (e : ℕ) where
  waits : (x : ℕ) → is_in (stack ++ e ∷ []) x ≡ true → (is_in stack x ≡ true) ⊎ (x ≡ e)
  waits x inside = elim (or_cases (is_in stack x) (is_in (e ∷ []) x) (sym (list_any-append (nat_eq x) stack (e ∷ [])) ∙ inside)) [
    | inl first ↦ inl first
    | inr last ↦ inr (only (nat_eq x e) refl last)
  ]
    where
      only : (b : Bool) → nat_eq x e ≡ b → (b || false) ≡ true → x ≡ e
      only true same last = eqb-true x e same
      only false same last = absurd (true≢false (sym last))

  waits_first : (x : ℕ) → is_in stack x ≡ true → is_in (stack ++ e ∷ []) x ≡ true
  waits_first x inside = list_any-append (nat_eq x) stack (e ∷ []) ∙ or_left _ _ inside

  waits_last : is_in (stack ++ e ∷ []) e ≡ true
  waits_last = list_any-append (nat_eq e) stack (e ∷ []) ∙ or_right (is_in stack e) _ (or_left _ _ (eq-eqb e e refl))

module _ (stack rest : List ℕ) (e : ℕ) (mid after : Sweep)
    (visited : (x : ℕ) → has_visited after x ≡ (nat_eq e x || has_visited mid x)) where
  stays_visited : (x : ℕ) → has_visited mid x ≡ true → has_visited after x ≡ true
  stays_visited x is = visited x ∙ or_right (nat_eq e x) _ is

  is_visited : has_visited after e ≡ true
  is_visited = visited e ∙ or_left _ _ (eq-eqb e e refl)

  visited_before : (x : ℕ) → has_visited after x ≡ true → (e ≡ x) ⊎ (has_visited mid x ≡ true)
  visited_before x is =
      elim (or_cases (nat_eq e x) (has_visited mid x) (sym (visited x) ∙ is)) [ inl same ↦ inl (eqb-true e x same) | inr old ↦ inr old ]

  still : ((x : ℕ) → is_in stack x ≡ true → is_in rest x ≡ true) → (x : ℕ) → (is_in (stack ++ e ∷ []) x || has_visited mid x) ≡ true
      → (is_in rest x || has_visited after x) ≡ true
  still wait x is = elim (or_cases (is_in (stack ++ e ∷ []) x) (has_visited mid x) is) [
    | inl waiting ↦ elim (waits stack e x waiting) [
      | inl first ↦ or_left _ _ (wait x first)
      | inr same ↦ or_right (is_in rest x) _ (ap (has_visited after) same ∙ is_visited)
    ]
    | inr old ↦ or_right (is_in rest x) _ (stays_visited x old)
  ]

-- the entity was visited before
step_again : (h : List Entry) (place root e : ℕ) (stack : List ℕ) (before mid after : Sweep)
    → IsVisiting h place root (stack ++ e ∷ []) before mid
    → ((x : ℕ) → has_visited after x ≡ (nat_eq e x || has_visited mid x)) → ((x a : ℕ) → has_pair after x a ≡ has_pair mid x a)
    → has_visited mid e ≡ true → after.askings.items ≡ mid.askings.items → IsVisiting h place root stack before after
step_again h place root e stack before mid after visiting visited pairs is items =
    record {
      more = visiting.more;
      grown = items ∙ visiting.grown;
      asks = visiting.asks;
      reached = λ x inside. visiting.reached x (waits_first stack e x inside);
      come = still stack stack e mid after visited (λ x waiting. waiting) root visiting.come;
      pairs = λ x a. pairs x a ∙ visiting.pairs x a;
      closed =
          λ link among first.
          still stack stack e mid after visited (λ x waiting. waiting) link.1 (visiting.closed link among (sym (same link.0) ∙ first));
      about = λ d among about. told d (visiting.about d among (sym (about-same (has_visited after) (has_visited mid) same d) ∙ about));
      paired = λ d among paired. told d (visiting.paired d among (sym (pairs d.e d.a) ∙ paired));
    }
  where
    told : (d : Datom) → is_asked_upto place mid.askings.items d ≡ true → is_asked_upto place after.askings.items d ≡ true
    told d was = subst (λ xs. is_asked_upto place xs d ≡ true) (sym items) was

    same : (x : ℕ) → has_visited after x ≡ has_visited mid x
    same x = visited x ∙ go (nat_eq e x) refl
      where
        go : (b : Bool) → nat_eq e x ≡ b → (b || has_visited mid x) ≡ has_visited mid x
        go true e_is = sym (ap (has_visited mid) (sym (eqb-true e x e_is)) ∙ is)
        go false e_is = refl

-- it is visited now
step_new : AreTold → (h : List Entry) (schema : List Datom) → TellsParts schema (facts h)
    → (place root e : ℕ) (stack : List ℕ) (before mid after : Sweep)
    → IsVisiting h place root (stack ++ e ∷ []) before mid
    → ((x : ℕ) → has_visited after x ≡ (nat_eq e x || has_visited mid x)) → ((x a : ℕ) → has_pair after x a ≡ has_pair mid x a)
    → after.askings.items ≡ mid.askings.items ++ said_of h place e
    → IsVisiting h place root (stack ++ filter_map (part_to schema) (facts_of h e)) before after
step_new law h schema tells place root e stack before mid after visiting visited pairs items =
    record {
      more = visiting.more ++ said_of h place e;
      grown =
          items ∙ ap (λ xs. xs ++ said_of h place e) visiting.grown ∙ append_assoc before.askings.items visiting.more (said_of h place e);
      asks =
          All-append (IsAskedOf place (set_asked h root)) visiting.more (said_of h place e) visiting.asks
          (said_is_asked law h place root e inside);
      reached = reached;
      come = still stack rest e mid after visited first_too root visiting.come;
      pairs = λ x a. pairs x a ∙ visiting.pairs x a;
      closed = λ link among first. elim (visited_before stack rest e mid after visited link.0 first) [
        | inl same ↦
            or_left _ _ (later_too link.1 (subst (λ x. is_in (filter_map (part_to schema) (facts_of h x)) link.1 ≡ true) (sym same)
            (part_of_link law h schema tells link among)))
        | inr old ↦ still stack rest e mid after visited first_too link.1 (visiting.closed link among old)
      ];
      about = λ d among about. elim (or_cases (has_visited after d.e) (is_ref_to_one (has_visited after) d.v) about) [
        | inl first ↦ elim (visited_before stack rest e mid after visited d.e first) [
          | inl same ↦ told_now d (about_told law h place e d among (sym same))
          | inr old ↦ told d (visiting.about d among (or_left _ _ old))
        ]
        | inr value ↦ elim (value_before d.v value) [
          | inl same ↦ told_now d (referring_told law h place e d among same)
          | inr old ↦ told d (visiting.about d among (or_right (has_visited mid d.e) _ old))
        ]
      ];
      paired = λ d among paired. told d (visiting.paired d among (sym (pairs d.e d.a) ∙ paired));
    }
  where
    parts : List ℕ
    parts = filter_map (part_to schema) (facts_of h e)

    rest : List ℕ
    rest = stack ++ filter_map (part_to schema) (facts_of h e)

    inside : is_in (closed_set (facts h) root) e ≡ true
    inside = visiting.reached e (waits_last stack e)

    first_too : (x : ℕ) → is_in stack x ≡ true → is_in (stack ++ filter_map (part_to schema) (facts_of h e)) x ≡ true
    first_too x is = list_any-append (nat_eq x) stack (filter_map (part_to schema) (facts_of h e)) ∙ or_left _ _ is

    later_too : (x : ℕ) → is_in (filter_map (part_to schema) (facts_of h e)) x ≡ true
        → is_in (stack ++ filter_map (part_to schema) (facts_of h e)) x ≡ true
    later_too x is = list_any-append (nat_eq x) stack (filter_map (part_to schema) (facts_of h e)) ∙ or_right (is_in stack x) _ is

    reached : (x : ℕ) → is_in (stack ++ filter_map (part_to schema) (facts_of h e)) x ≡ true → is_in (closed_set (facts h) root) x ≡ true
    reached x is =
        elim (or_cases (is_in stack x) (is_in (filter_map (part_to schema) (facts_of h e)) x)
        (sym (list_any-append (nat_eq x) stack (filter_map (part_to schema) (facts_of h e))) ∙ is)) [
          | inl first ↦ visiting.reached x (waits_first stack e x first)
          | inr later ↦ part_reached law h schema tells root e inside x later
        ]

    told : (d : Datom) → is_asked_upto place mid.askings.items d ≡ true → is_asked_upto place after.askings.items d ≡ true
    told d was = subst (λ xs. is_asked_upto place xs d ≡ true) (sym items) (told-left place mid.askings.items (said_of h place e) d was)

    told_now : (d : Datom) → is_asked_upto place (said_of h place e) d ≡ true → is_asked_upto place after.askings.items d ≡ true
    told_now d is = subst (λ xs. is_asked_upto place xs d ≡ true) (sym items) (told-right place mid.askings.items (said_of h place e) d is)

    value_before : (v : Value) → is_ref_to_one (has_visited after) v ≡ true → (v ≡ Ref e) ⊎ (is_ref_to_one (has_visited mid) v ≡ true)
    value_before (Ref x) is =
        elim (visited_before stack stack e mid after visited x is) [ inl same ↦ inl (ap Ref (sym same)) | inr old ↦ inr old ]
    value_before v is = absurd (true≢false (sym is))

pub visiting_next : AreTold → (h : List Entry) (schema : List Datom) → TellsParts schema (facts h)
    → (place root e : ℕ) (stack rest : List ℕ) (before mid after : Sweep)
    → IsVisiting h place root (stack ++ e ∷ []) before mid → Visits h schema place e stack rest mid after
    → IsVisiting h place root rest before after
visiting_next law h schema tells place root e stack rest before mid after visiting visits =
    go (has_visited mid e) refl visits.askings visits.parts
  where
    go : (b : Bool) → has_visited mid e ≡ b → after.askings.items ≡ cond b mid.askings.items (mid.askings.items ++ said_of h place e)
        → rest ≡ cond b stack (stack ++ filter_map (part_to schema) (facts_of h e)) → IsVisiting h place root rest before after
    go true is items rest_is =
        subst (λ s. IsVisiting h place root s before after) (sym rest_is)
        (step_again h place root e stack before mid after visiting visits.visited visits.pairs is items)
    go false is items rest_is =
        subst (λ s. IsVisiting h place root s before after) (sym rest_is)
        (step_new law h schema tells place root e stack before mid after visiting visits.visited visits.pairs items)

-- ---- the visit ends

-- the facts that lead to parts from what is not visited yet
abbrev pub open_parts : List Datom → (ℕ → Bool) → List Datom → ℕ
open_parts schema has ds = count (λ d. not (has d.e) && is_some (part_to schema d)) ds

length-parts : (schema ds : List Datom) → length (filter_map (part_to schema) ds) ≡ count (λ d. is_some (part_to schema d)) ds
length-parts schema [] = refl
length-parts schema (d ∷ ds) = go (part_to schema d) (length-parts schema ds)
  where
    go : (o : Option ℕ) → length (filter_map (part_to schema) ds) ≡ count (λ d. is_some (part_to schema d)) ds
        → length (cons_option o (filter_map (part_to schema) ds))
        ≡ cond (is_some o) (count (λ d. is_some (part_to schema d)) ds + 1) (count (λ d. is_some (part_to schema d)) ds)
    go None rest = rest
    go (Some x) rest = omega (arith, rest)

one_part : (q : Bool) (f m o : ℕ) → f + m ≤ o → cond q (f + 1) f + m ≤ cond q (o + 1) o
one_part true f m o le = omega (arith, le)
one_part false f m o le = le

one_other : (q : Bool) (f m o : ℕ) → f + m ≤ o → f + cond q (m + 1) m ≤ cond q (o + 1) o
one_other true f m o le = omega (arith, le)
one_other false f m o le = le

-- visiting an entity closes what leads from it
open-visit : (schema : List Datom) (e : ℕ) (has more : ℕ → Bool) → ((x : ℕ) → more x ≡ (nat_eq e x || has x)) → has e ≡ false
    → (ds : List Datom)
    → count (λ d. is_some (part_to schema d)) (filter (is_of_entity e) ds) + open_parts schema more ds ≤ open_parts schema has ds
open-visit schema e has more visited fresh [] = omega arith
open-visit schema e has more visited fresh (d ∷ ds) = go (nat_eq d.e e) refl (open-visit schema e has more visited fresh ds)
  where
    go : (b : Bool) → nat_eq d.e e ≡ b
        → count (λ d. is_some (part_to schema d)) (filter (is_of_entity e) ds) + open_parts schema more ds ≤ open_parts schema has ds
        → count (λ d. is_some (part_to schema d)) (cond b (d ∷ filter (is_of_entity e) ds) (filter (is_of_entity e) ds))
        + open_parts schema more (d ∷ ds) ≤ open_parts schema has (d ∷ ds)
    go true same rest =
        let e_is : d.e ≡ e = eqb-true d.e e same in
        let more_is : more d.e ≡ true = visited d.e ∙ or_left _ _ (eq-eqb e d.e (sym e_is)) in
        let has_is : has d.e ≡ false = ap has e_is ∙ fresh in
        rw (more_is, has_is) (one_part (is_some (part_to schema d)) (count (λ d. is_some (part_to schema d)) (filter (is_of_entity e) ds))
        (open_parts schema more ds) (open_parts schema has ds) rest)
    go false same rest =
        let more_is : more d.e ≡ has d.e = visited d.e ∙ apart (nat_eq e d.e) refl in
        rw more_is (one_other (not (has d.e) && is_some (part_to schema d))
        (count (λ d. is_some (part_to schema d)) (filter (is_of_entity e) ds)) (open_parts schema more ds) (open_parts schema has ds) rest)
      where
        apart : (c : Bool) → nat_eq e d.e ≡ c → (c || has d.e) ≡ has d.e
        apart true is = absurd (true≢false (sym (eq-eqb d.e e (sym (eqb-true e d.e is))) ∙ same))
        apart false is = refl

open-same : (schema : List Datom) (has more : ℕ → Bool)
    → ((x : ℕ) → more x ≡ has x) → (ds : List Datom) → open_parts schema more ds ≡ open_parts schema has ds
open-same schema has more same [] = refl
open-same schema has more same (d ∷ ds) = rw (same d.e, open-same schema has more same ds) refl

-- each round takes one from the stack, and adds to it no more than it closes
pub visit_smaller : (h : List Entry) (schema : List Datom) (place e : ℕ) (stack rest : List ℕ) (mid after : Sweep)
    → Visits h schema place e stack rest mid after
    → length rest + open_parts schema (has_visited after) (facts h)
    < length (stack ++ e ∷ []) + open_parts schema (has_visited mid) (facts h)
visit_smaller h schema place e stack rest mid after visits = go (has_visited mid e) refl visits.parts
  where
    longer : length (stack ++ e ∷ []) ≡ length stack + 1
    longer = length-append stack (e ∷ [])

    same : has_visited mid e ≡ true → (x : ℕ) → has_visited after x ≡ has_visited mid x
    same is x = visits.visited x ∙ at_it (nat_eq e x) refl
      where
        at_it : (b : Bool) → nat_eq e x ≡ b → (b || has_visited mid x) ≡ has_visited mid x
        at_it true e_is = sym (ap (has_visited mid) (sym (eqb-true e x e_is)) ∙ is)
        at_it false e_is = refl

    go : (b : Bool) → has_visited mid e ≡ b → rest ≡ cond b stack (stack ++ filter_map (part_to schema) (facts_of h e))
        → length rest + open_parts schema (has_visited after) (facts h)
        < length (stack ++ e ∷ []) + open_parts schema (has_visited mid) (facts h)
    go true is rest_is =
        let len : length rest ≡ length stack = ap length rest_is in
        let left : open_parts schema (has_visited after) (facts h) ≡ open_parts schema (has_visited mid) (facts h) =
        open-same schema (has_visited mid) (has_visited after) (same is) (facts h) in
        omega (arith, longer, len, left)
    go false is rest_is =
        let len : length rest ≡ length stack + length (filter_map (part_to schema) (facts_of h e)) =
        ap length rest_is ∙ length-append stack (filter_map (part_to schema) (facts_of h e)) in
        let parts : length (filter_map (part_to schema) (facts_of h e)) ≡ count (λ d. is_some (part_to schema d)) (facts_of h e) =
        length-parts schema (facts_of h e) in
        let few : count (λ d. is_some (part_to schema d)) (facts_of h e)
        ≤ count (λ d. is_some (part_to schema d)) (filter (is_of_entity e) (facts h)) =
        count-in_order (λ d. is_some (part_to schema d)) Eavt (filter (is_of_entity e) (facts h)) in
        let left : count (λ d. is_some (part_to schema d)) (filter (is_of_entity e) (facts h))
        + open_parts schema (has_visited after) (facts h) ≤ open_parts schema (has_visited mid) (facts h) =
        open-visit schema e (has_visited mid) (has_visited after) visits.visited is (facts h) in
        omega (arith, longer, len, parts, few, left)

pub none_left : {A : Type 0} (xs : List A) → length xs ≡ 0 → xs ≡ []
none_left [] is = refl
none_left (x ∷ xs) is = absurd (omega (arith, is))
