-- What a scan has given and what it may still give, step by step.
use Rattle.std.proofs.Common.{◌≡◌, ◌∙◌, ◌⊎◌, inl, inr, Bool, true, false, cond, ◌&&◌, List, [], ◌∷◌, ◌++◌, length, take, refl, sym, ap}
use Rattle.std.proofs.Common.{subst, append_assoc}
use Rattle.std.specs.Prelude.{Contains, IsTrue}
use Rattle.std.specs.List.{slice_get}
use Rattle.std.specs.declared.cmp.Ordering.TheVariants.{Less}
use Rattle.std.proofs.lemmas.Bool.{true≢false, and_parts, and_from}
use Rattle.std.proofs.lemmas.List.Elements.{Contains-append_left, Contains-append_right, Contains-append_cases}
use Rattle.fb_values.specs.declared.facts.Datom.{Datom}
use Rattle.fb_values.specs.declared.facts.Entry.{Entry}
use Rattle.fb_values.specs.declared.indexes.Order.{Order}
use Rattle.fb_values.specs.declared.indexes.Probe.{Probe}
use Rattle.fb_values.specs.Orders.{key_cmp}
use Rattle.fb_values.specs.OrderLaws.{key_cmp_total}
use Rattle.fb_values.specs.Rising.{IsBelowAll, IsRising}
use Rattle.fb_values.proofs.Rising.{rises_from, rising_from}
use Rattle.fb_model.specs.Facts.{facts}
use Rattle.fb_model.specs.Schema.{covers}
use Rattle.live_index.proofs.Members.{contains-cons, contains_head, contains_tail, contains_none}
use Rattle.live_index.proofs.Together.{before_member}
use Rattle.view_model.specs.Window.{Window}
use Rattle.view_model.specs.View.{InView}
use Rattle.fb_index.specs.declared.sides.Extent.{Extent}
use Rattle.fb_scan.specs.declared.ends.End.{End}
use Rattle.fb_scan.specs.Ends.{is_past, is_met, IsIn, IsWalk}
use Rattle.fb_scan.specs.Steps.{IsGiven, IsGoing}
use Rattle.fb_scan.specs.Walks.{is_shown, shown}
use Rattle.fb_scan.proofs.Ending.{all_past}

-- ---- members of what is shown

pub shown_member : (extent : Extent) (w : Window) (ds : List Datom) (d : Datom) → Contains (shown extent w ds) d → Contains ds d
shown_member extent w [] d there = there
shown_member extent w (x ∷ xs) d there = go (is_shown extent w x (slice_get xs 0)) (shown_member extent w xs d) there
  where
    go : (b : Bool) → (Contains (shown extent w xs) d → Contains xs d)
        → Contains (cond b (x ∷ shown extent w xs) (shown extent w xs)) d → Contains (x ∷ xs) d
    go true next member =
        elim (contains-cons x (shown extent w xs) d member)
        [ inl same ↦ contains_head x xs d same | inr behind ↦ contains_tail x xs d (next behind) ]
    go false next member = contains_tail x xs d (next member)

shown_tail : (extent : Extent) (w : Window) (x : Datom) (xs : List Datom) (d : Datom) → Contains (shown extent w xs) d
    → Contains (shown extent w (x ∷ xs)) d
shown_tail extent w x xs d there =
    elim (is_shown extent w x (slice_get xs 0)) as (λ b. Contains (cond b (x ∷ shown extent w xs) (shown extent w xs)) d) [
      | true ↦ contains_tail x (shown extent w xs) d there
      | false ↦ there
    ]

shown_head : (extent : Extent) (w : Window) (x : Datom) (xs : List Datom) → is_shown extent w x (slice_get xs 0) ≡ true
    → Contains (shown extent w (x ∷ xs)) x
shown_head extent w x xs is =
    subst (λ (b : Bool). Contains (cond b (x ∷ shown extent w xs) (shown extent w xs)) x) (sym is)
    (contains_head x (shown extent w xs) x refl)

shown_cases : (extent : Extent) (w : Window) (x : Datom) (xs : List Datom) (d : Datom) → Contains (shown extent w (x ∷ xs)) d
    → ((x ≡ d) × (is_shown extent w x (slice_get xs 0) ≡ true)) ⊎ Contains (shown extent w xs) d
shown_cases extent w x xs d there = go (is_shown extent w x (slice_get xs 0)) refl there
  where
    go : (b : Bool) → is_shown extent w x (slice_get xs 0) ≡ b → Contains (cond b (x ∷ shown extent w xs) (shown extent w xs)) d
        → ((x ≡ d) × (is_shown extent w x (slice_get xs 0) ≡ true)) ⊎ Contains (shown extent w xs) d
    go true is member = elim (contains-cons x (shown extent w xs) d member) [ inl same ↦ inl (same, is) | inr behind ↦ inr behind ]
    go false is member = inr member

-- ---- a rising list without one of its datoms rises

before_without : (order : Order) (y : Datom) (xs : List Datom) (x : Datom) (ds : List Datom) → IsBelowAll order y (xs ++ x ∷ ds)
    → IsBelowAll order y (xs ++ ds)
before_without order y [] x ds before = before.1
before_without order y (z ∷ xs) x ds before = (before.0, before_without order y xs x ds before.1)

rising_without : (order : Order) (xs : List Datom) (x : Datom) (ds : List Datom) → IsRising order (xs ++ x ∷ ds)
    → IsRising order (xs ++ ds)
rising_without order [] x ds rising = rising.1
rising_without order (y ∷ xs) x ds rising = (before_without order y xs x ds rising.0, rising_without order xs x ds rising.1)

before_front : (order : Order) (y : Datom) (xs ds : List Datom) → IsBelowAll order y (xs ++ ds) → IsBelowAll order y xs
before_front order y [] ds before = tt
before_front order y (z ∷ xs) ds before = (before.0, before_front order y xs ds before.1)

rising_front : (order : Order) (xs ds : List Datom) → IsRising order (xs ++ ds) → IsRising order xs
rising_front order [] ds rising = tt
rising_front order (x ∷ xs) ds rising = (before_front order x xs ds rising.0, rising_front order xs ds rising.1)

pub rising_behind : (order : Order) (xs ds : List Datom) → IsRising order (xs ++ ds) → IsRising order ds
rising_behind order [] ds rising = rising
rising_behind order (x ∷ xs) ds rising = rising_behind order xs ds rising.1

front_before : (order : Order) (xs ds : List Datom) (x d : Datom) → IsRising order (xs ++ ds) → Contains xs x → Contains ds d
    → key_cmp order x d ≡ Less
front_before order [] ds x d rising x_in d_in = absurd (contains_none x x_in)
front_before order (y ∷ xs) ds x d rising x_in d_in =
    elim (contains-cons y xs x x_in) [
      | inl is ↦ subst (λ (z : Datom). key_cmp order z d ≡ Less) is
          (before_member order y (xs ++ ds) d rising.0 (Contains-append_right xs ds d d_in))
      | inr later ↦ front_before order xs ds x d rising.1 later d_in
    ]

-- ---- the first of a rising list

not_both : (order : Order) (x y : Datom) → key_cmp order x y ≡ Less → key_cmp order y x ≡ Less → ⊥
not_both order x y first second = cc ((key_cmp_total order).antisymm x y)

not_itself : (order : Order) (x : Datom) → key_cmp order x x ≡ Less → ⊥
not_itself order x less = not_both order x x less less

-- a rising list of which each datom that it has not stands behind all that it has begins with them
pub front_is_take : (order : Order) (xs all : List Datom) → IsRising order xs → IsRising order all
    → ((d : Datom) → Contains xs d → Contains all d)
    → ((d : Datom) → Contains all d → Contains xs d ⊎ ((x : Datom) → Contains xs x → key_cmp order x d ≡ Less))
    → xs ≡ take (length xs) all
front_is_take order [] all rising all_rises within behind = refl
front_is_take order (x ∷ xs) [] rising all_rises within behind = absurd (contains_none x (within x (contains_head x xs x refl)))
front_is_take order (x ∷ xs) (y ∷ ys) rising all_rises within behind =
    ap (λ (z : Datom). z ∷ xs) same ∙ ap (λ (l : List Datom). y ∷ l)
    (front_is_take order xs ys rising.1 all_rises.1 rest_within rest_behind)
  where
    same : x ≡ y
    same =
        elim (contains-cons y ys x (within x (contains_head x xs x refl))) [
          | inl is ↦ sym is
          | inr there ↦
              let less = before_member order y ys x all_rises.0 there in
              elim (behind y (contains_head y ys y refl)) [
                | inl here ↦ elim (contains-cons x xs y here)
                    [ inl is ↦ is | inr later ↦ absurd (not_both order x y (before_member order x xs y rising.0 later) less) ]
                | inr before ↦ absurd (not_both order x y (before x (contains_head x xs x refl)) less)
              ]
        ]

    rest_within : (d : Datom) → Contains xs d → Contains ys d
    rest_within d there =
        elim (contains-cons y ys d (within d (contains_tail x xs d there))) [
          | inl is ↦ absurd (not_itself order x
              (subst (λ (z : Datom). key_cmp order x z ≡ Less) (sym (same ∙ is)) (before_member order x xs d rising.0 there)))
          | inr later ↦ later
        ]

    rest_behind : (d : Datom) → Contains ys d → Contains xs d ⊎ ((z : Datom) → Contains xs z → key_cmp order z d ≡ Less)
    rest_behind d there =
        elim (behind d (contains_tail y ys d there)) [
          | inl here ↦ elim (contains-cons x xs d here) [
            | inl is ↦ absurd (not_itself order y
                (subst (λ (z : Datom). key_cmp order y z ≡ Less) (sym is ∙ same) (before_member order y ys d all_rises.0 there)))
            | inr later ↦ inl later
          ]
          | inr before ↦ inr (λ z z_there. before z (contains_tail x xs z z_there))
        ]

-- ---- a scan

module _ (h : List Entry) (w : Window) (Selects : Datom → Type 0) (from : Probe) (end : End) (extent : Extent) where
  abbrev Given : List Datom → Datom → Type 0
  Given = IsGiven h w Selects extent from.order end

  abbrev Met : Datom → Type 0
  Met d = InView h w Selects d × IsTrue (is_met (facts h) from end d)

  abbrev Going : List Datom → List Datom → Type 0
  Going = IsGoing h w Selects from end extent

  pub begins : (rest : List Datom) → IsRising from.order rest → ((d : Datom) → Given rest d → Met d) → ((d : Datom) → Met d → Given rest d)
      → Going [] rest
  begins rest rising met given = record {
    rising = rising;
    same = λ d. (λ is. elim is [ inl there ↦ absurd (contains_none d there) | inr ahead ↦ met d ahead ], λ is. inr (given d is));
  }

  -- where nothing ahead is given, all of it is found
  ends : (found rest : List Datom) → Going found rest → ((d : Datom) → Given rest d → ⊥) → IsWalk h w Selects from end found
  ends found rest going none = record {
    rising = rises_from from.order found (rising_front from.order found rest going.rising);
    members = λ d. (
      λ there. (going.same d).0 (inl there),
      λ is. elim ((going.same d).1 is) [ inl there ↦ there | inr ahead ↦ absurd (none d ahead) ],
    );
  }

  module _ (found : List Datom) (x : Datom) (rest : List Datom) (going : Going found (x ∷ rest)) where
    abbrev Passes : Type 0
    Passes = IsTrue (covers (facts h) from.order x.a && is_shown extent w x (slice_get rest 0)) × Selects x

    later : (d : Datom) → Given rest d → Given (x ∷ rest) d
    later d is = record {
      is_seen = shown_tail extent w x rest d is.is_seen;
      is_held = is.is_held;
      is_before = is.is_before;
      is_selected = is.is_selected;
    }

    now : is_past end x ≡ false → Passes → Given (x ∷ rest) x
    now before passes =
        let both = and_parts (covers (facts h) from.order x.a) (is_shown extent w x (slice_get rest 0)) passes.0 in
        record { is_seen = shown_head extent w x rest both.1; is_held = both.0; is_before = before; is_selected = passes.1 }

    now_or_later : (d : Datom) → Given (x ∷ rest) d → ((x ≡ d) × Passes) ⊎ Given rest d
    now_or_later d is =
        elim (shown_cases extent w x rest d is.is_seen) [
          | inl here ↦ inl (
            here.0,
            (
              and_from (covers (facts h) from.order x.a) (is_shown extent w x (slice_get rest 0))
                  (subst (λ (z : Datom). covers (facts h) from.order z.a ≡ true) (sym here.0) is.is_held) here.1,
              subst Selects (sym here.0) is.is_selected,
            ),
          )
          | inr behind ↦ inr (record { is_seen = behind; is_held = is.is_held; is_before = is.is_before; is_selected = is.is_selected })
        ]

    pub passes_by : (Passes → ⊥) → Going found rest
    passes_by fails = record {
      rising = rising_without from.order found x rest going.rising;
      same = λ d. (
        λ is. (going.same d).0 (elim is [ inl there ↦ inl there | inr ahead ↦ inr (later d ahead) ]),
        λ is. elim ((going.same d).1 is) [
          | inl there ↦ inl there
          | inr ahead ↦ elim (now_or_later d ahead) [ inl here ↦ absurd (fails here.1) | inr behind ↦ inr behind ]
        ],
      );
    }

    pub gives : is_past end x ≡ false → Passes → Going (found ++ x ∷ []) rest
    gives before passes = record {
      rising = subst (IsRising from.order) (sym (append_assoc found (x ∷ []) rest)) going.rising;
      same = λ d. (
        λ is. (going.same d).0 (elim is [
          | inl there ↦ elim (Contains-append_cases found (x ∷ []) d there) [
            | inl old ↦ inl old
            | inr one ↦ inr (elim (contains-cons x [] d one) [
              | inl same ↦ subst (Given (x ∷ rest)) same (now before passes)
              | inr none ↦ absurd (contains_none d none)
            ])
          ]
          | inr ahead ↦ inr (later d ahead)
        ]),
        λ is. elim ((going.same d).1 is) [
          | inl old ↦ inl (Contains-append_left found (x ∷ []) d old)
          | inr ahead ↦ elim (now_or_later d ahead) [
            | inl here ↦ inl (Contains-append_right found (x ∷ []) d (contains_head x [] d here.0))
            | inr behind ↦ inr behind
          ]
        ],
      );
    }

    -- beyond the end nothing more is given
    pub ends_at : IsIn from.order end → is_past end x ≡ true → IsWalk h w Selects from end found
    ends_at inside past =
        ends found (x ∷ rest) going (λ d given.
        true≢false (sym (all_past from.order end x rest d inside (rising_behind from.order found (x ∷ rest) going.rising) past
        (shown_member extent w (x ∷ rest) d given.is_seen)) ∙ given.is_before))

  pub ends_with : (found : List Datom) → Going found [] → IsWalk h w Selects from end found
  ends_with found going = ends found [] going (λ d given. contains_none d given.is_seen)

  -- what is found is the front of all
  pub front : (found rest all : List Datom) → Going found rest → IsWalk h w Selects from end all → found ≡ take (length found) all
  front found rest all going walk =
      front_is_take from.order found all (rising_front from.order found rest going.rising) (rising_from from.order all walk.rising)
      (λ d there. (walk.members d).1 ((going.same d).0 (inl there)))
      (λ d there. elim ((going.same d).1 ((walk.members d).0 there)) [
        | inl old ↦ inl old
        | inr ahead ↦ inr (λ x x_there. front_before from.order found rest x d going.rising x_there
            (shown_member extent w rest d ahead.is_seen))
      ])
