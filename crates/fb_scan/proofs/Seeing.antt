-- What a walk shows of a rising list is what a window sees of it, and lists that have the same of a triple show the same of it.
use Rattle.std.proofs.Common.{◌≡◌, ◌∙◌, ◌<◌, ◌≤◌, ◌⊎◌, inl, inr, Bool, true, false, not, ◌&&◌, ◌||◌, cond, List, [], ◌∷◌, refl, sym, ap}
use Rattle.std.proofs.Common.{subst, arith, leb, ltb}
use Rattle.std.specs.Prelude.{Contains, filter}
use Rattle.std.specs.List.{slice_get, list_any}
use Rattle.std.specs.declared.cmp.Ordering.TheVariants.{Less}
use Rattle.std.proofs.lemmas.Bool.{true≢false, and_parts, and_from, leb-true, le-leb, ltb-true, lt-ltb}
use Rattle.fb_values.specs.declared.facts.Datom.{Datom}
use Rattle.fb_values.specs.declared.facts.Entry.{Entry}
use Rattle.fb_values.specs.declared.indexes.Order.{Order}
use Rattle.fb_values.specs.declared.indexes.Probe.{Probe}
use Rattle.fb_search.specs.Places.{is_below}
use Rattle.fb_search.proofs.Below.{below_earlier}
use Rattle.fb_values.specs.Orders.{key_cmp}
use Rattle.fb_values.specs.Rising.{IsRising}
use Rattle.fb_model.specs.History.{basis}
use Rattle.fb_model.specs.Facts.{is_of, standing, is_last_assertion}
use Rattle.fb_model.proofs.Members.{some_member, any_member, standing_member}
use Rattle.live_index.proofs.Members.{from_filter, into_filter, contains-cons, contains_head, contains_tail}
use Rattle.view_model.specs.Window.{Window, is_within, within}
use Rattle.live_index.proofs.Together.{IsByTime, standing_last, last_stands, rising_by_time, before_member, together, of_through}
use Rattle.fb_index.specs.declared.sides.Extent.TheVariants.{Said, Held}
use Rattle.fb_scan.specs.Walks.{extent_of, is_followed, shown, seen_in}

same_bool : (a b : Bool) → (a ≡ true → b ≡ true) → (b ≡ true → a ≡ true) → a ≡ b
same_bool true b forth back = sym (forth refl)
same_bool false true forth back = absurd (true≢false (sym (back refl)))
same_bool false false forth back = refl

-- ---- the next datom tells whether any datom of the window follows

module _ (order : Order) (w : Window) (d y : Datom) (ds : List Datom) (rising : IsRising order (d ∷ y ∷ ds))
    (in_window : is_within w d ≡ true) where
  next_follows : list_any (is_of d.e d.a d.v) (within w (y ∷ ds)) ≡ true → (is_of d.e d.a d.v y && ltb y.t w.to) ≡ true
  next_follows some =
      let found = some_member (is_of d.e d.a d.v) (within w (y ∷ ds)) some in
      let own = from_filter (is_within w) (y ∷ ds) found.0 found.1 in
      let early : found.0.t < w.to = ltb-true found.0.t w.to (and_parts (leb w.from found.0.t) (ltb found.0.t w.to) own.1).1 in
      elim (contains-cons y ds found.0 own.0) [
        | inl same ↦
            subst (λ (z : Datom). (is_of d.e d.a d.v z && ltb z.t w.to) ≡ true) (sym same)
            (and_from (is_of d.e d.a d.v found.0) (ltb found.0.t w.to) found.2 (lt-ltb found.0.t w.to early))
        | inr behind ↦
            let of_next = together order d y found.0 rising.0.0 (before_member order y ds found.0 rising.1.0 behind) found.2 in
            let before = (rising_by_time order (y ∷ ds) rising.1).0 found.0 behind (of_through d y found.0 of_next found.2) in
            and_from (is_of d.e d.a d.v y) (ltb y.t w.to) of_next (lt-ltb y.t w.to (omega (arith, before, early)))
      ]

  follows_next : (is_of d.e d.a d.v y && ltb y.t w.to) ≡ true → list_any (is_of d.e d.a d.v) (within w (y ∷ ds)) ≡ true
  follows_next is =
      let both = and_parts (is_of d.e d.a d.v y) (ltb y.t w.to) is in
      let later = (rising_by_time order (d ∷ y ∷ ds) rising).0 y (contains_head y ds y refl) both.0 in
      let start = leb-true w.from d.t (and_parts (leb w.from d.t) (ltb d.t w.to) in_window).0 in
      any_member (is_of d.e d.a d.v) (within w (y ∷ ds)) y
      (into_filter (is_within w) (y ∷ ds) y (contains_head y ds y refl)
      (and_from (leb w.from y.t) (ltb y.t w.to) (le-leb w.from y.t (omega (arith, later, start))) both.1)) both.0

any_is_followed : (order : Order) (w : Window) (d : Datom) (ds : List Datom) → IsRising order (d ∷ ds) → is_within w d ≡ true
    → list_any (is_of d.e d.a d.v) (within w ds) ≡ is_followed w d (slice_get ds 0)
any_is_followed order w d [] rising in_window = refl
any_is_followed order w d (y ∷ ds) rising in_window =
    same_bool _ _ (next_follows order w d y ds rising in_window) (follows_next order w d y ds rising in_window)

-- ---- a walk shows what the window sees

shown_whole : (w : Window) (ds : List Datom) → w.history ≡ true → shown Said w ds ≡ within w ds
shown_whole w [] history = refl
shown_whole w (d ∷ ds) history =
    ap (λ b. cond (is_within w d && (b || (d.added && not (is_followed w d (slice_get ds 0))))) (d ∷ shown Said w ds) (shown Said w ds))
    history
    ∙ ap (λ l. cond (is_within w d && true) (d ∷ l) l) (shown_whole w ds history)
    ∙ ap (λ b. cond b (d ∷ within w ds) (within w ds)) (and_true (is_within w d))
  where
    and_true : (b : Bool) → (b && true) ≡ b
    and_true true = refl
    and_true false = refl

shown_standing : (order : Order) (w : Window) (ds : List Datom) → IsRising order ds → w.history ≡ false
    → shown Said w ds ≡ standing (within w ds)
shown_standing order w [] rising plain = refl
shown_standing order w (d ∷ ds) rising plain =
    ap (λ b. cond (is_within w d && (b || (d.added && not (is_followed w d (slice_get ds 0))))) (d ∷ shown Said w ds) (shown Said w ds))
    plain
    ∙ ap (λ l. cond (is_within w d && (d.added && not (is_followed w d (slice_get ds 0)))) (d ∷ l) l)
    (shown_standing order w ds rising.1 plain)
    ∙ go (is_within w d) refl
  where
    go : (b : Bool) → is_within w d ≡ b
        → cond (b && (d.added && not (is_followed w d (slice_get ds 0)))) (d ∷ standing (within w ds)) (standing (within w ds))
        ≡ standing (cond b (d ∷ within w ds) (within w ds))
    go true is =
        ap (λ b. cond (d.added && not b) (d ∷ standing (within w ds)) (standing (within w ds)))
        (sym (any_is_followed order w d ds rising is))
    go false is = refl

pub shown-seen_in : (order : Order) (w : Window) (ds : List Datom) → IsRising order ds → shown Said w ds ≡ seen_in w ds
shown-seen_in order w ds rising = go w.history refl
  where
    go : (b : Bool) → w.history ≡ b → shown Said w ds ≡ cond b (within w ds) (standing (within w ds))
    go true is = shown_whole w ds is
    go false is = shown_standing order w ds rising is

-- ---- of what holds, a window that ends behind it all leaves out what came before it

-- with a datom that passes pass the later ones of its triple
abbrev pub PassLater : (Datom → Bool) → List Datom → Type 0
PassLater p [] = Unit {0}
PassLater p (d ∷ ds) =
    ((y : Datom) → Contains ds y → is_of d.e d.a d.v y ≡ true → p d ≡ true → p y ≡ true) × PassLater p ds

any_passing : (p q : Datom → Bool) (ds : List Datom) → ((y : Datom) → Contains ds y → q y ≡ true → p y ≡ true)
    → list_any q (filter p ds) ≡ list_any q ds
any_passing p q ds each = same_bool _ _ forth back
  where
    forth : list_any q (filter p ds) ≡ true → list_any q ds ≡ true
    forth some =
        let found = some_member q (filter p ds) some in
        any_member q ds found.0 (from_filter p ds found.0 found.1).0 found.2

    back : list_any q ds ≡ true → list_any q (filter p ds) ≡ true
    back some =
        let found = some_member q ds some in
        any_member q (filter p ds) found.0 (into_filter p ds found.0 found.1 (each found.0 found.1 found.2)) found.2

pub standing-passing : (p : Datom → Bool) (ds : List Datom) → PassLater p ds → standing (filter p ds) ≡ filter p (standing ds)
standing-passing p [] passes = refl
standing-passing p (d ∷ ds) passes = go (p d) refl (standing-passing p ds passes.1)
  where
    kept : p d ≡ true → (b : Bool)
        → cond b (d ∷ filter p (standing ds)) (filter p (standing ds)) ≡ filter p (cond b (d ∷ standing ds) (standing ds))
    kept is true = ap (λ c. cond c (d ∷ filter p (standing ds)) (filter p (standing ds))) (sym is)
    kept is false = refl

    left_out : p d ≡ false → (b : Bool) → filter p (standing ds) ≡ filter p (cond b (d ∷ standing ds) (standing ds))
    left_out is true = ap (λ c. cond c (d ∷ filter p (standing ds)) (filter p (standing ds))) (sym is)
    left_out is false = refl

    go : (b : Bool) → p d ≡ b → standing (filter p ds) ≡ filter p (standing ds)
        → standing (cond b (d ∷ filter p ds) (filter p ds)) ≡ filter p (cond (is_last_assertion d ds) (d ∷ standing ds) (standing ds))
    go true is next =
        ap (λ b. cond (d.added && not b) (d ∷ standing (filter p ds)) (standing (filter p ds)))
        (any_passing p (is_of d.e d.a d.v) ds (λ y there same. passes.0 y there same is))
        ∙ ap (λ l. cond (is_last_assertion d ds) (d ∷ l) l) next
        ∙ kept is (is_last_assertion d ds)
    go false is next = next ∙ left_out is (is_last_assertion d ds)

pub later_within : (w : Window) (ds : List Datom) → IsByTime ds → ((d : Datom) → Contains ds d → d.t < w.to)
    → PassLater (is_within w) ds
later_within w [] by_time early = tt
later_within w (d ∷ ds) by_time early = (
  λ y there same inside.
      let after = by_time.0 y there same in
      let start = leb-true w.from d.t (and_parts (leb w.from d.t) (ltb d.t w.to) inside).0 in
      and_from (leb w.from y.t) (ltb y.t w.to) (le-leb w.from y.t (omega (arith, after, start)))
      (lt-ltb y.t w.to (early y (contains_tail d ds y there))),
  later_within w ds by_time.1 (λ x there. early x (contains_tail d ds x there)),
)

pub later_above : (p : Probe) (ds : List Datom) → IsRising p.order ds → PassLater (λ d. not (is_below p d)) ds
later_above p [] rising = tt
later_above p (d ∷ ds) rising = (
  λ y there same above. go y (before_member p.order d ds y rising.0 there) above (is_below p y) refl,
  later_above p ds rising.1,
)
  where
    go : (y : Datom) → key_cmp p.order d y ≡ Less → not (is_below p d) ≡ true → (b : Bool) → is_below p y ≡ b → not (is_below p y) ≡ true
    go y less above false is = ap not is
    go y less above true is = absurd (true≢false (sym above ∙ ap not (below_earlier p d y less is)))

pub shown_within : (w : Window) (ds : List Datom) → shown Held w ds ≡ within w ds
shown_within w [] = refl
shown_within w (d ∷ ds) = ap (λ l. cond (is_within w d) (d ∷ l) l) (shown_within w ds)

-- the window of a walk over what holds
pub held_window : (h : List Entry) (w : Window) → Held ≡ extent_of h w → (w.history ≡ false) × (basis h < w.to)
held_window h w is = go (not w.history && ltb (basis h) w.to) refl is
  where
    no_history : (b : Bool) → not b ≡ true → b ≡ false
    no_history false e = refl
    no_history true e = absurd (true≢false (sym e))

    go : (b : Bool) → (not w.history && ltb (basis h) w.to) ≡ b → Held ≡ cond b Held Said → (w.history ≡ false) × (basis h < w.to)
    go true both is =
        let parts = and_parts (not w.history) (ltb (basis h) w.to) both in
        (no_history w.history parts.0, ltb-true (basis h) w.to parts.1)
    go false both is = absurd (cc)

-- ---- lists that have the same of a triple

by_time-filter : (p : Datom → Bool) (ds : List Datom) → IsByTime ds → IsByTime (filter p ds)
by_time-filter p [] by_time = tt
by_time-filter p (x ∷ xs) by_time =
    elim (p x) as (λ b. IsByTime (cond b (x ∷ filter p xs) (filter p xs))) [
      | true ↦ (λ y there is. by_time.0 y (from_filter p xs y there).0 is, by_time-filter p xs by_time.1)
      | false ↦ by_time-filter p xs by_time.1
    ]

pub seen_in_member : (w : Window) (ds : List Datom) (d : Datom) → Contains (seen_in w ds) d → Contains ds d
seen_in_member w ds d member = go w.history member
  where
    go : (b : Bool) → Contains (cond b (within w ds) (standing (within w ds))) d → Contains ds d
    go true there = (from_filter (is_within w) ds d there).0
    go false there = (from_filter (is_within w) ds d (standing_member (within w ds) d there)).0

-- a datom that the window sees in one list it sees in another that has the datom, where what the other one has of its triple
-- is in the first or is not later
pub seen_moves : (w : Window) (xs ys : List Datom) (d : Datom) → IsByTime xs → IsByTime ys → Contains ys d
    → ((x : Datom) → Contains ys x → is_of d.e d.a d.v x ≡ true → Contains xs x ⊎ (x.t ≤ d.t))
    → Contains (seen_in w xs) d → Contains (seen_in w ys) d
seen_moves w xs ys d xs_by ys_by there known member = go w.history member
  where
    go : (b : Bool) → Contains (cond b (within w xs) (standing (within w xs))) d
        → Contains (cond b (within w ys) (standing (within w ys))) d
    go true within_xs = into_filter (is_within w) ys d there (from_filter (is_within w) xs d within_xs).1
    go false stands =
        let last = standing_last (within w xs) d (by_time-filter (is_within w) xs xs_by) stands in
        last_stands (within w ys) d (by_time-filter (is_within w) ys ys_by) record {
          there = into_filter (is_within w) ys d there (from_filter (is_within w) xs d last.there).1;
          added = last.added;
          latest = λ x x_in same.
              let own = from_filter (is_within w) ys x x_in in
              elim (known x own.0 same) [ inl here ↦ last.latest x (into_filter (is_within w) xs x here own.1) same | inr early ↦ early ];
        }
