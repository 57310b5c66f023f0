-- What windows and filters do to a view.
use Rattle.std.proofs.Common.{◌≡◌, ℕ, ◌+◌, ◌-◌, ◌≤◌, Bool, true, false, cond, ◌&&◌, List, [], ◌∷◌, ◌++◌, min, max, refl, ap, sym, ◌∙◌}
use Rattle.std.proofs.Common.{subst, arith, leb, ltb}
use Rattle.std.specs.Prelude.{filter, Contains}
use Rattle.std.specs.List.{list_all}
use Rattle.std.proofs.lemmas.Bool.{and_parts, and_from, leb-true, le-leb}
use Rattle.std.proofs.lemmas.Bool.Decides.{nat_tests}
use Rattle.std.proofs.lemmas.List.Folds.{list_all-append}
use Rattle.fb_values.specs.declared.facts.Datom.{Datom}
use Rattle.fb_values.specs.declared.facts.Entry.{Entry}
use Rattle.fb_numbers.specs.Numbers.{greatest_t}
use Rattle.fb_model.specs.History.{basis, said, upto}
use Rattle.fb_model.specs.Facts.{standing, is_last_assertion, facts}
use Rattle.fb_model.specs.Lawful.{IsLawful}
use Rattle.fb_model.proofs.Members.{IsKept, kept, there, filter_agree_on, filter_twice, standing_member}
use Rattle.fb_model.proofs.Times.{said_t, t_rises, said-t_rises, said-upto}
use Rattle.view_model.specs.Window.{Window, whole, as_of, since, is_within, within}
use Rattle.view_model.specs.View.{seen, is_selected_by, view}

-- ---- members

seen-within : (history : Bool) (w : Window) (ds : List Datom) (d : Datom) → Contains (cond history (within w ds) (standing (within w ds))) d
    → IsKept (is_within w) ds d
seen-within true w ds d member = kept (is_within w) ds d member
seen-within false w ds d member = kept (is_within w) ds d (standing_member (within w ds) d member)

pub seen_is_said : (h : List Entry) (w : Window) (d : Datom) → Contains (seen h w) d → IsKept (is_within w) (said h) d
seen_is_said h w d member = seen-within w.history w (said h) d member

-- ---- as of the basis

at_basis : (from to b : ℕ) (d : Datom) → leb d.t b ≡ true → (leb from d.t && ltb d.t (min to (b + 1))) ≡ (leb from d.t && ltb d.t to)
at_basis from to b d low = ap (λ x. leb from d.t && x) (same d.t (leb-true d.t b low))
  where
    same : (t : ℕ) → t ≤ b → ltb t (min to (b + 1)) ≡ ltb t to
    same t below = grind (arith, nat_tests)

pub as_of_basis : (h : List Entry) (w : Window) → IsLawful h → seen h (as_of (basis h + 1) w) ≡ seen h w
as_of_basis h w lawful =
    ap (λ ds. cond w.history ds (standing ds))
    (filter_agree_on (λ d. leb d.t (basis h)) (is_within (as_of (basis h + 1) w)) (is_within w)
    (λ d low. at_basis w.from w.to (basis h) d low) (said h) (said_t h lawful))

-- ---- as of a t

up_to : (t : ℕ) (d : Datom) → t ≤ greatest_t → (leb 0 d.t && ltb d.t (min (greatest_t + 1) (t + 1))) ≡ leb d.t t
up_to t d small = same d.t
  where
    same : (u : ℕ) → (leb 0 u && ltb u (min (greatest_t + 1) (t + 1))) ≡ leb u t
    same u = grind (arith, nat_tests)

-- the view as of t is the facts of the history up to t
pub as_of-upto : (h : List Entry) (t : ℕ) → IsLawful h → t ≤ greatest_t → seen h (as_of (t + 1) whole) ≡ facts (upto h t)
as_of-upto h t lawful small =
    ap standing (filter_agree_on (λ d. true) (is_within (as_of (t + 1) whole)) (λ d. leb d.t t) (λ d any. up_to t d small) (said h)
    (every (said h)) ∙ sym (said-upto h lawful t))
  where
    every : (ds : List Datom) → list_all (λ d. true) ds ≡ true
    every [] = refl
    every (d ∷ ds) = every ds

-- ---- windows compose

pub as_of-as_of : (a b : ℕ) (w : Window) → as_of a (as_of b w) ≡ as_of (min a b) w
as_of-as_of a b w = ap (λ to. record { from = w.from; to = to; history = w.history }) (omega arith)

pub since-since : (a b : ℕ) (w : Window) → since a (since b w) ≡ since (max a b) w
since-since a b w = ap (λ from. record { from = from; to = w.to; history = w.history }) (omega arith)

-- ---- filters

pub view-filters : (h : List Entry) (w : Window) (filters more : List (Datom → Bool))
    → view h w (filters ++ more) ≡ filter (is_selected_by more) (view h w filters)
view-filters h w filters more =
    filter_agree_on (λ d. true) (is_selected_by (filters ++ more)) (λ d. is_selected_by more d && is_selected_by filters d)
    (λ d any. list_all-append (λ test. test d) filters more ∙ and-sym (is_selected_by filters d) (is_selected_by more d)) (seen h w)
    (every (seen h w))
    ∙ sym (filter_twice (is_selected_by more) (is_selected_by filters) (seen h w))
  where
    every : (ds : List Datom) → list_all (λ d. true) ds ≡ true
    every [] = refl
    every (d ∷ ds) = every ds

    and-sym : (x y : Bool) → (x && y) ≡ (y && x)
    and-sym true true = refl
    and-sym true false = refl
    and-sym false true = refl
    and-sym false false = refl

pub filters_hide : (h : List Entry) (w : Window) (filters more : List (Datom → Bool)) (d : Datom) → Contains (view h w (filters ++ more)) d
    → Contains (view h w filters) d
filters_hide h w filters more d member =
    (kept (is_selected_by more) (view h w filters) d (subst (λ ds. Contains ds d) (view-filters h w filters more) member)).member

-- ---- since hides

narrower : (x : ℕ) (w : Window) (d : Datom) → leb (max w.from x) d.t ≡ true → is_within (since x w) d ≡ is_within w d
narrower x w d high = ap (λ b. b && ltb d.t w.to) (same w.from d.t (leb-true _ _ high))
  where
    same : (from t : ℕ) → max from x ≤ t → leb (max from x) t ≡ leb from t
    same from t below = grind (arith, nat_tests)

-- where all transactions are late enough, both windows have the same
late : (x : ℕ) (w : Window) (t : ℕ) (ds : List Datom) → leb (max w.from x) t ≡ true → list_all (λ d. leb t d.t) ds ≡ true
    → within (since x w) ds ≡ within w ds
late x w t ds high every =
    filter_agree_on (λ d. leb t d.t) (is_within (since x w)) (is_within w)
    (λ d above. narrower x w d (le-leb (max w.from x) d.t (omega (arith, leb-true (max w.from x) t high, leb-true t d.t above)))) ds every

pub since_hides : (x : ℕ) (w : Window) (ds : List Datom) (d : Datom) → t_rises ds ≡ true → Contains (standing (within (since x w) ds)) d
    → Contains (standing (within w ds)) d
since_hides x w [] d rising member = member
since_hides x w (y ∷ ds) d rising member =
    let parts = and_parts (list_all (λ other. leb y.t other.t) ds) (t_rises ds) rising in
    go (leb (max w.from x) y.t) refl parts.0 (since_hides x w ds d parts.1) member
  where
    skipped : (b : Bool) → Contains (standing (within w ds)) d → Contains (standing (cond b (y ∷ within w ds) (within w ds))) d
    skipped false rest = rest
    skipped true rest = more (is_last_assertion y (within w ds))
      where
        more : (b : Bool) → Contains (cond b (y ∷ standing (within w ds)) (standing (within w ds))) d
        more true = there y d (standing (within w ds)) rest
        more false = rest

    out : leb (max w.from x) y.t ≡ false → is_within (since x w) y ≡ false
    out low = ap (λ b. b && ltb y.t w.to) low

    go : (high : Bool) → leb (max w.from x) y.t ≡ high → list_all (λ other. leb y.t other.t) ds ≡ true
        → (Contains (standing (within (since x w) ds)) d → Contains (standing (within w ds)) d)
        → Contains (standing (within (since x w) (y ∷ ds))) d → Contains (standing (within w (y ∷ ds))) d
    go true high later next rest =
        subst (λ l. Contains (standing l) d) (late x w y.t (y ∷ ds) high (and_from _ _ (le-leb y.t y.t (omega arith)) later)) rest
    go false low later next rest =
        skipped (is_within w y)
        (next (subst (λ b. Contains (standing (cond b (y ∷ within (since x w) ds) (within (since x w) ds))) d) (out low) rest))

-- a fact that is seen since a point is seen without it: what since hides does not come back
pub since_revives_none : (h : List Entry) (x : ℕ) (w : Window) (d : Datom) → IsLawful h → w.history ≡ false
    → Contains (seen h (since x w)) d → Contains (seen h w) d
since_revives_none h x w d lawful plain member =
    subst (λ b. Contains (cond b (within w (said h)) (standing (within w (said h)))) d) (sym plain)
    (since_hides x w (said h) d (said-t_rises h lawful)
    (subst (λ b. Contains (cond b (within (since x w) (said h)) (standing (within (since x w) (said h)))) d) plain member))
