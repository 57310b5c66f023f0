-- One change more: it is put at its place, or takes away the one that it undoes.
use Rattle.std.proofs.Common.{◌≡◌, ◌∙◌, ℕ, zero, suc, ◌⊎◌, inl, inr, Bool, true, false, cond, List, [], ◌∷◌, ◌++◌, Option, Some, None, take, drop, refl, sym, ap, subst}
use Rattle.std.specs.Prelude.{Contains}
use Rattle.std.specs.List.{All, insert, remove, slice_get}
use Rattle.std.specs.Ordering.{is_eq}
use Rattle.std.specs.Cmp.{tied_itself}
use Rattle.std.specs.declared.cmp.Ordering.{Ordering}
use Rattle.std.specs.declared.cmp.Ordering.TheVariants.{Less, Equal, Greater}
use Rattle.std.proofs.lemmas.Bool.{true≢false, cases_Bool}
use Rattle.std.proofs.lemmas.List.{take-append-drop, take-map, drop-map, map-append}
use Rattle.std.proofs.lemmas.List.Elements.{All-append, All-cons, All-drop, All-take, Contains-append_left, Contains-append_right, Contains-append_cases}
use Rattle.fb_values.specs.declared.facts.Datom.{Datom}
use Rattle.fb_values.specs.declared.indexes.Order.{Order}
use Rattle.fb_values.specs.Orders.{key_cmp}
use Rattle.fb_values.specs.OrderLaws.{key_cmp_total}
use Rattle.fb_values.specs.Rising.{IsBelowAll, IsRising}
use Rattle.fb_model.proofs.Members.{here, there, cases_of, none_of}
use Rattle.fb_search.specs.Places.{probe_of}
use Rattle.live_runs.specs.declared.members.Change.{Change}
use Rattle.live_runs.specs.Changed.{HasNoTwins, IsWithin, MayChange, from_probe}
use Rattle.live_runs.specs.Changes.{AreChanges, added, changed_by, is_met, place_in, removed, with_change}
use Rattle.live_runs.specs.Members.{IsMember, changing, datom_by, datom_of, held_by}
use Rattle.live_runs.proofs.Rises.{before_member, before_all, not_below_itself, not_behind_itself, one_key, rising-append, rising_parts, rising_right}
use Rattle.live_runs.proofs.Changed.{from_changed, into_changed}
use Rattle.live_runs.proofs.Named.{added_of, added_rises, datom_within, held_within, may_change, removed_of, removed_rises}
use Rattle.live_runs.proofs.Parted.{added-append, removed-append}
use Rattle.live_runs.proofs.Stepping.{before_own, behind_own, not_before_own, rising-drop, rising-take}
use Rattle.live_runs.proofs.Twice.{AreTogether, together_may, twice}

-- ---- what one change more removes and adds

removed_head : (table : List Datom) (x : Change) (cs : List Change) (e : Datom) → Contains (removed table (x ∷ cs)) e
    → Contains (removed table cs) e ⊎ ((x.removes ≡ true) × (datom_of table x.number ≡ e))
removed_head table x cs e inside = go x.removes refl inside
  where
    go : (b : Bool) → x.removes ≡ b → Contains (cond b (datom_of table x.number ∷ removed table cs) (removed table cs)) e
        → Contains (removed table cs) e ⊎ ((x.removes ≡ true) × (datom_of table x.number ≡ e))
    go true is found = elim (cases_of (datom_of table x.number) e (removed table cs) found) [ inl same ↦ inr (is, same) | inr behind ↦ inl behind ]
    go false is found = inl found

added_head : (table : List Datom) (x : Change) (cs : List Change) (e : Datom) → Contains (added table (x ∷ cs)) e
    → Contains (added table cs) e ⊎ ((x.removes ≡ false) × (datom_of table x.number ≡ e))
added_head table x cs e inside = go x.removes refl inside
  where
    go : (b : Bool) → x.removes ≡ b → Contains (cond b (added table cs) (datom_of table x.number ∷ added table cs)) e
        → Contains (added table cs) e ⊎ ((x.removes ≡ false) × (datom_of table x.number ≡ e))
    go true is found = inl found
    go false is found = elim (cases_of (datom_of table x.number) e (added table cs) found) [ inl same ↦ inr (is, same) | inr behind ↦ inl behind ]

removed_tail : (table : List Datom) (x : Change) (cs : List Change) (e : Datom) → Contains (removed table cs) e
    → Contains (removed table (x ∷ cs)) e
removed_tail table x cs e inside = go x.removes
  where
    go : (b : Bool) → Contains (cond b (datom_of table x.number ∷ removed table cs) (removed table cs)) e
    go true = there (datom_of table x.number) e (removed table cs) inside
    go false = inside

added_tail : (table : List Datom) (x : Change) (cs : List Change) (e : Datom) → Contains (added table cs) e
    → Contains (added table (x ∷ cs)) e
added_tail table x cs e inside = go x.removes
  where
    go : (b : Bool) → Contains (cond b (added table cs) (datom_of table x.number ∷ added table cs)) e
    go true = inside
    go false = there (datom_of table x.number) e (added table cs) inside

removed_own : (table : List Datom) (x : Change) (cs : List Change) → x.removes ≡ true
    → Contains (removed table (x ∷ cs)) (datom_of table x.number)
removed_own table x cs is = rw is (here (datom_of table x.number) (removed table cs))

added_own : (table : List Datom) (x : Change) (cs : List Change) → x.removes ≡ false
    → Contains (added table (x ∷ cs)) (datom_of table x.number)
added_own table x cs is = rw is (here (datom_of table x.number) (added table cs))

module _ (table : List Datom) (front : List Change) (x : Change) (back : List Change) where
  removed_cases : (e : Datom) → Contains (removed table (front ++ x ∷ back)) e
      → Contains (removed table (front ++ back)) e ⊎ ((x.removes ≡ true) × (datom_of table x.number ≡ e))
  removed_cases e inside =
      elim (Contains-append_cases (removed table front) (removed table (x ∷ back)) e
      (subst (λ (l : List Datom). Contains l e) (removed-append table front (x ∷ back)) inside)) [
        | inl a ↦
            inl (subst (λ (l : List Datom). Contains l e) (sym (removed-append table front back))
            (Contains-append_left (removed table front) (removed table back) e a))
        | inr b ↦ elim (removed_head table x back e b) [
          | inl behind ↦
              inl (subst (λ (l : List Datom). Contains l e) (sym (removed-append table front back))
              (Contains-append_right (removed table front) (removed table back) e behind))
          | inr own ↦ inr own
        ]
      ]

  added_cases : (e : Datom) → Contains (added table (front ++ x ∷ back)) e
      → Contains (added table (front ++ back)) e ⊎ ((x.removes ≡ false) × (datom_of table x.number ≡ e))
  added_cases e inside =
      elim (Contains-append_cases (added table front) (added table (x ∷ back)) e
      (subst (λ (l : List Datom). Contains l e) (added-append table front (x ∷ back)) inside)) [
        | inl a ↦
            inl (subst (λ (l : List Datom). Contains l e) (sym (added-append table front back))
            (Contains-append_left (added table front) (added table back) e a))
        | inr b ↦ elim (added_head table x back e b) [
          | inl behind ↦
              inl (subst (λ (l : List Datom). Contains l e) (sym (added-append table front back))
              (Contains-append_right (added table front) (added table back) e behind))
          | inr own ↦ inr own
        ]
      ]

  removed_more : (e : Datom) → Contains (removed table (front ++ back)) e → Contains (removed table (front ++ x ∷ back)) e
  removed_more e inside =
      subst (λ (l : List Datom). Contains l e) (sym (removed-append table front (x ∷ back)))
      (elim (Contains-append_cases (removed table front) (removed table back) e
      (subst (λ (l : List Datom). Contains l e) (removed-append table front back) inside)) [
        | inl a ↦ Contains-append_left (removed table front) (removed table (x ∷ back)) e a
        | inr b ↦ Contains-append_right (removed table front) (removed table (x ∷ back)) e (removed_tail table x back e b)
      ])

  added_more : (e : Datom) → Contains (added table (front ++ back)) e → Contains (added table (front ++ x ∷ back)) e
  added_more e inside =
      subst (λ (l : List Datom). Contains l e) (sym (added-append table front (x ∷ back)))
      (elim (Contains-append_cases (added table front) (added table back) e
      (subst (λ (l : List Datom). Contains l e) (added-append table front back) inside)) [
        | inl a ↦ Contains-append_left (added table front) (added table (x ∷ back)) e a
        | inr b ↦ Contains-append_right (added table front) (added table (x ∷ back)) e (added_tail table x back e b)
      ])

  removed_here : x.removes ≡ true → Contains (removed table (front ++ x ∷ back)) (datom_of table x.number)
  removed_here is =
      subst (λ (l : List Datom). Contains l (datom_of table x.number)) (sym (removed-append table front (x ∷ back)))
      (Contains-append_right (removed table front) (removed table (x ∷ back)) (datom_of table x.number) (removed_own table x back is))

  added_here : x.removes ≡ false → Contains (added table (front ++ x ∷ back)) (datom_of table x.number)
  added_here is =
      subst (λ (l : List Datom). Contains l (datom_of table x.number)) (sym (added-append table front (x ∷ back)))
      (Contains-append_right (added table front) (added table (x ∷ back)) (datom_of table x.number) (added_own table x back is))

held-append : (table : List Datom) (xs ys : List Change) → held_by changing table (xs ++ ys) ≡ held_by changing table xs ++ held_by changing table ys
held-append table xs ys = map-append (datom_by changing table) xs ys

-- the changes of one change
one_removed : (table : List Datom) (c : Change) (e : Datom) → Contains (removed table (c ∷ [])) e → (c.removes ≡ true) × (datom_of table c.number ≡ e)
one_removed table c e inside = elim (removed_head table c [] e inside) [ inl none ↦ absurd (none_of e none) | inr own ↦ own ]

one_added : (table : List Datom) (c : Change) (e : Datom) → Contains (added table (c ∷ [])) e → (c.removes ≡ false) × (datom_of table c.number ≡ e)
one_added table c e inside = elim (added_head table c [] e inside) [ inl none ↦ absurd (none_of e none) | inr own ↦ own ]

-- ---- a change where none has its datom

module _ (order : Order) (table : List Datom) (front back : List Change) (c : Change)
    (rising : IsRising order (held_by changing table (front ++ c ∷ back)))
    (alone : Contains (held_by changing table (front ++ back)) (datom_of table c.number) → ⊥) where
  pub put_new : AreTogether order (removed table (front ++ back)) (added table (front ++ back)) (removed table (c ∷ []))
      (added table (c ∷ [])) (removed table (front ++ c ∷ back)) (added table (front ++ c ∷ back))
  put_new =
      record {
        gone_rises = removed_rises order table (front ++ c ∷ back) rising;
        come_rises = added_rises order table (front ++ c ∷ back) rising;
        goes = λ e. (
          λ inside. elim (removed_cases table front c back e inside) [
            | inl older ↦ inl (
              older,
              λ comes. alone (subst (Contains (held_by changing table (front ++ back)))
                  (sym (one_added table c e comes).1) (removed_of table (front ++ back) e older)),
            )
            | inr own ↦ inr (
              subst (Contains (removed table (c ∷ []))) own.1 (removed_own table c [] own.0),
              λ comes. alone (subst (Contains (held_by changing table (front ++ back))) (sym own.1) (added_of table (front ++ back) e comes)),
            )
          ],
          λ given. elim given [
            | inl older ↦ removed_more table front c back e older.0
            | inr own ↦
                let one = one_removed table c e own.0 in
                subst (Contains (removed table (front ++ c ∷ back))) one.1 (removed_here table front c back one.0)
          ],
        );
        comes = λ e. (
          λ inside. elim (added_cases table front c back e inside) [
            | inl older ↦ inl (
              older,
              λ goes. alone (subst (Contains (held_by changing table (front ++ back)))
                  (sym (one_removed table c e goes).1) (added_of table (front ++ back) e older)),
            )
            | inr own ↦ inr (
              subst (Contains (added table (c ∷ []))) own.1 (added_own table c [] own.0),
              λ goes. alone (subst (Contains (held_by changing table (front ++ back))) (sym own.1) (removed_of table (front ++ back) e goes)),
            )
          ],
          λ given. elim given [
            | inl older ↦ added_more table front c back e older.0
            | inr own ↦
                let one = one_added table c e own.0 in
                subst (Contains (added table (front ++ c ∷ back))) one.1 (added_here table front c back one.0)
          ],
        );
      }

-- ---- a change that undoes another one

not_twice : (order : Order) (table : List Datom) (front : List Change) (x : Change) (back : List Change)
    → IsRising order (held_by changing table (front ++ x ∷ back)) → Contains (held_by changing table (front ++ back)) (datom_of table x.number) → ⊥
not_twice order table front x back rising inside =
    let parts : IsRising order (held_by changing table front ++ datom_of table x.number ∷ held_by changing table back) =
    subst (IsRising order) (held-append table front (x ∷ back)) rising in
    elim (Contains-append_cases (held_by changing table front) (held_by changing table back) (datom_of table x.number)
    (subst (λ (l : List Datom). Contains l (datom_of table x.number)) (held-append table front back) inside)) [
      | inl a ↦
          not_below_itself order (datom_of table x.number)
          (rising_parts order (held_by changing table front) (datom_of table x.number ∷ held_by changing table back) parts
          (datom_of table x.number) (datom_of table x.number) a (here (datom_of table x.number) (held_by changing table back)))
      | inr b ↦
          not_behind_itself order (datom_of table x.number) (held_by changing table back)
          (rising_right order (held_by changing table front) (datom_of table x.number ∷ held_by changing table back) parts).0 b
    ]

rising_without : (order : Order) (table : List Datom) (front : List Change) (x : Change) (back : List Change)
    → IsRising order (held_by changing table (front ++ x ∷ back)) → IsRising order (held_by changing table (front ++ back))
rising_without order table [] x back rising = rising.1
rising_without order table (y ∷ front) x back rising = (
  before_all order (datom_of table y.number) (held_by changing table (front ++ back))
      (λ d inside. before_member order (datom_of table y.number) (held_by changing table (front ++ x ∷ back)) d rising.0
      (subst (λ (l : List Datom). Contains l d) (sym (held-append table front (x ∷ back)))
      (elim (Contains-append_cases (held_by changing table front) (held_by changing table back) d
      (subst (λ (l : List Datom). Contains l d) (held-append table front back) inside)) [
        | inl a ↦ Contains-append_left (held_by changing table front) (datom_of table x.number ∷ held_by changing table back) d a
        | inr b ↦
            Contains-append_right (held_by changing table front) (datom_of table x.number ∷ held_by changing table back) d
            (there (datom_of table x.number) d (held_by changing table back) b)
      ]))),
  rising_without order table front x back rising.1,
)

module _ (order : Order) (table : List Datom) (front : List Change) (x : Change) (back : List Change) (c : Change)
    (rising : IsRising order (held_by changing table (front ++ x ∷ back))) (same : datom_of table x.number ≡ datom_of table c.number)
    (other : (x.removes ≡ true → c.removes ≡ true → ⊥) × (x.removes ≡ false → c.removes ≡ false → ⊥)) where
  is_again : (e : Datom) → datom_of table c.number ≡ e → Contains (held_by changing table (front ++ back)) e → ⊥
  is_again e is inside =
      not_twice order table front x back rising (subst (Contains (held_by changing table (front ++ back))) (sym is ∙ sym same) inside)

  pub put_back : AreTogether order (removed table (front ++ x ∷ back)) (added table (front ++ x ∷ back)) (removed table (c ∷ []))
      (added table (c ∷ [])) (removed table (front ++ back)) (added table (front ++ back))
  put_back =
      record {
        gone_rises = removed_rises order table (front ++ back) (rising_without order table front x back rising);
        come_rises = added_rises order table (front ++ back) (rising_without order table front x back rising);
        goes = λ e. (
          λ inside. inl (
            removed_more table front x back e inside,
            λ comes. is_again e (one_added table c e comes).1 (removed_of table (front ++ back) e inside),
          ),
          λ given. elim given [
            | inl older ↦ elim (removed_cases table front x back e older.0) [
              | inl is ↦ is
              | inr own ↦ elim (cases_Bool c.removes) [
                | inl removes ↦ absurd (other.0 own.0 removes)
                | inr adds ↦ absurd (older.1 (subst (Contains (added table (c ∷ []))) (sym same ∙ own.1) (added_own table c [] adds)))
              ]
            ]
            | inr own ↦
                let one = one_removed table c e own.0 in
                elim (cases_Bool x.removes) [
                  | inl removes ↦ absurd (other.0 removes one.0)
                  | inr adds ↦
                      absurd (own.1 (subst (Contains (added table (front ++ x ∷ back))) (same ∙ one.1) (added_here table front x back adds)))
                ]
          ],
        );
        comes = λ e. (
          λ inside. inl (
            added_more table front x back e inside,
            λ goes. is_again e (one_removed table c e goes).1 (added_of table (front ++ back) e inside),
          ),
          λ given. elim given [
            | inl older ↦ elim (added_cases table front x back e older.0) [
              | inl is ↦ is
              | inr own ↦ elim (cases_Bool c.removes) [
                | inl removes ↦ absurd (older.1 (subst (Contains (removed table (c ∷ []))) (sym same ∙ own.1) (removed_own table c [] removes)))
                | inr adds ↦ absurd (other.1 own.0 adds)
              ]
            ]
            | inr own ↦
                let one = one_added table c e own.0 in
                elim (cases_Bool x.removes) [
                  | inl removes ↦
                      absurd (own.1 (subst (Contains (removed table (front ++ x ∷ back))) (same ∙ one.1) (removed_here table front x back removes)))
                  | inr adds ↦ absurd (other.1 adds one.0)
                ]
          ],
        );
      }

-- ---- at its place

eq_is : (o : Ordering) → is_eq o ≡ true → o ≡ Equal
eq_is Less is = absurd (true≢false (sym is))
eq_is Equal is = refl
eq_is Greater is = absurd (true≢false (sym is))

first_is : {X : Type 0} (xs : List X) (n : ℕ) (x : X) → slice_get xs n ≡ Some x → drop n xs ≡ x ∷ drop (suc n) xs
first_is [] n x is = absurd (cc)
first_is (y ∷ xs) zero x is = let same : y ≡ x = cc in ap (λ z. z ∷ xs) same
first_is (y ∷ xs) (suc n) x is = first_is xs n x is

none_is : {X : Type 0} (xs : List X) (n : ℕ) → slice_get xs n ≡ None → drop n xs ≡ []
none_is [] zero is = refl
none_is [] (suc n) is = refl
none_is (y ∷ xs) zero is = absurd (cc)
none_is (y ∷ xs) (suc n) is = none_is xs n is

pub record IsPut (order : Order) (table : List Datom) (cs : List Change) (c : Change) (base : List Datom) (new : List Change) : Type 0 where
  pub are : AreChanges order table new base
  pub whole : changed_by order table new base ≡ changed_by order table (c ∷ []) (changed_by order table cs base)

module _ (order : Order) (table : List Datom) (cs : List Change) (c : Change) (base : List Datom) (single : HasNoTwins table)
    (member : IsMember order table (changing c)) (are : AreChanges order table cs base) (rises : IsRising order base)
    (within : IsWithin table base)
    (may1 : MayChange order table (removed table (c ∷ [])) (added table (c ∷ [])) (changed_by order table cs base)) where
  d_in : Contains table (datom_of table c.number)
  d_in = datom_within table c.number member.within

  may0 : MayChange order table (removed table cs) (added table cs) base
  may0 = may_change order table cs base are rises within

  -- changes of the same list that together are what both do
  put_for : (all new : List Change) → cs ≡ all → All (λ x. IsMember order table (changing x)) new
      → IsRising order (held_by changing table new)
      → AreTogether order (removed table all) (added table all) (removed table (c ∷ [])) (added table (c ∷ [])) (removed table new)
      (added table new)
      → IsPut order table cs c base new
  put_for all new all_is members rising both =
      let at : AreTogether order (removed table cs) (added table cs) (removed table (c ∷ [])) (added table (c ∷ [])) (removed table new)
      (added table new) =
      subst (λ (l : List Change). AreTogether order (removed table l) (added table l) (removed table (c ∷ [])) (added table (c ∷ []))
      (removed table new) (added table new)) (sym all_is) both in
      let may =
      together_may order table (removed table cs) (added table cs) (removed table (c ∷ [])) (added table (c ∷ [])) (removed table new)
      (added table new) base single may0 may1 at in
      record {
        are = record { members = members; rising = rising; there = may.there; fresh = may.fresh };
        whole =
            sym (twice order table (removed table cs) (added table cs) (removed table (c ∷ [])) (added table (c ∷ [])) (removed table new)
            (added table new) base single may0 may1 at);
      }

  all_is : cs ≡ take (place_in order table c.number cs) cs ++ drop (place_in order table c.number cs) cs
  all_is = sym (take-append-drop (place_in order table c.number cs) cs)

  front_before : (x : Datom) → Contains (held_by changing table (take (place_in order table c.number cs) cs)) x
      → key_cmp order x (datom_of table c.number) ≡ Less
  front_before x inside =
      before_own order (datom_of table c.number) (held_by changing table cs) x
      (subst (λ (l : List Datom). Contains l x) (sym (take-map (datom_by changing table) (place_in order table c.number cs) cs)) inside)

  back_at : (x : Datom) → Contains (held_by changing table (drop (place_in order table c.number cs) cs)) x
      → Contains (from_probe (probe_of order (datom_of table c.number)) (held_by changing table cs)) x
  back_at x inside =
      subst (λ (l : List Datom). Contains l x) (sym (drop-map (datom_by changing table) (place_in order table c.number cs) cs)) inside

  back_within : (x : Datom) → Contains (held_by changing table (drop (place_in order table c.number cs) cs)) x → Contains table x
  back_within x inside =
      held_within changing order table (drop (place_in order table c.number cs) cs) x
      (All-drop (λ y. IsMember order table (changing y)) (place_in order table c.number cs) cs are.members) inside

  back_rises : IsRising order (held_by changing table (drop (place_in order table c.number cs) cs))
  back_rises =
      subst (IsRising order) (drop-map (datom_by changing table) (place_in order table c.number cs) cs)
      (rising-drop order (place_in order table c.number cs) (held_by changing table cs) are.rising)

  front_rises : IsRising order (held_by changing table (take (place_in order table c.number cs) cs))
  front_rises =
      subst (IsRising order) (take-map (datom_by changing table) (place_in order table c.number cs) cs)
      (rising-take order (place_in order table c.number cs) (held_by changing table cs) are.rising)

  insert_is : (Contains (held_by changing table (drop (place_in order table c.number cs) cs)) (datom_of table c.number) → ⊥)
      → IsPut order table cs c base (insert cs (place_in order table c.number cs) c)
  insert_is none =
      let front = take (place_in order table c.number cs) cs in
      let back = drop (place_in order table c.number cs) cs in
      let behind : IsBelowAll order (datom_of table c.number) (held_by changing table back) =
      before_all order (datom_of table c.number) (held_by changing table back)
      (λ x inside. behind_own order table (datom_of table c.number) (held_by changing table cs) x single d_in (back_within x inside)
      are.rising (back_at x inside) (λ same. none (subst (Contains (held_by changing table back)) (sym same) inside))) in
      let rising : IsRising order (held_by changing table (front ++ c ∷ back)) =
      subst (IsRising order) (sym (held-append table front (c ∷ back)))
      (rising-append order (held_by changing table front) (datom_of table c.number ∷ held_by changing table back) front_rises
      (behind, back_rises) (λ x y x_in y_in. elim (cases_of (datom_of table c.number) y (held_by changing table back) y_in) [
        | inl same ↦ subst (λ (z : Datom). key_cmp order x z ≡ Less) same (front_before x x_in)
        | inr later ↦
            (key_cmp_total order).trans x (datom_of table c.number) y (front_before x x_in)
            (before_member order (datom_of table c.number) (held_by changing table back) y behind later)
      ])) in
      let alone : Contains (held_by changing table (front ++ back)) (datom_of table c.number) → ⊥ =
      λ inside. elim (Contains-append_cases (held_by changing table front) (held_by changing table back) (datom_of table c.number)
      (subst (λ (l : List Datom). Contains l (datom_of table c.number)) (held-append table front back) inside)) [
        | inl a ↦ not_below_itself order (datom_of table c.number) (front_before (datom_of table c.number) a)
        | inr b ↦ none b
      ] in
      put_for (front ++ back) (front ++ c ∷ back) all_is
      (All-append (λ y. IsMember order table (changing y)) front (c ∷ back)
      (All-take (λ y. IsMember order table (changing y)) (place_in order table c.number cs) cs are.members)
      (All-cons (λ y. IsMember order table (changing y)) c back member
      (All-drop (λ y. IsMember order table (changing y)) (place_in order table c.number cs) cs are.members)))
      rising (put_new order table front back c rising alone)

  -- one of the datom removes it where the other adds it
  other_way : (x : Change) → datom_of table x.number ≡ datom_of table c.number
      → ((x.removes ≡ true → Contains (removed table cs) (datom_of table c.number))
      × (x.removes ≡ false → Contains (added table cs) (datom_of table c.number)))
      → ((x.removes ≡ true → c.removes ≡ true → ⊥) × (x.removes ≡ false → c.removes ≡ false → ⊥))
  other_way x same inside = (
    λ x_removes c_removes. elim (from_changed order table (removed table cs) (added table cs) base single may0 (datom_of table c.number)
        (may1.there (datom_of table c.number) (removed_own table c [] c_removes))) [
          | inl stayed ↦ stayed.1 (inside.0 x_removes)
          | inr new ↦ may0.fresh (datom_of table c.number) new (may0.there (datom_of table c.number) (inside.0 x_removes))
        ],
    λ x_adds c_adds. may1.fresh (datom_of table c.number) (added_own table c [] c_adds)
        (into_changed order table (removed table cs) (added table cs) base single may0 (datom_of table c.number) (inr (inside.1 x_adds))),
  )

  remove_is : (x : Change) → slice_get cs (place_in order table c.number cs) ≡ Some x → datom_of table x.number ≡ datom_of table c.number
      → IsPut order table cs c base (remove cs (place_in order table c.number cs))
  remove_is x found same =
      let front = take (place_in order table c.number cs) cs in
      let back = drop (suc (place_in order table c.number cs)) cs in
      let whole : cs ≡ front ++ x ∷ back = all_is ∙ ap (λ (l : List Change). front ++ l) (first_is cs (place_in order table c.number cs) x found) in
      let rising : IsRising order (held_by changing table (front ++ x ∷ back)) =
      subst (λ (l : List Change). IsRising order (held_by changing table l)) whole are.rising in
      let gone : x.removes ≡ true → Contains (removed table cs) (datom_of table c.number) =
      λ is. subst (λ (l : List Change). Contains (removed table l) (datom_of table c.number)) (sym whole)
      (subst (Contains (removed table (front ++ x ∷ back))) same (removed_here table front x back is)) in
      let come : x.removes ≡ false → Contains (added table cs) (datom_of table c.number) =
      λ is. subst (λ (l : List Change). Contains (added table l) (datom_of table c.number)) (sym whole)
      (subst (Contains (added table (front ++ x ∷ back))) same (added_here table front x back is)) in
      put_for (front ++ x ∷ back) (front ++ back) whole
      (All-append (λ y. IsMember order table (changing y)) front back
      (All-take (λ y. IsMember order table (changing y)) (place_in order table c.number cs) cs are.members)
      (All-drop (λ y. IsMember order table (changing y)) (suc (place_in order table c.number cs)) cs are.members))
      (rising_without order table front x back rising)
      (put_back order table front x back c rising same (other_way x same (gone, come)))

  pub put_is : IsPut order table cs c base (with_change order table cs c)
  put_is = go (slice_get cs (place_in order table c.number cs)) refl
    where
      go : (found : Option Change) → slice_get cs (place_in order table c.number cs) ≡ found
          → IsPut order table cs c base (cond (is_met order table c.number found) (remove cs (place_in order table c.number cs))
          (insert cs (place_in order table c.number cs) c))
      go None is =
          insert_is (λ inside. none_of (datom_of table c.number)
          (subst (λ (l : List Change). Contains (held_by changing table l) (datom_of table c.number))
          (none_is cs (place_in order table c.number cs) is) inside))
      go (Some x) is =
          decide (is_eq (key_cmp order (datom_of table x.number) (datom_of table c.number))) refl
        where
          decide : (b : Bool) → is_eq (key_cmp order (datom_of table x.number) (datom_of table c.number)) ≡ b
              → IsPut order table cs c base (cond b (remove cs (place_in order table c.number cs)) (insert cs (place_in order table c.number cs) c))
          decide true equal =
              let x_in : Contains (held_by changing table (drop (place_in order table c.number cs) cs)) (datom_of table x.number) =
              subst (λ (l : List Change). Contains (held_by changing table l) (datom_of table x.number))
              (sym (first_is cs (place_in order table c.number cs) x is))
              (here (datom_of table x.number) (held_by changing table (drop (suc (place_in order table c.number cs)) cs))) in
              remove_is x is (one_key order table (datom_of table x.number) (datom_of table c.number) single
              (back_within (datom_of table x.number) x_in) d_in
              (eq_is (key_cmp order (datom_of table x.number) (datom_of table c.number)) equal))
          decide false not_equal =
              insert_is (λ inside.
              let at : Contains (datom_of table x.number ∷ held_by changing table (drop (suc (place_in order table c.number cs)) cs))
              (datom_of table c.number) =
              subst (λ (l : List Change). Contains (held_by changing table l) (datom_of table c.number))
              (first_is cs (place_in order table c.number cs) x is) inside in
              elim (cases_of (datom_of table x.number) (datom_of table c.number)
              (held_by changing table (drop (suc (place_in order table c.number cs)) cs)) at) [
                | inl same ↦
                    true≢false (sym (ap is_eq (ap (λ (z : Datom). key_cmp order z (datom_of table c.number)) same
                    ∙ tied_itself (key_cmp_total order) (datom_of table c.number))) ∙ not_equal)
                | inr later ↦
                    let rising : IsRising order (datom_of table x.number ∷ held_by changing table (drop (suc (place_in order table c.number cs)) cs)) =
                    subst (λ (l : List Change). IsRising order (held_by changing table l))
                    (first_is cs (place_in order table c.number cs) x is) back_rises in
                    let less = before_member order (datom_of table x.number)
                    (held_by changing table (drop (suc (place_in order table c.number cs)) cs)) (datom_of table c.number) rising.0 later in
                    let x_in : Contains (held_by changing table (drop (place_in order table c.number cs) cs)) (datom_of table x.number) =
                    subst (λ (l : List Change). Contains (held_by changing table l) (datom_of table x.number))
                    (sym (first_is cs (place_in order table c.number cs) x is))
                    (here (datom_of table x.number) (held_by changing table (drop (suc (place_in order table c.number cs)) cs))) in
                    not_before_own order (datom_of table c.number) (held_by changing table cs) (datom_of table x.number) are.rising
                    (back_at (datom_of table x.number) x_in) less
              ])
