-- The transactions of the datoms of lawful histories.
use Rattle.std.proofs.Common.{◌≡◌, ℕ, zero, suc, ◌+◌, ◌-◌, ◌<◌, ◌≤◌, Bool, true, false, not, ◌&&◌, List, [], ◌∷◌, ◌++◌, length, take, refl}
use Rattle.std.proofs.Common.{ap, sym, ◌∙◌, subst, arith, inl, inr, ◌⊎◌, eqb, leb}
use Rattle.std.specs.Prelude.{filter, Contains}
use Rattle.std.specs.List.{list_all}
use Rattle.std.specs.Ordering.{is_lt, ordering_reverse}
use Rattle.std.specs.declared.cmp.Ordering.TheVariants.{Equal}
use Rattle.std.specs.Cmp.{tied_itself}
use Rattle.std.specs.Cmp.Lexicographic.{slice_cmp, lists_total}
use Rattle.std.proofs.lemmas.Bool.{true≢false, and_parts, and_from, eqb-true, leb-true, le-leb}
use Rattle.std.proofs.lemmas.Bool.Decides.{nat_tests}
use Rattle.std.proofs.lemmas.List.{length-append}
use Rattle.std.proofs.lemmas.List.Folds.{list_all-append}
use Rattle.std.proofs.lemmas.List.Elements.{Contains-append_cases}
use Rattle.fb_values.specs.declared.facts.Datom.{Datom}
use Rattle.fb_values.specs.declared.facts.Entry.{Entry}
use Rattle.fb_values.specs.declared.indexes.Order.{Order}
use Rattle.fb_values.specs.declared.indexes.Order.TheVariants.{Eavt, Aevt, Avet, Vaet}
use Rattle.fb_values.specs.Orders.{key_cmp, key_of, value_cmp}
use Rattle.fb_values.specs.OrderLaws.{value_cmp_total, key_cmp_total, key_cmp-Equal, IsAtOnePlace}
use Rattle.fb_values.specs.Rising.{rises}
use Rattle.fb_model.specs.FirstEntry.{first_entry}
use Rattle.fb_model.specs.History.{basis, said, upto}
use Rattle.fb_model.specs.Lawful.{IsLawful, IsLawfulAfter}
use Rattle.fb_model.proofs.OneMoreEntry.{basis-push, said-push, upto-append}
use Rattle.fb_model.proofs.LawfulHistories.{IsLawful-length, IsLawful-push}
use Rattle.fb_model.proofs.Untouched.{filter-append}
use Rattle.fb_model.proofs.Invariants.{of_lawful}
use Rattle.fb_model.proofs.SchemaHistories.{all_pass}
use Rattle.fb_model.proofs.Members.{cases_of, none_of, member_passes}
use Rattle.fb_model.proofs.InOrder.{OneForEachKey, first_is_least}

-- ---- the entry's t

pub next_t : (h : List Entry) (entry : Entry) → IsLawfulAfter h entry → entry.t ≡ basis h + 1
next_t h entry next = eqb-true entry.t (basis h + 1) (and_parts _ _ next.next_t).0

pub own_t : (h : List Entry) (entry : Entry) → IsLawfulAfter h entry → list_all (λ d. eqb d.t (basis h + 1)) entry.datoms ≡ true
own_t h entry next =
    subst (λ t. list_all (λ (d : Datom). eqb d.t t) entry.datoms ≡ true) (next_t h entry next)
    (and_parts _ _ (and_parts _ _ next.datoms_in_order).0).0

weaker : (b t : ℕ) → leb t b ≡ true → leb t (b + 1) ≡ true
weaker b t below = le-leb t (b + 1) (omega (arith, leb-true t b below))

at_most : (b t : ℕ) → eqb t (b + 1) ≡ true → leb t (b + 1) ≡ true
at_most b t is = le-leb t (b + 1) (omega (arith, eqb-true t (b + 1) is))

-- no datom is of a later transaction than the last
pub said_t : (h : List Entry) → IsLawful h → list_all (λ d. leb d.t (basis h)) (said h) ≡ true
said_t =
    of_lawful (λ h. list_all (λ d. leb d.t (basis h)) (said h) ≡ true) refl
    (λ h entry lawful before next.
    rw (basis-push, said-push, next_t h entry next, list_all-append (λ (d : Datom). leb d.t (basis h + 1)) (said h) entry.datoms)
    (and_from _ _
    (all_pass (λ d. leb d.t (basis h)) (λ d. leb d.t (basis h + 1)) (λ d. weaker (basis h) d.t) (said h) before)
    (all_pass (λ d. eqb d.t (basis h + 1)) (λ d. leb d.t (basis h + 1)) (λ d. at_most (basis h) d.t) entry.datoms (own_t h entry next))))

-- ---- the t never falls

abbrev pub t_rises : List Datom → Bool
t_rises [] = true
t_rises (d ∷ ds) = list_all (λ other. leb d.t other.t) ds && t_rises ds

t_rises-append : (b : ℕ) (ds more : List Datom) → t_rises ds ≡ true → list_all (λ d. leb d.t b) ds ≡ true → t_rises more ≡ true
    → list_all (λ d. eqb d.t (b + 1)) more ≡ true → t_rises (ds ++ more) ≡ true
t_rises-append b [] more rising low rest own = rest
t_rises-append b (d ∷ ds) more rising low rest own =
    let parts = and_parts (list_all (λ other. leb d.t other.t) ds) (t_rises ds) rising in
    let lows = and_parts (leb d.t b) (list_all (λ other. leb other.t b) ds) low in
    and_from _ _
    (list_all-append (λ (other : Datom). leb d.t other.t) ds more ∙ and_from _ _ parts.0
    (all_pass (λ other. eqb other.t (b + 1)) (λ other. leb d.t other.t) (λ other own_one. before d.t other.t lows.0 own_one) more own))
    (t_rises-append b ds more parts.1 lows.1 rest own)
  where
    before : (t u : ℕ) → leb t b ≡ true → eqb u (b + 1) ≡ true → leb t u ≡ true
    before t u below is = le-leb t u (omega (arith, leb-true t b below, eqb-true u (b + 1) is))

t_rises-one : (t : ℕ) (ds : List Datom) → list_all (λ d. eqb d.t t) ds ≡ true → t_rises ds ≡ true
t_rises-one t [] own = refl
t_rises-one t (d ∷ ds) own =
    let parts = and_parts (eqb d.t t) (list_all (λ other. eqb other.t t) ds) own in
    and_from _ _ (all_pass (λ other. eqb other.t t) (λ other. leb d.t other.t) (λ other is. same d.t other.t parts.0 is) ds parts.1)
    (t_rises-one t ds parts.1)
  where
    same : (a b : ℕ) → eqb a t ≡ true → eqb b t ≡ true → leb a b ≡ true
    same a b p q = le-leb a b (omega (arith, eqb-true a t p, eqb-true b t q))

pub said-t_rises : (h : List Entry) → IsLawful h → t_rises (said h) ≡ true
said-t_rises =
    of_lawful (λ h. t_rises (said h) ≡ true) refl
    (λ h entry lawful before next. rw said-push
    (t_rises-append (basis h) (said h) entry.datoms before (said_t h lawful) (t_rises-one (basis h + 1) entry.datoms (own_t h entry next))
    (own_t h entry next)))

-- ---- what was said up to a t

filter_every : (p : Datom → Bool) (ds : List Datom) → list_all p ds ≡ true → filter p ds ≡ ds
filter_every p [] every = refl
filter_every p (d ∷ ds) every = let parts = and_parts (p d) (list_all p ds) every in rw (parts.0, filter_every p ds parts.1) refl

filter_never : (p : Datom → Bool) (ds : List Datom) → list_all (λ d. not (p d)) ds ≡ true → filter p ds ≡ []
filter_never p [] every = refl
filter_never p (d ∷ ds) every =
    let parts = and_parts (not (p d)) (list_all (λ x. not (p x)) ds) every in rw (is_false (p d) parts.0, filter_never p ds parts.1) refl
  where
    is_false : (b : Bool) → not b ≡ true → b ≡ false
    is_false false e = refl
    is_false true e = absurd (true≢false (sym e))

append-nil : (ds : List Datom) → ds ++ [] ≡ ds
append-nil [] = refl
append-nil (d ∷ ds) = ap (λ rest. d ∷ rest) (append-nil ds)

take_all : (n : ℕ) (h : List Entry) → length h ≤ n → take n h ≡ h
take_all zero [] short = refl
take_all zero (e ∷ h) short = absurd (omega (arith, short))
take_all (suc n) [] short = refl
take_all (suc n) (e ∷ h) short = ap (λ rest. e ∷ rest) (take_all n h (omega (arith, short)))

-- the entries up to a t say what is of these transactions
pub said-upto : (h : List Entry) → IsLawful h → (t : ℕ) → said (upto h t) ≡ filter (λ d. leb d.t t) (said h)
said-upto = of_lawful (λ h. (t : ℕ) → said (upto h t) ≡ filter (λ d. leb d.t t) (said h)) first next
  where
    first : (t : ℕ) → said (upto (first_entry ∷ []) t) ≡ filter (λ d. leb d.t t) (said (first_entry ∷ []))
    first t =
        rw one_first (sym (filter_every (λ d. leb d.t t) (said (first_entry ∷ []))
        (all_pass (λ d. eqb d.t 0) (λ d. leb d.t t) (λ d is. low d.t is) (said (first_entry ∷ [])) refl)))
      where
        low : (u : ℕ) → eqb u 0 ≡ true → leb u t ≡ true
        low u is = le-leb u t (omega (arith, eqb-true u 0 is))

        one_first : upto (first_entry ∷ []) t ≡ first_entry ∷ []
        one_first = take_all (t + 1) (first_entry ∷ []) (omega arith)

    next : (h : List Entry) (entry : Entry) → IsLawful h
        → ((t : ℕ) → said (upto h t) ≡ filter (λ d. leb d.t t) (said h)) → IsLawfulAfter h entry
        → (t : ℕ) → said (upto (h ++ entry ∷ []) t) ≡ filter (λ d. leb d.t t) (said (h ++ entry ∷ []))
    next h entry lawful before after t = go (leb (basis h + 1) t) refl
      where
        counted : length h ≡ basis h + 1
        counted = IsLawful-length h lawful

        all_of_it : basis h + 1 ≤ t → take (t + 1) (h ++ entry ∷ []) ≡ h ++ entry ∷ []
        all_of_it above = take_all (t + 1) (h ++ entry ∷ []) (omega (arith, length-append h (entry ∷ []), counted))

        go : (b : Bool) → leb (basis h + 1) t ≡ b → said (upto (h ++ entry ∷ []) t) ≡ filter (λ d. leb d.t t) (said (h ++ entry ∷ []))
        go true is =
            ap said (all_of_it (leb-true (basis h + 1) t is))
            ∙ sym (filter_every (λ d. leb d.t t) (said (h ++ entry ∷ []))
            (all_pass (λ d. leb d.t (basis (h ++ entry ∷ []))) (λ d. leb d.t t)
            (λ d low. le-leb d.t t (omega (arith, leb-true _ _ low, basis-push h entry, next_t h entry after, leb-true (basis h + 1) t is)))
            (said (h ++ entry ∷ [])) (said_t (h ++ entry ∷ []) (IsLawful-push h entry lawful after))))
        go false is =
            ap said (upto-append h (entry ∷ []) t (below h t counted is))
            ∙ before t
            ∙ sym (ap (filter (λ (d : Datom). leb d.t t)) (said-push h entry)
            ∙ filter-append (λ d. leb d.t t) (said h) entry.datoms
            ∙ ap (λ l. filter (λ (d : Datom). leb d.t t) (said h) ++ l) (filter_never (λ d. leb d.t t) entry.datoms
            (all_pass (λ d. eqb d.t (basis h + 1)) (λ d. not (leb d.t t)) (λ d own. later d.t own) entry.datoms (own_t h entry after)))
            ∙ append-nil (filter (λ (d : Datom). leb d.t t) (said h)))
          where
            below : (h : List Entry) (t : ℕ) → length h ≡ basis h + 1 → leb (basis h + 1) t ≡ false → t < length h
            below h t counted is = grind (arith, nat_tests)

            later : (u : ℕ) → eqb u (basis h + 1) ≡ true → not (leb u t) ≡ true
            later u own = rw (eqb-true u (basis h + 1) own, is) refl

-- ---- one datom for each key

rest_rises : (order : Order) (d : Datom) (ds : List Datom) → rises order (d ∷ ds) ≡ true → rises order ds ≡ true
rest_rises order d [] rising = refl
rest_rises order d (y ∷ ds) rising = (and_parts _ _ rising).1

rising_one : (order : Order) (ds : List Datom) → rises order ds ≡ true → (x y : Datom) → Contains ds x → Contains ds y
    → key_cmp order x y ≡ Equal → x ≡ y
rising_one order [] rising x y x_in y_in equal = absurd (none_of x x_in)
rising_one order (d ∷ ds) rising x y x_in y_in equal =
    go (cases_of d x ds x_in) (cases_of d y ds y_in) (rising_one order ds (rest_rises order d ds rising))
  where
    go : (d ≡ x) ⊎ Contains ds x → (d ≡ y) ⊎ Contains ds y
        → ((a b : Datom) → Contains ds a → Contains ds b → key_cmp order a b ≡ Equal → a ≡ b) → x ≡ y
    go (inl p) (inl q) next = sym p ∙ q
    go (inl p) (inr q) next =
        absurd (true≢false (sym (subst (λ z. is_lt (key_cmp order z y) ≡ true) p (first_is_least order d ds y rising q)) ∙ ap is_lt equal))
    go (inr p) (inl q) next =
        absurd (true≢false (sym (subst (λ z. is_lt (key_cmp order z x) ≡ true) q (first_is_least order d ds x rising p))
        ∙ ap is_lt ((key_cmp_total order).antisymm y x ∙ ap ordering_reverse equal)))
    go (inr p) (inr q) next = next x y p q equal

apart_t : (b t u : ℕ) → leb t b ≡ true → eqb u (b + 1) ≡ true → t ≡ u → ⊥
apart_t b t u low own same = omega (arith, leb-true t b low, eqb-true u (b + 1) own)

pub same_keys : (order : Order) (x y : Datom) → IsAtOnePlace x y → key_of order x ≡ key_of order y
same_keys Eavt x y place = let e = place.e in let a = place.a in let v = place.v in let t = place.t in cc
same_keys Aevt x y place = let e = place.e in let a = place.a in let v = place.v in let t = place.t in cc
same_keys Avet x y place = let e = place.e in let a = place.a in let v = place.v in let t = place.t in cc
same_keys Vaet x y place = let e = place.e in let a = place.a in let v = place.v in let t = place.t in cc

-- equal keys in one order are equal in each
pub same_place : (order other : Order) (x y : Datom) → key_cmp order x y ≡ Equal → key_cmp other x y ≡ Equal
same_place order other x y equal =
    subst (λ key. slice_cmp value_cmp (key_of other x) key ≡ Equal) (same_keys other x y (key_cmp-Equal order x y equal))
    (tied_itself (lists_total value_cmp_total) (key_of other x))

-- in a lawful history two datoms with equal keys are equal
pub one_for_each_key : (h : List Entry) → IsLawful h → OneForEachKey Eavt (said h)
one_for_each_key =
    of_lawful (λ h. OneForEachKey Eavt (said h)) (record { same = rising_one Eavt (said (first_entry ∷ [])) refl })
    (λ h entry lawful before next. subst (OneForEachKey Eavt) (sym (said-push h entry)) (record {
      same = λ x y x_in y_in equal.
          go h entry lawful before next x y equal (Contains-append_cases (said h) entry.datoms x x_in)
          (Contains-append_cases (said h) entry.datoms y y_in);
    }))
  where
    go : (h : List Entry) (entry : Entry) → IsLawful h → OneForEachKey Eavt (said h) → IsLawfulAfter h entry
        → (x y : Datom) → key_cmp Eavt x y ≡ Equal
        → Contains (said h) x ⊎ Contains entry.datoms x → Contains (said h) y ⊎ Contains entry.datoms y → x ≡ y
    go h entry lawful before next x y equal (inl p) (inl q) = before.same x y p q equal
    go h entry lawful before next x y equal (inr p) (inr q) =
        rising_one Eavt entry.datoms (and_parts _ _ (and_parts _ _ next.datoms_in_order).0).1 x y p q equal
    go h entry lawful before next x y equal (inl p) (inr q) =
        absurd (apart_t (basis h) x.t y.t (member_passes (λ d. leb d.t (basis h)) (said h) x (said_t h lawful) p)
        (member_passes (λ d. eqb d.t (basis h + 1)) entry.datoms y (own_t h entry next) q) (key_cmp-Equal Eavt x y equal).t)
    go h entry lawful before next x y equal (inr p) (inl q) =
        absurd (apart_t (basis h) y.t x.t (member_passes (λ d. leb d.t (basis h)) (said h) y (said_t h lawful) q)
        (member_passes (λ d. eqb d.t (basis h + 1)) entry.datoms x (own_t h entry next) p) (sym (key_cmp-Equal Eavt x y equal).t))

pub one_for_each_key_in : (h : List Entry) → IsLawful h → (order : Order) → OneForEachKey order (said h)
one_for_each_key_in h lawful order =
    record { same = λ x y x_in y_in equal. (one_for_each_key h lawful).same x y x_in y_in (same_place order Eavt x y equal) }

-- the entries up to the basis are all
pub upto-basis : (h : List Entry) → IsLawful h → upto h (basis h) ≡ h
upto-basis h lawful = take_all (basis h + 1) h (omega (arith, IsLawful-length h lawful))
