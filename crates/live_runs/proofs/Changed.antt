-- What a changed list has, and its changes at the front and side by side.
use Rattle.std.proofs.Common.{◌≡◌, ◌∙◌, ◌⊎◌, inl, inr, true, not, List, [], ◌∷◌, ◌++◌, refl, sym, ap, subst}
use Rattle.std.specs.Prelude.{Contains, filter}
use Rattle.std.specs.Cmp.{tied_itself}
use Rattle.std.specs.Ordering.{is_eq}
use Rattle.std.specs.declared.cmp.Ordering.{Ordering}
use Rattle.std.specs.declared.cmp.Ordering.TheVariants.{Less, Equal, Greater}
use Rattle.std.proofs.lemmas.Bool.{cases_Bool, true≢false, not-true}
use Rattle.std.proofs.lemmas.List.Elements.{Contains-append_left, Contains-append_right, Contains-append_cases}
use Rattle.fb_values.specs.declared.facts.Datom.{Datom}
use Rattle.fb_values.specs.declared.indexes.Order.{Order}
use Rattle.fb_values.specs.Orders.{key_cmp}
use Rattle.fb_values.specs.OrderLaws.{key_cmp_total}
use Rattle.fb_values.specs.Rising.{IsBelowAll, IsRising}
use Rattle.fb_values.proofs.Rising.{rising_from}
use Rattle.fb_model.proofs.InOrder.{OneForEachKey, in_order_has}
use Rattle.fb_model.proofs.Members.{here, there, cases_of, none_of, kept, keep, any_member, some_member, in_order-rises, in_order_member}
use Rattle.live_runs.specs.Changed.{HasNoTwins, IsWithin, has_key_of, changed, MayChange}
use Rattle.live_runs.proofs.Rises.{before_member, before_all, same_list, not_behind_itself, one_key}

eq_is : (o : Ordering) → is_eq o ≡ true → o ≡ Equal
eq_is Less is = absurd (true≢false (sym is))
eq_is Equal is = refl
eq_is Greater is = absurd (true≢false (sym is))

-- of a list before, and not gone; or come
abbrev pub IsOfChanged : List Datom → List Datom → List Datom → Datom → Type 0
IsOfChanged gone come base d = (Contains base d × (Contains gone d → ⊥)) ⊎ Contains come d

-- a datom of the table is in the list or not
pub decided : (order : Order) (table ds : List Datom) (d : Datom) → HasNoTwins table → IsWithin table ds → Contains table d
    → Contains ds d ⊎ (Contains ds d → ⊥)
decided order table ds d single within inside = elim (cases_Bool (has_key_of order ds d)) [
  | inl some ↦
      let found = some_member (λ x. is_eq (key_cmp order x d)) ds some in
      let same : found.0 ≡ d = one_key order table found.0 d single (within found.0 found.1) inside (eq_is (key_cmp order found.0 d) found.2) in
      inl (subst (Contains ds) same found.1)
  | inr none ↦
      inr (λ there. true≢false (sym (any_member (λ x. is_eq (key_cmp order x d)) ds d there (ap is_eq (tied_itself (key_cmp_total order) d)))
      ∙ none))
]

module _ (order : Order) (table gone come base : List Datom) (single : HasNoTwins table) (may : MayChange order table gone come base) where
  is_gone : (d : Datom) → Contains base d → has_key_of order gone d ≡ true → Contains gone d
  is_gone d inside some =
      let found = some_member (λ x. is_eq (key_cmp order x d)) gone some in
      let same : found.0 ≡ d =
      one_key order table found.0 d single (may.within found.0 (may.there found.0 found.1)) (may.within d inside)
      (eq_is (key_cmp order found.0 d) found.2) in
      subst (Contains gone) same found.1

  gone_is : (d : Datom) → Contains gone d → has_key_of order gone d ≡ true
  gone_is d inside = any_member (λ x. is_eq (key_cmp order x d)) gone d inside (ap is_eq (tied_itself (key_cmp_total order) d))

  stays : (d : Datom) → Contains base d → (Contains gone d → ⊥) → not (has_key_of order gone d) ≡ true
  stays d inside none = elim (cases_Bool (has_key_of order gone d)) [
    | inl some ↦ absurd (none (is_gone d inside some))
    | inr is ↦ ap not is
  ]

  pub changed_rises : IsRising order (changed order gone come base)
  changed_rises =
      rising_from order (changed order gone come base)
      (in_order-rises order (filter (λ x. not (has_key_of order gone x)) base ++ come))

  pub from_changed : (d : Datom) → Contains (changed order gone come base) d → IsOfChanged gone come base d
  from_changed d inside =
      elim (Contains-append_cases (filter (λ x. not (has_key_of order gone x)) base) come d (in_order_member order (filter (λ x. not (has_key_of order gone x)) base ++ come) d inside)) [
        | inl stayed ↦
            let is = kept (λ x. not (has_key_of order gone x)) base d stayed in
            inl (is.member, λ went. true≢false (sym (gone_is d went) ∙ not-true _ is.passes))
        | inr comes ↦ inr comes
      ]

  parts_within : (d : Datom) → Contains (filter (λ x. not (has_key_of order gone x)) base ++ come) d → Contains table d
  parts_within d inside =
      elim (Contains-append_cases (filter (λ x. not (has_key_of order gone x)) base) come d inside) [
        | inl stayed ↦ may.within d (kept (λ x. not (has_key_of order gone x)) base d stayed).member
        | inr comes ↦ may.come_within d comes
      ]

  one_each : OneForEachKey order (filter (λ x. not (has_key_of order gone x)) base ++ come)
  one_each = record { same = λ x y x_in y_in equal. one_key order table x y single (parts_within x x_in) (parts_within y y_in) equal }

  pub into_changed : (d : Datom) → IsOfChanged gone come base d → Contains (changed order gone come base) d
  into_changed d given =
      in_order_has order (filter (λ x. not (has_key_of order gone x)) base ++ come) one_each d (elim given [
        | inl stayed ↦
            Contains-append_left (filter (λ x. not (has_key_of order gone x)) base) come d
            (keep (λ x. not (has_key_of order gone x)) base d stayed.0 (stays d stayed.0 stayed.1))
        | inr comes ↦ Contains-append_right (filter (λ x. not (has_key_of order gone x)) base) come d comes
      ])

  pub changed_within : IsWithin table (changed order gone come base)
  changed_within d inside = elim (from_changed d inside) [ inl stayed ↦ may.within d stayed.0 | inr comes ↦ may.come_within d comes ]

  -- the one rising list with these members
  pub changed_is : (ds : List Datom) → IsRising order ds → ((d : Datom) → Contains ds d → IsOfChanged gone come base d)
      → ((d : Datom) → IsOfChanged gone come base d → Contains ds d) → changed order gone come base ≡ ds
  changed_is ds rising from into =
      same_list order (changed order gone come base) ds changed_rises rising (λ d inside. into d (from_changed d inside))
      (λ d inside. into_changed d (from d inside))

-- ---- the first of both

pub behind_base : (order : Order) (table gone come : List Datom) (d : Datom) (base : List Datom)
    → MayChange order table gone come (d ∷ base) → IsBelowAll order d gone → MayChange order table gone come base
behind_base order table gone come d base may before =
    record {
      rising = may.rising.1;
      gone_rises = may.gone_rises;
      come_rises = may.come_rises;
      within = λ x inside. may.within x (there d x base inside);
      come_within = may.come_within;
      there = λ x inside. elim (cases_of d x base (may.there x inside)) [
        | inl same ↦ absurd (not_behind_itself order d gone before (subst (Contains gone) (sym same) inside))
        | inr behind ↦ behind
      ];
      fresh = λ x comes inside. may.fresh x comes (there d x base inside);
    }

-- a datom of the list before all changes stays the first
pub base_first : (order : Order) (table gone come : List Datom) (d : Datom) (base : List Datom) → HasNoTwins table
    → MayChange order table gone come (d ∷ base) → IsBelowAll order d gone → IsBelowAll order d come
    → changed order gone come (d ∷ base) ≡ d ∷ changed order gone come base
base_first order table gone come d base single may before also =
    let rest = behind_base order table gone come d base may before in
    changed_is order table gone come (d ∷ base) single may (d ∷ changed order gone come base) (
      before_all order d (changed order gone come base) (λ x inside. elim (from_changed order table gone come base single rest x inside) [
        | inl stayed ↦ before_member order d base x may.rising.0 stayed.0
        | inr comes ↦ before_member order d come x also comes
      ]),
      changed_rises order table gone come base single rest,
    ) (λ x inside. elim (cases_of d x (changed order gone come base) inside) [
      | inl same ↦
          let P : Datom → Type 0 = λ y. Contains (d ∷ base) y × (Contains gone y → ⊥) in
          inl (subst P same (here d base, not_behind_itself order d gone before))
      | inr behind ↦ elim (from_changed order table gone come base single rest x behind) [
        | inl stayed ↦ inl (there d x base stayed.0, stayed.1)
        | inr comes ↦ inr comes
      ]
    ]) (λ x given. elim given [
      | inl stayed ↦ elim (cases_of d x base stayed.0) [
        | inl same ↦ subst (Contains (d ∷ changed order gone come base)) same (here d (changed order gone come base))
        | inr behind ↦
            there d x (changed order gone come base) (into_changed order table gone come base single rest x (inl (behind, stayed.1)))
      ]
      | inr comes ↦ there d x (changed order gone come base) (into_changed order table gone come base single rest x (inr comes))
    ])

pub behind_come : (order : Order) (table gone : List Datom) (x : Datom) (come base : List Datom)
    → MayChange order table gone (x ∷ come) base → MayChange order table gone come base
behind_come order table gone x come base may =
    record {
      rising = may.rising;
      gone_rises = may.gone_rises;
      come_rises = may.come_rises.1;
      within = may.within;
      come_within = λ d inside. may.come_within d (there x d come inside);
      there = may.there;
      fresh = λ d comes inside. may.fresh d (there x d come comes) inside;
    }

-- what comes is the first where it is before the list
pub come_first : (order : Order) (table gone : List Datom) (x : Datom) (come base : List Datom) → HasNoTwins table
    → MayChange order table gone (x ∷ come) base → IsBelowAll order x base
    → changed order gone (x ∷ come) base ≡ x ∷ changed order gone come base
come_first order table gone x come base single may before =
    let rest = behind_come order table gone x come base may in
    changed_is order table gone (x ∷ come) base single may (x ∷ changed order gone come base) (
      before_all order x (changed order gone come base) (λ d inside. elim (from_changed order table gone come base single rest d inside) [
        | inl stayed ↦ before_member order x base d before stayed.0
        | inr comes ↦ before_member order x come d may.come_rises.0 comes
      ]),
      changed_rises order table gone come base single rest,
    ) (λ d inside. elim (cases_of x d (changed order gone come base) inside) [
      | inl same ↦ inr (subst (Contains (x ∷ come)) same (here x come))
      | inr behind ↦ elim (from_changed order table gone come base single rest d behind) [
        | inl stayed ↦ inl stayed
        | inr comes ↦ inr (there x d come comes)
      ]
    ]) (λ d given. elim given [
      | inl stayed ↦ there x d (changed order gone come base) (into_changed order table gone come base single rest d (inl stayed))
      | inr comes ↦ elim (cases_of x d come comes) [
        | inl same ↦ subst (Contains (x ∷ changed order gone come base)) same (here x (changed order gone come base))
        | inr behind ↦ there x d (changed order gone come base) (into_changed order table gone come base single rest d (inr behind))
      ]
    ])

pub behind_both : (order : Order) (table : List Datom) (x : Datom) (gone come base : List Datom)
    → MayChange order table (x ∷ gone) come (x ∷ base) → MayChange order table gone come base
behind_both order table x gone come base may =
    record {
      rising = may.rising.1;
      gone_rises = may.gone_rises.1;
      come_rises = may.come_rises;
      within = λ d inside. may.within d (there x d base inside);
      come_within = may.come_within;
      there = λ d inside. elim (cases_of x d base (may.there d (there x d gone inside))) [
        | inl same ↦ absurd (not_behind_itself order x gone may.gone_rises.0 (subst (Contains gone) (sym same) inside))
        | inr behind ↦ behind
      ];
      fresh = λ d comes inside. may.fresh d comes (there x d base inside);
    }

-- what goes is there, and goes with it
pub gone_first : (order : Order) (table : List Datom) (x : Datom) (gone come base : List Datom) → HasNoTwins table
    → MayChange order table (x ∷ gone) come (x ∷ base) → changed order (x ∷ gone) come (x ∷ base) ≡ changed order gone come base
gone_first order table x gone come base single may =
    let rest = behind_both order table x gone come base may in
    changed_is order table (x ∷ gone) come (x ∷ base) single may (changed order gone come base)
    (changed_rises order table gone come base single rest)
    (λ d inside. elim (from_changed order table gone come base single rest d inside) [
      | inl stayed ↦
          inl (
            there x d base stayed.0,
            λ went. elim (cases_of x d gone went) [
              | inl same ↦ not_behind_itself order x base may.rising.0 (subst (Contains base) (sym same) stayed.0)
              | inr behind ↦ stayed.1 behind
            ],
          )
      | inr comes ↦ inr comes
    ]) (λ d given. into_changed order table gone come base single rest d (elim given [
      | inl stayed ↦ elim (cases_of x d base stayed.0) [
        | inl same ↦ absurd (stayed.1 (subst (Contains (x ∷ gone)) same (here x gone)))
        | inr behind ↦ inl (behind, λ went. stayed.1 (there x d gone went))
      ]
      | inr comes ↦ inr comes
    ]))

-- ---- no changes, or nothing but changes

pub unchanged : (order : Order) (table base : List Datom) → HasNoTwins table → MayChange order table [] [] base → changed order [] [] base ≡ base
unchanged order table base single may =
    changed_is order table [] [] base single may base may.rising (λ d inside. inl (inside, none_of d)) (λ d given. elim given [
      | inl stayed ↦ stayed.0
      | inr comes ↦ absurd (none_of d comes)
    ])

pub none_gone : (order : Order) (table gone come : List Datom) → MayChange order table gone come [] → gone ≡ []
none_gone order table [] come may = refl
none_gone order table (x ∷ gone) come may = absurd (none_of x (may.there x (here x gone)))

pub all_come : (order : Order) (table gone come : List Datom) → HasNoTwins table → MayChange order table gone come []
    → changed order gone come [] ≡ come
all_come order table gone come single may =
    changed_is order table gone come [] single may come may.come_rises (λ d inside. inr inside) (λ d given. elim given [
      | inl stayed ↦ absurd (none_of d stayed.0)
      | inr comes ↦ comes
    ])
