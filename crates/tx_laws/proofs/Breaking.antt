-- The first law that is broken.
use Rattle.std.proofs.Common.{◌≡◌, ℕ, ◌+◌, Bool, true, false, cond, ◌&&◌, List, [], ◌∷◌, refl, ap, sym, ◌∙◌, Option, Some, None}
use Rattle.fb_values.specs.declared.facts.Entry.{Entry}
use Rattle.fb_model.specs.Laws.{has_next_t, has_later_instant, has_known_numbers, has_installed_attributes, has_typed_values}
use Rattle.fb_model.specs.Laws.{has_datoms_in_order, has_changes_alone, has_one_value_each, has_one_holder_each, has_whole_attributes}
use Rattle.fb_model.specs.Laws.{has_allowed_changes, has_no_reserved_names, has_own_instant_alone}
use Rattle.fb_model.specs.Lawful.{least_law, first_broken}

kept_one : (n : ℕ) (kept : Bool) (rest : List Bool) (law : Option ℕ) → kept ≡ true → law ≡ first_broken (n + 1) rest
    → law ≡ first_broken n (kept ∷ rest)
kept_one n kept rest law is later = later ∙ sym (ap (λ b. cond b (first_broken (n + 1) rest) (Some n)) is)

broken_one : (n : ℕ) (kept : Bool) (rest : List Bool) → kept ≡ false → Some n ≡ first_broken n (kept ∷ rest)
broken_one n kept rest is = sym (ap (λ b. cond b (first_broken (n + 1) rest) (Some n)) is)

-- ---- the laws from the sixth on

abbrev pub later_laws : List Entry → Entry → List Bool
later_laws h entry =
    has_changes_alone h entry ∷ has_one_value_each h entry ∷ has_one_holder_each h entry
    ∷ (has_whole_attributes h entry && has_allowed_changes h entry && has_no_reserved_names h entry && has_own_instant_alone h entry) ∷ []

module _ (a b c d : Bool) where
  six : a ≡ false → Some 6 ≡ first_broken 6 (a ∷ b ∷ c ∷ d ∷ [])
  six is = broken_one 6 a (b ∷ c ∷ d ∷ []) is

  seven : a ≡ true → b ≡ false → Some 7 ≡ first_broken 6 (a ∷ b ∷ c ∷ d ∷ [])
  seven a_is is = kept_one 6 a (b ∷ c ∷ d ∷ []) (Some 7) a_is (broken_one 7 b (c ∷ d ∷ []) is)

  eight : a ≡ true → b ≡ true → c ≡ false → Some 8 ≡ first_broken 6 (a ∷ b ∷ c ∷ d ∷ [])
  eight a_is b_is is = kept_one 6 a (b ∷ c ∷ d ∷ []) (Some 8) a_is (kept_one 7 b (c ∷ d ∷ []) (Some 8) b_is (broken_one 8 c (d ∷ []) is))

  nine : a ≡ true → b ≡ true → c ≡ true → d ≡ false → Some 9 ≡ first_broken 6 (a ∷ b ∷ c ∷ d ∷ [])
  nine a_is b_is c_is is =
      kept_one 6 a (b ∷ c ∷ d ∷ []) (Some 9) a_is
      (kept_one 7 b (c ∷ d ∷ []) (Some 9) b_is (kept_one 8 c (d ∷ []) (Some 9) c_is (broken_one 9 d [] is)))

  none : a ≡ true → b ≡ true → c ≡ true → d ≡ true → None ≡ first_broken 6 (a ∷ b ∷ c ∷ d ∷ [])
  none a_is b_is c_is d_is =
      kept_one 6 a (b ∷ c ∷ d ∷ []) None a_is
      (kept_one 7 b (c ∷ d ∷ []) None b_is (kept_one 8 c (d ∷ []) None c_is (kept_one 9 d [] None d_is refl)))

module _ (a b c d e : Bool) (rest : List Bool) where
  one : a ≡ false → Some 1 ≡ first_broken 1 (a ∷ b ∷ c ∷ d ∷ e ∷ rest)
  one is = broken_one 1 a (b ∷ c ∷ d ∷ e ∷ rest) is

  two : a ≡ true → b ≡ false → Some 2 ≡ first_broken 1 (a ∷ b ∷ c ∷ d ∷ e ∷ rest)
  two a_is is = kept_one 1 a (b ∷ c ∷ d ∷ e ∷ rest) (Some 2) a_is (broken_one 2 b (c ∷ d ∷ e ∷ rest) is)

  three : a ≡ true → b ≡ true → c ≡ false → Some 3 ≡ first_broken 1 (a ∷ b ∷ c ∷ d ∷ e ∷ rest)
  three a_is b_is is =
      kept_one 1 a (b ∷ c ∷ d ∷ e ∷ rest) (Some 3) a_is
      (kept_one 2 b (c ∷ d ∷ e ∷ rest) (Some 3) b_is (broken_one 3 c (d ∷ e ∷ rest) is))

  four : a ≡ true → b ≡ true → c ≡ true → d ≡ false → Some 4 ≡ first_broken 1 (a ∷ b ∷ c ∷ d ∷ e ∷ rest)
  four a_is b_is c_is is =
      kept_one 1 a (b ∷ c ∷ d ∷ e ∷ rest) (Some 4) a_is
      (kept_one 2 b (c ∷ d ∷ e ∷ rest) (Some 4) b_is (kept_one 3 c (d ∷ e ∷ rest) (Some 4) c_is (broken_one 4 d (e ∷ rest) is)))

  five : a ≡ true → b ≡ true → c ≡ true → d ≡ true → e ≡ false → Some 5 ≡ first_broken 1 (a ∷ b ∷ c ∷ d ∷ e ∷ rest)
  five a_is b_is c_is d_is is =
      kept_one 1 a (b ∷ c ∷ d ∷ e ∷ rest) (Some 5) a_is
      (kept_one 2 b (c ∷ d ∷ e ∷ rest) (Some 5) b_is (kept_one 3 c (d ∷ e ∷ rest) (Some 5) c_is
      (kept_one 4 d (e ∷ rest) (Some 5) d_is (broken_one 5 e rest is))))

  later : (law : Option ℕ) → a ≡ true → b ≡ true → c ≡ true → d ≡ true → e ≡ true → law ≡ first_broken 6 rest
      → law ≡ first_broken 1 (a ∷ b ∷ c ∷ d ∷ e ∷ rest)
  later law a_is b_is c_is d_is e_is is =
      kept_one 1 a (b ∷ c ∷ d ∷ e ∷ rest) law a_is (kept_one 2 b (c ∷ d ∷ e ∷ rest) law b_is (kept_one 3 c (d ∷ e ∷ rest) law c_is
      (kept_one 4 d (e ∷ rest) law d_is (kept_one 5 e rest law e_is is))))

module _ (h : List Entry) (entry : Entry) where
  pub sixth : has_changes_alone h entry ≡ false → Some 6 ≡ first_broken 6 (later_laws h entry)
  sixth =
      six (has_changes_alone h entry) (has_one_value_each h entry) (has_one_holder_each h entry)
      (has_whole_attributes h entry && has_allowed_changes h entry && has_no_reserved_names h entry && has_own_instant_alone h entry)

  pub seventh : has_changes_alone h entry ≡ true → has_one_value_each h entry ≡ false → Some 7 ≡ first_broken 6 (later_laws h entry)
  seventh =
      seven (has_changes_alone h entry) (has_one_value_each h entry) (has_one_holder_each h entry)
      (has_whole_attributes h entry && has_allowed_changes h entry && has_no_reserved_names h entry && has_own_instant_alone h entry)

  pub eighth : has_changes_alone h entry ≡ true → has_one_value_each h entry ≡ true → has_one_holder_each h entry ≡ false
      → Some 8 ≡ first_broken 6 (later_laws h entry)
  eighth =
      eight (has_changes_alone h entry) (has_one_value_each h entry) (has_one_holder_each h entry)
      (has_whole_attributes h entry && has_allowed_changes h entry && has_no_reserved_names h entry && has_own_instant_alone h entry)

  pub ninth : has_changes_alone h entry ≡ true → has_one_value_each h entry ≡ true → has_one_holder_each h entry ≡ true
      → (has_whole_attributes h entry && has_allowed_changes h entry && has_no_reserved_names h entry && has_own_instant_alone h entry)
      ≡ false
      → Some 9 ≡ first_broken 6 (later_laws h entry)
  ninth =
      nine (has_changes_alone h entry) (has_one_value_each h entry) (has_one_holder_each h entry)
      (has_whole_attributes h entry && has_allowed_changes h entry && has_no_reserved_names h entry && has_own_instant_alone h entry)

  pub no_later : has_changes_alone h entry ≡ true → has_one_value_each h entry ≡ true → has_one_holder_each h entry ≡ true
      → (has_whole_attributes h entry && has_allowed_changes h entry && has_no_reserved_names h entry && has_own_instant_alone h entry)
      ≡ true
      → None ≡ first_broken 6 (later_laws h entry)
  no_later =
      none (has_changes_alone h entry) (has_one_value_each h entry) (has_one_holder_each h entry)
      (has_whole_attributes h entry && has_allowed_changes h entry && has_no_reserved_names h entry && has_own_instant_alone h entry)

  pub first : has_next_t h entry ≡ false → Some 1 ≡ least_law h entry
  first =
      one (has_next_t h entry) (has_later_instant h entry) (has_known_numbers h entry && has_installed_attributes h entry)
      (has_typed_values h entry) (has_datoms_in_order h entry) (later_laws h entry)

  pub second : has_next_t h entry ≡ true → has_later_instant h entry ≡ false → Some 2 ≡ least_law h entry
  second =
      two (has_next_t h entry) (has_later_instant h entry) (has_known_numbers h entry && has_installed_attributes h entry)
      (has_typed_values h entry) (has_datoms_in_order h entry) (later_laws h entry)

  pub third : has_next_t h entry ≡ true → has_later_instant h entry ≡ true
      → (has_known_numbers h entry && has_installed_attributes h entry) ≡ false → Some 3 ≡ least_law h entry
  third =
      three (has_next_t h entry) (has_later_instant h entry) (has_known_numbers h entry && has_installed_attributes h entry)
      (has_typed_values h entry) (has_datoms_in_order h entry) (later_laws h entry)

  pub fourth : has_next_t h entry ≡ true → has_later_instant h entry ≡ true
      → (has_known_numbers h entry && has_installed_attributes h entry) ≡ true → has_typed_values h entry ≡ false
      → Some 4 ≡ least_law h entry
  fourth =
      four (has_next_t h entry) (has_later_instant h entry) (has_known_numbers h entry && has_installed_attributes h entry)
      (has_typed_values h entry) (has_datoms_in_order h entry) (later_laws h entry)

  pub fifth : has_next_t h entry ≡ true → has_later_instant h entry ≡ true
      → (has_known_numbers h entry && has_installed_attributes h entry) ≡ true → has_typed_values h entry ≡ true
      → has_datoms_in_order h entry ≡ false → Some 5 ≡ least_law h entry
  fifth =
      five (has_next_t h entry) (has_later_instant h entry) (has_known_numbers h entry && has_installed_attributes h entry)
      (has_typed_values h entry) (has_datoms_in_order h entry) (later_laws h entry)

  pub among_later : (law : Option ℕ) → has_next_t h entry ≡ true → has_later_instant h entry ≡ true
      → (has_known_numbers h entry && has_installed_attributes h entry) ≡ true → has_typed_values h entry ≡ true
      → has_datoms_in_order h entry ≡ true
      → law ≡ first_broken 6 (later_laws h entry) → law ≡ least_law h entry
  among_later =
      later (has_next_t h entry) (has_later_instant h entry) (has_known_numbers h entry && has_installed_attributes h entry)
      (has_typed_values h entry) (has_datoms_in_order h entry) (later_laws h entry)
