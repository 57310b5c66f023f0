-- What is kept alone and what is kept together makes a lawful history.
use Rattle.std.proofs.Common.{◌≡◌, ℕ, ◌+◌, ◌<◌, true, not, ◌&&◌, List, [], ◌∷◌, ◌++◌, refl, ap, sym, ◌∙◌, subst, arith}
use Rattle.std.proofs.Common.{eqb, leb, ltb, append_assoc}
use Rattle.std.specs.List.{list_all}
use Rattle.std.proofs.lemmas.Bool.{and_parts, and_from, eqb-true, ltb-true, lt-ltb, ne_eqb}
use Rattle.std.proofs.lemmas.List.{append-nil}
use Rattle.std.proofs.lemmas.List.Folds.{list_all-append}
use Rattle.fb_values.specs.declared.facts.Datom.{Datom}
use Rattle.fb_values.specs.declared.facts.Entry.{Entry}
use Rattle.fb_values.specs.declared.indexes.Order.TheVariants.{Eavt}
use Rattle.fb_numbers.specs.Numbers.{greatest_t}
use Rattle.fb_model.specs.FirstEntry.{first_entry}
use Rattle.fb_model.specs.History.{basis, said}
use Rattle.fb_model.specs.Facts.{facts}
use Rattle.fb_model.specs.Lawful.{IsLawful, IsLawfulFrom, IsLawfulAfter}
use Rattle.fb_model.specs.Laws as model
use Rattle.fb_model.specs.Laws.{facts_with}
use Rattle.fb_model.specs.Schema.{is_one, is_unique}
use Rattle.fb_model.proofs.Invariants.{facts-push}
use Rattle.fb_model.proofs.LawfulHistories.{IsLawful-first, IsLawful-push}
use Rattle.fb_model.proofs.Members.{all_members, member_passes, are_of_other_triples}
use Rattle.fb_model.proofs.OneMoreEntry.{basis-push, said-push}
use Rattle.fb_schema.specs.Described.{SchemaStands}
use Rattle.tx_after.proofs.Orders.{apart_at_t}
use Rattle.tx_after.proofs.WithChanges.{apart-from_triples}
use Rattle.tx_laws.specs.Changes.{add_no_reserved_names, own_instant_alone, keeps_names_and_instants}
use Rattle.tx_laws.specs.Own.{is_fit}
use Rattle.tx_laws.proofs.Altering.{one_stands, unique_stands}
use Rattle.log_sweep.specs.Alone.{KeepsAlone, KeepAlone, has_a_cardinality}
use Rattle.log_sweep.specs.Groups.{KeepTogether}
use Rattle.log_sweep.proofs.Wholes.{stays_one, stays_unique, said_counts, first_counts, whole_attributes, no_reserved_names}
use Rattle.log_sweep.proofs.LawsTogether.{changes_alone, one_value, one_holder}
use Rattle.log_sweep.proofs.Steps.{Keeping, entry-Keeping}

-- ---- what an entry keeps alone, law by law

record OwnLaws (h : List Entry) (entry : Entry) : Type 0 where
  pub next_t : model.has_next_t h entry ≡ true
  pub later_instant : model.has_later_instant h entry ≡ true
  pub in_order : model.has_datoms_in_order h entry ≡ true
  pub typed : model.has_typed_values h entry ≡ true
  pub allowed : model.has_allowed_changes h entry ≡ true
  pub names : add_no_reserved_names entry.datoms ≡ true
  pub own_instant : model.has_own_instant_alone h entry ≡ true
  pub known : model.has_known_numbers h entry ≡ true
  pub installed : model.has_installed_attributes h entry ≡ true

own_laws : (h : List Entry) (entry : Entry) → KeepsAlone h entry → OwnLaws h entry
own_laws h entry keeps =
    let all = and_parts (is_fit h entry) (model.has_known_numbers h entry && model.has_installed_attributes h entry) keeps.own_laws in
    let third = and_parts (model.has_known_numbers h entry) (model.has_installed_attributes h entry) all.1 in
    let one = and_parts _ (keeps_names_and_instants entry entry.datoms) all.0 in
    let two = and_parts _ (model.has_allowed_changes h entry) one.0 in
    let three = and_parts _ (model.has_typed_values h entry) two.0 in
    let four = and_parts _ (model.has_datoms_in_order h entry) three.0 in
    let five = and_parts (model.has_next_t h entry) (model.has_later_instant h entry) four.0 in
    let names = and_parts (add_no_reserved_names entry.datoms) (own_instant_alone entry entry.datoms) one.1 in
    record {
      next_t = five.0;
      later_instant = five.1;
      in_order = four.1;
      typed = three.1;
      allowed = two.1;
      names = names.0;
      own_instant = names.1;
      known = third.0;
      installed = third.1;
    }

t_is : (h : List Entry) (entry : Entry) → KeepsAlone h entry → entry.t ≡ basis h + 1
t_is h entry keeps =
    eqb-true entry.t (basis h + 1) (and_parts (eqb entry.t (basis h + 1)) (leb entry.t greatest_t) (own_laws h entry keeps).next_t).0

own_ts : (h : List Entry) (entry : Entry) → KeepsAlone h entry → list_all (λ d. eqb d.t entry.t) entry.datoms ≡ true
own_ts h entry keeps = (and_parts _ _ (and_parts _ _ (own_laws h entry keeps).in_order).0).0

apart : (h : List Entry) (entry : Entry) → KeepsAlone h entry → are_of_other_triples entry.datoms ≡ true
apart h entry keeps =
    let order = and_parts _ _ (and_parts _ _ (own_laws h entry keeps).in_order).0 in
    apart-from_triples Eavt entry.datoms (apart_at_t Eavt entry.t entry.datoms order.1 order.0)

-- ---- what is behind a history is of later t

later_ts : (h rest : List Entry) → KeepAlone h rest → list_all (λ d. ltb (basis h) d.t) (said rest) ≡ true
later_ts h [] keep = refl
later_ts h (entry ∷ rest) keep =
    list_all-append (λ d. ltb (basis h) d.t) entry.datoms (said rest)
    ∙ and_from _ _
    (all_members (λ d. ltb (basis h) d.t) entry.datoms
    (λ d member. above d (eqb-true d.t entry.t (member_passes (λ d. eqb d.t entry.t) entry.datoms d (own_ts h entry keep.0) member))))
    (all_members (λ d. ltb (basis h) d.t) (said rest)
    (λ d member. further d (ltb-true (basis (h ++ entry ∷ [])) d.t
    (member_passes (λ d. ltb (basis (h ++ entry ∷ [])) d.t) (said rest) d (later_ts (h ++ entry ∷ []) rest keep.1) member))))
  where
    above : (d : Datom) → d.t ≡ entry.t → ltb (basis h) d.t ≡ true
    above d is = lt-ltb (basis h) d.t (omega (arith, is, t_is h entry keep.0))

    further : (d : Datom) → basis (h ++ entry ∷ []) < d.t → ltb (basis h) d.t ≡ true
    further d later = lt-ltb (basis h) d.t (omega (arith, later, basis-push h entry, t_is h entry keep.0))

other_ts : (h rest : List Entry) → KeepAlone h rest → list_all (λ d. not (eqb d.t (basis h))) (said rest) ≡ true
other_ts h rest keep =
    all_members (λ d. not (eqb d.t (basis h))) (said rest)
    (λ d member. other d (ltb-true (basis h) d.t (member_passes (λ d. ltb (basis h) d.t) (said rest) d (later_ts h rest keep) member)))
  where
    other : (d : Datom) → basis h < d.t → not (eqb d.t (basis h)) ≡ true
    other d later = ap not (ne_eqb d.t (basis h) (λ is. omega (arith, later, is)))

-- ---- the last schema promises what each one before it does

one_to_last : (h rest : List Entry) → KeepAlone h rest → (a : ℕ) → is_one (facts h) a ≡ true → is_one (facts (h ++ rest)) a ≡ true
one_to_last h [] keep a is = subst (λ l. is_one (facts l) a ≡ true) (sym (append-nil h)) is
one_to_last h (entry ∷ rest) keep a is =
    subst (λ l. is_one (facts l) a ≡ true) (append_assoc h (entry ∷ []) rest)
    (one_to_last (h ++ entry ∷ []) rest keep.1 a (subst (λ fs. is_one fs a ≡ true) (sym (facts-push h entry))
    (stays_one h entry (own_laws h entry keep.0).allowed keep.0.described a is)))

unique_to_last : (h rest : List Entry) → KeepAlone h rest → (a : ℕ) → is_unique (facts h) a ≡ true → is_unique (facts (h ++ rest)) a ≡ true
unique_to_last h [] keep a is = subst (λ l. is_unique (facts l) a ≡ true) (sym (append-nil h)) is
unique_to_last h (entry ∷ rest) keep a is =
    subst (λ l. is_unique (facts l) a ≡ true) (append_assoc h (entry ∷ []) rest)
    (unique_to_last (h ++ entry ∷ []) rest keep.1 a (subst (λ fs. is_unique fs a ≡ true) (sym (facts-push h entry))
    (stays_unique h entry (own_laws h entry keep.0).allowed keep.0.described a is)))

-- ---- entry by entry

record Promised (schema : List Datom) (h : List Entry) : Type 0 where
  pub one : (a : ℕ) → is_one (facts h) a ≡ true → is_one schema a ≡ true
  pub unique : (a : ℕ) → is_unique (facts h) a ≡ true → is_unique schema a ≡ true

-- the schema of all entries promises what that of the first ones does
promised_before : (schema : List Datom) (h rest : List Entry) → SchemaStands schema (h ++ rest) → KeepAlone h rest → Promised schema h
promised_before schema h rest stands keep =
    record {
      one = λ a is. one_stands schema (h ++ rest) a stands ∙ one_to_last h rest keep a is;
      unique = λ a is. unique_stands schema (h ++ rest) a stands ∙ unique_to_last h rest keep a is;
    }

module _ (schema : List Datom) (h : List Entry) (entry : Entry) (rest : List Entry) (lawful : IsLawful h)
    (counts : list_all has_a_cardinality (said h) ≡ true) (keeps : KeepsAlone h entry)
    (keep : KeepAlone (h ++ entry ∷ []) rest)
    (stands : SchemaStands schema ((h ++ entry ∷ []) ++ rest)) (keeping : Keeping schema (said h) (entry.datoms ++ said rest)) where
  pub after_entry : Keeping schema (said h ++ entry.datoms) (said rest)
  after_entry =
      entry-Keeping schema (said h) entry.t entry.datoms (said rest) (own_ts h entry keeps)
      (subst (λ t. list_all (λ d. not (eqb d.t t)) (said rest) ≡ true) (basis-push h entry) (other_ts (h ++ entry ∷ []) rest keep))
      keeping

  promised : Promised schema (h ++ entry ∷ [])
  promised = promised_before schema (h ++ entry ∷ []) rest stands keep

  pub may_follow : IsLawfulAfter h entry
  may_follow =
      let own = own_laws h entry keeps in
      record {
        next_t = own.next_t;
        later_instant = own.later_instant;
        known_numbers = own.known;
        installed_attributes = own.installed;
        typed_values = own.typed;
        datoms_in_order = own.in_order;
        changes_alone = changes_alone schema h entry (said rest) (apart h entry keeps) keeping.changes;
        one_value_each =
            one_value schema (said h ++ entry.datoms)
            (λ a is. promised.one a (subst (λ fs. is_one fs a ≡ true) (sym (facts-push h entry)) is)) after_entry.one;
        one_holder_each =
            one_holder schema (said h ++ entry.datoms)
            (λ a is. promised.unique a (subst (λ fs. is_unique fs a ≡ true) (sym (facts-push h entry)) is)) after_entry.sole;
        whole_attributes = whole_attributes h entry lawful counts (apart h entry keeps) keeps.described;
        allowed_changes = own.allowed;
        no_reserved_names = no_reserved_names h entry lawful counts (apart h entry keeps) keeps.described own.names;
        own_instant_alone = own.own_instant;
      }

lawful_rest : (schema : List Datom) (h rest : List Entry) → IsLawful h → list_all has_a_cardinality (said h) ≡ true → KeepAlone h rest
    → SchemaStands schema (h ++ rest) → Keeping schema (said h) (said rest) → IsLawfulFrom h rest
lawful_rest schema h [] lawful counts keep stands keeping = tt
lawful_rest schema h (entry ∷ rest) lawful counts keep stands keeping =
    let stands_on : SchemaStands schema ((h ++ entry ∷ []) ++ rest) =
    subst (λ l. SchemaStands schema l) (sym (append_assoc h (entry ∷ []) rest)) stands in
    let follows = may_follow schema h entry rest lawful counts keep.0 keep.1 stands_on keeping in
    let said_is = sym (said-push h entry) in (
      follows,
      lawful_rest schema (h ++ entry ∷ []) rest (IsLawful-push h entry lawful follows)
          (subst (λ l. list_all has_a_cardinality l ≡ true) said_is (said_counts h entry counts keep.0.described)) keep.1 stands_on
          (subst (λ l. Keeping schema l (said rest)) said_is
          (after_entry schema h entry rest lawful counts keep.0 keep.1 stands_on keeping)),
    )

-- ---- from the first entry on

before_first : (schema ws : List Datom) → KeepTogether schema ws → Keeping schema [] ws
before_first schema ws keep =
    record {
      changes = keep.places.changes;
      values = keep.places.values;
      holders = keep.holders;
      one = λ d asks. refl;
      sole = λ d asks. refl;
    }

pub lawful-swept : (schema : List Datom) (entries : List Entry) → KeepAlone (first_entry ∷ []) entries
    → SchemaStands schema (first_entry ∷ entries) → KeepTogether schema (said (first_entry ∷ entries)) → IsLawful (first_entry ∷ entries)
lawful-swept schema entries keep stands together = (
  refl,
  lawful_rest schema (first_entry ∷ []) entries IsLawful-first first_counts keep stands
      (entry-Keeping schema [] 0 first_entry.datoms (said entries) refl (other_ts (first_entry ∷ []) entries keep)
      (before_first schema (first_entry.datoms ++ said entries) together)),
)
