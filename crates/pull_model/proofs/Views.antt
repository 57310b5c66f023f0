-- The database value of a view: the computed one is what the relation speaks of, there is no other, and none is impossible.
use Rattle.std.proofs.Common.{◌≡◌, ℕ, Bool, List, [], ◌∷◌, ◌↔◌, Result, refl, sym, subst, ◌∙◌, ap₂, inl, inr}
use Rattle.std.specs.Prelude.{Contains, IsTrue}
use Rattle.edn_model.specs.Form.{Form}
use Rattle.fb_values.specs.declared.facts.Datom.{Datom}
use Rattle.fb_values.specs.declared.facts.Entry.{Entry}
use Rattle.fb_values.specs.declared.indexes.Order.TheVariants.{Eavt}
use Rattle.fb_values.specs.Rising.{rises}
use Rattle.fb_model.specs.Facts.{facts}
use Rattle.fb_model.specs.Rising.{in_order}
use Rattle.fb_model.specs.History.{said}
use Rattle.fb_model.specs.Lawful.{IsLawful}
use Rattle.fb_model.proofs.Members.{here, there, cases_of, none_of, kept, keep, in_order-rises, in_order_member}
use Rattle.fb_model.proofs.InOrder.{OneForEachKey, in_order_has, one_rising_list}
use Rattle.fb_model.proofs.Times.{one_for_each_key_in}
use Rattle.read_refusals.specs.declared.reasons.Reason.{Reason}
use Rattle.view_model.specs.Window.{Window, without_history}
use Rattle.view_model.specs.View.{seen, InView, is_selected_by, facts_seen}
use Rattle.view_model.proofs.Views.{seen_is_said}
use Rattle.pull_model.specs.Patterns.{Pattern}
use Rattle.pull_model.specs.Found.{Db, db_of, IsDb}
use Rattle.pull_model.specs.Pull.{pulled, pull, IsPulled}

-- ---- datoms that a view shows

-- of two with one key there is one alone
one_in_view : (h : List Entry) (w : Window) (ds : List Datom) → IsLawful h
    → ((d : Datom) → Contains ds d → Contains (seen h w) d) → OneForEachKey Eavt ds
one_in_view h w ds lawful are_seen =
    record { same = λ x y x_in y_in equal. (one_for_each_key_in h lawful Eavt).same x y (was_said x x_in) (was_said y y_in) equal }
  where
    was_said : (x : Datom) → Contains ds x → Contains (said h) x
    was_said x member = (seen_is_said h w x (are_seen x member)).member

-- in the order of the index, they are the view's facts
in_order-IsDb : (h : List Entry) (w : Window) (Selects : Datom → Type 0) (ds : List Datom) → IsLawful h
    → ((d : Datom) → Contains ds d ↔ InView h (without_history w) Selects d)
    → IsDb h w Selects (record { schema = facts h; seen = in_order Eavt ds })
in_order-IsDb h w Selects ds lawful are =
    record { schema_is = refl; seen_is = record { rising = in_order-rises Eavt ds; members = λ d. (forth d, back d) } }
  where
    forth : (d : Datom) → Contains (in_order Eavt ds) d → InView h (without_history w) Selects d
    forth d member = (are d).0 (in_order_member Eavt ds d member)

    back : (d : Datom) → InView h (without_history w) Selects d → Contains (in_order Eavt ds) d
    back d is = in_order_has Eavt ds (one_in_view h (without_history w) ds lawful (λ x member. ((are x).0 member).is_seen)) d ((are d).1 is)

pub db_of-IsDb : (h : List Entry) (w : Window) (filters : List (Datom → Bool)) → IsLawful h
    → IsDb h w (λ d. IsTrue (is_selected_by filters d)) (db_of h w filters)
db_of-IsDb h w filters lawful =
    in_order-IsDb h w (λ d. IsTrue (is_selected_by filters d)) (facts_seen h w filters) lawful (λ d. (forth d, back d))
  where
    forth : (d : Datom) → Contains (facts_seen h w filters) d → InView h (without_history w) (λ d. IsTrue (is_selected_by filters d)) d
    forth d member =
        let is = kept (is_selected_by filters) (seen h (without_history w)) d member in
        record { is_seen = is.member; is_selected = is.passes }

    back : (d : Datom) → InView h (without_history w) (λ d. IsTrue (is_selected_by filters d)) d → Contains (facts_seen h w filters) d
    back d is = keep (is_selected_by filters) (seen h (without_history w)) d is.is_seen is.is_selected

-- ---- one answer

pub one_pull : (a b : Db) (in_history : Bool) (pattern : Pattern) (e : ℕ)
    → a.schema ≡ b.schema → IsTrue (rises Eavt a.seen) → IsTrue (rises Eavt b.seen)
    → ((d : Datom) → Contains a.seen d ↔ Contains b.seen d)
    → pulled in_history a pattern e ≡ pulled in_history b pattern e
one_pull a b in_history pattern e schema a_rises b_rises same =
    ap₂ (λ (schema seen : List Datom). pulled in_history (record { schema = schema; seen = seen }) pattern e) schema
    (one_rising_list Eavt a.seen b.seen a_rises b_rises (λ d. (same d).0) (λ d. (same d).1))

pub same_pull : (h : List Entry) (w : Window) (Selects : Datom → Type 0) (a b : Db) (pattern : Pattern) (e : ℕ)
    → IsDb h w Selects a → IsDb h w Selects b
    → pulled w.history a pattern e ≡ pulled w.history b pattern e
same_pull h w Selects a b pattern e a_is b_is =
    one_pull a b w.history pattern e (a_is.schema_is ∙ sym b_is.schema_is) a_is.seen_is.rising b_is.seen_is.rising
    (λ d. (into b_is a_is d, into a_is b_is d))
  where
    into : {other this : Db} → IsDb h w Selects other → IsDb h w Selects this → (d : Datom) → Contains this.seen d → Contains other.seen d
    into other_is this_is d member = (other_is.seen_is.members d).1 ((this_is.seen_is.members d).0 member)

pub pull-IsPulled : (h : List Entry) (w : Window) (filters : List (Datom → Bool)) (pattern : Pattern) (e : ℕ) → IsLawful h
    → IsPulled h w (λ d. IsTrue (is_selected_by filters d)) pattern e (pull h w filters pattern e)
pull-IsPulled h w filters pattern e lawful db is =
    same_pull h w (λ d. IsTrue (is_selected_by filters d)) (db_of h w filters) db pattern e (db_of-IsDb h w filters lawful) is

-- ---- a list that no test may make

-- those of the list that are selected
record Picked (Selects : Datom → Type 0) (ds picked : List Datom) : Type 0 where
  members : (d : Datom) → Contains picked d ↔ (Contains ds d × Selects d)

pick : (Selects : Datom → Type 0) (x : Datom) (ds picked : List Datom) → Picked Selects ds picked → Selects x
    → Picked Selects (x ∷ ds) (x ∷ picked)
pick Selects x ds picked is selected = record { members = λ d. (forth d, back d) }
  where
    forth : (d : Datom) → Contains (x ∷ picked) d → Contains (x ∷ ds) d × Selects d
    forth d member =
        elim (cases_of x d picked member) [
          | inl now ↦ (subst (Contains (x ∷ ds)) now (here x ds), subst Selects now selected)
          | inr later ↦ let both = (is.members d).0 later in (there x d ds both.0, both.1)
        ]

    back : (d : Datom) → Contains (x ∷ ds) d × Selects d → Contains (x ∷ picked) d
    back d both =
        elim (cases_of x d ds both.0) [
          | inl now ↦ subst (Contains (x ∷ picked)) now (here x picked)
          | inr later ↦ there x d picked ((is.members d).1 (later, both.1))
        ]

pass : (Selects : Datom → Type 0) (x : Datom) (ds picked : List Datom) → Picked Selects ds picked → (Selects x → ⊥)
    → Picked Selects (x ∷ ds) picked
pass Selects x ds picked is isnt = record { members = λ d. (forth d, back d) }
  where
    forth : (d : Datom) → Contains picked d → Contains (x ∷ ds) d × Selects d
    forth d member = let both = (is.members d).0 member in (there x d ds both.0, both.1)

    back : (d : Datom) → Contains (x ∷ ds) d × Selects d → Contains picked d
    back d both =
        elim (cases_of x d ds both.0) [
          | inl now ↦ absurd (isnt (subst Selects (sym now) both.1))
          | inr later ↦ (is.members d).1 (later, both.1)
        ]

-- that each datom is selected or is not cannot be refuted, so neither can it of all
not_without : (Selects : Datom → Type 0) (ds : List Datom) → ((picked : List Datom) → Picked Selects ds picked → ⊥) → ⊥
not_without Selects [] none = none [] (record { members = λ d. (λ member. absurd (none_of d member), λ both. absurd (none_of d both.0)) })
not_without Selects (x ∷ ds) none =
    not_without Selects ds
    (λ picked is. undecided (λ selected. none (x ∷ picked) (pick Selects x ds picked is selected))
    (λ isnt. none picked (pass Selects x ds picked is isnt)))
  where
    undecided : (Selects x → ⊥) → ((Selects x → ⊥) → ⊥) → ⊥
    undecided isnt not_isnt = not_isnt isnt

pub not_without_a_list : (h : List Entry) (w : Window) (Selects : Datom → Type 0) → IsLawful h → ((db : Db) → IsDb h w Selects db → ⊥) → ⊥
not_without_a_list h w Selects lawful none =
    not_without Selects (seen h (without_history w))
    (λ picked is. none _ (in_order-IsDb h w Selects picked lawful (λ d. (shown picked is d, held picked is d))))
  where
    shown : (picked : List Datom) → Picked Selects (seen h (without_history w)) picked → (d : Datom) → Contains picked d
        → InView h (without_history w) Selects d
    shown picked is d member = let both = (is.members d).0 member in record { is_seen = both.0; is_selected = both.1 }

    held : (picked : List Datom) → Picked Selects (seen h (without_history w)) picked → (d : Datom)
        → InView h (without_history w) Selects d → Contains picked d
    held picked is d in_view = (is.members d).1 (in_view.is_seen, in_view.is_selected)

pub not_unequal : (h : List Entry) (w : Window) (Selects : Datom → Type 0) (pattern : Pattern) (e : ℕ) (answer other : Result Form Reason)
    → IsLawful h
    → IsPulled h w Selects pattern e answer → IsPulled h w Selects pattern e other → (answer ≡ other → ⊥) → ⊥
not_unequal h w Selects pattern e answer other lawful one another differ =
    not_without_a_list h w Selects lawful (λ db is. differ (one db is ∙ sym (another db is)))
