-- What an ask and its draft give to a tempid: an addition, and the holder of an identity value.
use Rattle.std.proofs.Common.{◌≡◌, ℕ, ◌<◌, Bool, true, false, ◌||◌, cond, List, length, slice_get, refl, sym, ap, ◌∙◌}
use Rattle.std.specs.Prelude.{Option, Some, None, option_and_then, bytes_eq, nat_eq}
use Rattle.std.specs.Option.{option_map_or}
use Rattle.std.specs.List.{cons_option}
use Rattle.std.proofs.lemmas.Bool.{true≢false, false_from_ne_true}
use Rattle.std.proofs.lemmas.Slice.Eq.{bytes_eq-Decides}
use Rattle.edn_model.specs.Form as edn
use Rattle.edn_form.specs.View.{form_of}
use Rattle.fb_values.specs.declared.facts.Value.{Value}
use Rattle.fb_model.specs.Facts.{holder}
use Rattle.fb_numbers.specs.Numbers.{unique_identity}
use Rattle.fb_model.specs.Schema.{attribute_named, attribute_of, named, is_identity}
use Rattle.fb_model.specs.Schema as schema
use Rattle.fb_schema.specs.declared.attribute.Attribute.{Attribute}
use Rattle.fb_schema.specs.Parts.{model_attribute}
use Rattle.tx_model.specs.Asks as model
use Rattle.tx_model.specs.Asks.{own_tempid, is_tempid, is_same_tempid}
use Rattle.tx_model.specs.Tempids.{Db, identified, identity_holder, find_by}
use Rattle.tx_model.specs.NameRules.{adds_to}
use Rattle.tx_model.specs.Values.{value_in}
use Rattle.tx_asks.specs.declared.asks.Operand.TheVariants as part
use Rattle.tx_asks.specs.declared.asks.Ask.{Ask}
use Rattle.tx_asks.specs.declared.asks.Ask.TheVariants as ask
use Rattle.tx_asks.specs.Asks.{Legend, name_of, ask_of}
use Rattle.tx_resolve.specs.declared.whom.EntityRef.TheVariants.{Known, New}
use Rattle.tx_resolve.specs.declared.drafts.Operand.TheVariants.{Plain, Entity}
use Rattle.tx_resolve.specs.declared.drafts.Draft.{Draft}
use Rattle.tx_resolve.specs.declared.drafts.Draft.TheVariants as draft
use Rattle.tx_resolve.specs.declared.holders.Slot.{Slot}
use Rattle.tx_resolve.specs.Drafts.{holder_for}
use Rattle.tx_resolve.specs.Holders.{slot_at, with_draft}
use Rattle.tx_resolve.proofs.Keeping.{slot_of, one_added}
use Rattle.tx_resolve.proofs.Options.{none_not}
use Rattle.tx_resolve.proofs.Places.{AreTempids}
use Rattle.tx_resolve.proofs.Relates.{Relates}

-- no tempid has the name
other_own : (s o : List ℕ) → cond (bytes_eq s own_tempid) false true ≡ true → cond (bytes_eq o own_tempid) false true ≡ false
    → bytes_eq s o ≡ false
other_own s o one none =
    false_from_ne_true (bytes_eq s o) (λ same.
    let is = (bytes_eq-Decides s o).0 same in
    true≢false (sym (ap (λ x. cond (bytes_eq x own_tempid) false true) (sym is) ∙ one) ∙ none))

pub same_as_none : (m n : model.Name) → is_tempid m ≡ true → is_tempid n ≡ false → is_same_tempid m n ≡ false
same_as_none (model.tempid s) (model.tempid o) one none = other_own s o one none
same_as_none (model.nameless path) (model.nameless other) one none = absurd (true≢false none)
same_as_none m n one none = refl

-- ---- an attribute by its name is that of its number

attribute_has_id : (e : ℕ) (name : Option (List ℕ)) (kind count uniqueness : Option ℕ) (component indexed : Bool) (a : schema.Attribute)
    → schema.attribute_from e name kind count uniqueness component indexed ≡ Some a → a.id ≡ e
attribute_has_id e (Some name) (Some kind) (Some count) uniqueness component indexed a is =
    ap (λ (o : Option schema.Attribute). option_map_or (λ (b : schema.Attribute). b.id) o 0) (sym is)
attribute_has_id e None kind count uniqueness component indexed a is = none_not is
attribute_has_id e (Some name) None count uniqueness component indexed a is = none_not is
attribute_has_id e (Some name) (Some kind) None uniqueness component indexed a is = none_not is

by_id : (db : Db) (o : Option ℕ) (a : schema.Attribute) → option_and_then (attribute_of db.facts) o ≡ Some a
    → attribute_of db.facts a.id ≡ Some a
by_id db None a is = none_not is
by_id db (Some e) a is =
    ap (attribute_of db.facts) (attribute_has_id e (schema.keyword_of db.facts e _) _ _ _ _ _ a is) ∙ is

identity_of : (db : Db) (asked : List ℕ) (a : Attribute) → attribute_named db.facts asked ≡ Some (model_attribute a)
    → is_identity db.facts a.id ≡ nat_eq a.unique unique_identity
identity_of db asked a is =
    ap (λ o. option_map_or (λ (b : schema.Attribute). nat_eq b.uniqueness unique_identity) o false)
    (by_id db (named db.facts asked) (model_attribute a) is)

module _ (legend : Legend) (db : Db) (names : List model.Name) (tempids : AreTempids names) where
  cond_none : (b : Bool) (o : Option ℕ) → o ≡ None → None ≡ cond b o None
  cond_none true o is = sym is
  cond_none false o is = refl

  pub identity_given : (f : edn.Form) (asked : List ℕ) (a : Attribute) (v : Value) (o : Option ℕ) (place : ℕ)
      → attribute_named db.facts asked ≡ Some (model_attribute a)
      → value_in a.kind f ≡ Some v → o ≡ holder_for db (New place) a (Plain v)
      → option_and_then (identity_holder db f) (attribute_named db.facts asked) ≡ o
  identity_given f asked a v o place named_is read is =
      ap (option_and_then (identity_holder db f)) named_is
      ∙ ap (λ b. cond b (find_by db f (model_attribute a)) None) (identity_of db asked a named_is)
      ∙ ap (λ w. cond (nat_eq a.unique unique_identity) (option_and_then (holder db.facts a.id) w) None) read
      ∙ sym is

  -- what is known of the tempid with the place p, which has the name n
  module _ (p : ℕ) (n : model.Name) (at_p : slice_get names p ≡ Some n) where
    is_one : is_tempid n ≡ true
    is_one = tempids.tempids_are p n at_p

    -- an addition to another entity
    unchanged : (slots : List Slot) (es : List ℕ) (added : Bool) (m : model.Name) (o : Option ℕ) → is_tempid m ≡ false
        → slot_at slots p ≡ slot_of es added
        → slot_at slots p ≡ slot_of (cons_option (cond (is_same_tempid n m) o None) es) (is_same_tempid n m || added)
    unchanged slots es added m o none known =
        known ∙ ap (λ b. slot_of (cons_option (cond b o None) es) (b || added)) (sym (same_as_none n m is_one none))

    pub ask_known : (x : Ask) (d : Draft) → Relates legend db names x d → (slots : List Slot) (es : List ℕ) (added : Bool)
        → p < length slots → slot_at slots p ≡ slot_of es added
        → slot_at (with_draft d slots) p
        ≡ slot_of (cons_option (identified db n (ask_of legend x)) es) (adds_to n (ask_of legend x) || added)
    ask_known (ask.Adds on asked (part.Plain f v)) (draft.Adds (Known e) a (Plain w) o) r slots es added inside known =
        unchanged slots es added (name_of legend on) _ r.0.0 known
    ask_known (ask.Adds on asked (part.Plain f v)) (draft.Adds (New q) a (Plain w) o) r slots es added inside known =
        one_added slots p q o es added (nat_eq p q) refl inside known
        ∙ ap (λ b. slot_of (cons_option (cond b o None) es) (b || added)) (sym (tempids.apart p q n (name_of legend on) at_p r.0))
        ∙ ap (λ y. slot_of (cons_option (cond (is_same_tempid n (name_of legend on)) y None) es)
        (is_same_tempid n (name_of legend on) || added))
        (sym (identity_given (form_of f.now) asked.now.ident a.now w o q r.1 r.2 r.3))
    ask_known (ask.Adds on asked (part.Entity y)) (draft.Adds (Known e) a (Entity w) o) r slots es added inside known =
        known ∙ ap (λ b. slot_of es (b || added)) (sym (same_as_none n (name_of legend on) is_one r.0.0))
    ask_known (ask.Adds on asked (part.Entity y)) (draft.Adds (New q) a (Entity w) o) r slots es added inside known =
        one_added slots p q o es added (nat_eq p q) refl inside known
        ∙ ap (λ y. slot_of (cons_option y es) (nat_eq p q || added)) (sym (cond_none (nat_eq p q) o r.3))
        ∙ ap (λ b. slot_of es (b || added)) (sym (tempids.apart p q n (name_of legend on) at_p r.0))
    ask_known (ask.Adds on asked y) (draft.Adds w a q o) r slots es added inside known = absurd r.2
    ask_known (ask.Retracts on asked y) (draft.Retracts w a q) r slots es added inside known = known
    ask_known (ask.RetractsAll on asked) (draft.RetractsAll w a) r slots es added inside known = known
    ask_known (ask.Compares c) (draft.Compares d) r slots es added inside known = known
    ask_known (ask.RetractsEntity on) (draft.RetractsEntity w) r slots es added inside known = known
    ask_known (ask.Meets on) (draft.Meets w) r slots es added inside known = known
    ask_known x d r slots es added inside known = absurd r
