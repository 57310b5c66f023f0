-- What an ask does, where its draft is done: the tempids have the same entities.
use Rattle.std.proofs.Common.{◌≡◌, ℕ, zero, suc, ◌+◌, ◌<◌, Bool, true, false, cond, List, [], ◌∷◌, length, slice_get, refl, sym, ap, ◌∙◌}
use Rattle.std.proofs.Common.{arith, suc-ne-zero}
use Rattle.std.proofs.lemmas.Bool.{false≢true}
use Rattle.std.proofs.lemmas.Option.{slice_get_within, slice_get-get_or}
use Rattle.std.specs.Prelude.{Option, Some, None, option_map, option_and_then, is_some, bytes_eq}
use Rattle.edn_model.specs.Form as edn
use Rattle.edn_form.specs.View.{form_of}
use Rattle.fb_values.specs.declared.facts.Value.{Value}
use Rattle.fb_values.specs.declared.facts.Value.TheVariants.{Ref}
use Rattle.fb_numbers.specs.Numbers.{transaction_of}
use Rattle.fb_model.specs.History.{basis}
use Rattle.fb_model.specs.Schema.{attribute_named}
use Rattle.fb_model.specs.Schema as schema
use Rattle.fb_schema.specs.declared.attribute.Attribute.{Attribute}
use Rattle.fb_schema.specs.Parts.{model_attribute}
use Rattle.tx_model.specs.Asks as model
use Rattle.tx_model.specs.Asks.{own_tempid, is_tempid, is_same_tempid}
use Rattle.tx_model.specs.Tempids.{Db, entity_of, assigned_to}
use Rattle.tx_model.specs.Values.{value_in}
use Rattle.tx_model.specs.Changes.{value_of_part}
use Rattle.tx_asks.specs.declared.asks.Operand as asks
use Rattle.tx_asks.specs.declared.asks.Operand.TheVariants as part
use Rattle.tx_asks.specs.declared.asks.Ask.{Ask}
use Rattle.tx_asks.specs.declared.asks.Ask.TheVariants as ask
use Rattle.tx_asks.specs.Asks.{Legend, name_of, part_of, old_part_of, ask_of}
use Rattle.tx_asks.specs.Acts as acts
use Rattle.tx_asks.specs.Acts.{act_of, old_value_of, IsSettled}
use Rattle.tx_resolve.specs.declared.whom.EntityRef.{EntityRef}
use Rattle.tx_resolve.specs.declared.whom.EntityRef.TheVariants.{Known, New}
use Rattle.tx_resolve.specs.declared.drafts.Operand.{Operand}
use Rattle.tx_resolve.specs.declared.drafts.Operand.TheVariants.{Plain, Entity}
use Rattle.tx_resolve.specs.declared.drafts.Draft.{Draft}
use Rattle.tx_resolve.specs.declared.drafts.Draft.TheVariants as draft
use Rattle.tx_resolve.specs.Numbers as drafts
use Rattle.tx_resolve.proofs.Options.{none_not}
use Rattle.tx_resolve.proofs.Apart.{next_same, first_no_next}
use Rattle.tx_resolve.proofs.Places.{AreTempids}
use Rattle.tx_resolve.proofs.Relates.{IsWhom, IsPart, IsOldPart, Relates}

-- each name with its entity
abbrev pub paired : List model.Name → List ℕ → List (model.Name × ℕ)
paired [] entities = []
paired (n ∷ names) [] = []
paired (n ∷ names) (e ∷ entities) = (n, e) ∷ paired names entities

rest_tempids : (n : model.Name) (names : List model.Name) → AreTempids (n ∷ names) → AreTempids names
rest_tempids n names tempids = record {
  tempids_are = λ p m is. tempids.tempids_are (suc p) m is;
  apart = λ p q m o is are. tempids.apart (suc p) (suc q) m o is are ∙ sym (next_same p q);
}

pub none_left : {A : Type 0} (n : ℕ) → 0 ≡ suc n → A
none_left n is = absurd (suc-ne-zero n (sym is))

pub rest_counted : (m n : ℕ) → suc m ≡ suc n → m ≡ n
rest_counted m n is = omega arith

-- the name at a place has the entity at it
assigned_at : (names : List model.Name) (entities : List ℕ) → AreTempids names → length entities ≡ length names → (p : ℕ) (n : model.Name)
    → slice_get names p ≡ Some n → assigned_to (paired names entities) n ≡ slice_get entities p
assigned_at [] entities tempids counted p n is = none_not is
assigned_at (m ∷ names) [] tempids counted p n is = none_left (length names) counted
assigned_at (m ∷ names) (e ∷ entities) tempids counted zero n is =
    ap (λ b. cond b (Some e) (assigned_to (paired names entities) n)) (tempids.apart 0 0 m n refl is)
assigned_at (m ∷ names) (e ∷ entities) tempids counted (suc p) n is =
    ap (λ b. cond b (Some e) (assigned_to (paired names entities) n)) (tempids.apart 0 (suc p) m n refl is ∙ first_no_next p)
    ∙ assigned_at names entities (rest_tempids m names tempids) (rest_counted (length entities) (length names) counted) p n is

tempid_entity : (db : Db) (pairs : List (model.Name × ℕ)) (n : model.Name) → is_tempid n ≡ true → entity_of db pairs n ≡ assigned_to pairs n
tempid_entity db pairs (model.tempid s) one = at (bytes_eq s own_tempid) one
  where
    at : (b : Bool) → cond b false true ≡ true
        → cond b (Some (transaction_of (basis db.history + 1))) (assigned_to pairs (model.tempid s)) ≡ assigned_to pairs (model.tempid s)
    at true one = absurd (false≢true one)
    at false one = refl
tempid_entity db pairs (model.nameless path) one = refl
tempid_entity db pairs n one = absurd (false≢true one)

old_value_read : (db : Db) (names : List (model.Name × ℕ)) (a : schema.Attribute) (f : edn.Form) (v : Value) → value_in a.kind f ≡ Some v
    → old_value_of db names a (model.plain f) ≡ Some v
old_value_read db names a edn.nil v is = none_not is
old_value_read db names a f v is = is

module _ (legend : Legend) (db : Db) (names : List model.Name) (tempids : AreTempids names) (entities : List ℕ)
    (counted : length entities ≡ length names) where
  abbrev assigned : List (model.Name × ℕ)
  assigned = paired names entities

  whom_entity : (n : model.Name) (w : EntityRef) → IsWhom legend db names n w → entity_of db assigned n ≡ drafts.entity_of entities w
  whom_entity n (Known e) is = is.1 assigned
  whom_entity n (New p) is =
      tempid_entity db assigned n (tempids.tempids_are p n is) ∙ assigned_at names entities tempids counted p n is

  part_value : (a : Attribute) (p : asks.Operand) (q : Operand) → IsPart legend db names a p q
      → value_of_part db (paired names entities) (model_attribute a) (part_of legend p) ≡ drafts.value_of entities q
  part_value a (part.Plain f v) (Plain w) is = is
  part_value a (part.Entity x) (Entity w) is = ap (option_map Ref) (whom_entity (name_of legend x) w is)
  part_value a p q is = absurd is

  old_part_value : (a : Attribute) (p : Option asks.Operand) (q : Option Operand) → IsOldPart legend db names a p q
      → old_value_of db (paired names entities) (model_attribute a) (old_part_of legend p) ≡ drafts.old_value_of entities q
  old_part_value a None None is = refl
  old_part_value a (Some (part.Plain f v)) (Some (Plain w)) is =
      old_value_read db (paired names entities) (model_attribute a) (form_of f.now) w is
  old_part_value a (Some (part.Entity x)) (Some (Entity w)) is = ap (option_map Ref) (whom_entity (name_of legend x) w is)
  old_part_value a p q is = absurd is

  -- an act with a value
  valued : (act : ℕ → schema.Attribute → Value → acts.Act) (n : model.Name) (w : EntityRef) (asked : List ℕ) (a : Attribute)
      (p : asks.Operand) (q : Operand)
      → IsWhom legend db names n w → attribute_named db.facts asked ≡ Some (model_attribute a) → IsPart legend db names a p q
      → option_and_then
      (λ e. option_and_then (λ (b : schema.Attribute). option_map (act e b) (value_of_part db (paired names entities) b (part_of legend p)))
      (attribute_named db.facts asked)) (entity_of db (paired names entities) n)
      ≡ option_and_then (λ e. option_map (act e (model_attribute a)) (drafts.value_of entities q)) (drafts.entity_of entities w)
  valued act n w asked a p q whom named_is is =
      ap (λ o. option_and_then (λ e. option_and_then (λ (b : schema.Attribute). option_map (act e b)
      (value_of_part db (paired names entities) b (part_of legend p))) o) (entity_of db (paired names entities) n)) named_is
      ∙ ap (λ v. option_and_then (λ e. option_map (act e (model_attribute a)) v) (entity_of db (paired names entities) n))
      (part_value a p q is)
      ∙ ap (option_and_then (λ e. option_map (act e (model_attribute a)) (drafts.value_of entities q))) (whom_entity n w whom)

  pub ask_act : (x : Ask) (d : Draft) → Relates legend db names x d
      → act_of db (paired names entities) (ask_of legend x) ≡ drafts.act_of entities d
  ask_act (ask.Adds on asked p) (draft.Adds w a q holder) r = valued acts.adds (name_of legend on) w asked.now.ident a.now p q r.0 r.1 r.2
  ask_act (ask.Retracts on asked p) (draft.Retracts w a q) r =
      valued acts.retracts (name_of legend on) w asked.now.ident a.now p q r.0 r.1 r.2
  ask_act (ask.RetractsAll on asked) (draft.RetractsAll w a) r =
      ap (λ o. option_and_then (λ e. option_map (acts.retracts_all e) o) (entity_of db (paired names entities) (name_of legend on))) r.1
      ∙ as_map acts.retracts_all (model_attribute a.now) (entity_of db (paired names entities) (name_of legend on))
      ∙ ap (option_map (λ e. acts.retracts_all e (model_attribute a.now))) (whom_entity (name_of legend on) w r.0)
    where
      as_map : (act : ℕ → schema.Attribute → acts.Act) (b : schema.Attribute) (o : Option ℕ)
          → option_and_then (λ e. Some (act e b)) o ≡ option_map (λ e. act e b) o
      as_map act b None = refl
      as_map act b (Some e) = refl
  ask_act (ask.Compares c) (draft.Compares d) r =
      valued (λ e b. acts.compares e b (old_value_of db (paired names entities) b (old_part_of legend c.old)))
      (name_of legend c.on) d.on c.attribute.now.ident d.attribute.now c.new d.new r.0 r.1 r.3
      ∙ ap (λ old. option_and_then
      (λ e. option_map (acts.compares e (model_attribute d.attribute.now) old) (drafts.value_of entities d.new))
      (drafts.entity_of entities d.on)) (old_part_value d.attribute.now c.old d.old r.2)
  ask_act (ask.RetractsEntity on) (draft.RetractsEntity w) r = ap (option_map acts.retracts_entity) (whom_entity (name_of legend on) w r)
  ask_act (ask.Meets on) (draft.Meets w) r = refl
  ask_act x d r = absurd r

  -- ---- it is settled: each tempid has an entity

  inside : (p n : ℕ) → p < n → length entities ≡ n → p < length entities
  inside p n within is = omega arith

  whom_has : (n : model.Name) (w : EntityRef) → IsWhom legend db names n w → is_some (drafts.entity_of entities w) ≡ true
  whom_has n (Known e) is = refl
  whom_has n (New p) is =
      ap is_some (slice_get-get_or entities p 0 (inside p (length names) (slice_get_within names p n is) counted))

  is_some_map : {A B : Type 0} (f : A → B) (o : Option A) → is_some o ≡ true → is_some (option_map f o) ≡ true
  is_some_map f None have = have
  is_some_map f (Some x) have = refl

  part_has : (a : Attribute) (p : asks.Operand) (q : Operand) → IsPart legend db names a p q
      → is_some (drafts.value_of entities q) ≡ true
  part_has a (part.Plain f v) (Plain w) is = refl
  part_has a (part.Entity x) (Entity w) is = is_some_map Ref (drafts.entity_of entities w) (whom_has (name_of legend x) w is)
  part_has a p q is = absurd is

  both_there : {A B C : Type 0} (f : A → B → C) (o : Option A) (v : Option B) → is_some o ≡ true → is_some v ≡ true
      → is_some (option_and_then (λ e. option_map (f e) v) o) ≡ true
  both_there f None v have has = have
  both_there f (Some e) v have has = is_some_map (f e) v has

  pub ask_settled : (x : Ask) (d : Draft) → Relates legend db names x d → IsSettled db (paired names entities) (ask_of legend x)
  ask_settled (ask.Adds on asked p) (draft.Adds w a q holder) r =
      ap is_some (ask_act (ask.Adds on asked p) (draft.Adds w a q holder) r)
      ∙ both_there (λ e. acts.adds e (model_attribute a.now)) (drafts.entity_of entities w) (drafts.value_of entities q)
      (whom_has (name_of legend on) w r.0) (part_has a.now p q r.2)
  ask_settled (ask.Retracts on asked p) (draft.Retracts w a q) r =
      ap is_some (ask_act (ask.Retracts on asked p) (draft.Retracts w a q) r)
      ∙ both_there (λ e. acts.retracts e (model_attribute a.now)) (drafts.entity_of entities w) (drafts.value_of entities q)
      (whom_has (name_of legend on) w r.0) (part_has a.now p q r.2)
  ask_settled (ask.RetractsAll on asked) (draft.RetractsAll w a) r =
      ap is_some (ask_act (ask.RetractsAll on asked) (draft.RetractsAll w a) r)
      ∙ is_some_map (λ e. acts.retracts_all e (model_attribute a.now)) (drafts.entity_of entities w) (whom_has (name_of legend on) w r.0)
  ask_settled (ask.Compares c) (draft.Compares d) r =
      ap is_some (ask_act (ask.Compares c) (draft.Compares d) r)
      ∙ both_there (λ e. acts.compares e (model_attribute d.attribute.now) (drafts.old_value_of entities d.old))
      (drafts.entity_of entities d.on) (drafts.value_of entities d.new)
      (whom_has (name_of legend c.on) d.on r.0) (part_has d.attribute.now c.new d.new r.3)
  ask_settled (ask.RetractsEntity on) (draft.RetractsEntity w) r =
      ap is_some (ask_act (ask.RetractsEntity on) (draft.RetractsEntity w) r)
      ∙ is_some_map acts.retracts_entity (drafts.entity_of entities w) (whom_has (name_of legend on) w r)
  ask_settled (ask.Meets on) (draft.Meets w) r = tt
  ask_settled x d r = absurd r
