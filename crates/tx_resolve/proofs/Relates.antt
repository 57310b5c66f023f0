-- An ask with the draft that it becomes.
use Rattle.std.proofs.Common.{◌≡◌, ℕ, Bool, true, false, cond, List, slice_get, refl, ap, ◌∙◌, subst}
use Rattle.std.specs.Prelude.{Option, Some, None, option_map, option_and_then, bytes_eq, slice_index_or, ⊤, ◌+◌}
use Rattle.edn_form.specs.View.{form_of}
use Rattle.fb_numbers.specs.Numbers.{transaction_of}
use Rattle.fb_model.specs.History.{basis}
use Rattle.fb_model.specs.Schema.{attribute_named}
use Rattle.fb_schema.specs.declared.attribute.Attribute.{Attribute}
use Rattle.fb_schema.specs.Parts.{model_attribute}
use Rattle.tx_model.specs.Asks as model
use Rattle.tx_model.specs.Asks.{own_tempid, is_tempid}
use Rattle.tx_model.specs.Tempids.{Db, found, entity_of, assigned_to}
use Rattle.tx_model.specs.Values.{value_in}
use Rattle.tx_asks.specs.declared.asks.Name.{Name}
use Rattle.tx_asks.specs.declared.asks.Name.TheVariants as name
use Rattle.tx_asks.specs.declared.asks.Operand as asks
use Rattle.tx_asks.specs.declared.asks.Operand.TheVariants as part
use Rattle.tx_asks.specs.declared.asks.Ask.{Ask}
use Rattle.tx_asks.specs.declared.asks.Ask.TheVariants as ask
use Rattle.tx_asks.specs.Asks.{Legend, lookup_at, name_of, IsTyped, IsTypedPart, IsTypedOldPart}
use Rattle.tx_resolve.specs.declared.meeting.Met.{Met}
use Rattle.tx_resolve.specs.Tempids.{Tempid, named, nameless}
use Rattle.tx_resolve.specs.Meeting.{place_of}
use Rattle.tx_resolve.specs.declared.whom.EntityRef.{EntityRef}
use Rattle.tx_resolve.specs.declared.whom.EntityRef.TheVariants.{Known, New}
use Rattle.tx_resolve.specs.declared.drafts.Operand.{Operand}
use Rattle.tx_resolve.specs.declared.drafts.Operand.TheVariants.{Plain, Entity}
use Rattle.tx_resolve.specs.declared.drafts.Draft.{Draft}
use Rattle.tx_resolve.specs.declared.drafts.Draft.TheVariants as draft
use Rattle.tx_resolve.specs.Whoms.{all_found, whom_of}
use Rattle.tx_resolve.specs.Drafts.{part_of, old_part_of, holder_for, compares, draft_of}
use Rattle.tx_resolve.proofs.Lookups.{lookup_is_no_tempid, entity_at}
use Rattle.tx_resolve.proofs.Options.{same_some, map_some, and_then_some}
use Rattle.tx_resolve.proofs.Places.{name_in}

module _ (legend : Legend) (db : Db) (names : List model.Name) where
  -- the name is that of the entity, or it is the tempid with the place
  abbrev pub IsWhom : model.Name → EntityRef → Type 0
  IsWhom n (Known e) = (is_tempid n ≡ false) × ((pairs : List (model.Name × ℕ)) → entity_of db pairs n ≡ Some e)
  IsWhom n (New p) = slice_get names p ≡ Some n

  abbrev pub IsPart : Attribute → asks.Operand → Operand → Type 0
  IsPart a (part.Plain f v) (Plain w) = value_in a.kind (form_of f.now) ≡ Some w
  IsPart a (part.Entity x) (Entity w) = IsWhom (name_of legend x) w
  IsPart a p q = ⊥

  abbrev pub IsOldPart : Attribute → Option asks.Operand → Option Operand → Type 0
  IsOldPart a None None = ⊤
  IsOldPart a (Some p) (Some q) = IsPart a p q
  IsOldPart a p q = ⊥

  -- the attribute of the draft is the one that the ask names
  abbrev pub IsOf : Attribute → Attribute → Type 0
  IsOf asked a = attribute_named db.facts asked.ident ≡ Some (model_attribute a)

  abbrev pub Relates : Ask → Draft → Type 0
  Relates (ask.Adds on asked p) (draft.Adds w a q holder) =
      IsWhom (name_of legend on) w × IsOf asked.now a.now × IsPart a.now p q × (holder ≡ holder_for db w a.now q)
  Relates (ask.Retracts on asked p) (draft.Retracts w a q) = IsWhom (name_of legend on) w × IsOf asked.now a.now × IsPart a.now p q
  Relates (ask.RetractsAll on asked) (draft.RetractsAll w a) = IsWhom (name_of legend on) w × IsOf asked.now a.now
  Relates (ask.Compares c) (draft.Compares d) =
      IsWhom (name_of legend c.on) d.on × IsOf c.attribute.now d.attribute.now × IsOldPart d.attribute.now c.old d.old
      × IsPart d.attribute.now c.new d.new
  Relates (ask.RetractsEntity on) (draft.RetractsEntity w) = IsWhom (name_of legend on) w
  Relates (ask.Meets on) (draft.Meets w) = IsWhom (name_of legend on) w
  Relates asked drafted = ⊥

  -- where the tempids that are met have the names, each at its place
  module _ (met : Met) (placed : (t : Tempid) (p : ℕ) → place_of met t ≡ Some p → slice_get names p ≡ Some (name_in legend t)) where
    known_is : (n : model.Name) (w : EntityRef) (o : Option ℕ) → is_tempid n ≡ false
        → ((pairs : List (model.Name × ℕ)) → entity_of db pairs n ≡ o) → option_map Known o ≡ Some w → IsWhom n w
    known_is n w o none are is =
        let e = map_some Known o w is in
        subst (IsWhom n) e.gives (none, λ pairs. are pairs ∙ e.is)

    new_is : (t : Tempid) (w : EntityRef) → option_map New (place_of met t) ≡ Some w → IsWhom (name_in legend t) w
    new_is t w is =
        let p = map_some New (place_of met t) w is in
        subst (IsWhom (name_in legend t)) p.gives (placed t p.from p.is)

    text_is : (s : List ℕ) (w : EntityRef) (b : Bool) → bytes_eq s own_tempid ≡ b
        → cond b (Some (Known (transaction_of (basis db.history + 1)))) (option_map New (place_of met (named s))) ≡ Some w
        → IsWhom (model.tempid s) w
    text_is s w true own is =
        subst (IsWhom (model.tempid s)) (same_some is) (
          ap (λ b. cond b false true) own,
          λ pairs. ap (λ b. cond b (Some (transaction_of (basis db.history + 1))) (assigned_to pairs (model.tempid s))) own,
        )
    text_is s w false own is = new_is (named s) w is

    pub whom_is : (x : Name) (w : EntityRef) → whom_of db (all_found db legend.lookups) met x ≡ Some w
        → IsWhom (name_of legend x) w
    whom_is (name.Number n) w is = known_is (model.number n) w (found db (model.number n)) refl (λ pairs. refl) is
    whom_is (name.Ident k) w is = known_is (model.ident k.now) w (found db (model.ident k.now)) refl (λ pairs. refl) is
    whom_is (name.Lookup n) w is =
        let ref = lookup_at legend.lookups n in
        known_is ref w (slice_index_or (all_found db legend.lookups) n None) (lookup_is_no_tempid legend.lookups n)
        (λ pairs. entity_at db pairs legend.lookups n) is
    whom_is (name.Tempid text) w is = text_is text.now w (bytes_eq text.now own_tempid) refl is
    whom_is (name.Nameless n) w is = new_is (nameless n) w is

    part_is : (a : Attribute) (p : asks.Operand) (q : Operand) → IsTypedPart a p
        → part_of db (all_found db legend.lookups) met p ≡ Some q → IsPart a p q
    part_is a (part.Plain f v) q read is = subst (IsPart a (part.Plain f v)) (same_some is) read
    part_is a (part.Entity x) q read is =
        let w = map_some Entity (whom_of db (all_found db legend.lookups) met x) q is in
        subst (IsPart a (part.Entity x)) w.gives (whom_is x w.from w.is)

    old_part_is : (a : Attribute) (p : Option asks.Operand) (q : Option Operand) → IsTypedOldPart a p
        → old_part_of db (all_found db legend.lookups) met p ≡ Some q → IsOldPart a p q
    old_part_is a None q read is = subst (IsOldPart a None) (same_some is) tt
    old_part_is a (Some p) q read is =
        let found = map_some Some (part_of db (all_found db legend.lookups) met p) q is in
        subst (IsOldPart a (Some p)) found.gives (part_is a p found.from read found.is)

    pub relates : (x : Ask) (d : Draft) → IsTyped db.facts x
        → draft_of db (all_found db legend.lookups) met x ≡ Some d → Relates x d
    relates (ask.Adds on a p) d read is =
        let w =
        and_then_some
        (λ whom. option_map (λ found. draft.Adds whom a found (holder_for db whom a.now found))
        (part_of db (all_found db legend.lookups) met p))
        (whom_of db (all_found db legend.lookups) met on) d is in
        let q =
        map_some (λ found. draft.Adds w.from a found (holder_for db w.from a.now found))
        (part_of db (all_found db legend.lookups) met p) d w.gives in
        subst (Relates (ask.Adds on a p)) q.gives
        (whom_is on w.from w.is, read.0, part_is a.now p q.from read.1 q.is, refl)
    relates (ask.Retracts on a p) d read is =
        let w =
        and_then_some (λ whom. option_map (draft.Retracts whom a) (part_of db (all_found db legend.lookups) met p))
        (whom_of db (all_found db legend.lookups) met on) d is in
        let q = map_some (draft.Retracts w.from a) (part_of db (all_found db legend.lookups) met p) d w.gives in
        subst (Relates (ask.Retracts on a p)) q.gives (whom_is on w.from w.is, read.0, part_is a.now p q.from read.1 q.is)
    relates (ask.RetractsAll on a) d read is =
        let w = map_some (λ whom. draft.RetractsAll whom a) (whom_of db (all_found db legend.lookups) met on) d is in
        subst (Relates (ask.RetractsAll on a)) w.gives (whom_is on w.from w.is, read)
    relates (ask.Compares c) d read is =
        let w =
        and_then_some
        (λ whom. option_and_then
        (λ before. option_map (compares whom c.attribute before) (part_of db (all_found db legend.lookups) met c.new))
        (old_part_of db (all_found db legend.lookups) met c.old)) (whom_of db (all_found db legend.lookups) met c.on) d is in
        let q =
        and_then_some (λ before. option_map (compares w.from c.attribute before) (part_of db (all_found db legend.lookups) met c.new))
        (old_part_of db (all_found db legend.lookups) met c.old) d w.gives in
        let q' = map_some (compares w.from c.attribute q.from) (part_of db (all_found db legend.lookups) met c.new) d q.gives in
        subst (Relates (ask.Compares c)) q'.gives (
          whom_is c.on w.from w.is,
          read.0,
          old_part_is c.attribute.now c.old q.from read.1 q.is,
          part_is c.attribute.now c.new q'.from read.2 q'.is,
        )
    relates (ask.RetractsEntity on) d read is =
        let w = map_some draft.RetractsEntity (whom_of db (all_found db legend.lookups) met on) d is in
        subst (Relates (ask.RetractsEntity on)) w.gives (whom_is on w.from w.is)
    relates (ask.Meets on) d read is =
        let w = map_some draft.Meets (whom_of db (all_found db legend.lookups) met on) d is in
        subst (Relates (ask.Meets on)) w.gives (whom_is on w.from w.is)
