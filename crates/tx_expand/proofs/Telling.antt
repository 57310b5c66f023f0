-- What steps of the walk tell: none, one, and one behind the other.
use Rattle.std.proofs.Common.{◌≡◌, true, ℕ, List, [], ◌∷◌, ◌++◌, refl, ap, sym, ◌∙◌, append_assoc}
use Rattle.std.specs.Prelude.{Result, Ok, Err, IfOk, Vec}
use Rattle.std.specs.declared.alloc.Global.{Global}
use Rattle.edn_model.specs.Form as edn
use Rattle.edn_model.specs.Form.{Form, Pairs}
use Rattle.fb_values.specs.declared.facts.Datom.{Datom}
use Rattle.tx_model.specs.Asks.{Ask, mentions, Key}
use Rattle.tx_asks.specs.declared.asks.LookupRef.{LookupRef}
use Rattle.tx_asks.specs.declared.asks.Name.{Name}
use Rattle.tx_expand.specs.declared.raw.Out.{Out}
use Rattle.tx_expand.specs.View.{BeginWith, model_name, model_asks}
use Rattle.tx_expand.specs.Numbered.{Visited, visited, takes_maps, entry_asks, walk_map, walk_value, walk_pair, name_at, behind}
use Rattle.tx_expand.specs.Walks.{Walks}
use Rattle.tx_expand.proofs.LookupLists.{begin_same}
use Rattle.tx_expand.proofs.Nested.{entered_as}
use Rattle.tx_expand.proofs.OneMore.{append_none}
use Rattle.tx_expand.proofs.Results.{IfOk-map}

pub tells_same : (old new : Out) (one other : List LookupRef → Visited) → ((all : List LookupRef) → one all ≡ other all) → Walks old new one
    → Walks old new other
tells_same old new one other same tells =
    record {
      kept = tells.kept;
      asks = λ all begin. tells.asks all begin ∙ ap (λ (t : Visited). model_asks all old ++ t.asks) (same all);
      next = λ all begin. tells.next all begin ∙ ap (λ (t : Visited). t.next) (same all);
    }

pub tells_nothing : (out : Out) → Walks out out (λ all. visited [] out.next)
tells_nothing out =
    record { kept = λ all begin. begin; asks = λ all begin. sym (append_none (model_asks all out)); next = λ all begin. refl }

-- asks, behind lookup refs that were found for them
pub tells_asks : (old new : Out) (grown : Vec LookupRef Global) (asks : List LookupRef → List Ask) (whole : List LookupRef → Visited)
    → ((all : List LookupRef) → model_asks all new ≡ model_asks all old ++ asks all) → new.lookups ≡ grown → new.next ≡ old.next
    → ((all : List LookupRef) → BeginWith grown.items all → BeginWith old.lookups.items all)
    → ((all : List LookupRef) → BeginWith grown.items all → visited (asks all) old.next ≡ whole all)
    → Walks old new whole
tells_asks old new grown asks whole seen are next kept same =
    record {
      kept = λ all begin. kept all (begin_same grown new.lookups all are begin);
      asks = λ all begin.
          seen all ∙ ap (λ (t : Visited). model_asks all old ++ t.asks) (same all (begin_same grown new.lookups all are begin));
      next = λ all begin. next ∙ ap (λ (t : Visited). t.next) (same all (begin_same grown new.lookups all are begin));
    }

-- those of a call that may fail
pub call_tells : {A E : Type 0} (r : Result A E) (old new : Out) (grown : Vec LookupRef Global) (asks : List LookupRef → List Ask)
    (whole : List LookupRef → Visited)
    → ((all : List LookupRef) → IfOk r (λ _. model_asks all new ≡ model_asks all old ++ asks all))
    → IfOk r (λ _. new.lookups ≡ grown) → IfOk r (λ _. new.next ≡ old.next)
    → ((all : List LookupRef) → BeginWith grown.items all → BeginWith old.lookups.items all)
    → ((all : List LookupRef) → BeginWith grown.items all → visited (asks all) old.next ≡ whole all)
    → IfOk r (λ _. Walks old new whole)
call_tells (Ok a) old new grown asks whole seen are next kept same = tells_asks old new grown asks whole seen are next kept same
call_tells (Err e) old new grown asks whole seen are next kept same = tt

pub call_same : {A E : Type 0} (r : Result A E) (old new : Out) (one other : List LookupRef → Visited)
    → ((all : List LookupRef) → one all ≡ other all)
    → IfOk r (λ _. Walks old new one) → IfOk r (λ _. Walks old new other)
call_same r old new one other same = IfOk-map (λ _. Walks old new one) (λ _. Walks old new other) (λ _. tells_same old new one other same) r

pub tells_then : (old middle new : Out) (first rest whole : List LookupRef → Visited)
    → ((all : List LookupRef) → BeginWith middle.lookups.items all
    → visited ((first all).asks ++ (rest all).asks) (rest all).next ≡ whole all)
    → Walks old middle first → Walks middle new rest → Walks old new whole
tells_then old middle new first rest whole both before behind =
    record {
      kept = λ all begin. before.kept all (behind.kept all begin);
      asks = λ all begin.
          behind.asks all begin
          ∙ ap (λ asks. asks ++ (rest all).asks) (before.asks all (behind.kept all begin))
          ∙ append_assoc (model_asks all old) (first all).asks (rest all).asks
          ∙ ap (λ (t : Visited). model_asks all old ++ t.asks) (both all (behind.kept all begin));
      next = λ all begin. behind.next all begin ∙ ap (λ (t : Visited). t.next) (both all (behind.kept all begin));
    }

-- a map inside another: its entry, and then its pairs
pub nested_tells : (facts : List Datom) (old middle new : Out) (this name : Name) (key : Key) (ps : Pairs)
    (whole : List LookupRef → Visited)
    → takes_maps facts key ≡ true
    → ((all : List LookupRef) → walk_value facts (model_name all this) key old.next (edn.map ps) ≡ whole all)
    → ((all : List LookupRef) → BeginWith middle.lookups.items all → model_name all name ≡ name_at old.next ps)
    → Walks old middle (λ all. visited (entry_asks facts (model_name all this) key old.next ps) (behind (name_at old.next ps) old.next))
    → Walks middle new (λ all. walk_map facts (model_name all name) middle.next ps) → Walks old new whole
nested_tells facts old middle new this name key ps whole takes same called first inner =
    tells_then old middle new
    (λ all. visited (entry_asks facts (model_name all this) key old.next ps) (behind (name_at old.next ps) old.next))
    (λ all. walk_map facts (model_name all name) middle.next ps) whole
    (λ all begin.
    entered_as facts (model_name all this) key old.next ps (model_name all name) middle.next takes (called all begin) (first.next all begin)
    ∙ same all)
    first inner

-- the values of a pair, behind its attribute
pub pair_tells : {A E : Type 0} (r : Result A E) (old middle new : Out) (facts : List Datom) (this : Name) (key : Key) (k : List ℕ)
    (f : Form)
    → Walks old middle (λ all. visited (mentions k ∷ []) old.next)
    → ((all : List LookupRef)
    → visited (mentions k ∷ (walk_value facts (model_name all this) key old.next f).asks)
    (walk_value facts (model_name all this) key old.next f).next
    ≡ walk_pair facts (model_name all this) key old.next (walk_value facts (model_name all this) key old.next f))
    → IfOk r (λ _. Walks middle new (λ all. walk_value facts (model_name all this) key middle.next f))
    → IfOk r
    (λ _. Walks old new (λ all. walk_pair facts (model_name all this) key old.next (walk_value facts (model_name all this) key old.next f)))
pair_tells r old middle new facts this key k f mentioned whole =
    IfOk-map (λ _. Walks middle new (λ all. walk_value facts (model_name all this) key middle.next f))
    (λ _. Walks old new (λ all. walk_pair facts (model_name all this) key old.next (walk_value facts (model_name all this) key old.next f)))
    (λ _.
    tells_then old middle new (λ all. visited (mentions k ∷ []) old.next) (λ all. walk_value facts (model_name all this) key middle.next f)
    (λ all. walk_pair facts (model_name all this) key old.next (walk_value facts (model_name all this) key old.next f))
    (λ all begin.
    ap (λ m. visited (mentions k ∷ (walk_value facts (model_name all this) key m f).asks)
    (walk_value facts (model_name all this) key m f).next) (mentioned.next all begin)
    ∙ whole all)
    mentioned)
    r
