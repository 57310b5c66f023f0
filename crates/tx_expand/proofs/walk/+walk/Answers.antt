use Rattle.std.proofs.Common.{◌≡◌, ◌+◌, [], ◌∷◌, ◌++◌, List, true, false, drop, refl, ap, sym, ◌∙◌, subst, get_or, rules, arith}
use Rattle.std.proofs.lemmas.Grind.{common_steps}
use Rattle.std.specs.Prelude.{None}
use Rattle.std.proofs.lemmas.List.{drop_more, drop_all}
use Rattle.edn_model.specs.Form as edn
use Rattle.edn_form.specs.declared.form.Edn.{Edn}
use Rattle.edn_form.specs.declared.form.Edn.{the_lemmas}
use Rattle.edn_form.specs.declared.form.Edn.TheFolds.{fold_out-Edn}
use Rattle.edn_form.specs.View.{form_of, forms_of, pairs_of, members, entries}
use Rattle.edn_form.proofs.Views.{form_of-Map, form_of-Set, form_of-Vector, form_of-List}
use Rattle.tx_model.specs.Asks.{plain, entity, adds, mentions, own, forward, backward, key_in, lookup_in}
use Rattle.tx_model.specs.Walk.{has_ref, links, scalar_asks, vector_asks}
use Rattle.tx_asks.specs.declared.asks.LookupRef.{LookupRef}
use Rattle.tx_expand.specs.declared.raw.Attr.{Attr}
use Rattle.tx_expand.specs.declared.raw.Out.{Out}
use Rattle.tx_expand.specs.View.{model_name, word_of, model_link, model_key}
use Rattle.tx_expand.specs.Known.{AreLookedUp}
use Rattle.tx_expand.specs.Numbered.{visited, walk_map, walk_pair, walk_value, walk_members, walk_member, takes_maps, is_collection}
use Rattle.tx_expand.specs.Walks.{Walks}
use Rattle.tx_expand.proofs.Nested.{plain_map, plain_member, pair_forward, pair_backward, pair_wrong, is_scalar_value, is_scalar_member}
use Rattle.tx_expand.proofs.Nested.{scalar_value, scalar_member}
use Rattle.tx_expand.proofs.Results.{IfOk-map}
use Rattle.tx_expand.proofs.Telling.{tells_nothing, tells_same, tells_asks, tells_then, call_tells, call_same, nested_tells, pair_tells}
use Rattle.tx_expand.proofs.Vectors.{vector_collected, vector_alone, list_collected, list_alone}
use Rattle.tx_expand.proofs.walk.+walk.Goals as goal
use Rattle.tx_expand.proofs.walk.+walk.Goals.{map_asks-in-Some+in_ok-pair_asks, map_asks-in_default}

pub map_asks-returns-clause-walks : goal.map_asks-returns-clause-walks
map_asks-returns-clause-walks t c =
    let facts = c.args.schema.now in
    let out = c.loop-key.out in
    let at_end : drop c.loop-key.key-index (entries c.args.pairs.now) ≡ [] =
    drop_all c.loop-key.key-index (entries c.args.pairs.now) (search rules) in
    c.loop-key.invariant.rest out
    (subst
    (λ (es : List (Edn × Edn)). Walks out out (λ all. walk_map facts (model_name all c.args.this) out.next (edn.pairs (pairs_of es))))
    (sym at_end) (tells_nothing out))

pub members_asks-returns-clause-walks : goal.members_asks-returns-clause-walks
members_asks-returns-clause-walks t c =
    let facts = c.args.schema.now in
    let out = c.loop-f.out in
    let at_end : drop c.loop-f.f-index (members c.args.items.now) ≡ [] =
    drop_all c.loop-f.f-index (members c.args.items.now) (search rules) in
    c.loop-f.invariant.rest out
    (subst (λ (es : List Edn).
    Walks out out (λ all. walk_members facts (model_name all c.args.this) (model_link c.args.key.now) out.next (edn.forms (forms_of es))))
    (sym at_end) (tells_nothing out))

pub members_asks-loop-f-preserved : goal.members_asks-loop-f-preserved
members_asks-loop-f-preserved t c =
    let facts = c.args.schema.now in
    let key = model_link c.args.key.now in
    let es = members c.args.items.now in
    let i = c.loop-f.f-index in
    let f = c.f-item.result in
    let rest = drop (i + 1) es in
    let now = c.loop-f.out in
    let middle = c.member_asks.new.out in
    let item : get_or es i f ≡ f = search rules in
    let here : drop i es ≡ f ∷ rest = drop_more es i f (search rules) ∙ ap (λ q. q ∷ rest) item in
    record {
      rest = λ new tells.
          c.loop-f.invariant.rest new
          (tells_then now middle new
          (λ all. walk_member facts (model_name all c.args.this) key now.next (form_of f))
          (λ all. walk_members facts (model_name all c.args.this) key middle.next (edn.forms (forms_of rest)))
          (λ all. walk_members facts (model_name all c.args.this) key now.next (edn.forms (forms_of (drop i es))))
          (λ all begin.
          ap (λ m. visited ((walk_member facts (model_name all c.args.this) key now.next (form_of f)).asks
          ++ (walk_members facts (model_name all c.args.this) key m (edn.forms (forms_of rest))).asks)
          (walk_members facts (model_name all c.args.this) key m (edn.forms (forms_of rest))).next)
          (c.in_ok-member_asks.ensures.walks.next all begin)
          ∙ ap (λ xs. walk_members facts (model_name all c.args.this) key now.next (edn.forms (forms_of xs))) (sym here))
          c.in_ok-member_asks.ensures.walks tells);
      known = c.in_ok-member_asks.ensures.known;
    }

pub value_asks-returns-in_ok-name-in-Map-clause-walks : goal.value_asks-returns-in_ok-name-in-Map-clause-walks
value_asks-returns-in_ok-name-in-Map-clause-walks t c =
    let facts = c.args.schema.now in
    let key = model_link c.args.key.now in
    let out = c.args.out.now in
    let middle = c.enter_nested.new.out in
    let new = c.map_asks.new.out in
    let name = c.in_ok-name-in-Map.name in
    let ps = edn.pairs (pairs_of (entries c.in-Map.pairs)) in
    let is : form_of c.args.f.now ≡ edn.map ps = ap form_of c.in-Map.is ∙ form_of-Map c.in-Map.pairs in
    let takes : takes_maps facts key ≡ true = search rules in
    IfOk-map (λ _. Walks middle new (λ all. walk_map facts (model_name all name) middle.next ps))
    (λ _. Walks out new (λ all. walk_value facts (model_name all c.args.this) key out.next (form_of c.args.f.now)))
    (λ _.
    nested_tells facts out middle new c.args.this name key ps
    (λ all. walk_value facts (model_name all c.args.this) key out.next (form_of c.args.f.now)) takes
    (λ all. ap (walk_value facts (model_name all c.args.this) key out.next) (sym is)) c.in_ok-name-in-Map.ensures.name
    c.in_ok-name-in-Map.ensures.walks)
    c.map_asks.result c.map_asks.ensures.walks

pub member_asks-returns-in_ok-name-in-Map-clause-walks : goal.member_asks-returns-in_ok-name-in-Map-clause-walks
member_asks-returns-in_ok-name-in-Map-clause-walks t c =
    let facts = c.args.schema.now in
    let key = model_link c.args.key.now in
    let out = c.args.out.now in
    let middle = c.enter_nested.new.out in
    let new = c.map_asks.new.out in
    let name = c.in_ok-name-in-Map.name in
    let ps = edn.pairs (pairs_of (entries c.in-Map.pairs)) in
    let is : form_of c.args.f.now ≡ edn.map ps = ap form_of c.in-Map.is ∙ form_of-Map c.in-Map.pairs in
    let takes : takes_maps facts key ≡ true = search rules in
    IfOk-map (λ _. Walks middle new (λ all. walk_map facts (model_name all name) middle.next ps))
    (λ _. Walks out new (λ all. walk_member facts (model_name all c.args.this) key out.next (form_of c.args.f.now)))
    (λ _.
    nested_tells facts out middle new c.args.this name key ps
    (λ all. walk_member facts (model_name all c.args.this) key out.next (form_of c.args.f.now)) takes
    (λ all. ap (walk_member facts (model_name all c.args.this) key out.next) (sym is)) c.in_ok-name-in-Map.ensures.name
    c.in_ok-name-in-Map.ensures.walks)
    c.map_asks.result c.map_asks.ensures.walks

pub map_asks-loop-key-preserved : goal.map_asks-loop-key-preserved
map_asks-loop-key-preserved t c =
    let facts = c.args.schema.now in
    let es = entries c.args.pairs.now in
    let i = c.loop-key.key-index in
    let p = c.loop-key-item.result in
    let k = key_in (form_of p.0) in
    let v = form_of p.1 in
    let rest = drop (i + 1) es in
    let now = c.loop-key.out in
    let n = now.next in
    let middle = c.match-link.out in
    let item : get_or es i p ≡ p = search rules in
    let here : drop i es ≡ p ∷ rest = drop_more es i p (search rules) ∙ ap (λ (q : Edn × Edn). q ∷ rest) item in
    let step : Walks now middle
    (λ all. walk_pair facts (model_name all c.args.this) k n (walk_value facts (model_name all c.args.this) k n v))
    × AreLookedUp facts middle =
    elim c.match-link.branch [
      | map_asks-in-Some+in_ok-pair_asks w ↦
          let is : model_link w.in-Some.link ≡ k = ap model_key (sym w.in-Some.is) ∙ c.in_ok-link.ensures.key in
          subst (λ (o : Out). Walks now o (λ all.
          walk_pair facts (model_name all c.args.this) k n (walk_value facts (model_name all c.args.this) k n v)) × AreLookedUp facts o)
          (sym w.out-is) (
            tells_same now w.pair_asks.new.out
                (λ all. walk_pair facts (model_name all c.args.this) (model_link w.in-Some.link) n
                (walk_value facts (model_name all c.args.this) (model_link w.in-Some.link) n v))
                (λ all. walk_pair facts (model_name all c.args.this) k n (walk_value facts (model_name all c.args.this) k n v))
                (λ all. ap (λ q. walk_pair facts (model_name all c.args.this) q n (walk_value facts (model_name all c.args.this) q n v)) is)
                w.in_ok-pair_asks.ensures.walks,
            w.in_ok-pair_asks.ensures.known,
          )
      | map_asks-in_default w ↦
          let is : own ≡ k = ap model_key (sym w.in_default.is) ∙ c.in_ok-link.ensures.key in
          subst (λ (o : Out). Walks now o (λ all.
          walk_pair facts (model_name all c.args.this) k n (walk_value facts (model_name all c.args.this) k n v)) × AreLookedUp facts o)
          (sym w.out-is) (
            tells_same now now (λ all. visited [] n)
                (λ all. walk_pair facts (model_name all c.args.this) k n (walk_value facts (model_name all c.args.this) k n v))
                (λ all. ap (λ q. walk_pair facts (model_name all c.args.this) q n (walk_value facts (model_name all c.args.this) q n v)) is)
                (tells_nothing now),
            c.loop-key.invariant.known,
          )
    ] in
    record {
      rest = λ new tells.
          c.loop-key.invariant.rest new
          (tells_then now middle new
          (λ all. walk_pair facts (model_name all c.args.this) k n (walk_value facts (model_name all c.args.this) k n v))
          (λ all. walk_map facts (model_name all c.args.this) middle.next (edn.pairs (pairs_of rest)))
          (λ all. walk_map facts (model_name all c.args.this) n (edn.pairs (pairs_of (drop i es))))
          (λ all begin.
          ap (λ m. visited ((walk_pair facts (model_name all c.args.this) k n (walk_value facts (model_name all c.args.this) k n v)).asks
          ++ (walk_map facts (model_name all c.args.this) m (edn.pairs (pairs_of rest))).asks)
          (walk_map facts (model_name all c.args.this) m (edn.pairs (pairs_of rest))).next) (step.0.next all begin)
          ∙ ap (λ (xs : List (Edn × Edn)). walk_map facts (model_name all c.args.this) n (edn.pairs (pairs_of xs))) (sym here))
          step.0 tells);
      known = step.1;
    }

-- ---- pairs

pub pair_asks-returns-in_ok-push-in-Forward-clause-walks : goal.pair_asks-returns-in_ok-push-in-Forward-clause-walks
pair_asks-returns-in_ok-push-in-Forward-clause-walks t c =
    let facts = c.args.schema.now in
    let out = c.args.out.now in
    let pushed = c.push.new.out in
    let new = c.value_asks.new.out in
    let key = model_link c.args.key.now in
    let k = word_of c.in_ok-copy-in-Forward.field-0 in
    let f = form_of c.args.value.now in
    let is : key ≡ forward k =
    ap model_link c.in-Forward.is ∙ ap (λ (a : Attr). forward (word_of a)) (sym c.in_ok-copy-in-Forward.ensures) in
    pair_tells c.value_asks.result out pushed new facts c.args.this key k f
    (tells_asks out pushed out.lookups (λ all. mentions k ∷ [])
    (λ all. visited (mentions k ∷ []) out.next) c.in_ok-push-in-Forward.ensures.asks
    c.in_ok-push-in-Forward.ensures.lookups c.in_ok-push-in-Forward.ensures.next (λ all begin. begin) (λ all begin. refl))
    (λ all.
    pair_forward facts (model_name all c.args.this) key k out.next (walk_value facts (model_name all c.args.this) key out.next f) is)
    c.value_asks.ensures.walks

pub pair_asks-returns-then-has_ref-clause-walks : goal.pair_asks-returns-then-has_ref-clause-walks
pair_asks-returns-then-has_ref-clause-walks t c =
    let facts = c.args.schema.now in
    let out = c.args.out.now in
    let pushed = c.push-in-Backward.new.out in
    let new = c.value_asks-then-has_ref.new.out in
    let key = model_link c.args.key.now in
    let k = word_of c.in_ok-copy-in-Backward.field-0 in
    let f = form_of c.args.value.now in
    let is : key ≡ backward k =
    ap model_link c.in-Backward.is ∙ ap (λ (a : Attr). backward (word_of a)) (sym c.in_ok-copy-in-Backward.ensures) in
    let refers : has_ref facts k ≡ true =
    ap (λ (a : Attr). has_ref facts (word_of a)) c.in_ok-copy-in-Backward.ensures ∙ sym c.has_ref.ensures ∙ c.if-has_ref.true in
    pair_tells c.value_asks-then-has_ref.result out pushed new facts c.args.this key k f
    (tells_asks out pushed out.lookups (λ all. mentions k ∷ [])
    (λ all. visited (mentions k ∷ []) out.next) c.in_ok-push-in-Backward.ensures.asks
    c.in_ok-push-in-Backward.ensures.lookups c.in_ok-push-in-Backward.ensures.next (λ all begin. begin) (λ all begin. refl))
    (λ all. pair_backward facts (model_name all c.args.this) key k out.next
    (walk_value facts (model_name all c.args.this) key out.next f) is refers)
    c.value_asks-then-has_ref.ensures.walks

pub pair_asks-returns-in_ok-copy-in-Backward-2-clause-walks : goal.pair_asks-returns-in_ok-copy-in-Backward-2-clause-walks
pair_asks-returns-in_ok-copy-in-Backward-2-clause-walks t c =
    let facts = c.args.schema.now in
    let out = c.args.out.now in
    let pushed = c.push-in-Backward.new.out in
    let new = c.push-in-Backward-2.new.out in
    let key = model_link c.args.key.now in
    let k = word_of c.in_ok-copy-in-Backward.field-0 in
    let f = form_of c.args.value.now in
    let same : c.in_ok-copy-in-Backward-2.field-0 ≡ c.in_ok-copy-in-Backward.field-0 =
    c.in_ok-copy-in-Backward-2.ensures ∙ sym c.in_ok-copy-in-Backward.ensures in
    let is : key ≡ backward k =
    ap model_link c.in-Backward.is ∙ ap (λ (a : Attr). backward (word_of a)) (sym c.in_ok-copy-in-Backward.ensures) in
    let other : has_ref facts k ≡ false =
    ap (λ (a : Attr). has_ref facts (word_of a)) c.in_ok-copy-in-Backward.ensures ∙ sym c.has_ref.ensures ∙ c.if-has_ref.false in
    IfOk-map
    (λ _. Walks pushed new (λ all. visited (adds (model_name all c.args.this) k (entity (model_name all c.args.this)) ∷ []) pushed.next))
    (λ _. Walks out new
    (λ all. walk_pair facts (model_name all c.args.this) key out.next (walk_value facts (model_name all c.args.this) key out.next f)))
    (λ _.
    tells_then out pushed new (λ all. visited (mentions k ∷ []) out.next)
    (λ all. visited (adds (model_name all c.args.this) k (entity (model_name all c.args.this)) ∷ []) pushed.next)
    (λ all. walk_pair facts (model_name all c.args.this) key out.next (walk_value facts (model_name all c.args.this) key out.next f))
    (λ all begin.
    ap (λ m. visited (mentions k ∷ adds (model_name all c.args.this) k (entity (model_name all c.args.this)) ∷ []) m)
    c.in_ok-push-in-Backward.ensures.next
    ∙ pair_wrong facts (model_name all c.args.this) key k out.next (walk_value facts (model_name all c.args.this) key out.next f) is other)
    (tells_asks out pushed out.lookups (λ all. mentions k ∷ [])
    (λ all. visited (mentions k ∷ []) out.next) c.in_ok-push-in-Backward.ensures.asks
    c.in_ok-push-in-Backward.ensures.lookups c.in_ok-push-in-Backward.ensures.next (λ all begin. begin) (λ all begin. refl)))
    c.push-in-Backward-2.result
    (call_tells c.push-in-Backward-2.result pushed new pushed.lookups
    (λ all. adds (model_name all c.args.this) (word_of c.in_ok-copy-in-Backward-2.field-0) (entity (model_name all c.args.this)) ∷ [])
    (λ all. visited (adds (model_name all c.args.this) k (entity (model_name all c.args.this)) ∷ []) pushed.next)
    c.push-in-Backward-2.ensures.asks c.push-in-Backward-2.ensures.lookups c.push-in-Backward-2.ensures.next (λ all begin. begin)
    (λ all begin.
    ap (λ (a : Attr). visited (adds (model_name all c.args.this) (word_of a) (entity (model_name all c.args.this)) ∷ []) pushed.next) same))

-- ---- values

pub value_asks-returns-then-not-takes_maps-clause-walks : goal.value_asks-returns-then-not-takes_maps-clause-walks
value_asks-returns-then-not-takes_maps-clause-walks t c =
    let facts = c.args.schema.now in
    let key = model_link c.args.key.now in
    let out = c.args.out.now in
    let n = out.next in
    let ps = edn.pairs (pairs_of (entries c.in-Map.pairs)) in
    let is : form_of c.args.f.now ≡ edn.map ps = ap form_of c.in-Map.is ∙ form_of-Map c.in-Map.pairs in
    let takes : takes_maps facts key ≡ false = search rules in
    call_tells c.link.result out c.link.new.out out.lookups (λ all. links (model_name all c.args.this) key (plain (form_of c.args.f.now)))
    (λ all. walk_value facts (model_name all c.args.this) key n (form_of c.args.f.now)) c.link.ensures.asks c.link.ensures.lookups
    c.link.ensures.next (λ all begin. begin)
    (λ all begin. plain_map facts (model_name all c.args.this) key n ps (form_of c.args.f.now) is takes)

pub value_asks-returns-in-Set-clause-walks : goal.value_asks-returns-in-Set-clause-walks
value_asks-returns-in-Set-clause-walks t c =
    let facts = c.args.schema.now in
    let key = model_link c.args.key.now in
    let out = c.args.out.now in
    let fs = edn.forms (forms_of (members c.in-Set.items)) in
    let is : form_of c.args.f.now ≡ edn.set fs = ap form_of c.in-Set.is ∙ form_of-Set c.in-Set.items in
    call_same c.members_asks.result out c.members_asks.new.out (λ all. walk_members facts (model_name all c.args.this) key out.next fs)
    (λ all. walk_value facts (model_name all c.args.this) key out.next (form_of c.args.f.now))
    (λ all. ap (walk_value facts (model_name all c.args.this) key out.next) (sym is)) c.members_asks.ensures.walks

pub value_asks-returns-then-is_collection-clause-walks : goal.value_asks-returns-then-is_collection-clause-walks
value_asks-returns-then-is_collection-clause-walks t c =
    let facts = c.args.schema.now in
    let key = model_link c.args.key.now in
    let out = c.args.out.now in
    let fs = edn.forms (forms_of (members c.in-Vector.items)) in
    let is : form_of c.args.f.now ≡ edn.vector fs = ap form_of c.in-Vector.is ∙ form_of-Vector c.in-Vector.items in
    let collects : is_collection facts key (lookup_in fs) ≡ true = search rules in
    call_same c.members_asks-then-is_collection.result out c.members_asks-then-is_collection.new.out
    (λ all. walk_members facts (model_name all c.args.this) key out.next fs)
    (λ all. walk_value facts (model_name all c.args.this) key out.next (form_of c.args.f.now))
    (λ all.
    vector_collected facts (model_name all c.args.this) key out.next fs
    (walk_members facts (model_name all c.args.this) key out.next fs) collects
    ∙ ap (walk_value facts (model_name all c.args.this) key out.next) (sym is))
    c.members_asks-then-is_collection.ensures.walks

pub value_asks-returns-else-is_collection-clause-walks : goal.value_asks-returns-else-is_collection-clause-walks
value_asks-returns-else-is_collection-clause-walks t c =
    let facts = c.args.schema.now in
    let key = model_link c.args.key.now in
    let out = c.args.out.now in
    let fs = edn.forms (forms_of (members c.in-Vector.items)) in
    let is : form_of c.args.f.now ≡ edn.vector fs = ap form_of c.in-Vector.is ∙ form_of-Vector c.in-Vector.items in
    let stands_alone : is_collection facts key (lookup_in fs) ≡ false = search rules in
    call_same c.vector_link.result out c.vector_link.new.out
    (λ all. visited (vector_asks facts (model_name all c.args.this) key fs (lookup_in fs) []) out.next)
    (λ all. walk_value facts (model_name all c.args.this) key out.next (form_of c.args.f.now))
    (λ all.
    vector_alone facts (model_name all c.args.this) key out.next fs
    (walk_members facts (model_name all c.args.this) key out.next fs) stands_alone
    ∙ ap (walk_value facts (model_name all c.args.this) key out.next) (sym is))
    c.vector_link.ensures.walks

pub value_asks-returns-then-takes_several-clause-walks : goal.value_asks-returns-then-takes_several-clause-walks
value_asks-returns-then-takes_several-clause-walks t c =
    let facts = c.args.schema.now in
    let key = model_link c.args.key.now in
    let out = c.args.out.now in
    let fs = edn.forms (forms_of (members c.in-List.items)) in
    let is : form_of c.args.f.now ≡ edn.list fs = ap form_of c.in-List.is ∙ form_of-List c.in-List.items in
    let collects : is_collection facts key None ≡ true = search rules in
    call_same c.members_asks-then-takes_several.result out c.members_asks-then-takes_several.new.out
    (λ all. walk_members facts (model_name all c.args.this) key out.next fs)
    (λ all. walk_value facts (model_name all c.args.this) key out.next (form_of c.args.f.now))
    (λ all.
    list_collected facts (model_name all c.args.this) key out.next fs
    (walk_members facts (model_name all c.args.this) key out.next fs) collects
    ∙ ap (walk_value facts (model_name all c.args.this) key out.next) (sym is))
    c.members_asks-then-takes_several.ensures.walks

pub value_asks-returns-else-takes_several-clause-walks : goal.value_asks-returns-else-takes_several-clause-walks
value_asks-returns-else-takes_several-clause-walks t c =
    let facts = c.args.schema.now in
    let key = model_link c.args.key.now in
    let out = c.args.out.now in
    let n = out.next in
    let fs = edn.forms (forms_of (members c.in-List.items)) in
    let is : form_of c.args.f.now ≡ edn.list fs = ap form_of c.in-List.is ∙ form_of-List c.in-List.items in
    let stands_alone : is_collection facts key None ≡ false = search rules in
    call_tells c.link-in-List.result out c.link-in-List.new.out out.lookups
    (λ all. links (model_name all c.args.this) key (plain (form_of c.args.f.now)))
    (λ all. walk_value facts (model_name all c.args.this) key n (form_of c.args.f.now))
    c.link-in-List.ensures.asks c.link-in-List.ensures.lookups c.link-in-List.ensures.next (λ all begin. begin)
    (λ all begin.
    ap (λ f. visited (links (model_name all c.args.this) key (plain f)) n) is
    ∙ list_alone facts (model_name all c.args.this) key n fs (walk_members facts (model_name all c.args.this) key n fs) stands_alone
    ∙ ap (walk_value facts (model_name all c.args.this) key n) (sym is))

pub value_asks-returns-in_default-clause-walks : goal.value_asks-returns-in_default-clause-walks
value_asks-returns-in_default-clause-walks t c =
    let facts = c.args.schema.now in
    let key = model_link c.args.key.now in
    let out = c.args.out.now in
    let n = out.next in
    let f = form_of c.args.f.now in
    let is : is_scalar_value f ≡ true =
    first_of (
      search (rules, the_lemmas, c.in_default.not-Map, c.in_default.not-Vector, c.in_default.not-Set, c.in_default.not-List),
      grind (arith, common_steps, the_lemmas, c.in_default.not-Map, c.in_default.not-Vector, c.in_default.not-Set, c.in_default.not-List),
      grind (
        arith,
        common_steps,
        the_lemmas,
        fold_out-Edn,
        c.in_default.not-Map,
        c.in_default.not-Vector,
        c.in_default.not-Set,
        c.in_default.not-List,
      ),
      search rules,
      grind (arith, common_steps),
    ) in
    call_tells c.scalar_link.result out c.scalar_link.new.out out.lookups (λ all. scalar_asks facts (model_name all c.args.this) key f)
    (λ all. walk_value facts (model_name all c.args.this) key n f) c.scalar_link.ensures.asks c.scalar_link.ensures.lookups
    c.scalar_link.ensures.next (λ all begin. begin)
    (λ all begin. scalar_value facts (model_name all c.args.this) key n f is)

-- ---- members

pub member_asks-returns-then-not-takes_maps-clause-walks : goal.member_asks-returns-then-not-takes_maps-clause-walks
member_asks-returns-then-not-takes_maps-clause-walks t c =
    let facts = c.args.schema.now in
    let key = model_link c.args.key.now in
    let out = c.args.out.now in
    let n = out.next in
    let ps = edn.pairs (pairs_of (entries c.in-Map.pairs)) in
    let is : form_of c.args.f.now ≡ edn.map ps = ap form_of c.in-Map.is ∙ form_of-Map c.in-Map.pairs in
    let takes : takes_maps facts key ≡ false = search rules in
    call_tells c.link.result out c.link.new.out out.lookups (λ all. links (model_name all c.args.this) key (plain (form_of c.args.f.now)))
    (λ all. walk_member facts (model_name all c.args.this) key n (form_of c.args.f.now)) c.link.ensures.asks c.link.ensures.lookups
    c.link.ensures.next (λ all begin. begin)
    (λ all begin. plain_member facts (model_name all c.args.this) key n ps (form_of c.args.f.now) is takes)

pub member_asks-returns-in-Vector-clause-walks : goal.member_asks-returns-in-Vector-clause-walks
member_asks-returns-in-Vector-clause-walks t c =
    let facts = c.args.schema.now in
    let key = model_link c.args.key.now in
    let out = c.args.out.now in
    let fs = edn.forms (forms_of (members c.in-Vector.items)) in
    let is : form_of c.args.f.now ≡ edn.vector fs = ap form_of c.in-Vector.is ∙ form_of-Vector c.in-Vector.items in
    call_same c.member_link.result out c.member_link.new.out
    (λ all. visited
    (vector_asks facts (model_name all c.args.this) key fs (lookup_in fs) (links (model_name all c.args.this) key (plain (edn.vector fs))))
    out.next)
    (λ all. walk_member facts (model_name all c.args.this) key out.next (form_of c.args.f.now))
    (λ all. ap (walk_member facts (model_name all c.args.this) key out.next) (sym is)) c.member_link.ensures.walks

pub member_asks-returns-in_default-clause-walks : goal.member_asks-returns-in_default-clause-walks
member_asks-returns-in_default-clause-walks t c =
    let facts = c.args.schema.now in
    let key = model_link c.args.key.now in
    let out = c.args.out.now in
    let n = out.next in
    let f = form_of c.args.f.now in
    let is : is_scalar_member f ≡ true =
    first_of (
      search (rules, the_lemmas, c.in_default.not-Map, c.in_default.not-Vector),
      grind (arith, common_steps, the_lemmas, c.in_default.not-Map, c.in_default.not-Vector),
      grind (arith, common_steps, the_lemmas, fold_out-Edn, c.in_default.not-Map, c.in_default.not-Vector),
      search rules,
      grind (arith, common_steps),
    ) in
    call_tells c.scalar_link.result out c.scalar_link.new.out out.lookups (λ all. scalar_asks facts (model_name all c.args.this) key f)
    (λ all. walk_member facts (model_name all c.args.this) key n f) c.scalar_link.ensures.asks c.scalar_link.ensures.lookups
    c.scalar_link.ensures.next (λ all begin. begin)
    (λ all begin. scalar_member facts (model_name all c.args.this) key n f is)
