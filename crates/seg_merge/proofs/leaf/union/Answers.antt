use Rattle.std.proofs.Common.{◌≡◌, ◌+◌, ◌≤◌, ◌++◌, ◌∷◌, [], ℕ, List, length, take, drop, sym, ap, ◌∙◌, subst, arith}
use Rattle.std.specs.Prelude.{IsTrue, filter}
use Rattle.std.proofs.lemmas.List.{take-append-drop, take_all}
use Rattle.std.proofs.lemmas.Result.{IfOk-weaker}
use Rattle.fb_values.specs.declared.facts.Datom.{Datom}
use Rattle.fb_values.specs.Rising.{IsRising}
use Rattle.fb_search.specs.Places.{probe_of}
use Rattle.fb_search.proofs.Below.{place_of-le-length}
use Rattle.fb_search.proofs.Ends.{rising-append_right}
use Rattle.live_index.specs.Growth.{is_held}
use Rattle.seg_merge.specs.Plans.{IsUnion, without_twin}
use Rattle.seg_merge.proofs.Lists.{take_item, drop_item, drop_all}
use Rattle.seg_merge.proofs.Midway.{IsMidway, midway_more, midway_all}
use Rattle.seg_merge.proofs.leaf.union.Goals as goal

pub place_of_datom-requires : goal.place_of_datom-requires
place_of_datom-requires c =
    let m = c.loop-datom.invariant in
    rising-append_right c.args.order m.seen c.loop-datom.rest.now (subst (IsRising c.args.order) (sym m.parts) c.requires.old_rises)

pub split_at-requires : goal.split_at-requires
split_at-requires c =
    let le = place_of-le-length (probe_of c.args.order c.datom-item.result) c.loop-datom.rest.now in
    subst (λ (n : ℕ). n ≤ length c.loop-datom.rest.now) (sym c.place_of_datom.ensures) le

pub loop-datom-preserved : goal.loop-datom-preserved
loop-datom-preserved c =
    let order = c.args.order in
    let p = is_held c.args.covers.now order in
    let old = c.args.old.now in
    let added = c.args.added.now in
    let rest = c.loop-datom.rest.now in
    let k = c.loop-datom.datom-index in
    let d = c.datom-item.result in
    let place = c.place_of_datom.result in
    let out = c.loop-datom.all.items in
    let within = c.loop-datom-test.true in
    let left = drop (k + 1) added in
    let here : drop k added ≡ d ∷ left = drop_item added k d within c.datom-item.is in
    let whole : take k added ++ d ∷ left ≡ added = ap (λ ds. take k added ++ ds) (sym here) ∙ take-append-drop k added in
    let m = subst (λ (ds : List Datom). IsMidway order (λ x. IsTrue (p x)) old rest (take k added) ds out) here c.loop-datom.invariant in
    let more =
    midway_more order p old rest
    (take k added) left out d added place c.requires.old_rises c.requires.added_rises c.requires.single whole c.place_of_datom.ensures m in
    let behind : without_twin order d (drop place rest) ≡ c.without_twin-rest.result.now =
    ap (without_twin order d) (sym c.split_at.ensures.back) ∙ sym c.without_twin-rest.ensures in
    let pushed : (out ++ filter p (take place rest)) ++ d ∷ [] ≡ c.push.new.self.items =
    ap (λ ds. (out ++ filter p ds) ++ d ∷ []) (sym c.split_at.ensures.front)
    ∙ ap (λ ds. ds ++ d ∷ []) (sym c.in_ok-all-2.ensures)
    ∙ ap (λ x. c.in_ok-all-2.all.items ++ x ∷ []) (sym c.in_ok-copy.ensures)
    ∙ sym c.in_ok-push.ensures.items in
    subst (λ (ds : List Datom). IsMidway order (λ x. IsTrue (p x)) old c.without_twin-rest.result.now (take (k + 1) added) left ds) pushed
    (subst (λ (ds : List Datom). IsMidway order (λ x. IsTrue (p x)) old c.without_twin-rest.result.now ds left
    ((out ++ filter p (take place rest)) ++ d ∷ [])) (sym (take_item added k d within c.datom-item.is))
    (subst (λ (ds : List Datom).
    IsMidway order (λ x. IsTrue (p x)) old ds (take k added ++ d ∷ []) left ((out ++ filter p (take place rest)) ++ d ∷ [])) behind more))

pub returns : goal.returns
returns c =
    let order = c.args.order in
    let p = is_held c.args.covers.now order in
    let old = c.args.old.now in
    let added = c.args.added.now in
    let rest = c.loop-datom.rest.now in
    let k = c.loop-datom.datom-index in
    let out = c.loop-datom.all.items in
    let past : length added ≤ k = omega (arith, c.loop-datom-test.false) in
    let m = subst (λ (ds : List Datom). IsMidway order (λ x. IsTrue (p x)) old rest ds [] out) (take_all k added past)
    (subst (λ (ds : List Datom). IsMidway order (λ x. IsTrue (p x)) old rest (take k added) ds out)
    (drop_all added k past) c.loop-datom.invariant) in
    let all = midway_all order p old rest added out c.requires.old_rises m in
    let union : IsUnion order c.args.covers.now old added (out ++ filter p rest) = record { rising = all.rising; members = all.members } in
    IfOk-weaker c.with_held-2.result _ _ (λ v is. subst (IsUnion order c.args.covers.now old added) (sym is) union) c.with_held-2.ensures
