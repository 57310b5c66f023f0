use Rattle.std.proofs.Common.{◌≡◌, ◌-◌, ◌<◌, List, [], ◌∷◌, ap, ◌∙◌, length, take, vec_len, slice_set, refl, sym, subst, arith}
use Rattle.edn_form.specs.View.{form_of}
use Rattle.edn_core.specs.Frames.{IsSoundOpen, LandsAs, EndsWith}
use Rattle.edn_core.specs.declared.construct.Construct.TheVariants.{List as List', Vector, Map, Set}
use Rattle.edn_core.specs.declared.construct.Frame.{Frame}
use Rattle.edn_core.proofs.Stacks.{framed, last_is, last_set}
use Rattle.edn_core.proofs.Landings.{list_lands, vector_lands, grown_lands, lands_there, read_there, over_leads, kept_inner}
use Rattle.edn_core.proofs.land.put.Goals as goal

none_open : (xs : List Frame) → (0 < length xs → ⊥) → length xs ≡ 0
none_open [] h = refl
none_open (x ∷ xs) h = absurd (h (omega arith))

pub returns-in_default : goal.returns-in_default
returns-in_default c bytes start here h =
    let old = c.args.frames.now.items in
    let none =
    none_open old
    (λ (some : 0 < length old). let wrong = c.in_default.ensures.variant.1 (omega (arith, c.args.frames.now.ok.0, some)) in cc) in
    read_there bytes start here c.args.at c.args.next old _ c.whole.new.slot c.args.form c.whole.result none h c.whole.ensures.0
    c.whole.ensures.1

pub returns-in-List : goal.returns-in-List
returns-in-List c bytes start here h =
    let old = c.args.frames.now.items in
    let n = vec_len c.args.frames.now in
    let slot = c.args.slot.now in
    let i = c.in-Some.innermost.now in
    let f = form_of c.args.form in
    let size : n ≡ length old = omega (arith, c.args.frames.now.ok.0) in
    let some : 0 < n = c.in-Some.ensures.variant.0 refl in
    let is = last_is old n i size some c.in-Some.ensures.value in
    let inner = kept_inner bytes start old (take (n - 1) old) i is h.kept in
    let o = List' c.grow.new.items in
    let j = framed o i.at in
    lands_there bytes start here c.args.at c.args.next old (take (n - 1) old) (slice_set old (n - 1) j) slot i j f c.grow.result is
    (last_set old n j size some) refl h
    (subst (λ z. LandsAs z f c.args.at c.args.next c.grow.result o) (sym c.in-List.is)
    (grown_lands (List' c.in-List.items) o f c.args.at c.args.next c.grow.result _ c.grow.ensures.ok c.grow.ensures.err
    (λ grew. list_lands c.in-List.items c.grow.new.items c.args.form grew (subst IsSoundOpen c.in-List.is inner.kept) h.inside)))

pub returns-in-Vector : goal.returns-in-Vector
returns-in-Vector c bytes start here h =
    let old = c.args.frames.now.items in
    let n = vec_len c.args.frames.now in
    let slot = c.args.slot.now in
    let i = c.in-Some.innermost.now in
    let f = form_of c.args.form in
    let size : n ≡ length old = omega (arith, c.args.frames.now.ok.0) in
    let some : 0 < n = c.in-Some.ensures.variant.0 refl in
    let is = last_is old n i size some c.in-Some.ensures.value in
    let inner = kept_inner bytes start old (take (n - 1) old) i is h.kept in
    let o = Vector c.grow-in-Vector.new.items in
    let j = framed o i.at in
    lands_there bytes start here c.args.at c.args.next old (take (n - 1) old) (slice_set old (n - 1) j) slot i j f
    c.grow-in-Vector.result is (last_set old n j size some) refl h
    (subst (λ z. LandsAs z f c.args.at c.args.next c.grow-in-Vector.result o) (sym c.in-Vector.is)
    (grown_lands (Vector c.in-Vector.items) o f c.args.at c.args.next c.grow-in-Vector.result _ c.grow-in-Vector.ensures.ok
    c.grow-in-Vector.ensures.err
    (λ grew.
    vector_lands c.in-Vector.items c.grow-in-Vector.new.items c.args.form grew (subst IsSoundOpen c.in-Vector.is inner.kept) h.inside)))

pub returns-in-Map : goal.returns-in-Map
returns-in-Map c bytes start here h =
    let old = c.args.frames.now.items in
    let n = vec_len c.args.frames.now in
    let slot = c.args.slot.now in
    let i = c.in-Some.innermost.now in
    let f = form_of c.args.form in
    let size : n ≡ length old = omega (arith, c.args.frames.now.ok.0) in
    let some : 0 < n = c.in-Some.ensures.variant.0 refl in
    let is = last_is old n i size some c.in-Some.ensures.value in
    let inner = kept_inner bytes start old (take (n - 1) old) i is h.kept in
    let o = Map c.entry.new.pairs c.entry.new.waiting c.entry.new.said in
    let j = framed o i.at in
    lands_there bytes start here c.args.at c.args.next old (take (n - 1) old) (slice_set old (n - 1) j) slot i j f c.entry.result is
    (last_set old n j size some) refl h
    (subst (λ z. LandsAs z f c.args.at c.args.next c.entry.result o) (sym c.in-Map.is)
    (c.entry.ensures (subst IsSoundOpen c.in-Map.is inner.kept) h.inside))

pub returns-in-Set : goal.returns-in-Set
returns-in-Set c bytes start here h =
    let old = c.args.frames.now.items in
    let n = vec_len c.args.frames.now in
    let slot = c.args.slot.now in
    let i = c.in-Some.innermost.now in
    let f = form_of c.args.form in
    let size : n ≡ length old = omega (arith, c.args.frames.now.ok.0) in
    let some : 0 < n = c.in-Some.ensures.variant.0 refl in
    let is = last_is old n i size some c.in-Some.ensures.value in
    let inner = kept_inner bytes start old (take (n - 1) old) i is h.kept in
    let o = Set c.member.new.items c.member.new.said in
    let j = framed o i.at in
    lands_there bytes start here c.args.at c.args.next old (take (n - 1) old) (slice_set old (n - 1) j) slot i j f c.member.result is
    (last_set old n j size some) refl h
    (subst (λ z. LandsAs z f c.args.at c.args.next c.member.result o) (sym c.in-Set.is)
    (c.member.ensures (subst IsSoundOpen c.in-Set.is inner.kept) h.inside))

pub returns-in-Discard : goal.returns-in-Discard
returns-in-Discard c bytes start here h =
    let old = c.args.frames.now.items in
    let n = vec_len c.args.frames.now in
    let slot = c.args.slot.now in
    let i = c.in-Some.innermost.now in
    let f = form_of c.args.form in
    let size : n ≡ length old = omega (arith, c.args.frames.now.ok.0) in
    let some : 0 < n = c.in-Some.ensures.variant.0 refl in
    let is = last_is old n i size some c.in-Some.ensures.value in
    over_leads bytes start here c.args.at c.args.next old (take (n - 1) old) c.over.new.frames.items slot i f c.over.result is
    c.over.ensures.0 (c.over.ensures.1 ∙ ap (λ (xs : List Frame). take (n - 1) xs) (last_set old n i size some ∙ sym is)) h
    (subst (λ o. EndsWith o f) (sym c.in-Discard.is) (λ outer opened at rest. refl))

pub returns-in-Inst : goal.returns-in-Inst
returns-in-Inst c bytes start here h =
    let old = c.args.frames.now.items in
    let n = vec_len c.args.frames.now in
    let slot = c.args.slot.now in
    let i = c.in-Some.innermost.now in
    let f = form_of c.args.form in
    let size : n ≡ length old = omega (arith, c.args.frames.now.ok.0) in
    let some : 0 < n = c.in-Some.ensures.variant.0 refl in
    let is = last_is old n i size some c.in-Some.ensures.value in
    over_leads bytes start here c.args.at c.args.next old (take (n - 1) old) c.over-in-Inst.new.frames.items slot i f
    c.over-in-Inst.result is c.over-in-Inst.ensures.0
    (c.over-in-Inst.ensures.1 ∙ ap (λ (xs : List Frame). take (n - 1) xs) (last_set old n i size some ∙ sym is)) h
    (subst (λ o. EndsWith o f) (sym c.in-Inst.is) (λ outer opened at rest. refl))

pub returns-in-Uuid : goal.returns-in-Uuid
returns-in-Uuid c bytes start here h =
    let old = c.args.frames.now.items in
    let n = vec_len c.args.frames.now in
    let slot = c.args.slot.now in
    let i = c.in-Some.innermost.now in
    let f = form_of c.args.form in
    let size : n ≡ length old = omega (arith, c.args.frames.now.ok.0) in
    let some : 0 < n = c.in-Some.ensures.variant.0 refl in
    let is = last_is old n i size some c.in-Some.ensures.value in
    over_leads bytes start here c.args.at c.args.next old (take (n - 1) old) c.over-in-Uuid.new.frames.items slot i f
    c.over-in-Uuid.result is c.over-in-Uuid.ensures.0
    (c.over-in-Uuid.ensures.1 ∙ ap (λ (xs : List Frame). take (n - 1) xs) (last_set old n i size some ∙ sym is)) h
    (subst (λ o. EndsWith o f) (sym c.in-Uuid.is) (λ outer opened at rest. refl))
