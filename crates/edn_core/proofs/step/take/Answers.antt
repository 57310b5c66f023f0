use Rattle.std.proofs.Common.{◌≡◌, ◌<◌, ◌+◌, ◌∷◌, drop, refl, subst, arith}
use Rattle.edn_model.specs.Bytes.{hash, open_paren, open_bracket, underscore, open_brace}
use Rattle.edn_core.proofs.Openings.{one_on, one_fits, discard_opens}
use Rattle.edn_core.proofs.step.take.Goals as goal

pub returns-in-Quote : goal.returns-in-Quote
returns-in-Quote c = c.string.ensures

pub returns-in-Closing : goal.returns-in-Closing
returns-in-Closing c =
    let bytes = c.args.bytes.now in
    let at = c.args.at in
    let b = c.in-Closing.bracket in
    let is = subst (λ z. z ≡ b ∷ drop 1 z) c.split_at.ensures.back c.in-Closing.ensures.0 in
    let ahead : at < at + 1 = omega arith in
    c.close.ensures bytes ahead (one_fits bytes at b (drop 1 (drop at bytes)) is) (one_on bytes at b is) c.in-Closing.ensures.1

pub returns-in-Discard : goal.returns-in-Discard
returns-in-Discard c =
    let bytes = c.args.bytes.now in
    let is = subst (λ z. z ≡ hash ∷ underscore ∷ drop 2 z) c.split_at.ensures.back c.in-Discard.ensures in
    c.begin.ensures bytes c.args.slot.now (discard_opens bytes c.args.frames.now.items c.args.at is)

pub returns-in-List : goal.returns-in-List
returns-in-List c =
    c.list.ensures c.args.bytes.now c.args.slot.now refl
    (subst (λ z. z ≡ open_paren ∷ drop 1 z) c.split_at.ensures.back c.in-List.ensures)

pub returns-in-Vector : goal.returns-in-Vector
returns-in-Vector c =
    c.vector.ensures c.args.bytes.now c.args.slot.now refl
    (subst (λ z. z ≡ open_bracket ∷ drop 1 z) c.split_at.ensures.back c.in-Vector.ensures)

pub returns-in-Map : goal.returns-in-Map
returns-in-Map c =
    c.map.ensures c.args.bytes.now c.args.slot.now refl
    (subst (λ z. z ≡ open_brace ∷ drop 1 z) c.split_at.ensures.back c.in-Map.ensures)

pub returns-in-Set : goal.returns-in-Set
returns-in-Set c =
    c.set.ensures c.args.bytes.now c.args.slot.now refl
    (subst (λ z. z ≡ hash ∷ open_brace ∷ drop 2 z) c.split_at.ensures.back c.in-Set.ensures)
