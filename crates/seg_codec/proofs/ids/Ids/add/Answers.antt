use Rattle.std.proofs.Common.{◌≡◌, [], ◌∷◌, ◌++◌, length, take, Some, sym, ◌∙◌, ap, subst, arith}
use Rattle.std.specs.Ordering.{nat_cmp}
use Rattle.std.specs.BTreeMap.{UpdatesBy}
use Rattle.std.proofs.Math.Seq.{take-append_seam}
use Rattle.log_model.specs.Nodes.{is_among}
use Rattle.seg_codec.specs.IdPlaces.{ArePlaced}
use Rattle.seg_codec.proofs.Placing.{placed_add, placed_same}
use Rattle.seg_codec.proofs.ids.Ids.add.Goals as goal

pub invariant_of-self-in-Ok : goal.invariant_of-self-in-Ok
invariant_of-self-in-Ok c =
    let ids = c.self.inside.ids.items in
    let place : c.len-place.result ≡ length c.self.inside.ids.items = omega (arith, c.len-place.ensures, c.self.inside.ids.ok.0) in
    subst (λ items. ArePlaced items c.insert.new.self) (sym c.in_ok-push.ensures.items)
    (placed_add ids c.args.id c.self.inside.places c.insert.new.self c.self.invariant
    (ap (λ l. is_among l c.args.id) c.self.view_is ∙ c.requires.new) c.requires.small
    (subst (λ n. UpdatesBy nat_cmp (nat_cmp c.args.id) c.self.inside.places c.insert.new.self (Some n)) place c.in-Ok.ensures.updates))

pub invariant_of-self-in-Err : goal.invariant_of-self-in-Err
invariant_of-self-in-Err c =
    let ids = c.self.inside.ids.items in
    let place : c.len-place.result ≡ length c.self.inside.ids.items = omega (arith, c.len-place.ensures, c.self.inside.ids.ok.0) in
    let cut = c.truncate.ensures.items ∙ ap (take c.len-place.result) c.in_ok-push.ensures.items
    ∙ ap (λ n. take n (ids ++ c.args.id ∷ [])) place ∙ take-append_seam ids (c.args.id ∷ []) in
    subst (λ items. ArePlaced items c.insert.new.self) (sym cut)
    (placed_same ids c.self.inside.places c.insert.new.self c.in-Err.ensures.err c.self.invariant)
