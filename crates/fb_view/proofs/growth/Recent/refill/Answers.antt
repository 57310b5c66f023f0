use Rattle.std.proofs.Common.{◌∙◌, ◌++◌, ◌∷◌, [], ap, subst, sym}
use Rattle.std.proofs.lemmas.Result.{IfOk-weaker}
use Rattle.fb_values.specs.declared.indexes.Order.TheVariants.{Aevt}
use Rattle.live_index.specs.Growth.{HasNoTwins}
use Rattle.seg_tree.specs.Nodes.{tree_datoms}
use Rattle.fb_view.specs.InAvet.{IsInAvet}
use Rattle.fb_view.specs.Refills.{all_missed}
use Rattle.fb_values.proofs.Rising.{rising_from}
use Rattle.fb_view.proofs.Standing.{coverage_of}
use Rattle.fb_view.proofs.Refilling.{no_twins_missed, refills}
use Rattle.fb_view.proofs.growth.Recent.refill.Goals as goal

pub missed-requires : goal.missed-requires
missed-requires c =
    rising_from Aevt (tree_datoms c.args.older.now.roots.aevt) (c.requires.follows.1.stands.history.roots_stand.trees Aevt).rising

pub in_avet-requires : goal.in_avet-requires
in_avet-requires c =
    subst HasNoTwins (sym (c.deref-2.ensures.value ∙ c.in_ok-missed.ensures))
    (no_twins_missed c.requires.follows.0 c.args.self.now c.args.older.now c.args.entry.now c.requires.follows.1 c.deref.result.now)

pub returns : goal.returns
returns c =
    IfOk-weaker c.in_avet.result _ _
    (λ refill is h coverage follows has.
    let after = c.requires.schema h follows.stands.schema_is in
    let sorted : IsInAvet c.covers.result.now (all_missed c.args.self.now c.args.older.now c.in_ok-gained.gained.items) refill.items =
    subst (λ ds. IsInAvet c.covers.result.now ds refill.items)
    (c.deref-2.ensures.value ∙ c.in_ok-missed.ensures ∙ ap (all_missed c.args.self.now c.args.older.now) c.deref.ensures.value) is in
    let next =
    refills h c.args.self.now c.args.older.now c.args.entry.now follows c.args.after.now after c.in_ok-gained.gained.items
    (c.in_ok-gained.ensures h follows.stands.schema_is after) c.covers.result.now refill.items c.covers.ensures sorted.rising
    sorted.members in
    record {
      lawful = next.lawful;
      bound = next.bound;
      next = next.next;
      coverage_is = coverage_of c.args.after.now (h ++ c.args.entry.now ∷ []) coverage after has;
      refill_is = next.refill_is;
    })
    c.in_avet.ensures
