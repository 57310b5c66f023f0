use Rattle.seg_codec.specs.Trees.{ids_lacking}
use Rattle.seg_store.proofs.Rooting.{newest_kept, still_kept, next_as, next_with}
use Rattle.seg_store.proofs.roots.SegStoreRootStore.keep.Goals as goal

pub keep-requires : goal.keep-requires
keep-requires g c =
    let stand = c.requires.stand in let base = c.args.base.now in
    c.trees_of_a_lawful_history_are_storable.ensures stand.0 base.c base.roots stand.1 stand.2.1

pub returns-in-Ok-clause-kept : goal.returns-in-Ok-clause-kept
returns-in-Ok-clause-kept g c = λ begun.
    let d = g.D.Disk in let fits = c.requires.fits in let kept = c.in-Ok.ensures.kept fits.records fits.keeps fits.fits in
    newest_kept d.bytes d.images fits.records kept.0 c.args.base.now begun c.args.self.now c.keep.new.self kept.2 kept.1
    c.in-Ok.ensures.known c.in-Ok.ensures.ids

pub returns-in-Ok-clause-stays : goal.returns-in-Ok-clause-stays
returns-in-Ok-clause-stays g c =
    let d = g.D.Disk in let law = g.met.D.Disk in
    still_kept d.bytes d.images d.moment d.images_since law.reads_an_image law.counts_now c.args.base.now c.args.self.now c.keep.new.self
    c.keep.ensures.any_moment c.requires.fits
    (next_with c.args.self.now c.keep.new.self (ids_lacking c.args.self.now.ids c.args.base.now.roots) c.in-Ok.ensures.ids)

pub returns-in-Err-Memory-clause-stays : goal.returns-in-Err-Memory-clause-stays
returns-in-Err-Memory-clause-stays g c =
    let d = g.D.Disk in let law = g.met.D.Disk in
    still_kept d.bytes d.images d.moment d.images_since law.reads_an_image law.counts_now c.args.base.now c.args.self.now c.keep.new.self
    c.keep.ensures.any_moment c.requires.fits
    (next_as c.args.self.now c.keep.new.self c.in-Err-Memory.ensures.ids)

pub returns-in-Err-Disk-clause-stays : goal.returns-in-Err-Disk-clause-stays
returns-in-Err-Disk-clause-stays g c =
    let d = g.D.Disk in let law = g.met.D.Disk in
    still_kept d.bytes d.images d.moment d.images_since law.reads_an_image law.counts_now c.args.base.now c.args.self.now c.keep.new.self
    c.keep.ensures.any_moment c.requires.fits
    (next_as c.args.self.now c.keep.new.self c.in-Err-Disk.ensures.ids)
