use Rattle.std.proofs.Common.{◌≡◌, ◌∙◌, ◌++◌, ℕ, List, length, take, refl, ap, arith}
use Rattle.std.proofs.lemmas.List.{take-append-le, take_all}
use Rattle.disk_model.proofs.Moments.{weakened}
use Rattle.fb_journal.specs.Journals.{mark_of}
use Rattle.seg_codec.specs.Trees.{ids_lacking}
use Rattle.seg_store.specs.declared.stores.SegStore.{SegStore}
use Rattle.seg_store.specs.Trees.{root_of}
use Rattle.seg_store.specs.Stores.{disk_in}
use Rattle.seg_store.proofs.Keeping.{before_or_after, nothing_done}
use Rattle.seg_store.proofs.Same.{same_store}
use Rattle.seg_store.proofs.stores.SegStore.keep.Goals as goal

-- what was before more is there once it is cut off again
cut_back : (xs ys : List ℕ) → take (length xs) (xs ++ ys) ≡ xs
cut_back xs ys = take-append-le (length xs) xs ys (omega arith) ∙ take_all (length xs) xs (omega arith)

pub returns-in_err-framed-clause-memory : goal.returns-in_err-framed-clause-memory
returns-in_err-framed-clause-memory g c = λ is. same_store _ c.args.self.now refl c.in_err-framed.ensures.memory

pub returns-in_err-framed-clause-any_moment : goal.returns-in_err-framed-clause-any_moment
returns-in_err-framed-clause-any_moment g c = λ records keeps fits file told.
    let d = g.D.Disk in
    nothing_done d.bytes d.images d.moment d.images_since g.met.D.Disk.only_now records c.args.self.now (root_of c.args.roots.now c.args.c)
    keeps file told

pub returns-clause-any_moment : goal.returns-clause-any_moment
returns-clause-any_moment g c = λ records keeps fits file told.
    let d = g.D.Disk in
    let old = c.args.self.now in
    let next = c.in_ok-framed.ensures.record records keeps.good keeps.ids fits in
    weakened d.moment d.images_since (disk_in old) (disk_in c.add.new.self) _ _
    (c.add.ensures.any_moment records keeps.journal file told)
    (λ image left.
    before_or_after records c.in_ok-framed.framed (mark_of old.journal) image c.args.roots.now c.args.c old.marked next.keeps left)

pub returns-clause-unchanged : goal.returns-clause-unchanged
returns-clause-unchanged g c = λ at is.
    let old = c.args.self.now in
    let now = c.add.ensures.unchanged at is in
    same_store c.add.new.self old
    (ap (λ (s : SegStore g.row.D.Denot g.D.Disk). s.journal) now)
    (ap (λ (s : SegStore g.row.D.Denot g.D.Disk). s.ids) now
    ∙ ap (take c.len-known.result) c.in_ok-framed.ensures.ids
    ∙ ap (λ n. take n (old.ids ++ ids_lacking old.ids c.args.roots.now)) c.len-known.ensures.len
    ∙ cut_back old.ids (ids_lacking old.ids c.args.roots.now))
