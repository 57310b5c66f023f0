use Rattle.std.proofs.Common.{◌∙◌, sym, ap}
use Rattle.std.specs.List.{list_any}
use Rattle.fb_values.specs.declared.indexes.Order.TheVariants.{Eavt}
use Rattle.live_index.specs.Ending.{is_mate}
use Rattle.live_index.proofs.FourLists.{list_lacks, list_of}
use Rattle.live_index.proofs.half.Half.has_mate.Goals as goal

pub returns-in-None : goal.returns-in-None
returns-in-None c =
    ap (list_any (is_mate c.args.datom.now))
    (sym (list_lacks Eavt c.self.inside.table.now c.self.inside.orders c.args.self.now c.in-None.is c.self.view_is))

pub has_mate-requires : goal.has_mate-requires
has_mate-requires c =
    (list_of Eavt c.self.inside.table.now c.self.inside.orders c.in-Some.orders c.list.result.now c.args.self.now c.in-Some.is
    c.self.invariant c.self.view_is c.list.ensures).are

pub returns-in-Some : goal.returns-in-Some
returns-in-Some c =
    c.has_mate.ensures ∙ ap (list_any (is_mate c.args.datom.now))
    (list_of Eavt c.self.inside.table.now c.self.inside.orders c.in-Some.orders c.list.result.now c.args.self.now c.in-Some.is
    c.self.invariant c.self.view_is c.list.ensures).is
