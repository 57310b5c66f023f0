use Rattle.std.proofs.Common.{◌≡◌, ◌∙◌, ◌-◌, length, sym, ap, subst, Some}
use Rattle.std.specs.List.{slice_get}
use Rattle.std.proofs.lemmas.Option.{get_or_from_slice_get}
use Rattle.fb_values.specs.declared.indexes.Order.TheVariants.{Eavt}
use Rattle.fb_values.specs.Lists.{Lists, list_in}
use Rattle.live_runs.specs.Members.{datom_of, nothing}
use Rattle.live_index.specs.Lists.{IsNumberIf, numbered}
use Rattle.live_index.proofs.live.Live.last.Goals as goal

pub returns-in-None : goal.returns-in-None
returns-in-None c =
    sym (ap (numbered c.self.inside.table) c.in-None.is)
    ∙ c.self.invariant.last_is.is
    ∙ ap (λ (ls : Lists). slice_get (list_in ls Eavt) (length (list_in ls Eavt) - 1)) c.self.view_is

pub at-requires : goal.at-requires
at-requires c = subst (IsNumberIf c.self.inside.table) c.in-Some.is c.self.invariant.last_is.within

pub returns-in-Some : goal.returns-in-Some
returns-in-Some c =
    let table = c.self.inside.table in
    let read : datom_of table c.in-Some.last ≡ c.at.result.now =
    get_or_from_slice_get table c.in-Some.last c.at.result.now nothing c.at.ensures in
    ap Some (sym read)
    ∙ sym (ap (numbered table) c.in-Some.is)
    ∙ c.self.invariant.last_is.is
    ∙ ap (λ (ls : Lists). slice_get (list_in ls Eavt) (length (list_in ls Eavt) - 1)) c.self.view_is
