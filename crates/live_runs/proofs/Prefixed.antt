-- What the prefixes of members tell.
use Rattle.std.proofs.Common.{◌≡◌, true, List, subst}
use Rattle.std.specs.declared.cmp.Ordering.TheVariants.{Less}
use Rattle.fb_values.specs.declared.facts.Datom.{Datom}
use Rattle.fb_values.specs.declared.indexes.Order.{Order}
use Rattle.fb_values.specs.Orders.{key_cmp}
use Rattle.fb_prefix.specs.declared.prefixes.Prefix.{Prefix}
use Rattle.fb_prefix.specs.Prefixes.{is_lesser, prefix_in}
use Rattle.fb_prefix.proofs.Law.{lesser_prefix}
use Rattle.live_runs.specs.declared.members.Member.{Member}
use Rattle.live_runs.specs.Members.{IsMember, datom_of}

pub lesser_member : (order : Order) (table : List Datom) (x y : Member) → IsMember order table x → IsMember order table y
    → is_lesser x.prefix y.prefix ≡ true → key_cmp order (datom_of table x.number) (datom_of table y.number) ≡ Less
lesser_member order table x y x_is y_is less =
    lesser_prefix order (datom_of table x.number) (datom_of table y.number)
    (subst (λ (p : Prefix). is_lesser (prefix_in order (datom_of table x.number)) p ≡ true) y_is.prefix_is
    (subst (λ (p : Prefix). is_lesser p y.prefix ≡ true) x_is.prefix_is less))
