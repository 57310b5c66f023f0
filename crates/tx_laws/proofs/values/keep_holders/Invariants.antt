use Rattle.std.proofs.Common.{◌≡◌, true, drop}
use Rattle.std.specs.List.{list_all}
use Rattle.std.specs.Option.{option_map_or}
use Rattle.std.specs.Ordering.{nat_cmp}
use Rattle.std.specs.BTreeMap.{get}
use Rattle.fb_values.specs.declared.facts.Datom.{Datom}
use Rattle.tx_laws.specs.declared.altered.Altered.{Altered}
use Rattle.tx_laws.proofs.values.keep_holders.Given as goal

abbrev pub invariant-loop-d : goal.invariant-loop-d
invariant-loop-d l =
    list_all (λ (d : Datom). option_map_or (λ (a : Altered). a.keeps_holders) (get nat_cmp l.altered d.e) true) (drop l.d-index l.datoms)
    ≡ list_all (λ (d : Datom). option_map_or (λ (a : Altered). a.keeps_holders) (get nat_cmp l.altered d.e) true) l.datoms
