use Rattle.std.proofs.Common.{◌≡◌, true, [], ◌∷◌, ◌++◌, take, sym, ap, subst, ◌∙◌}
use Rattle.std.specs.Prelude.{flat_map}
use Rattle.std.proofs.lemmas.List.{take_more, flat_map_more}
use Rattle.std.proofs.lemmas.List.Sums.{AllPass-from_list_all}
use Rattle.fb_values.specs.declared.facts.Datom.{Datom}
use Rattle.log_model.specs.Payload.{datom_bytes}
use Rattle.log_model.specs.Storable.{is_storable_value}
use Rattle.fb_codec.specs.Entries.{has_storable_value}
use Rattle.fb_codec.proofs.entries.put_datoms.Goals as goal

pub put_datom-requires : goal.put_datom-requires
put_datom-requires c =
    subst (λ (d : Datom). is_storable_value 2 d.v ≡ true) (sym c.datom-item.is)
    (AllPass-from_list_all has_storable_value c.args.datoms.now c.requires
    c.loop-datom.datom-index c.datom-item.result c.loop-datom-test.true)

pub loop-datom-preserved : goal.loop-datom-preserved
loop-datom-preserved c =
    let datoms = c.args.datoms.now in
    let old = c.args.out.now.items in
    let i = c.loop-datom.datom-index in
    let datom = c.datom-item.result in
    let with_datom = take_more datoms i datom c.loop-datom-test.true ∙ ap (λ d. take i datoms ++ d ∷ []) (sym c.datom-item.is) in
    c.in_ok-put_datom.ensures
    ∙ ap (λ l. l ++ datom_bytes datom) c.loop-datom.invariant
    ∙ flat_map_more datom_bytes old (take i datoms) datom
    ∙ ap (λ l. old ++ flat_map datom_bytes l) (sym with_datom)
