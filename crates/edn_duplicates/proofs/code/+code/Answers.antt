use Rattle.std.proofs.Common.{◌≡◌, length, map, vec_items, Vec, Global, arith}
use Rattle.std.proofs.lemmas.Result.{IfOk-weaker}
use Rattle.edn_form.specs.View.{form_of}
use Rattle.edn_duplicates.specs.Code.{joined, InOrder, IsCode}
use Rattle.edn_duplicates.specs.Order.{token_cmp}
use Rattle.edn_duplicates.specs.declared.token.CodeToken.{CodeToken}
use Rattle.edn_duplicates.specs.declared.token.CodeToken.TheVariants.{Sequence, Map, Set}
use Rattle.edn_duplicates.proofs.Steps.{items_step, pairs_step, of_list, of_vector, of_set, of_map}
use Rattle.edn_duplicates.proofs.code.+code.Goals as goal

pub codes-loop-item-preserved : goal.codes-loop-item-preserved
codes-loop-item-preserved t c =
    items_step c.args.items.now c.loop-item.item-index c.item-item.result c.loop-item.codes.items c.push.new.self.items c.in_ok-code.field-0
    (omega arith) c.item-item.is c.in_ok-push.ensures.items c.loop-item.invariant c.in_ok-code.ensures

pub pair_codes-loop-key-preserved : goal.pair_codes-loop-key-preserved
pair_codes-loop-key-preserved t c =
    pairs_step c.args.pairs.now c.loop-key.key-index c.loop-key-item.result c.loop-key.codes.items c.push.new.self.items
    c.in_ok-code.field-0 c.in_ok-code-2.field-0 c.in_ok-pair.field-0
    (omega arith) c.loop-key-item.is c.in_ok-push.ensures.items c.loop-key.invariant c.in_ok-code.ensures c.in_ok-code-2.ensures
    c.in_ok-pair.ensures

pub code-returns-in_ok-codes-in-List : goal.code-returns-in_ok-codes-in-List
code-returns-in_ok-codes-in-List t c =
    let parts = map vec_items c.in_ok-codes-in-List.field-0.items in
    IfOk-weaker c.sequence.result (λ (r : Vec CodeToken Global). r.items ≡ joined (Sequence (length parts)) parts)
    (λ (r : Vec CodeToken Global). IsCode token_cmp (form_of c.args.form.now) r.items)
    (λ r j. of_list c.args.form.now c.in-List.items c.as_slice.result.now parts r.items c.in-List.is c.as_slice.ensures
    c.in_ok-codes-in-List.ensures j) c.sequence.ensures

pub code-returns-in_ok-codes-in-Vector : goal.code-returns-in_ok-codes-in-Vector
code-returns-in_ok-codes-in-Vector t c =
    let parts = map vec_items c.in_ok-codes-in-Vector.field-0.items in
    IfOk-weaker c.sequence-in-Vector.result (λ (r : Vec CodeToken Global). r.items ≡ joined (Sequence (length parts)) parts)
    (λ (r : Vec CodeToken Global). IsCode token_cmp (form_of c.args.form.now) r.items)
    (λ r j. of_vector c.args.form.now c.in-Vector.items c.as_slice-in-Vector.result.now parts r.items c.in-Vector.is
    c.as_slice-in-Vector.ensures c.in_ok-codes-in-Vector.ensures j) c.sequence-in-Vector.ensures

pub code-returns-in_ok-codes-in-Set : goal.code-returns-in_ok-codes-in-Set
code-returns-in_ok-codes-in-Set t c =
    let parts = map vec_items c.in_ok-codes-in-Set.field-0.items in
    IfOk-weaker c.set.result (λ (r : Vec CodeToken Global). InOrder token_cmp Set parts r.items)
    (λ (r : Vec CodeToken Global). IsCode token_cmp (form_of c.args.form.now) r.items)
    (λ r j. of_set c.args.form.now c.in-Set.items c.as_slice-in-Set.result.now parts r.items c.in-Set.is c.as_slice-in-Set.ensures
    c.in_ok-codes-in-Set.ensures j) c.set.ensures

pub code-returns-in_ok-pair_codes-in-Map : goal.code-returns-in_ok-pair_codes-in-Map
code-returns-in_ok-pair_codes-in-Map t c =
    let parts = map vec_items c.in_ok-pair_codes-in-Map.field-0.items in
    IfOk-weaker c.map.result (λ (r : Vec CodeToken Global). InOrder token_cmp Map parts r.items)
    (λ (r : Vec CodeToken Global). IsCode token_cmp (form_of c.args.form.now) r.items)
    (λ r j. of_map c.args.form.now c.in-Map.pairs c.as_slice-in-Map.result.now parts r.items c.in-Map.is c.as_slice-in-Map.ensures
    c.in_ok-pair_codes-in-Map.ensures j) c.map.ensures
