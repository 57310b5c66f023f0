use Rattle.std.proofs.Common.{map, take, vec_items}
use Rattle.edn_model.specs.Form as form
use Rattle.edn_form.specs.View.{forms_of, pairs_of}
use Rattle.edn_duplicates.specs.Code.{AreCodes, ArePairCodes}
use Rattle.edn_duplicates.specs.Order.{token_cmp}
use Rattle.edn_duplicates.proofs.code.+code.Given as goal

abbrev pub invariant-codes-loop-item : goal.invariant-codes-loop-item
invariant-codes-loop-item l = AreCodes token_cmp (form.forms (forms_of (take l.item-index l.items))) (map vec_items l.codes.items)

abbrev pub invariant-pair_codes-loop-key : goal.invariant-pair_codes-loop-key
invariant-pair_codes-loop-key l = ArePairCodes token_cmp (form.pairs (pairs_of (take l.key-index l.pairs))) (map vec_items l.codes.items)
