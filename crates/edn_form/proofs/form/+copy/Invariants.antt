use Rattle.std.proofs.Common.{◌≡◌, take}
use Rattle.edn_form.specs.View.{forms_of, pairs_of}
use Rattle.edn_form.proofs.form.+copy.Given as goal

abbrev pub invariant-Items::copy-loop-item : goal.invariant-Items::copy-loop-item
invariant-Items::copy-loop-item l = forms_of l.items.items ≡ forms_of (take l.item-index l.item-items)

abbrev pub invariant-Pairs::copy-loop-key : goal.invariant-Pairs::copy-loop-key
invariant-Pairs::copy-loop-key l = pairs_of l.pairs.items ≡ pairs_of (take l.key-index l.key-items)
