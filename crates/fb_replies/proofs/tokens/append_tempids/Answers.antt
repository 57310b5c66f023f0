use Rattle.std.proofs.Common.{◌≡◌, map, take, refl, sym, subst, arith}
use Rattle.std.proofs.lemmas.List.{take_all}
use Rattle.edn_model.specs.Form.{pairs}
use Rattle.edn_model.specs.Canon.{CanonPairs}
use Rattle.edn_print.specs.Printed.{Appends}
use Rattle.talk_model.specs.Replies.{tempid_pair}
use Rattle.fb_replies.proofs.Growing.{no_pair, pair_taken}
use Rattle.fb_replies.proofs.tokens.append_tempids.Goals as goal

pub loop-index-init : goal.loop-index-init
loop-index-init c = no_pair c.args.line.now.items

pub loop-index-preserved : goal.loop-index-preserved
loop-index-preserved c =
    let x = c.index-tempids-index.result in
    pair_taken tempid_pair c.args.tempids.now c.loop-index.index x _ _ _ _ _ _ (omega arith)
    (sym c.index-tempids-index.is) c.loop-index.invariant c.in_ok-separate.ensures
    (record { text = _; is = refl; behind = c.in_ok-append_string.ensures }) c.in_ok-append.ensures c.in_ok-append_entity.ensures

pub returns : goal.returns
returns c =
    let xs = c.args.tempids.now in
    let whole : take c.loop-index.index xs ≡ xs = take_all c.loop-index.index xs (omega arith) in
    subst (λ ts. Appends (CanonPairs (pairs (map tempid_pair ts))) c.args.line.now.items c.loop-index.line.items) whole
    c.loop-index.invariant
