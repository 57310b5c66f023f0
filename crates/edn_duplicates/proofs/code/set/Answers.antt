use Rattle.std.proofs.Common.{◌≡◌, map, vec_items, Vec, Global, ◌∙◌}
use Rattle.std.proofs.lemmas.Result.{IfOk-weaker}
use Rattle.edn_duplicates.specs.Code.{joined, InOrder}
use Rattle.edn_duplicates.specs.Order.{token_cmp}
use Rattle.edn_duplicates.specs.declared.token.CodeToken.{CodeToken}
use Rattle.edn_duplicates.specs.declared.token.CodeToken.TheVariants.{Set}
use Rattle.edn_duplicates.proofs.Steps.{in_order}
use Rattle.edn_duplicates.proofs.code.set.Goals as goal

pub returns : goal.returns
returns c =
    let sorted = c.in_ok-parts.parts in
    IfOk-weaker c.join.result (λ (r : Vec CodeToken Global). r.items ≡ joined (Set c.len.result) (map vec_items sorted.items))
    (λ (r : Vec CodeToken Global). InOrder token_cmp Set (map vec_items c.args.parts.items) r.items)
    (λ r j. in_order Set c.args.parts.items sorted.items c.len.result r.items c.in_ok-parts.ensures.shuffled c.in_ok-parts.ensures.rises
    (c.len.ensures ∙ sorted.ok.0) j) c.join.ensures
