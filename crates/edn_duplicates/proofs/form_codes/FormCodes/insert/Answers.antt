use Rattle.std.proofs.Common.{not, ◌++◌, refl, ap, sym, subst, ◌∙◌}
use Rattle.std.proofs.lemmas.Result.{IfOk-weaker}
use Rattle.edn_duplicates.specs.Order.{token_cmp}
use Rattle.edn_duplicates.specs.FormCodes.{codes_in, HasOneMore}
use Rattle.edn_duplicates.proofs.Sayings.{found, among_few, in_neither, had_before, one_of_few}
use Rattle.edn_duplicates.proofs.form_codes.FormCodes.insert.Goals as goal

pub returns-then-contains-clause-fresh : goal.returns-then-contains-clause-fresh
unfolding token_cmp
returns-then-contains-clause-fresh c =
    let codes = c.args.self.now in
    let there = found c.args.code codes.few.items c.as_slice.result.now _ c.as_slice.ensures.value c.if-contains.ensures.value in
    sym (ap not (among_few c.args.code codes.few.items codes.many.keys there))

pub returns-then-contains-clause-added : goal.returns-then-contains-clause-added
unfolding token_cmp
returns-then-contains-clause-added c =
    let codes = c.args.self.now in
    let there = found c.args.code codes.few.items c.as_slice.result.now _ c.as_slice.ensures.value c.if-contains.ensures.value in
    had_before c.args.code _ (among_few c.args.code codes.few.items codes.many.keys there)

pub returns-then-is_empty-clause-fresh : goal.returns-then-is_empty-clause-fresh
unfolding token_cmp
returns-then-is_empty-clause-fresh c =
    let codes = c.args.self.now in
    let new = found c.args.code codes.few.items c.as_slice.result.now _ c.as_slice.ensures.value c.if-contains.ensures.value in
    let nowhere = in_neither c.args.code codes.few.items codes.many.keys new (c.if-is_empty.ensures.0 refl) in
    IfOk-weaker c.add_few.result _ _ (λ fresh is. is ∙ sym (ap not nowhere)) c.add_few.ensures.fresh

pub returns-then-is_empty-clause-added : goal.returns-then-is_empty-clause-added
returns-then-is_empty-clause-added c =
    let code = c.args.code in
    let codes = c.args.self.now in
    let added = c.add_few.new.self in
    IfOk-weaker c.add_few.result _ _ (λ _ more. subst (λ many. HasOneMore code (codes_in codes) (added.few.items ++ many.keys))
    (sym c.add_few.ensures.many) (one_of_few code codes.few.items added.few.items codes.many.keys more))
    c.add_few.ensures.few
