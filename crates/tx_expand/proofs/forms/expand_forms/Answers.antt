use Rattle.std.proofs.Common.{◌≡◌, ◌+◌, [], ◌∷◌, ◌++◌, drop, map, ap, sym, ◌∙◌, subst, rules}
use Rattle.std.specs.Prelude.{false, filter}
use Rattle.std.specs.List.{All}
use Rattle.std.proofs.lemmas.List.{drop_more, drop_all}
use Rattle.std.proofs.lemmas.List.Elements.{All-push}
use Rattle.tx_forms.specs.Parts.{parts_of}
use Rattle.tx_asks.specs.Asks.{IsTyped}
use Rattle.tx_expand.specs.Numbered.{walk_form, walk_forms, next_behind}
use Rattle.tx_expand.specs.Faults.{form_faults, ask_read, is_kept}
use Rattle.tx_expand.specs.Rules.{first_unknown, firsts_from, earlier_ones, firsts_of}
use Rattle.tx_expand.proofs.LookupLists.{begin_with_themselves}
use Rattle.tx_expand.proofs.OneMore.{known_behind, firsts_behind, firsts_at_end, append_none, map_then}
use Rattle.tx_expand.proofs.forms.expand_forms.Goals as goal

pub loop-form-preserved : goal.loop-form-preserved
loop-form-preserved c =
    let facts = c.args.schema.now in
    let fs = c.args.forms.now in
    let i = c.loop-form.form-index in
    let n = c.loop-form.place in
    let f = c.form-item.result in
    let rest = drop (i + 1) fs in
    let t = walk_form facts c.loop-form.out.next (parts_of f) in
    let more = walk_forms facts t.next (map parts_of rest) in
    let behind = c.expand_form.new.out.next in
    let here : drop i fs ≡ f ∷ rest = drop_more fs i f (search rules) ∙ ap (λ q. q ∷ rest) (sym c.form-item.is) in
    let next_is : behind ≡ t.next = c.in_ok-found.ensures.next in
    let known : (form_faults facts t.asks).unknown ≡ false =
    ap (λ found. found.unknown) (sym c.in_ok-found.ensures.faults) ∙ c.if-found.false in
    record {
      place_is = ap (λ k. k + 1) c.loop-form.invariant.place_is;
      known =
          ap (λ k. first_unknown facts (n + 1) (walk_forms facts k (map parts_of rest))) next_is
          ∙ sym (known_behind facts n t.asks more known)
          ∙ ap (λ xs. first_unknown facts n (walk_forms facts c.loop-form.out.next (map parts_of xs))) (sym here)
          ∙ c.loop-form.invariant.known;
      firsts_are =
          ap (λ firsts. earlier_ones firsts (firsts_from facts (n + 1) (walk_forms facts behind (map parts_of rest))))
          c.with_faults-firsts.ensures
          ∙ ap (λ found. earlier_ones (earlier_ones c.loop-form.firsts (firsts_of found n))
          (firsts_from facts (n + 1) (walk_forms facts behind (map parts_of rest)))) c.in_ok-found.ensures.faults
          ∙ ap (λ k. earlier_ones (earlier_ones c.loop-form.firsts (firsts_of (form_faults facts t.asks) n))
          (firsts_from facts (n + 1) (walk_forms facts k (map parts_of rest)))) next_is
          ∙ firsts_behind facts c.loop-form.firsts n t.asks more
          ∙ ap (λ xs. earlier_ones c.loop-form.firsts (firsts_from facts n (walk_forms facts c.loop-form.out.next (map parts_of xs))))
          (sym here)
          ∙ c.loop-form.invariant.firsts_are;
      asks = λ all begin.
          ap (λ lists. map (λ form. map (ask_read all) form.items) lists
          ++ map (filter (is_kept facts)) (walk_forms facts behind (map parts_of rest))) c.in_ok-push.ensures.items
          ∙ map_then (λ form. map (ask_read all) form.items) c.loop-form.expanded.items c.in_ok-found.found.asks
          (map (filter (is_kept facts)) (walk_forms facts behind (map parts_of rest)))
          ∙ ap (λ asks. map (λ form. map (ask_read all) form.items) c.loop-form.expanded.items
          ++ (asks ∷ map (filter (is_kept facts)) (walk_forms facts behind (map parts_of rest)))) (c.in_ok-found.ensures.asks all begin)
          ∙ ap (λ k. map (λ form. map (ask_read all) form.items) c.loop-form.expanded.items
          ++ (filter (is_kept facts) t.asks ∷ map (filter (is_kept facts)) (walk_forms facts k (map parts_of rest)))) next_is
          ∙ ap (λ xs. map (λ form. map (ask_read all) form.items) c.loop-form.expanded.items
          ++ map (filter (is_kept facts)) (walk_forms facts c.loop-form.out.next (map parts_of xs))) (sym here)
          ∙ c.loop-form.invariant.asks all (c.in_ok-found.ensures.kept all begin);
      read =
          subst (λ lists. All (λ form. All (IsTyped facts) form.items) lists) (sym c.in_ok-push.ensures.items)
          (All-push (λ form. All (IsTyped facts) form.items) c.loop-form.expanded.items c.in_ok-found.found.asks c.loop-form.invariant.read
          c.in_ok-found.ensures.read);
      judged = c.in_ok-found.ensures.judged;
      next =
          ap (λ k. next_behind facts k (map parts_of rest)) next_is
          ∙ ap (λ xs. next_behind facts c.loop-form.out.next (map parts_of xs)) (sym here)
          ∙ c.loop-form.invariant.next;
    }

pub returns : goal.returns
returns c =
    let facts = c.args.schema.now in
    let fs = c.args.forms.now in
    let n = c.loop-form.place in
    let at_end : drop c.loop-form.form-index fs ≡ [] = drop_all c.loop-form.form-index fs (search rules) in
    let all = c.loop-form.out.lookups.items in
    record {
      known =
          sym c.loop-form.invariant.known
          ∙ ap (λ xs. first_unknown facts n (walk_forms facts c.loop-form.out.next (map parts_of xs))) at_end;
      firsts_are =
          sym (firsts_at_end facts c.loop-form.firsts n)
          ∙ ap (λ xs. earlier_ones c.loop-form.firsts (firsts_from facts n (walk_forms facts c.loop-form.out.next (map parts_of xs))))
          (sym at_end)
          ∙ c.loop-form.invariant.firsts_are;
      asks_are =
          sym (append_none (map (λ form. map (ask_read all) form.items) c.loop-form.expanded.items))
          ∙ ap (λ xs. map (λ form. map (ask_read all) form.items) c.loop-form.expanded.items
          ++ map (filter (is_kept facts)) (walk_forms facts c.loop-form.out.next (map parts_of xs))) (sym at_end)
          ∙ c.loop-form.invariant.asks all (begin_with_themselves all);
      read = c.loop-form.invariant.read;
      counted = ap (λ xs. next_behind facts c.loop-form.out.next (map parts_of xs)) (sym at_end) ∙ c.loop-form.invariant.next;
    }
