use Rattle.std.proofs.Common.{◌≡◌, ◌+◌, ◌-◌, ◌∙◌, ◌++◌, [], ◌∷◌, length, take, drop, cond, true, ap, sym, subst, arith, append_assoc}
use Rattle.std.specs.Prelude.{filter}
use Rattle.std.proofs.lemmas.Bool.{and_parts}
use Rattle.tx_after.specs.Triples.{triples_rise, is_added, with_changes}
use Rattle.tx_after.proofs.Drops.{drop_first, drop_end, whole_rest}
use Rattle.tx_after.proofs.Merging.{step-old, step-told, step-new, left_no_facts, left_no_changes, low_rest}
use Rattle.tx_after.proofs.merge.merged.Goals as goal
use Rattle.tx_after.proofs.merge.merged.Goals.{then-loop-old-test+else-new-changes, else-loop-old-test}

pub loop-old-preserved-in-Less : goal.loop-old-preserved-in-Less
loop-old-preserved-in-Less c =
    let order = c.args.order in
    let b = c.index-before-old.result in
    let new = c.index-changes-new.result in
    let bs = drop (c.loop-old.old + 1) c.args.before.now in
    let cs = drop (c.loop-old.new + 1) c.args.changes.now in
    let old_is = drop_first c.args.before.now c.loop-old.old b (omega arith) c.index-before-old.is in
    let new_is = drop_first c.args.changes.now c.loop-old.new new (omega arith) c.index-changes-new.is in
    let rise_b = subst (λ l. triples_rise order l ≡ true) old_is c.loop-old.invariant.before_rises in
    let rise_c = subst (λ l. triples_rise order l ≡ true) new_is c.loop-old.invariant.changes_rise in
    let step = step-old order b new bs cs rise_b rise_c (sym c.cmp_triples.ensures ∙ c.in-Less.is) in
    let pushed = c.in_ok-push-in-Less.ensures.items ∙ ap (λ d. c.loop-old.after.items ++ d ∷ []) c.in_ok-copy-in-Less.ensures in
    record {
      old_in = omega arith;
      new_in = omega arith;
      so_far =
          ap (λ l. l ++ with_changes order bs (drop c.loop-old.new c.args.changes.now)) pushed
          ∙ append_assoc c.loop-old.after.items (b ∷ []) (with_changes order bs (drop c.loop-old.new c.args.changes.now))
          ∙ ap (λ l. c.loop-old.after.items ++ l)
          (ap (λ l. b ∷ with_changes order bs l) new_is
          ∙ sym step
          ∙ ap (λ l. with_changes order l (new ∷ cs)) (sym old_is)
          ∙ ap (with_changes order (drop c.loop-old.old c.args.before.now)) (sym new_is))
          ∙ c.loop-old.invariant.so_far;
      before_rises = (and_parts _ _ rise_b).1;
      changes_rise = c.loop-old.invariant.changes_rise;
    }

pub loop-old-preserved-in-Equal : goal.loop-old-preserved-in-Equal
loop-old-preserved-in-Equal c =
    let order = c.args.order in
    let b = c.index-before-old.result in
    let new = c.index-changes-new.result in
    let bs = drop (c.loop-old.old + 1) c.args.before.now in
    let cs = drop (c.loop-old.new + 1) c.args.changes.now in
    let old_is = drop_first c.args.before.now c.loop-old.old b (omega arith) c.index-before-old.is in
    let new_is = drop_first c.args.changes.now c.loop-old.new new (omega arith) c.index-changes-new.is in
    let step = step-told order b new bs cs (sym c.cmp_triples.ensures ∙ c.in-Equal.is) in
    let rise_b = subst (λ l. triples_rise order l ≡ true) old_is c.loop-old.invariant.before_rises in
    record {
      old_in = omega arith;
      new_in = omega arith;
      so_far =
          ap (λ l. c.loop-old.after.items ++ l)
          (ap (with_changes order bs) new_is
          ∙ sym step
          ∙ ap (λ l. with_changes order l (new ∷ cs)) (sym old_is)
          ∙ ap (with_changes order (drop c.loop-old.old c.args.before.now)) (sym new_is))
          ∙ c.loop-old.invariant.so_far;
      before_rises = (and_parts _ _ rise_b).1;
      changes_rise = c.loop-old.invariant.changes_rise;
    }

pub loop-old-preserved : goal.loop-old-preserved
loop-old-preserved c =
    let order = c.args.order in
    let b = c.index-before-old.result in
    let new = c.index-changes-new.result in
    let bs = drop (c.loop-old.old + 1) c.args.before.now in
    let cs = drop (c.loop-old.new + 1) c.args.changes.now in
    let old_is = drop_first c.args.before.now c.loop-old.old b (omega arith) c.index-before-old.is in
    let new_is = drop_first c.args.changes.now c.loop-old.new new (omega arith) c.index-changes-new.is in
    let rise_b = subst (λ l. triples_rise order l ≡ true) old_is c.loop-old.invariant.before_rises in
    let rise_c = subst (λ l. triples_rise order l ≡ true) new_is c.loop-old.invariant.changes_rise in
    let low = low_rest order new b bs (sym c.cmp_triples.ensures ∙ c.in-Greater.is) rise_b in
    let step = step-new order new (b ∷ bs) cs low rise_c in
    let one = cond new.added (new ∷ []) [] in
    record {
      old_in = omega arith;
      new_in = omega arith;
      so_far =
          ap (λ l. l ++ with_changes order (drop c.loop-old.old c.args.before.now) cs) c.in_ok-push_addition-in-Greater.ensures
          ∙ append_assoc c.loop-old.after.items one (with_changes order (drop c.loop-old.old c.args.before.now) cs)
          ∙ ap (λ l. c.loop-old.after.items ++ l)
          (ap (λ l. one ++ with_changes order l cs) old_is
          ∙ sym step
          ∙ ap (λ l. with_changes order l (new ∷ cs)) (sym old_is)
          ∙ ap (with_changes order (drop c.loop-old.old c.args.before.now)) (sym new_is))
          ∙ c.loop-old.invariant.so_far;
      before_rises = c.loop-old.invariant.before_rises;
      changes_rise = (and_parts _ _ rise_c).1;
    }

pub returns : goal.returns
returns c =
    let order = c.args.order in
    let before = c.args.before.now in
    let changes = c.args.changes.now in
    let old = c.loop-old.old in
    let new = c.loop-old.new in
    let bs = drop old before in
    let cs = drop new changes in
    let left : with_changes order bs cs ≡ bs ++ filter is_added cs = elim c.loop-old-test.branch [
      | then-loop-old-test+else-new-changes w ↦
          left_no_changes order bs cs (drop_end changes new (omega (arith, w.if-new-changes.false))) c.loop-old.invariant.before_rises
      | else-loop-old-test w ↦
          left_no_facts order bs cs (drop_end before old (omega (arith, w.loop-old-test.false))) c.loop-old.invariant.changes_rise
    ] in
    c.in_ok-push_additions.ensures
    ∙ ap (λ l. l ++ filter is_added (take (length changes - new) cs))
    (c.in_ok-push_all.ensures ∙ ap (λ l. c.loop-old.after.items ++ l) (whole_rest before old))
    ∙ ap (λ l. (c.loop-old.after.items ++ bs) ++ filter is_added l) (whole_rest changes new)
    ∙ append_assoc c.loop-old.after.items bs (filter is_added cs)
    ∙ ap (λ l. c.loop-old.after.items ++ l) (sym left)
    ∙ c.loop-old.invariant.so_far
