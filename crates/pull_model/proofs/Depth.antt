-- What stands deeper than the limit tells in nothing: with more room the answer is the same.
use Rattle.std.proofs.Common.{◌≡◌, ℕ, zero, suc, ◌+◌, ◌<◌, List, [], ◌∷◌, nat_lt, ap, sym, ◌∙◌, subst, arith, inl, inr, suc-add, cond, Ok}
use Rattle.std.proofs.Common.{Err}
use Rattle.std.proofs.lemmas.Bool.{or_right, lt-ltb}
use Rattle.pull_model.specs.Patterns.{Pattern, everything, one_less}
use Rattle.pull_model.specs.Found.{Db}
use Rattle.pull_model.specs.Made.{Made}
use Rattle.pull_model.specs.Tree.{tree}
use Rattle.edn_model.specs.Form.{nil}
use Rattle.read_refusals.specs.declared.reasons.Reason.TheVariants.{TooLarge}
use Rattle.std.specs.Prelude.{unwrap_or}
use Rattle.pull_model.specs.Pull.{most_around, most_maps, answered}
use Rattle.pull_model.proofs.Agreement.{Same, Agree, same_inside, same_enclosed}

has_depth : (room : ℕ) (db : Db) (pattern : Pattern) (above : List ℕ) (e : ℕ) → 0 < (tree room db pattern above e).depth
has_depth zero db pattern above e = omega arith
has_depth (suc room) db pattern above e = omega arith

agree_everywhere : (room : ℕ) (trees others : Pattern → List ℕ → ℕ → Made) (db : Db) (pattern : Pattern) (path : List ℕ)
    → ((inner : Pattern) (above : List ℕ) (n : ℕ) → Same room (trees inner above n) (others inner above n))
    → Agree room trees others db pattern path
agree_everywhere room trees others db pattern path same =
    record {
      part = λ n off on. same everything path n;
      less = λ place n off on. same (one_less place pattern) path n;
      again = λ n off on. same pattern path n;
      inner = λ below n low. same below [] n;
    }

pub same_with_more : (room more : ℕ) (db : Db) (pattern : Pattern) (above : List ℕ) (e : ℕ)
    → Same room (tree room db pattern above e) (tree (room + more) db pattern above e)
same_with_more zero more db pattern above e = inr (omega arith, has_depth (0 + more) db pattern above e)
same_with_more (suc room) more db pattern above e =
    subst (λ k. Same (suc room) (tree (suc room) db pattern above e) (tree k db pattern above e)) (sym (suc-add room more))
    (same_enclosed room _ _ (same_inside room (tree room db) (tree (room + more) db) db pattern above e
    (agree_everywhere room (tree room db) (tree (room + more) db) db pattern (e ∷ above)
    (λ inner path n. same_with_more room more db inner path n))))

refused_as_deep : (made : Made) → most_around < made.depth → answered made ≡ Err TooLarge
refused_as_deep made deep =
    ap (λ b. cond b (Err TooLarge) (Ok (unwrap_or made.form nil)))
    (or_right (nat_lt most_maps made.maps) (nat_lt most_around made.depth) (lt-ltb most_around made.depth deep))

same_answer : (made other : Made) → Same most_around made other → answered other ≡ answered made
same_answer made other (inl low) = ap answered low.1
same_answer made other (inr high) = refused_as_deep other high.1 ∙ sym (refused_as_deep made high.0)

pub answered_with_more : (db : Db) (pattern : Pattern) (e more : ℕ)
    → answered (tree (most_around + more) db pattern [] e) ≡ answered (tree most_around db pattern [] e)
answered_with_more db pattern e more = same_answer _ _ (same_with_more most_around more db pattern [] e)
