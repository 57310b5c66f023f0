-- The tree by the room that is left, and a map with one item more.
use Rattle.std.proofs.Common.{◌≡◌, ◌≢◌, ℕ, zero, suc, ◌+◌, ◌-◌, ◌<◌, List, length, get_or, drop, fold, refl, ap, sym, ◌∙◌, arith}
use Rattle.std.proofs.lemmas.List.{drop_more}
use Rattle.pull_model.specs.Patterns.{Pattern, Item}
use Rattle.pull_model.specs.Found.{Db}
use Rattle.pull_model.specs.Made.{Made, Inside, enclosed}
use Rattle.pull_model.specs.Tree.{inside, tree, with_item}

pub some_room : (room : ℕ) (db : Db) (pattern : Pattern) (above : List ℕ) (e : ℕ) → room ≢ 0
    → enclosed (inside (tree (room - 1) db) db pattern above e) ≡ tree room db pattern above e
some_room zero db pattern above e some = absurd (some refl)
some_room (suc room) db pattern above e some =
    let less : suc room - 1 ≡ room = omega arith in
    ap (λ r. enclosed (inside (tree r db) db pattern above e)) less

pub one_more : (made : ℕ → Item → Made) (before : Inside) (list : List (ℕ × Item)) (n : ℕ) (next : ℕ × Item)
    → n < length list → next ≡ get_or list n next
    → fold (with_item made) (with_item made before next) (drop (n + 1) list) ≡ fold (with_item made) before (drop n list)
one_more made before list n next below is =
    ap (λ (p : ℕ × Item). fold (with_item made) (with_item made before p) (drop (n + 1) list)) is
    ∙ sym (ap (fold (with_item made) before) (drop_more list n next below))
