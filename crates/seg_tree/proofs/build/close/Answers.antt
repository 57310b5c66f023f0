use Rattle.std.proofs.Common.{◌≡◌, ◌+◌, ◌<◌, ◌^◌, ◌++◌, ◌∷◌, [], List, map, subst, sym, ap, ◌∙◌, arith}
use Rattle.std.specs.Arc.{arc_value}
use Rattle.std.proofs.lemmas.List.{map-append}
use Rattle.seg_tree.specs.Nodes.{DirectoryNode}
use Rattle.seg_tree.specs.Built.{build_of, IsGrowing}
use Rattle.seg_tree.proofs.Growing.{growing_closed, build_closed}
use Rattle.seg_tree.proofs.build.close.Goals as goal

pub returns-clause-growing : goal.returns-clause-growing
returns-clause-growing c =
    let ds = map arc_value c.args.directories.items in
    let ls = map arc_value c.args.leaves.items in
    let own : DirectoryNode = record { id = c.args.next; leaves = ls } in
    let small : c.args.next < 2 ^ 62 = omega (arith, c.if-next-ge-IDS.false) in
    let pushed : map arc_value c.push.new.self.items ≡ ds ++ own ∷ [] =
    ap (map arc_value) c.in_ok-push.ensures.items
    ∙ map-append arc_value c.args.directories.items (c.in_ok-new.field-0 ∷ [])
    ∙ ap (λ (d : DirectoryNode). ds ++ d ∷ []) (c.in_ok-new.ensures.ok ∙ c.in_ok-directory.ensures) in
    subst (λ (all : List DirectoryNode). IsGrowing c.args.first (c.args.next + 1) all []) (sym pushed)
    (growing_closed c.args.first c.args.next ds ls small c.requires.growing)

pub returns-clause-same : goal.returns-clause-same
returns-clause-same c =
    let ds = map arc_value c.args.directories.items in
    let ls = map arc_value c.args.leaves.items in
    let own : DirectoryNode = record { id = c.args.next; leaves = ls } in
    let pushed : map arc_value c.push.new.self.items ≡ ds ++ own ∷ [] =
    ap (map arc_value) c.in_ok-push.ensures.items
    ∙ map-append arc_value c.args.directories.items (c.in_ok-new.field-0 ∷ [])
    ∙ ap (λ (d : DirectoryNode). ds ++ d ∷ []) (c.in_ok-new.ensures.ok ∙ c.in_ok-directory.ensures) in
    ap (λ (all : List DirectoryNode). build_of c.args.first all []) pushed ∙ build_closed c.args.first c.args.next ds ls
