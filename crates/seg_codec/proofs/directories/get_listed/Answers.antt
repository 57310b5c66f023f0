use Rattle.std.proofs.Common.{◌≡◌, ◌+◌, ◌-◌, ◌++◌, ◌∷◌, [], ℕ, List, map, drop, sym, subst, ap, ◌∙◌, arith, length-append}
use Rattle.std.specs.Prelude.{length, All, Contains, nat_eq}
use Rattle.std.specs.List.{IsDistinct}
use Rattle.std.specs.Arc.{arc_value}
use Rattle.std.proofs.lemmas.Bool.{and_parts}
use Rattle.std.proofs.lemmas.Result.{err_from_is_err_and}
use Rattle.std.proofs.lemmas.List.Elements.{All-push}
use Rattle.log_model.specs.Fields.{that_fits, read_u64}
use Rattle.log_model.specs.Nodes.{is_leaf_id}
use Rattle.log_model.specs.Merges.{several_over}
use Rattle.seg_tree.specs.Nodes.{LeafNode}
use Rattle.seg_tree.specs.Ids.{leaf_ids}
use Rattle.seg_codec.specs.Trees.{file_leaf}
use Rattle.seg_codec.proofs.Listing.{is_not, no_leaves, ids_pushed, leaves_pushed}
use Rattle.seg_codec.proofs.Among.{once_push}
use Rattle.seg_codec.proofs.SeveralOver.{with_front, with_none, goes_on, stops}
use Rattle.seg_codec.proofs.directories.get_listed.Goals as goal

pub returns-in_err-leaf-clause-gives : goal.returns-in_err-leaf-clause-gives
returns-in_err-leaf-clause-gives c =
    let bytes = c.args.bytes.now in
    let ids = leaf_ids (map arc_value c.loop.leaves.items) in
    let exit = err_from_is_err_and c.from_residual-in_err-leaf.result c.from_residual-in_err-leaf.ensures.1 in
    let total = several_over (λ (before : List ℕ) more. that_fits (is_leaf_id c.args.nodes.now before) read_u64 more)
    (λ before leaf. before ++ leaf ∷ []) [] c.args.count (drop c.args.at bytes) in
    rw (exit.1, exit.2) (stops (λ (before : List ℕ) more. that_fits (is_leaf_id c.args.nodes.now before) read_u64 more)
    (λ before leaf. before ++ leaf ∷ []) ids ids c.args.count c.loop.counter
    (drop c.loop.end bytes) total c.loop.invariant.so_far bytes _ c.loop-test.true c.in_err-leaf.ensures.gives)

pub loop-init : goal.loop-init
loop-init c =
    let none = no_leaves arc_value c.in_ok-leaves.leaves.items c.in_ok-leaves.ensures.items c.args.nodes.now in
    let all : c.args.count - 0 ≡ c.args.count = omega arith in record {
      within = c.requires;
      len = ap (length {A = _}) c.in_ok-leaves.ensures.items;
      there = none.0;
      once = none.1;
      so_far = (λ i. with_front (none.2 i) (several_over (λ (before : List ℕ) more. that_fits
          (is_leaf_id c.args.nodes.now before) read_u64 more) (λ before leaf. before ++ leaf ∷ []) (none.2 i) (all i)
          (drop c.args.at c.args.bytes.now))) ∙ with_none _;
    }

pub loop-preserved : goal.loop-preserved
loop-preserved c =
    let bytes = c.args.bytes.now in
    let leaf = arc_value {X = LeafNode} c.in_ok-leaf.leaf in
    let items = c.loop.leaves.items in
    let ids = leaf_ids (map arc_value items) in
    let behind = drop c.in_ok-leaf.next bytes in
    let gives = c.in_ok-leaf.ensures.gives in
    let total = several_over (λ (before : List ℕ) more. that_fits (is_leaf_id c.args.nodes.now before) read_u64 more)
    (λ before leaf. before ++ leaf ∷ []) [] c.args.count (drop c.args.at bytes) in
    let pushed = leaves_pushed arc_value items c.push.new.self.items c.in_ok-leaf.leaf c.in_ok-push.ensures.items in
    let ids_now = ids_pushed arc_value items c.push.new.self.items c.in_ok-leaf.leaf c.in_ok-push.ensures.items in record {
      within = gives.0;
      len = ap length c.in_ok-push.ensures.items ∙ omega (arith, length-append items (c.in_ok-leaf.leaf ∷ []), c.loop.invariant.len);
      there = subst (All (λ (l : LeafNode). Contains c.args.nodes.now.leaves (file_leaf l))) (sym pushed)
          (All-push (λ (l : LeafNode). Contains c.args.nodes.now.leaves (file_leaf l))
          (map arc_value items) leaf c.loop.invariant.there c.in_ok-leaf.ensures.there);
      once = subst (IsDistinct nat_eq) (sym ids_now)
          (once_push ids leaf.id c.loop.invariant.once (is_not _ (and_parts _ _ c.in_ok-leaf.ensures.new).1));
      so_far = subst (λ (l : List ℕ). with_front l (several_over (λ (before : List ℕ) more. that_fits
          (is_leaf_id c.args.nodes.now before) read_u64 more) (λ before leaf. before ++ leaf ∷ []) l
          (c.args.count - (c.loop.counter + 1)) behind) ≡ total) (sym ids_now)
          (goes_on (λ (before : List ℕ) more. that_fits (is_leaf_id c.args.nodes.now before) read_u64 more)
          (λ before leaf. before ++ leaf ∷ []) ids ids c.args.count c.loop.counter
          (drop c.loop.end bytes) total c.loop.invariant.so_far leaf.id behind c.loop-test.true gives.1);
    }
