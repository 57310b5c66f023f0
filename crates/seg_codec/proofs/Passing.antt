-- Roots that are read: what passes their tests, and the trees of them.
use Rattle.std.proofs.Common.{◌≡◌, ◌≤◌, ◌<◌, ◌+◌, ℕ, zero, suc, Bool, true, false, not, List, [], ◌∷◌, ◌++◌, length, map, drop, get_or}
use Rattle.std.proofs.Common.{refl, sym, ◌∙◌, ap, subst, arith, append_assoc, length-drop}
use Rattle.std.specs.Prelude.{fold, All, IsTrue}
use Rattle.std.proofs.lemmas.Bool.{true≢false, and_parts, and_from}
use Rattle.std.proofs.lemmas.List.{append-nil, drop_more}
use Rattle.std.proofs.lemmas.List.Elements.{All-nil, All-cons, All-head, All-tail, All-weaker}
use Rattle.log_model.specs.Fields.{Reading, found, misfit, mapped, that_fits, at_end, read_u32, read_u64}
use Rattle.log_model.specs.Storable.{is_u32}
use Rattle.log_model.specs.Nodes.{Directory, Nodes, Roots, is_among, is_directory_id, reaching, in_order_of_indexes}
use Rattle.log_model.specs.Merges.{several_over, read_list, read_root, four, read_roots, all_over}
use Rattle.log_model.proofs.Fields.{IsFound, found-IsFound, then-found, mapped-found, fits-found}
use Rattle.seg_tree.specs.Nodes.{DirectoryNode}
use Rattle.seg_tree.specs.Ids.{leaf_ids, node_ids, ids_of_four, AreDistinct}
use Rattle.seg_tree.specs.Indexes.{tree_in}
use Rattle.fb_values.specs.declared.indexes.Order.{Order}
use Rattle.fb_values.specs.declared.indexes.Order.TheVariants.{Eavt, Aevt, Avet, Vaet}
use Rattle.seg_tree.specs.declared.roots.Roots.{Roots as SegRoots}
use Rattle.seg_codec.specs.Trees.{Has, directory_ids, root_in, AreTreesOf}
use Rattle.seg_codec.specs.InFile.{IsDirectoryOf}
use Rattle.seg_codec.specs.Answers.{HasRoots, AreFound}
use Rattle.seg_codec.proofs.Among.{AreOnce, once_none}
use Rattle.seg_codec.proofs.Counted.{count-append, counted_once, ids_below_all, count_below}
use Rattle.seg_codec.proofs.Reaching.{may_reach, reach_fits, reach_is}

-- ---- what is read passes

abbrev Passes : {A : Type 0} → (List ℕ → Reading A) → (A → Bool) → Type 0
Passes {A} read test = (bytes : List ℕ) (a : A) (rest : List ℕ) → IsFound (read bytes) a rest → test a ≡ true

module _ {S A : Type 0} (read : S → List ℕ → Reading A) (test : S → A → Bool) (after : S → A → S) where
  several_pass : ((s : S) → Passes (read s) (test s)) → (n : ℕ) (s : S) → Passes (several_over read after s n) (all_over test after s)
  several_pass each zero s bytes items rest is = ap (all_over test after s) (sym is.0)
  several_pass each (suc n) s bytes items rest is =
      let cut = then-found (read s bytes)
      (λ a behind. mapped (λ more. a ∷ more) (several_over read after (after s a) n behind)) items rest is in
      let back = mapped-found (λ more. cut.0 ∷ more) (several_over read after (after s cut.0) n cut.1) items rest cut.3 in
      ap (all_over test after s) (sym back.2)
      ∙ and_from (test s cut.0) (all_over test after (after s cut.0) back.0) (each s bytes cut.0 cut.1 cut.2)
      (several_pass each n (after s cut.0) cut.1 back.0 rest back.1)

  list_passes : ((s : S) → Passes (read s) (test s)) → (fits : ℕ → Bool) (s : S)
      → Passes (read_list fits read after s) (all_over test after s)
  list_passes each fits s bytes items rest is =
      let cut = then-found (that_fits fits read_u32 bytes) (several_over read after s) items rest is in
      several_pass each cut.0 s cut.1 items rest cut.3

  several_len : (n : ℕ) (s : S) (bytes : List ℕ) (items : List A) (rest : List ℕ) → IsFound (several_over read after s n bytes) items rest
      → length items ≡ n
  several_len zero s bytes items rest is = ap length (sym is.0)
  several_len (suc n) s bytes items rest is =
      let cut = then-found (read s bytes)
      (λ a behind. mapped (λ more. a ∷ more) (several_over read after (after s a) n behind)) items rest is in
      let back = mapped-found (λ more. cut.0 ∷ more) (several_over read after (after s cut.0) n cut.1) items rest cut.3 in
      ap length (sym back.2) ∙ ap suc (several_len n (after s cut.0) cut.1 back.0 rest back.1)

in_order_four : (lists : List (List ℕ)) → length lists ≡ 4 → in_order_of_indexes (four lists) ≡ lists
in_order_four [] long = absurd (omega (arith, long))
in_order_four (a ∷ []) long = absurd (omega (arith, long))
in_order_four (a ∷ b ∷ []) long = absurd (omega (arith, long))
in_order_four (a ∷ b ∷ c ∷ []) long = absurd (omega (arith, long))
in_order_four (a ∷ b ∷ c ∷ d ∷ []) long = refl
in_order_four (a ∷ b ∷ c ∷ d ∷ e ∷ lists) long = absurd (omega (arith, long))

-- roots that are read name directories, and reach nothing twice
pub roots_pass : (nodes : Nodes) (bytes : List ℕ) (ids : Roots) (rest : List ℕ) → read_roots nodes bytes ≡ found ids rest
    → HasRoots nodes ids
roots_pass nodes bytes ids rest is =
    let back = mapped-found four (several_over (read_root nodes) (fold (reaching nodes)) [] 4 bytes) ids rest
    (found-IsFound (read_roots nodes bytes) ids rest is) in
    let whole : in_order_of_indexes ids ≡ back.0 = ap in_order_of_indexes (sym back.2)
    ∙ in_order_four back.0 (several_len (read_root nodes) test (fold (reaching nodes)) 4 [] bytes back.0 rest back.1) in
    ap (all_over test (fold (reaching nodes)) []) whole
    ∙ several_pass (read_root nodes) test (fold (reaching nodes)) root_passes 4 [] bytes back.0 rest back.1
  where
    test : List ℕ → List ℕ → Bool
    test = all_over (is_directory_id nodes) (reaching nodes)

    root_passes : (reached : List ℕ) → Passes (read_root nodes reached) (all_over (is_directory_id nodes) (reaching nodes) reached)
    root_passes reached =
        list_passes (λ before behind. that_fits (is_directory_id nodes before) read_u64 behind) (is_directory_id nodes) (reaching nodes)
        (λ before more id behind was. (fits-found (is_directory_id nodes before) read_u64 more id behind was).1) is_u32 reached

-- ---- the directories of roots

module _ (nodes : Nodes) where
  pub ids_known : (reached ids : List ℕ) → all_over (is_directory_id nodes) (reaching nodes) reached ids ≡ true
      → All (λ id. IsTrue (is_among (map (λ (d : Directory). d.id) nodes.directories) id)) ids
  ids_known reached [] every = All-nil (λ id. IsTrue (is_among (map (λ (d : Directory). d.id) nodes.directories) id))
  ids_known reached (id ∷ ids) every =
      let parts = and_parts (is_directory_id nodes reached id)
      (all_over (is_directory_id nodes) (reaching nodes) (reaching nodes reached id) ids) every in
      All-cons (λ x. IsTrue (is_among (map (λ (d : Directory). d.id) nodes.directories) x)) id ids (and_parts _ _ parts.0).0
      (ids_known (reaching nodes reached id) ids parts.1)

  abbrev IsOwn : DirectoryNode → Type 0
  IsOwn d = IsDirectoryOf nodes d.id d

  is_none : (b : Bool) → not b ≡ true → b ≡ false
  is_none false is = refl
  is_none true is = absurd (true≢false (sym is))

  -- what is reached after the directories, and that nothing of it stands twice
  reach_each : (reached : List ℕ) (ds : List DirectoryNode) → All IsOwn ds → AreOnce reached
      → all_over (is_directory_id nodes) (reaching nodes) reached (directory_ids ds) ≡ true
      → (fold (reaching nodes) reached (directory_ids ds) ≡ reached ++ ids_below_all ds) × AreOnce (reached ++ ids_below_all ds)
  reach_each reached [] own once every = (sym (append-nil reached), subst AreOnce (sym (append-nil reached)) once)
  reach_each reached (d ∷ ds) own once every =
      let is = All-head IsOwn d ds own in
      let parts = and_parts (is_directory_id nodes reached d.id)
      (all_over (is_directory_id nodes) (reaching nodes) (reaching nodes reached d.id) (directory_ids ds)) every in
      let none = is_none _ (sym (reach_fits nodes reached d.id d is) ∙ parts.0) in
      let next = reach_is nodes reached d.id d is in
      let next_once = subst AreOnce (append_assoc reached (d.id ∷ []) (leaf_ids d.leaves))
      (may_reach reached (leaf_ids d.leaves) d.id once is.once none) in
      let rest = reach_each (reached ++ d.id ∷ leaf_ids d.leaves) ds (All-tail IsOwn d ds own) next_once
      (ap (λ l. all_over (is_directory_id nodes) (reaching nodes) l (directory_ids ds)) (sym next) ∙ parts.1) in
      let joined = append_assoc reached (d.id ∷ leaf_ids d.leaves) (ids_below_all ds) in
      (ap (λ l. fold (reaching nodes) l (directory_ids ds)) next ∙ rest.0 ∙ joined, subst AreOnce joined rest.1)

  module _ (ids : Roots) (has : HasRoots nodes ids) where
    abbrev tests : List ℕ → List ℕ → Bool
    tests = all_over (is_directory_id nodes) (reaching nodes)

    abbrev after_eavt : List ℕ
    after_eavt = fold (reaching nodes) [] ids.eavt

    abbrev after_aevt : List ℕ
    after_aevt = fold (reaching nodes) (fold (reaching nodes) [] ids.eavt) ids.aevt

    abbrev after_avet : List ℕ
    after_avet = fold (reaching nodes) (fold (reaching nodes) (fold (reaching nodes) [] ids.eavt) ids.aevt) ids.avet

    behind_eavt : all_over tests (fold (reaching nodes)) (fold (reaching nodes) [] ids.eavt) (ids.aevt ∷ ids.avet ∷ ids.vaet ∷ []) ≡ true
    behind_eavt = (and_parts _ _ has).1

    behind_aevt : all_over tests (fold (reaching nodes)) (fold (reaching nodes) (fold (reaching nodes) [] ids.eavt) ids.aevt)
        (ids.avet ∷ ids.vaet ∷ []) ≡ true
    behind_aevt = (and_parts _ _ behind_eavt).1

    behind_avet : all_over tests (fold (reaching nodes))
        (fold (reaching nodes) (fold (reaching nodes) (fold (reaching nodes) [] ids.eavt) ids.aevt) ids.avet) (ids.vaet ∷ []) ≡ true
    behind_avet = (and_parts _ _ behind_aevt).1

    passes_eavt : tests [] ids.eavt ≡ true
    passes_eavt = (and_parts _ _ has).0

    passes_aevt : tests (fold (reaching nodes) [] ids.eavt) ids.aevt ≡ true
    passes_aevt = (and_parts _ _ behind_eavt).0

    passes_avet : tests (fold (reaching nodes) (fold (reaching nodes) [] ids.eavt) ids.aevt) ids.avet ≡ true
    passes_avet = (and_parts _ _ behind_aevt).0

    passes_vaet : tests (fold (reaching nodes) (fold (reaching nodes) (fold (reaching nodes) [] ids.eavt) ids.aevt) ids.avet) ids.vaet
        ≡ true
    passes_vaet = (and_parts _ _ behind_avet).0

    pub known_eavt : All (λ id. IsTrue (is_among (map (λ (d : Directory). d.id) nodes.directories) id)) ids.eavt
    known_eavt = ids_known [] ids.eavt passes_eavt

    pub known_aevt : All (λ id. IsTrue (is_among (map (λ (d : Directory). d.id) nodes.directories) id)) ids.aevt
    known_aevt = ids_known (fold (reaching nodes) [] ids.eavt) ids.aevt passes_aevt

    pub known_avet : All (λ id. IsTrue (is_among (map (λ (d : Directory). d.id) nodes.directories) id)) ids.avet
    known_avet = ids_known (fold (reaching nodes) (fold (reaching nodes) [] ids.eavt) ids.aevt) ids.avet passes_avet

    pub known_vaet : All (λ id. IsTrue (is_among (map (λ (d : Directory). d.id) nodes.directories) id)) ids.vaet
    known_vaet = ids_known (fold (reaching nodes) (fold (reaching nodes) (fold
        (reaching nodes) [] ids.eavt) ids.aevt) ids.avet) ids.vaet passes_vaet

    module _ (e a v r : List DirectoryNode) (found_e : AreFound nodes ids.eavt e) (found_a : AreFound nodes ids.aevt a)
        (found_v : AreFound nodes ids.avet v) (found_r : AreFound nodes ids.vaet r) where
      reach_e : (fold (reaching nodes) [] ids.eavt ≡ ids_below_all e) × AreOnce (ids_below_all e)
      reach_e =
          let one = reach_each [] e found_e.each once_none (ap (tests []) found_e.ids_are ∙ passes_eavt) in
          (ap (fold (reaching nodes) []) (sym found_e.ids_are) ∙ one.0, one.1)

      reach_a : (fold (reaching nodes) (fold (reaching nodes) [] ids.eavt) ids.aevt ≡ ids_below_all e ++ ids_below_all a)
          × AreOnce (ids_below_all e ++ ids_below_all a)
      reach_a =
          let one = reach_each (ids_below_all e) a found_a.each reach_e.1
          ((λ i. tests (sym reach_e.0 i) (found_a.ids_are i)) ∙ passes_aevt) in
          ((λ i. fold (reaching nodes) (reach_e.0 i) (sym found_a.ids_are i)) ∙ one.0, one.1)

      reach_v : (fold (reaching nodes) (fold (reaching nodes) (fold (reaching nodes) [] ids.eavt) ids.aevt) ids.avet ≡
          (ids_below_all e ++ ids_below_all a) ++ ids_below_all v)
          × AreOnce ((ids_below_all e ++ ids_below_all a) ++ ids_below_all v)
      reach_v =
          let one = reach_each (ids_below_all e ++ ids_below_all a) v found_v.each reach_a.1
          ((λ i. tests (sym reach_a.0 i) (found_v.ids_are i)) ∙ passes_avet) in
          ((λ i. fold (reaching nodes) (reach_a.0 i) (sym found_v.ids_are i)) ∙ one.0, one.1)

      all_once : AreOnce (((ids_below_all e ++ ids_below_all a) ++ ids_below_all v) ++ ids_below_all r)
      all_once = (reach_each ((ids_below_all e ++ ids_below_all a) ++ ids_below_all v) r found_r.each reach_v.1 ((λ i. tests
          (sym reach_v.0 i) (found_r.ids_are i)) ∙ passes_vaet)).1

      pub four_distinct : AreDistinct (ids_of_four e a v r)
      four_distinct id =
          let most = counted_once (((ids_below_all e ++ ids_below_all a) ++ ids_below_all v) ++ ids_below_all r) all_once id in
          omega (
            arith,
            most,
            count-append id ((ids_below_all e ++ ids_below_all a) ++ ids_below_all v) (ids_below_all r),
            count-append id (ids_below_all e ++ ids_below_all a) (ids_below_all v),
            count-append id (ids_below_all e) (ids_below_all a),
            count-append id ((node_ids e ++ node_ids a) ++ node_ids v) (node_ids r),
            count-append id (node_ids e ++ node_ids a) (node_ids v),
            count-append id (node_ids e) (node_ids a),
            count_below id e,
            count_below id a,
            count_below id v,
            count_below id r,
          )

pub trees_found : (nodes : Nodes) (ids : Roots) (trees : SegRoots) → AreFound nodes ids.eavt trees.eavt
    → AreFound nodes ids.aevt trees.aevt → AreFound nodes ids.avet trees.avet → AreFound nodes ids.vaet trees.vaet
    → AreTreesOf nodes ids trees
trees_found nodes ids trees e a v r = record { named = named_of; there = there_of }
  where
    named_of : (order : Order) → directory_ids (tree_in trees order) ≡ root_in ids order
    named_of Eavt = e.ids_are
    named_of Aevt = a.ids_are
    named_of Avet = v.ids_are
    named_of Vaet = r.ids_are

    has_each : (ds : List DirectoryNode) → All (λ (d : DirectoryNode). IsDirectoryOf nodes d.id d) ds → All (Has nodes) ds
    has_each ds each = All-weaker (λ (d : DirectoryNode). IsDirectoryOf nodes d.id d) (Has nodes) (λ d is. is.has) ds each

    there_of : (order : Order) → All (Has nodes) (tree_in trees order)
    there_of Eavt = has_each trees.eavt e.each
    there_of Aevt = has_each trees.aevt a.each
    there_of Avet = has_each trees.avet v.each
    there_of Vaet = has_each trees.vaet r.each

-- ---- the end of a payload

pub more_behind : {A : Type 0} (bytes : List ℕ) (end : ℕ) (a : A) (reading : Reading A) → end < length bytes
    → reading ≡ found a (drop end bytes) → at_end reading ≡ misfit (drop end bytes)
more_behind bytes end a reading below is =
    let more : drop end bytes ≡ get_or bytes end 0 ∷ drop (end + 1) bytes = drop_more bytes end 0 below in
    ap at_end (is ∙ ap (λ rest. found a rest) more) ∙ ap misfit (sym more)

pub none_behind : {A : Type 0} (bytes : List ℕ) (end : ℕ) (a : A) (reading : Reading A) → length bytes ≤ end
    → reading ≡ found a (drop end bytes) → at_end reading ≡ found a []
none_behind bytes end a reading past is = ap at_end (is ∙ ap (λ rest. found a rest) (drop_all bytes end past))
  where
    drop_all : (xs : List ℕ) (n : ℕ) → length xs ≤ n → drop n xs ≡ []
    drop_all xs n past = empty (drop n xs) (omega (arith, length-drop n xs))
      where
        empty : (ys : List ℕ) → length ys ≡ 0 → ys ≡ []
        empty [] none = refl
        empty (y ∷ ys) none = absurd (omega (arith, none))
