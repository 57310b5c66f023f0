-- Facts and changes as one rising list, a step after another.
use Rattle.std.proofs.Common.{◌≡◌, Bool, true, false, cond, not, ◌||◌, List, [], ◌∷◌, ◌++◌, refl, ap, sym, ◌∙◌}
use Rattle.std.specs.Prelude.{filter}
use Rattle.std.specs.List.{list_any, list_all}
use Rattle.std.specs.Ordering.{is_lt, ordering_reverse}
use Rattle.std.specs.declared.cmp.Ordering.TheVariants.{Less, Equal, Greater}
use Rattle.std.proofs.lemmas.Bool.{and_parts, and_from, or_from}
use Rattle.fb_values.specs.declared.facts.Datom.{Datom}
use Rattle.fb_values.specs.declared.indexes.Order.{Order}
use Rattle.fb_values.specs.Orders.{key_cmp}
use Rattle.fb_values.specs.OrderLaws.{key_cmp_total}
use Rattle.fb_values.specs.Rising.{rises}
use Rattle.fb_model.specs.Rising.{put_in_order, in_order}
use Rattle.fb_model.specs.Facts.{is_of}
use Rattle.fb_model.proofs.Members.{member_passes, all_members, kept, in_order_member}
use Rattle.tx_after.specs.Triples.{triple_cmp, triples_rise, is_unmentioned, is_added, with_changes}
use Rattle.tx_after.proofs.Orders.{triple_cmp_total, key_lt, same_triple, other_triple, other_triple_back, lt_chain, triples-keys}
use Rattle.tx_after.proofs.Orders.{triples_rise-filter, is_less}

-- below each datom of a list
abbrev pub is_below : Order → Datom → List Datom → Bool
is_below order x ds = list_all (λ y. is_lt (key_cmp order x y)) ds

not_back : (order : Order) (x y : Datom) → is_lt (key_cmp order x y) ≡ true → is_lt (key_cmp order y x) ≡ false
not_back order x y less = ap is_lt ((key_cmp_total order).antisymm y x ∙ ap ordering_reverse (is_less (key_cmp order x y) less))

-- the least one comes first
put_least : (order : Order) (x : Datom) (ds : List Datom) → is_below order x ds ≡ true → put_in_order order x ds ≡ x ∷ ds
put_least order x [] below = refl
put_least order x (y ∷ ds) below =
    ap (λ b. cond b (x ∷ y ∷ ds) (cond (is_lt (key_cmp order y x)) (y ∷ put_in_order order x ds) (y ∷ ds))) (and_parts _ _ below).0

below_in_order : (order : Order) (x : Datom) (ds : List Datom) → is_below order x ds ≡ true → is_below order x (in_order order ds) ≡ true
below_in_order order x ds below =
    all_members (λ y. is_lt (key_cmp order x y)) (in_order order ds)
    (λ d member. member_passes (λ y. is_lt (key_cmp order x y)) ds d below (in_order_member order ds d member))

pub least_first : (order : Order) (x : Datom) (ds : List Datom) → is_below order x ds ≡ true
    → in_order order (x ∷ ds) ≡ x ∷ in_order order ds
least_first order x ds below = put_least order x (in_order order ds) (below_in_order order x ds below)

-- also where others stand before it
pub least_behind : (order : Order) (x : Datom) (ds es : List Datom) → is_below order x ds ≡ true → is_below order x es ≡ true
    → in_order order (ds ++ x ∷ es) ≡ x ∷ in_order order (ds ++ es)
least_behind order x [] es below also = least_first order x es also
least_behind order x (d ∷ ds) es below also =
    let parts = and_parts (is_lt (key_cmp order x d)) (is_below order x ds) below in
    ap (put_in_order order d) (least_behind order x ds es parts.1 also)
    ∙ ap (λ b. cond b (d ∷ x ∷ in_order order (ds ++ es))
    (cond (is_lt (key_cmp order x d)) (x ∷ put_in_order order d (in_order order (ds ++ es))) (x ∷ in_order order (ds ++ es))))
    (not_back order x d parts.0)
    ∙ ap (λ b. cond b (x ∷ put_in_order order d (in_order order (ds ++ es))) (x ∷ in_order order (ds ++ es))) parts.0

pub in_order-rising : (order : Order) (ds : List Datom) → rises order ds ≡ true → in_order order ds ≡ ds
in_order-rising order [] rising = refl
in_order-rising order (x ∷ []) rising = refl
in_order-rising order (x ∷ y ∷ ds) rising =
    let parts = and_parts (is_lt (key_cmp order x y)) (rises order (y ∷ ds)) rising in
    ap (put_in_order order x) (in_order-rising order (y ∷ ds) parts.1)
    ∙ ap (λ b. cond b (x ∷ y ∷ ds) (cond (is_lt (key_cmp order y x)) (y ∷ put_in_order order x ds) (y ∷ ds))) parts.0

-- ---- what the parts of rising lists keep

abbrev pub is_low : Order → Datom → List Datom → Bool
is_low order x ds = list_all (λ y. is_lt (triple_cmp order x y)) ds

low_keys : (order : Order) (x : Datom) (ds : List Datom) (p : Datom → Bool) → is_low order x ds ≡ true
    → is_below order x (filter p ds) ≡ true
low_keys order x ds p low =
    all_members (λ y. is_lt (key_cmp order x y)) (filter p ds)
    (λ d member. key_lt order x d (member_passes (λ y. is_lt (triple_cmp order x y)) ds d low (kept p ds d member).member))

lower : (order : Order) (x y : Datom) (ds : List Datom) → is_lt (triple_cmp order x y) ≡ true → is_low order y ds ≡ true
    → is_low order x ds ≡ true
lower order x y ds less low =
    all_members (λ z. is_lt (triple_cmp order x z)) ds
    (λ d member. lt_chain order x y d less (member_passes (λ z. is_lt (triple_cmp order y z)) ds d low member))

low_untold : (order : Order) (x : Datom) (ds : List Datom) → is_low order x ds ≡ true → is_unmentioned ds x ≡ true
low_untold order x [] low = refl
low_untold order x (y ∷ ds) low =
    let parts = and_parts (is_lt (triple_cmp order x y)) (is_low order x ds) low in
    ap not (or_from (is_of x.e x.a x.v y) (list_any (is_of x.e x.a x.v) ds) (other_triple order x y parts.0) (unmentioned ds parts.1))
  where
    unmentioned : (ds : List Datom) → is_low order x ds ≡ true → list_any (is_of x.e x.a x.v) ds ≡ false
    unmentioned [] low = refl
    unmentioned (y ∷ ds) low =
        let parts = and_parts (is_lt (triple_cmp order x y)) (is_low order x ds) low in
        or_from _ _ (other_triple order x y parts.0) (unmentioned ds parts.1)

-- ---- a step

below_both : (order : Order) (x : Datom) (ds es : List Datom) → is_below order x ds ≡ true → is_below order x es ≡ true
    → is_below order x (ds ++ es) ≡ true
below_both order x [] es below also = also
below_both order x (d ∷ ds) es below also =
    let parts = and_parts (is_lt (key_cmp order x d)) (is_below order x ds) below in
    and_from _ _ parts.0 (below_both order x ds es parts.1 also)

-- a fact below the first change
pub step-old : (order : Order) (b c : Datom) (bs cs : List Datom) → triples_rise order (b ∷ bs) ≡ true → triples_rise order (c ∷ cs) ≡ true
    → triple_cmp order b c ≡ Less
    → with_changes order (b ∷ bs) (c ∷ cs) ≡ b ∷ with_changes order bs (c ∷ cs)
step-old order b c bs cs rising also less =
    let low_c : is_low order b (c ∷ cs) ≡ true = and_from _ _ (ap is_lt less) (lower order b c cs (ap is_lt less) (and_parts _ _ also).0) in
    ap (λ k.
    in_order order (cond k (b ∷ filter (is_unmentioned (c ∷ cs)) bs) (filter (is_unmentioned (c ∷ cs)) bs) ++ filter is_added (c ∷ cs)))
    (low_untold order b (c ∷ cs) low_c)
    ∙ least_first order b (filter (is_unmentioned (c ∷ cs)) bs ++ filter is_added (c ∷ cs))
    (below_both order b _ _ (low_keys order b bs (is_unmentioned (c ∷ cs)) (and_parts _ _ rising).0)
    (low_keys order b (c ∷ cs) is_added low_c))

-- a fact of the first change's triple
pub step-told : (order : Order) (b c : Datom) (bs cs : List Datom) → triple_cmp order b c ≡ Equal
    → with_changes order (b ∷ bs) (c ∷ cs) ≡ with_changes order bs (c ∷ cs)
step-told order b c bs cs equal =
    ap (λ k. in_order order (cond (not (k || list_any (is_of b.e b.a b.v) cs)) (b ∷ filter (is_unmentioned (c ∷ cs)) bs)
    (filter (is_unmentioned (c ∷ cs)) bs) ++ filter is_added (c ∷ cs))) (same_triple order b c equal)

-- a change below the first fact, or with no fact left
untold_fewer : (order : Order) (c : Datom) (bs cs : List Datom) → is_low order c bs ≡ true
    → filter (is_unmentioned (c ∷ cs)) bs ≡ filter (is_unmentioned cs) bs
untold_fewer order c [] cs low = refl
untold_fewer order c (b ∷ bs) cs low =
    let parts = and_parts (is_lt (triple_cmp order c b)) (is_low order c bs) low in
    ap
    (λ k. cond (not (k || list_any (is_of b.e b.a b.v) cs)) (b ∷ filter (is_unmentioned (c ∷ cs)) bs) (filter (is_unmentioned (c ∷ cs)) bs))
    (other_triple_back order b c parts.0)
    ∙ ap (λ l. cond (is_unmentioned cs b) (b ∷ l) l) (untold_fewer order c bs cs parts.1)

pub step-new : (order : Order) (c : Datom) (bs cs : List Datom) → is_low order c bs ≡ true → triples_rise order (c ∷ cs) ≡ true
    → with_changes order bs (c ∷ cs) ≡ cond c.added (c ∷ []) [] ++ with_changes order bs cs
step-new order c bs cs low also =
    ap (λ l. in_order order (l ++ filter is_added (c ∷ cs))) (untold_fewer order c bs cs low) ∙ go c.added
  where
    go : (k : Bool)
        → in_order order (filter (is_unmentioned cs) bs ++ cond k (c ∷ filter is_added cs) (filter is_added cs))
        ≡ cond k (c ∷ []) [] ++ with_changes order bs cs
    go false = refl
    go true =
        least_behind order c (filter (is_unmentioned cs) bs) (filter is_added cs) (low_keys order c bs (is_unmentioned cs) low)
        (low_keys order c cs is_added (and_parts _ _ also).0)

-- ---- what is left where one list has ended

append-nil : (ds : List Datom) → ds ++ [] ≡ ds
append-nil [] = refl
append-nil (d ∷ ds) = ap (λ l. d ∷ l) (append-nil ds)

all_untold : (ds : List Datom) → filter (is_unmentioned []) ds ≡ ds
all_untold [] = refl
all_untold (d ∷ ds) = ap (λ l. d ∷ l) (all_untold ds)

pub left_old : (order : Order) (bs : List Datom) → triples_rise order bs ≡ true → with_changes order bs [] ≡ bs
left_old order bs rising =
    ap (in_order order) (append-nil (filter (is_unmentioned []) bs) ∙ all_untold bs)
    ∙ in_order-rising order bs (triples-keys order bs rising)

pub left_new : (order : Order) (cs : List Datom) → triples_rise order cs ≡ true → with_changes order [] cs ≡ filter is_added cs
left_new order cs rising =
    in_order-rising order (filter is_added cs) (triples-keys order (filter is_added cs) (triples_rise-filter order is_added cs rising))

-- where the first fact is above a change, all are
pub low_rest : (order : Order) (c b : Datom) (bs : List Datom) → triple_cmp order b c ≡ Greater → triples_rise order (b ∷ bs) ≡ true
    → is_low order c (b ∷ bs) ≡ true
low_rest order c b bs greater rising =
    let less : is_lt (triple_cmp order c b) ≡ true = ap is_lt ((triple_cmp_total order).antisymm c b ∙ ap ordering_reverse greater) in
    and_from _ _ less (lower order c b bs less (and_parts _ _ rising).0)

pub left_no_changes : (order : Order) (bs cs : List Datom) → cs ≡ [] → triples_rise order bs ≡ true
    → with_changes order bs cs ≡ bs ++ filter is_added cs
left_no_changes order bs cs none rising =
    ap (with_changes order bs) none ∙ left_old order bs rising ∙ sym (append-nil bs) ∙ ap (λ l. bs ++ filter is_added l) (sym none)

pub left_no_facts : (order : Order) (bs cs : List Datom) → bs ≡ [] → triples_rise order cs ≡ true
    → with_changes order bs cs ≡ bs ++ filter is_added cs
left_no_facts order bs cs none rising =
    ap (λ l. with_changes order l cs) none ∙ left_new order cs rising ∙ ap (λ l. l ++ filter is_added cs) (sym none)
