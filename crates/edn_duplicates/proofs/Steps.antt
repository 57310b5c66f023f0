-- One more form with its code, as at a step of a loop, and the code of each collection.
use Rattle.std.proofs.Common.{◌≡◌, ℕ, ◌+◌, ◌<◌, List, [], ◌∷◌, ◌++◌, length, map, take, get_or, vec_items, Vec, Global, flat_map}
use Rattle.std.proofs.Common.{IsPermutation, refl, ap, sym, subst, ◌∙◌, append-nil}
use Rattle.std.proofs.lemmas.List.{take_more, map-append, length-map}
use Rattle.std.proofs.lemmas.List.Concat.{flat_map-append}
use Rattle.edn_model.specs.Form as form
use Rattle.edn_form.specs.declared.form.Edn.{Edn, List as List', Vector, Map as Map', Set as Set'}
use Rattle.edn_form.specs.declared.form.Items.{Items}
use Rattle.edn_form.specs.declared.form.Pairs.{Pairs}
use Rattle.edn_form.specs.View.{form_of, forms_of, pairs_of, members, entries}
use Rattle.edn_form.proofs.Views.{form_of-List, form_of-Vector, form_of-Map, form_of-Set}
use Rattle.edn_duplicates.specs.Code.{joined, IsPairCode, InOrder, IsRising, IsCode, AreCodes, ArePairCodes}
use Rattle.edn_duplicates.specs.Order.{token_cmp}
use Rattle.edn_duplicates.specs.declared.token.CodeToken.{CodeToken}
use Rattle.edn_duplicates.specs.declared.token.CodeToken.TheVariants.{Sequence, Map, Set}

codes_push : (fs : List form.Form) (f : form.Form) (cs : List (List CodeToken)) (c : List CodeToken) → AreCodes token_cmp (form.forms fs) cs
    → IsCode token_cmp f c
    → AreCodes token_cmp (form.forms (fs ++ f ∷ [])) (cs ++ c ∷ [])
codes_push [] f [] c p q = (q, tt)
codes_push [] f (b ∷ cs) c p q = absurd p
codes_push (g ∷ fs) f [] c p q = absurd p
codes_push (g ∷ fs) f (b ∷ cs) c p q = (p.0, codes_push fs f cs c p.1 q)

pair_codes_push : (ps : List (form.Form × form.Form)) (p : form.Form × form.Form) (cs : List (List CodeToken)) (c : List CodeToken)
    → ArePairCodes token_cmp (form.pairs ps) cs
    → IsPairCode (IsCode token_cmp p.0) (IsCode token_cmp p.1) c → ArePairCodes token_cmp (form.pairs (ps ++ p ∷ [])) (cs ++ c ∷ [])
pair_codes_push [] p [] c h q = (q, tt)
pair_codes_push [] p (b ∷ cs) c h q = absurd h
pair_codes_push (r ∷ ps) p [] c h q = absurd h
pair_codes_push (r ∷ ps) p (b ∷ cs) c h q = (h.0, pair_codes_push ps p cs c h.1 q)

-- what the first elements stand for, and one more
mapped_more : {X Y : Type 0} (f : X → Y) (xs : List X) (i : ℕ) (x : X) → i < length xs → get_or xs i x ≡ x
    → map f (take (i + 1) xs) ≡ map f (take i xs) ++ f x ∷ []
mapped_more f xs i x l e = ap (map f) (take_more xs i x l ∙ ap (λ y. take i xs ++ y ∷ []) e) ∙ map-append f (take i xs) (x ∷ [])

pub items_step : (xs : List Edn) (i : ℕ) (x : Edn) (cs new : List (Vec CodeToken Global)) (c : Vec CodeToken Global) → i < length xs
    → x ≡ get_or xs i x → new ≡ cs ++ c ∷ []
    → AreCodes token_cmp (form.forms (forms_of (take i xs))) (map vec_items cs) → IsCode token_cmp (form_of x) c.items
    → AreCodes token_cmp (form.forms (forms_of (take (i + 1) xs))) (map vec_items new)
items_step xs i x cs new c l e n p q =
    let fs : List form.Form = forms_of (take i xs) in
    subst (λ (zs : List form.Form). AreCodes token_cmp (form.forms zs) (map vec_items new)) (sym (mapped_more form_of xs i x l (sym e)))
    (subst (λ (zs : List (List CodeToken)). AreCodes token_cmp (form.forms (fs ++ form_of x ∷ [])) zs)
    (sym (ap (map vec_items) n ∙ map-append vec_items cs (c ∷ [])))
    (codes_push fs (form_of x) (map vec_items cs) c.items p q))

pub pairs_step : (xs : List (Edn × Edn)) (i : ℕ) (x : Edn × Edn) (cs new : List (Vec CodeToken Global)) (k v c : Vec CodeToken Global)
    → i < length xs → x ≡ get_or xs i x → new ≡ cs ++ c ∷ []
    → ArePairCodes token_cmp (form.pairs (pairs_of (take i xs))) (map vec_items cs) → IsCode token_cmp (form_of x.0) k.items
    → IsCode token_cmp (form_of x.1) v.items
    → c.items ≡ joined (Sequence 2) (k.items ∷ v.items ∷ [])
    → ArePairCodes token_cmp (form.pairs (pairs_of (take (i + 1) xs))) (map vec_items new)
pairs_step xs i x cs new k v c l e n p q r j =
    let ps : List (form.Form × form.Form) = pairs_of (take i xs) in
    let one : IsPairCode (IsCode token_cmp (form_of x.0)) (IsCode token_cmp (form_of x.1)) c.items =
    record { key = k.items; value = v.items; is_key = q; is_value = r; joins = j } in
    subst (λ (zs : List (form.Form × form.Form)). ArePairCodes token_cmp (form.pairs zs) (map vec_items new))
    (sym (mapped_more (λ p. (form_of p.0, form_of p.1)) xs i x l (sym e)))
    (subst (λ (zs : List (List CodeToken)). ArePairCodes token_cmp (form.pairs (ps ++ (form_of x.0, form_of x.1) ∷ [])) zs)
    (sym (ap (map vec_items) n ∙ map-append vec_items cs (c ∷ [])))
    (pair_codes_push ps (form_of x.0, form_of x.1) (map vec_items cs) c.items p one))

-- ---- collections

pub of_list : (e : Edn) (i : Items) (xs : List Edn) (parts : List (List CodeToken)) (c : List CodeToken) → e ≡ List' i → xs ≡ members i
    → AreCodes token_cmp (form.forms (forms_of xs)) parts → c ≡ joined (Sequence (length parts)) parts → IsCode token_cmp (form_of e) c
of_list e i xs parts c is at p j =
    let seen : form_of e ≡ form.list (form.forms (forms_of xs)) =
    ap form_of is ∙ form_of-List i ∙ ap (λ z. form.list (form.forms (forms_of z))) (sym at) in
    subst (λ f. IsCode token_cmp f c) (sym seen) (record { parts = parts; codes = p; joins = j })

pub of_vector : (e : Edn) (i : Items) (xs : List Edn) (parts : List (List CodeToken)) (c : List CodeToken) → e ≡ Vector i → xs ≡ members i
    → AreCodes token_cmp (form.forms (forms_of xs)) parts → c ≡ joined (Sequence (length parts)) parts → IsCode token_cmp (form_of e) c
of_vector e i xs parts c is at p j =
    let seen : form_of e ≡ form.vector (form.forms (forms_of xs)) =
    ap form_of is ∙ form_of-Vector i ∙ ap (λ z. form.vector (form.forms (forms_of z))) (sym at) in
    subst (λ f. IsCode token_cmp f c) (sym seen) (record { parts = parts; codes = p; joins = j })

pub of_set : (e : Edn) (i : Items) (xs : List Edn) (parts : List (List CodeToken)) (c : List CodeToken) → e ≡ Set' i → xs ≡ members i
    → AreCodes token_cmp (form.forms (forms_of xs)) parts → InOrder token_cmp Set parts c → IsCode token_cmp (form_of e) c
of_set e i xs parts c is at p j =
    let seen : form_of e ≡ form.set (form.forms (forms_of xs)) =
    ap form_of is ∙ form_of-Set i ∙ ap (λ z. form.set (form.forms (forms_of z))) (sym at) in
    subst (λ f. IsCode token_cmp f c) (sym seen) (record { parts = parts; codes = p; joins = j })

pub of_map : (e : Edn) (i : Pairs) (xs : List (Edn × Edn)) (parts : List (List CodeToken)) (c : List CodeToken) → e ≡ Map' i
    → xs ≡ entries i
    → ArePairCodes token_cmp (form.pairs (pairs_of xs)) parts → InOrder token_cmp Map parts c → IsCode token_cmp (form_of e) c
of_map e i xs parts c is at p j =
    let seen : form_of e ≡ form.map (form.pairs (pairs_of xs)) =
    ap form_of is ∙ form_of-Map i ∙ ap (λ z. form.map (form.pairs (pairs_of z))) (sym at) in
    subst (λ f. IsCode token_cmp f c) (sym seen) (record { parts = parts; codes = p; joins = j })

-- one more part behind those that were joined
pub joined_more : (done : List (Vec CodeToken Global)) (p : Vec CodeToken Global)
    → flat_map (λ x. x) (map vec_items (done ++ p ∷ [])) ≡ flat_map (λ x. x) (map vec_items done) ++ p.items
joined_more done p =
    ap (λ z. flat_map (λ x. x) z) (map-append vec_items done (p ∷ [])) ∙ flat_map-append (λ x. x) (map vec_items done) (p.items ∷ [])
    ∙ ap (λ z. flat_map (λ x. x) (map vec_items done) ++ z) (append-nil p.items)

pub the_same : {X : Type 0} (xs : List X) → map (λ x. x) xs ≡ xs
the_same [] = refl
the_same (x ∷ xs) = ap (λ ys. x ∷ ys) (the_same xs)

-- parts that were sorted, joined
pub in_order : (front : ℕ → CodeToken) (parts sorted : List (Vec CodeToken Global)) (n : ℕ) (code : List CodeToken)
    → IsPermutation (map vec_items parts) (map vec_items sorted)
    → IsRising token_cmp (map vec_items sorted) → n ≡ length sorted → code ≡ joined (front n) (map vec_items sorted)
    → InOrder token_cmp front (map vec_items parts) code
in_order front parts sorted n code p r l j =
    record {
      sorted = map vec_items sorted;
      shuffled = p;
      rises = r;
      joins = j ∙ ap (λ m. joined (front m) (map vec_items sorted)) (l ∙ sym (length-map sorted vec_items));
    }
