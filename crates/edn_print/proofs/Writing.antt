-- How the text of a collection grows, a member at a time.
use Rattle.std.proofs.Common.{◌≡◌, ℕ, zero, suc, ◌+◌, add-one, false, List, [], ◌∷◌, ◌++◌, refl, ap, ◌∙◌, sym, subst, arith}
use Rattle.std.proofs.lemmas.Bool.Decides.{nat_tests}
use Rattle.std.proofs.lemmas.List.{append_assoc, append-nil}
use Rattle.std.specs.Prelude.{◌==◌}
use Rattle.edn_model.specs.Form as form
use Rattle.edn_model.specs.Canon.{Canon, CanonAll, CanonRest, CanonPairs, CanonRestPairs}
use Rattle.edn_print.specs.Printed.{Appends, Encloses, space_before}

pub enclosed : {P : List ℕ → Type 0} (opening : List ℕ) (closing : ℕ) (old opened written new : List ℕ) → opened ≡ old ++ opening
    → Appends P opened written → new ≡ written ++ closing ∷ [] → Appends (Encloses opening closing P) old new
enclosed opening closing old opened written new e a i =
    let whole : new ≡ ((old ++ opening) ++ a.text) ++ closing ∷ [] = i ∙ ap (λ z. z ++ closing ∷ []) (a.behind ∙ ap (λ z. z ++ a.text) e) in
    record {
      text = opening ++ (a.text ++ closing ∷ []);
      is = record { inside = a.text; is = a.is; text = refl };
      behind = whole ∙ simp append_assoc;
    }

no_space : (index : ℕ) → index ≡ 0 → space_before index ≡ []
no_space index e = rw e refl

space : (index : ℕ) → space_before (suc index) ≡ 32 ∷ []
space index = let later : (suc index == 0) ≡ false = grind (arith, nat_tests) in rw later refl

-- ---- members

-- the texts of the members from this one on
abbrev pub CanonFrom : ℕ → form.Forms → List ℕ → Type 0
CanonFrom zero fs bytes = CanonAll fs bytes
CanonFrom (suc index) fs bytes = CanonRest fs bytes

pub none_left : (index : ℕ) (old : List ℕ) → Appends (CanonFrom index form.no_forms) old old
none_left zero old = record { text = []; is = refl; behind = sym (append-nil old) }
none_left (suc index) old = record { text = []; is = refl; behind = sym (append-nil old) }

pub rest_from : (index : ℕ) (fs : form.Forms) (old new : List ℕ) → Appends (CanonFrom (index + 1) fs) old new
    → Appends (CanonRest fs) old new
rest_from index fs old new a = subst (λ n. Appends (CanonFrom n fs) old new) (add-one index) a

pub member_first : (index : ℕ) (f : form.Form) (fs : form.Forms) (old spaced printed end : List ℕ) → spaced ≡ old ++ space_before index
    → Appends (Canon f) spaced printed → Appends (CanonRest fs) printed end → Appends (CanonFrom index (form.form f fs)) old end
member_first zero f fs old spaced printed end e a b =
    let whole : end ≡ ((old ++ []) ++ a.text) ++ b.text =
    b.behind ∙ ap (λ z. z ++ b.text) (a.behind ∙ ap (λ z. z ++ a.text) (e ∙ ap (λ z. old ++ z) (no_space 0 refl))) in
    record { text = a.text ++ b.text; is = (a.text, b.text, a.is, b.is, refl); behind = whole ∙ simp append_assoc }
member_first (suc index) f fs old spaced printed end e a b =
    let whole : end ≡ ((old ++ 32 ∷ []) ++ a.text) ++ b.text =
    b.behind ∙ ap (λ z. z ++ b.text) (a.behind ∙ ap (λ z. z ++ a.text) (e ∙ ap (λ z. old ++ z) (space index))) in
    record { text = 32 ∷ (a.text ++ b.text); is = (a.text, b.text, a.is, b.is, refl); behind = whole ∙ simp append_assoc }

-- ---- pairs

abbrev pub CanonPairsFrom : ℕ → form.Pairs → List ℕ → Type 0
CanonPairsFrom zero ps bytes = CanonPairs ps bytes
CanonPairsFrom (suc index) ps bytes = CanonRestPairs ps bytes

pub no_pairs_left : (index : ℕ) (old : List ℕ) → Appends (CanonPairsFrom index form.no_pairs) old old
no_pairs_left zero old = record { text = []; is = refl; behind = sym (append-nil old) }
no_pairs_left (suc index) old = record { text = []; is = refl; behind = sym (append-nil old) }

pub later_from : (index : ℕ) (ps : form.Pairs) (old new : List ℕ) → Appends (CanonPairsFrom (index + 1) ps) old new
    → Appends (CanonRestPairs ps) old new
later_from index ps old new a = subst (λ n. Appends (CanonPairsFrom n ps) old new) (add-one index) a

-- a key and its value, with what follows them
abbrev pair_text : List ℕ → List ℕ → List ℕ → List ℕ
pair_text key value rest = key ++ 32 ∷ (value ++ rest)

pub pair_first : (index : ℕ) (k v : form.Form) (ps : form.Pairs) (old spaced key between value end : List ℕ)
    → spaced ≡ old ++ space_before index → Appends (Canon k) spaced key → between ≡ key ++ 32 ∷ [] → Appends (Canon v) between value
    → Appends (CanonRestPairs ps) value end → Appends (CanonPairsFrom index (form.pair k v ps)) old end
pair_first zero k v ps old spaced key between value end e a i b r =
    let first : between ≡ ((old ++ []) ++ a.text) ++ 32 ∷ [] =
    i ∙ ap (λ z. z ++ 32 ∷ []) (a.behind ∙ ap (λ z. z ++ a.text) (e ∙ ap (λ z. old ++ z) (no_space 0 refl))) in
    let whole : end ≡ ((((old ++ []) ++ a.text) ++ 32 ∷ []) ++ b.text) ++ r.text =
    r.behind ∙ ap (λ z. z ++ r.text) (b.behind ∙ ap (λ z. z ++ b.text) first) in
    record {
      text = pair_text a.text b.text r.text;
      is = (a.text, b.text, r.text, a.is, b.is, r.is, refl);
      behind = whole ∙ simp append_assoc;
    }
pair_first (suc index) k v ps old spaced key between value end e a i b r =
    let first : between ≡ ((old ++ 32 ∷ []) ++ a.text) ++ 32 ∷ [] =
    i ∙ ap (λ z. z ++ 32 ∷ []) (a.behind ∙ ap (λ z. z ++ a.text) (e ∙ ap (λ z. old ++ z) (space index))) in
    let whole : end ≡ ((((old ++ 32 ∷ []) ++ a.text) ++ 32 ∷ []) ++ b.text) ++ r.text =
    r.behind ∙ ap (λ z. z ++ r.text) (b.behind ∙ ap (λ z. z ++ b.text) first) in
    record {
      text = 32 ∷ pair_text a.text b.text r.text;
      is = (a.text, b.text, r.text, a.is, b.is, r.is, refl);
      behind = whole ∙ simp append_assoc;
    }
