-- A whole form falls to a construct, and a construct closes.
use Rattle.std.proofs.Common.{◌≡◌, ℕ, ◌≤◌, Bool, true, false, IsTrue, List, [], ◌∷◌, ◌++◌, length, drop, Vec, Global, refl, ap, ◌∙◌, sym}
use Rattle.std.proofs.Common.{subst, arith, eq-eqb}
use Rattle.std.specs.Prelude.{not, Option, Some, None, Result, Ok, Err, IfOk, OnErr}
use Rattle.edn_model.specs.Form as model
use Rattle.edn_model.specs.Likeness.{alike, any, distinct, keys}
use Rattle.edn_model.specs.Faults as faults
use Rattle.edn_model.specs.Steps as steps
use Rattle.edn_model.specs.Steps.{frame, State, going, ended, fault, Reaches, stay}
use Rattle.edn_model.proofs.Joined.{keys-last, distinct-last}
use Rattle.edn_model.proofs.OneForm.{not_true}
use Rattle.edn_model.proofs.Reached.{by_likeness, by_unlikeness}
use Rattle.edn_form.specs.View.{form_of, forms_of, pairs_of}
use Rattle.edn_form.specs.View as view
use Rattle.edn_form.specs.declared.form.Edn.{Edn, Map as AMap}
use Rattle.edn_form.specs.declared.form.Pairs.{Pairs}
use Rattle.edn_form.proofs.Views.{form_of-Map}
use Rattle.edn_duplicates.specs.Inside.{IsDistinctInside, AreDistinctInside, ArePairsDistinctInside}
use Rattle.edn_duplicates.specs.FormCodes.{HasCodesOf}
use Rattle.edn_duplicates.specs.declared.form_codes.FormCodes.{FormCodes}
use Rattle.edn_core.specs.Frames.{open_of, inside, frames_of, IsSoundOpen, IsSoundFrame, AreSound, Becomes, IsAgain, LandsAs}
use Rattle.edn_core.specs.Frames.{EndsWith, ClosesAs, LeadsOn, LeadsTo, LeadsAstray, Leads, Whole}
use Rattle.edn_core.specs.declared.construct.Construct.TheVariants.{List as List', Vector, Map, Set}
use Rattle.edn_core.specs.declared.construct.Construct.{Construct}
use Rattle.edn_core.specs.declared.construct.Frame.{Frame}
use Rattle.edn_core.specs.declared.fault.EdnFault.{EdnFault}
use Rattle.edn_core.specs.declared.fault.EdnFault.TheVariants.{Bad, Unsupported, Deep, Cut, Memory}
use Rattle.edn_core.specs.declared.progress.Progress.{Progress}
use Rattle.edn_core.specs.declared.progress.Progress.TheVariants.{Further, Read, End}
use Rattle.edn_core.proofs.Stacks.{none_there, frames-last, kept_last, kept-split}

-- ---- one more at the end

abbrev members : List Edn → model.Forms
members xs = model.forms (forms_of xs)

abbrev entries : List (Edn × Edn) → model.Pairs
entries xs = model.pairs (pairs_of xs)

members-last : (xs : List Edn) (x : Edn) → members (xs ++ x ∷ []) ≡ model.with_last (members xs) (form_of x)
members-last [] x = refl
members-last (y ∷ ys) x = ap (model.form (form_of y)) (members-last ys x)

entries-last : (xs : List (Edn × Edn)) (k v : Edn) → entries (xs ++ (k, v) ∷ []) ≡ model.with_last_pair (entries xs) (form_of k) (form_of v)
entries-last [] k v = refl
entries-last (y ∷ ys) k v = ap (model.pair (form_of y.0) (form_of y.1)) (entries-last ys k v)

inside-last : (fs : model.Forms) (f : model.Form) → AreDistinctInside fs → IsDistinctInside f → AreDistinctInside (model.with_last fs f)
inside-last model.no_forms f h k = (k, tt)
inside-last (model.form g gs) f h k = (h.0, inside-last gs f h.1 k)

-- one more pair, and those before
pairs_inside-last : (ps : model.Pairs) (k v : model.Form) → ArePairsDistinctInside ps → IsDistinctInside k → IsDistinctInside v
    → ArePairsDistinctInside (model.with_last_pair ps k v)
pairs_inside-last model.no_pairs k v h a b = (a, b, tt)
pairs_inside-last (model.pair l w ps) k v h a b = (h.0, h.1, pairs_inside-last ps k v h.2 a b)

-- ---- what lands

pub list_lands : (v w : Vec Edn Global) (x : Edn) → w.items ≡ v.items ++ x ∷ [] → AreDistinctInside (members v.items)
    → IsDistinctInside (form_of x) → Becomes (List' v) (form_of x) (List' w)
list_lands v w x is h k =
    let same = ap members is ∙ members-last v.items x in (
      subst AreDistinctInside (sym same) (inside-last (members v.items) (form_of x) h k),
      λ outer opened at rest. ap (λ fs. going (frame (faults.in_list fs) opened outer) rest) (sym same),
    )

pub vector_lands : (v w : Vec Edn Global) (x : Edn) → w.items ≡ v.items ++ x ∷ [] → AreDistinctInside (members v.items)
    → IsDistinctInside (form_of x) → Becomes (Vector v) (form_of x) (Vector w)
vector_lands v w x is h k =
    let same = ap members is ∙ members-last v.items x in (
      subst AreDistinctInside (sym same) (inside-last (members v.items) (form_of x) h k),
      λ outer opened at rest. ap (λ fs. going (frame (faults.in_vector fs) opened outer) rest) (sym same),
    )

pub value_lands : (v w : Vec (Edn × Edn) Global) (said : FormCodes) (k x : Edn) → w.items ≡ v.items ++ (k, x) ∷ []
    → IsSoundOpen (Map v (Some k) said) → IsDistinctInside (form_of x)
    → Becomes (Map v (Some k) said) (form_of x) (Map w None said)
value_lands v w said k x is h inside =
    let same = ap entries is ∙ entries-last v.items k x in
    let names = ap keys same ∙ keys-last (entries v.items) (form_of k) (form_of x) in (
      (
        subst (λ fs. HasCodesOf fs said) (sym names) h.0,
        subst (λ fs. IsTrue (distinct fs)) (sym names) h.1,
        subst ArePairsDistinctInside (sym same) (pairs_inside-last (entries v.items) (form_of k) (form_of x) h.2 h.3 inside),
      ),
      λ outer opened at rest. ap (λ ps. going (frame (faults.in_map ps) opened outer) rest) (sym same),
    )

-- a test that a form was not said before
unsaid : (b again : Bool) → b ≡ not again → b ≡ true → again ≡ false
unsaid b again is h = not_true again (sym is ∙ h)

false_not : (b : Bool) → not b ≡ false → b ≡ true
false_not true h = refl
false_not false h = absurd (let wrong = h in cc)

said_before : (b again : Bool) → b ≡ not again → b ≡ false → again ≡ true
said_before b again is h = false_not again (sym is ∙ h)

pub key_lands : (v : Vec (Edn × Edn) Global) (said after : FormCodes) (x : Edn) (fresh : Bool) → IsSoundOpen (Map v None said)
    → IsDistinctInside (form_of x)
    → fresh ≡ not (any (alike (form_of x)) (keys (entries v.items))) → fresh ≡ true
    → HasCodesOf (model.with_last (keys (entries v.items)) (form_of x)) after
    → Becomes (Map v None said) (form_of x) (Map v (Some x) after)
key_lands v said after x fresh h inside is first_time has =
    let names = keys (entries v.items) in
    let new = unsaid fresh (any (alike (form_of x)) names) is first_time in (
      (has, distinct-last model.no_forms names (form_of x) h.1 new, h.2, inside),
      λ outer opened at rest. by_likeness (any (alike (form_of x)) names) (ended (fault faults.bad at))
          (going (frame (faults.behind_key (entries v.items) (form_of x)) opened outer) rest) new,
    )

pub key_again : (v : Vec (Edn × Edn) Global) (said : FormCodes) (x : Edn) (fresh : Bool)
    → fresh ≡ not (any (alike (form_of x)) (keys (entries v.items))) → fresh ≡ false → IsAgain (Map v None said) (form_of x)
key_again v said x fresh is h outer opened at rest =
    let names = keys (entries v.items) in
    by_unlikeness (any (alike (form_of x)) names) (ended (fault faults.bad at))
    (going (frame (faults.behind_key (entries v.items) (form_of x)) opened outer) rest)
    (said_before fresh (any (alike (form_of x)) names) is h)

pub member_lands : (v w : Vec Edn Global) (said after : FormCodes) (x : Edn) (fresh : Bool) → w.items ≡ v.items ++ x ∷ []
    → IsSoundOpen (Set v said) → IsDistinctInside (form_of x)
    → fresh ≡ not (any (alike (form_of x)) (members v.items)) → fresh ≡ true
    → HasCodesOf (model.with_last (members v.items) (form_of x)) after
    → Becomes (Set v said) (form_of x) (Set w after)
member_lands v w said after x fresh is h inside test first_time has =
    let fs = members v.items in
    let same = ap members is ∙ members-last v.items x in
    let new = unsaid fresh (any (alike (form_of x)) fs) test first_time in (
      (
        subst (λ gs. HasCodesOf gs after) (sym same) has,
        subst (λ gs. IsTrue (distinct gs)) (sym same) (distinct-last model.no_forms fs (form_of x) h.1 new),
        subst AreDistinctInside (sym same) (inside-last fs (form_of x) h.2 inside),
      ),
      λ outer opened at rest.
          by_likeness (any (alike (form_of x)) fs) (ended (fault faults.bad at))
          (going (frame (faults.in_set (model.with_last fs (form_of x))) opened outer) rest) new
          ∙ ap (λ gs. going (frame (faults.in_set gs) opened outer) rest) (sym same),
    )

pub member_again : (v : Vec Edn Global) (said : FormCodes) (x : Edn) (fresh : Bool)
    → fresh ≡ not (any (alike (form_of x)) (members v.items)) → fresh ≡ false → IsAgain (Set v said) (form_of x)
member_again v said x fresh is h outer opened at rest =
    let fs = members v.items in
    by_unlikeness (any (alike (form_of x)) fs) (ended (fault faults.bad at))
    (going (frame (faults.in_set (model.with_last fs (form_of x))) opened outer) rest)
    (said_before fresh (any (alike (form_of x)) fs) is h)

-- ---- what closes

pub map_closes : (v : Vec (Edn × Edn) Global) (said : FormCodes) (p : Pairs) (b : ℕ) → view.entries p ≡ v.items → b ≡ 125
    → IsSoundOpen (Map v None said)
    → ClosesAs (Map v None said) b (form_of (AMap p)) × IsDistinctInside (form_of (AMap p))
map_closes v said p b same is h =
    let seen : form_of (AMap p) ≡ model.map (entries v.items) = form_of-Map p ∙ ap (λ z. model.map (entries z)) same in
    ((λ outer. eq-eqb b 125 is, seen), subst IsDistinctInside (sym seen) (h.2, h.1))

-- ---- where it lands

reaches_same : {s t : State} → s ≡ t → Reaches s t
reaches_same {s = s} e = subst (Reaches s) e stay

read_alone : (bytes : List ℕ) (start here at n : ℕ) (old : List Frame) (f : Edn) → length old ≡ 0
    → Whole bytes start here at n old (form_of f)
    → LeadsTo bytes here (steps.land (frames_of bytes old) (form_of f) (drop at bytes) (drop n bytes)) (form_of f) n
read_alone bytes start here at n old f none h =
    record {
      ahead = h.ahead;
      within = h.within;
      runs = reaches_same (ap (λ xs. steps.land (frames_of bytes xs) (form_of f) (drop at bytes) (drop n bytes)) (none_there old none));
    }

pub read_there : (bytes : List ℕ) (start here at n : ℕ) (old new : List Frame) (slot : Option Edn) (f : Edn)
    (r : Result Progress EdnFault)
    → length old ≡ 0
    → Whole bytes start here at n old (form_of f) → r ≡ Ok (Read n) → slot ≡ Some f
    → Leads bytes start here (steps.land (frames_of bytes old) (form_of f) (drop at bytes) (drop n bytes)) r new slot
read_there bytes start here at n old new slot f r none h is there =
    let begun = steps.land (frames_of bytes old) (form_of f) (drop at bytes) (drop n bytes) in
    subst (λ z. Leads bytes start here begun z new slot) (sym is)
    (subst (λ z. Leads bytes start here begun (Ok (Read n)) new z) (sym there) (read_alone bytes start here at n old f none h))

-- the state from which a form lands in the innermost
landing : (bytes : List ℕ) (at n : ℕ) (old outer : List Frame) (i : Frame) (f : model.Form) → old ≡ outer ++ i ∷ []
    → steps.land (frames_of bytes old) f (drop at bytes) (drop n bytes)
    ≡ steps.land (inside bytes (frames_of bytes outer) i) f (drop at bytes) (drop n bytes)
landing bytes at n old outer i f is =
    ap (λ z. steps.land z f (drop at bytes) (drop n bytes)) (ap (frames_of bytes) is ∙ frames-last bytes outer i)

pub kept_outer : (bytes : List ℕ) (start : ℕ) (old outer : List Frame) (i : Frame) → old ≡ outer ++ i ∷ []
    → AreSound start (length bytes) old → AreSound start (length bytes) outer
kept_outer bytes start old outer i is h = (kept-split outer i (subst (AreSound start (length bytes)) is h)).before

pub kept_inner : (bytes : List ℕ) (start : ℕ) (old outer : List Frame) (i : Frame) → old ≡ outer ++ i ∷ []
    → AreSound start (length bytes) old → IsSoundFrame start (length bytes) i
kept_inner bytes start old outer i is h = (kept-split outer i (subst (AreSound start (length bytes)) is h)).innermost

pub goes_there : (bytes : List ℕ) (start here at n : ℕ) (old outer new : List Frame) (i j : Frame) (f : model.Form) → old ≡ outer ++ i ∷ []
    → new ≡ outer ++ j ∷ [] → j.at ≡ i.at
    → Whole bytes start here at n old f → Becomes i.construct f j.construct
    → LeadsOn bytes start here (steps.land (frames_of bytes old) f (drop at bytes) (drop n bytes)) n new
goes_there bytes start here at n old outer new i j f is now same h lands =
    let inner = kept_inner bytes start old outer i is h.kept in
    let after : start ≤ i.at = inner.after in
    let within : i.at ≤ length bytes = inner.within in
    let frames = ap (frames_of bytes) now ∙ frames-last bytes outer j in
    let opened = ap (λ k. frame (open_of j.construct) (drop k bytes) (frames_of bytes outer)) (sym same) in
    record {
      ahead = h.ahead;
      within = h.within;
      kept = subst (AreSound start (length bytes)) (sym now)
          (kept_last outer j (kept_outer bytes start old outer i is h.kept)
          (record { after = omega arith; within = omega arith; kept = lands.0 }));
      runs = reaches_same
          (landing bytes at n old outer i f is ∙ (lands.1 (frames_of bytes outer) (drop i.at bytes) (drop at bytes) (drop n bytes)
          ∙ ap (λ z. going z (drop n bytes)) (opened ∙ sym frames)));
    }

over_there : (bytes : List ℕ) (start here at n : ℕ) (old outer : List Frame) (i : Frame) (f : model.Form) → old ≡ outer ++ i ∷ []
    → Whole bytes start here at n old f → EndsWith i.construct f
    → LeadsOn bytes start here (steps.land (frames_of bytes old) f (drop at bytes) (drop n bytes)) n outer
over_there bytes start here at n old outer i f is h lands =
    record {
      ahead = h.ahead;
      within = h.within;
      kept = kept_outer bytes start old outer i is h.kept;
      runs =
          reaches_same
          (landing bytes at n old outer i f is ∙ lands (frames_of bytes outer) (drop i.at bytes) (drop at bytes) (drop n bytes));
    }

-- the same, by what is left open
pub over_leads : (bytes : List ℕ) (start here at n : ℕ) (old outer new : List Frame) (slot : Option Edn) (i : Frame) (f : model.Form)
    (r : Result Progress EdnFault)
    → old ≡ outer ++ i ∷ []
    → r ≡ Ok (Further n) → new ≡ outer → Whole bytes start here at n old f → EndsWith i.construct f
    → Leads bytes start here (steps.land (frames_of bytes old) f (drop at bytes) (drop n bytes)) r new slot
over_leads bytes start here at n old outer new slot i f r is on now h lands =
    let begun = steps.land (frames_of bytes old) f (drop at bytes) (drop n bytes) in
    subst (λ z. Leads bytes start here begun z new slot) (sym on)
    (subst (λ (xs : List Frame). LeadsOn bytes start here begun n xs) (sym now) (over_there bytes start here at n old outer i f is h lands))

again_there : (bytes : List ℕ) (start here at n : ℕ) (old outer : List Frame) (i : Frame) (f : model.Form) → old ≡ outer ++ i ∷ []
    → Whole bytes start here at n old f → IsAgain i.construct f
    → LeadsAstray bytes start (steps.land (frames_of bytes old) f (drop at bytes) (drop n bytes)) faults.bad at
again_there bytes start here at n old outer i f is h lands =
    record {
      ahead = h.after;
      within = h.before;
      runs =
          reaches_same
          (landing bytes at n old outer i f is ∙ lands (frames_of bytes outer) (drop i.at bytes) (drop at bytes) (drop n bytes));
    }

-- where the innermost becomes another in its place, or the form is said again
pub lands_there : (bytes : List ℕ) (start here at n : ℕ) (old outer new : List Frame) (slot : Option Edn) (i j : Frame) (f : model.Form)
    (r : Result Progress EdnFault)
    → old ≡ outer ++ i ∷ [] → new ≡ outer ++ j ∷ [] → j.at ≡ i.at → Whole bytes start here at n old f
    → LandsAs i.construct f at n r j.construct
    → Leads bytes start here (steps.land (frames_of bytes old) f (drop at bytes) (drop n bytes)) r new slot
lands_there bytes start here at n old outer new slot i j f (Ok (Further m)) is now same h lands =
    subst (λ k. LeadsOn bytes start here (steps.land (frames_of bytes old) f (drop at bytes) (drop n bytes)) k new) (sym lands.0)
    (goes_there bytes start here at n old outer new i j f is now same h lands.1)
lands_there bytes start here at n old outer new slot i j f (Ok (Read m)) is now same h lands = absurd lands
lands_there bytes start here at n old outer new slot i j f (Ok End) is now same h lands = absurd lands
lands_there bytes start here at n old outer new slot i j f (Err (Bad byte)) is now same h lands =
    subst (λ b. LeadsAstray bytes start (steps.land (frames_of bytes old) f (drop at bytes) (drop n bytes)) faults.bad b) (sym lands.0)
    (again_there bytes start here at n old outer i f is h lands.1)
lands_there bytes start here at n old outer new slot i j f (Err (Unsupported byte what)) is now same h lands = absurd lands
lands_there bytes start here at n old outer new slot i j f (Err (Deep byte)) is now same h lands = absurd lands
lands_there bytes start here at n old outer new slot i j f (Err (Cut byte)) is now same h lands = absurd lands
lands_there bytes start here at n old outer new slot i j f (Err Memory) is now same h lands = tt

-- where it grows, or memory is wanting
pub grown_lands : (o p : Construct) (f : model.Form) (at n : ℕ) (r : Result Progress EdnFault) (Grew : Type 0)
    → IfOk r (λ q. (q ≡ Further n) × Grew) → OnErr r (r ≡ Err Memory) → (Grew → Becomes o f p) → LandsAs o f at n r p
grown_lands o p f at n (Ok q) Grew grew err becomes = subst (λ z. LandsAs o f at n (Ok z) p) (sym grew.0) (refl, becomes grew.1)
grown_lands o p f at n (Err e) Grew grew err becomes = subst (λ z. LandsAs o f at n z p) (sym err) tt
