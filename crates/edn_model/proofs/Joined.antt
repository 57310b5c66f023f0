-- Members and pairs, and more behind them.
use Rattle.std.proofs.Common.{◌≡◌, Bool, true, false, refl, ap, ◌∙◌, sym}
use Rattle.std.specs.Prelude.{not}
use Rattle.edn_model.specs.Form.{Form, Forms, no_forms, form, Pairs, no_pairs, pair, with_last, with_last_pair}
use Rattle.edn_model.specs.Likeness.{alike, any, distinct_from, keys}
use Rattle.edn_model.proofs.Runs.{both, both_true}
use Rattle.edn_model.proofs.OneForm.{not_true}

abbrev pub join : Forms → Forms → Forms
join no_forms gs = gs
join (form f fs) gs = form f (join fs gs)

abbrev pub join_pairs : Pairs → Pairs → Pairs
join_pairs no_pairs qs = qs
join_pairs (pair k v ps) qs = pair k v (join_pairs ps qs)

pub join-nothing : (fs : Forms) → join fs no_forms ≡ fs
join-nothing no_forms = refl
join-nothing (form f fs) = ap (form f) (join-nothing fs)

pub join-last : (fs : Forms) (g : Form) (gs : Forms) → join (with_last fs g) gs ≡ join fs (form g gs)
join-last no_forms g gs = refl
join-last (form f fs) g gs = ap (form f) (join-last fs g gs)

pub join_pairs-nothing : (ps : Pairs) → join_pairs ps no_pairs ≡ ps
join_pairs-nothing no_pairs = refl
join_pairs-nothing (pair k v ps) = ap (pair k v) (join_pairs-nothing ps)

pub join_pairs-last : (ps : Pairs) (k v : Form) (qs : Pairs) → join_pairs (with_last_pair ps k v) qs ≡ join_pairs ps (pair k v qs)
join_pairs-last no_pairs k v qs = refl
join_pairs-last (pair l w ps) k v qs = ap (pair l w) (join_pairs-last ps k v qs)

pub keys-last : (ps : Pairs) (k v : Form) → keys (with_last_pair ps k v) ≡ with_last (keys ps) k
keys-last no_pairs k v = refl
keys-last (pair l w ps) k v = ap (form l) (keys-last ps k v)

-- ---- none of them alike

pub not_false : (b : Bool) → b ≡ false → not b ≡ true
not_false true h = absurd (let wrong = h in cc)
not_false false h = refl

-- the first of some forms is like none before it, and so are the others
pub record Apart (seen : Forms) (f : Form) (fs : Forms) : Type 0 where
  pub first : any (alike f) seen ≡ false
  pub others : distinct_from (with_last seen f) fs ≡ true

pub apart_first : (seen : Forms) (f : Form) (fs : Forms) → distinct_from seen (form f fs) ≡ true → Apart seen f fs
apart_first seen f fs h =
    let parts = both (not (any (alike f) seen)) (distinct_from (with_last seen f) fs) h in
    record { first = not_true (any (alike f) seen) parts.0; others = parts.1 }

pub distinct-last : (seen fs : Forms) (f : Form) → distinct_from seen fs ≡ true → any (alike f) (join seen fs) ≡ false
    → distinct_from seen (with_last fs f) ≡ true
distinct-last seen no_forms f h k =
    both_true (not (any (alike f) seen)) true (not_false (any (alike f) seen) (sym (ap (any (alike f)) (join-nothing seen)) ∙ k)) refl
distinct-last seen (form g fs) f h k =
    let parts = both (not (any (alike g) seen)) (distinct_from (with_last seen g) fs) h in
    both_true (not (any (alike g) seen)) (distinct_from (with_last seen g) (with_last fs f)) parts.0
    (distinct-last (with_last seen g) fs f parts.1 (ap (any (alike f)) (join-last seen g fs) ∙ k))

pub record Before (seen fs : Forms) (f : Form) : Type 0 where
  pub before : distinct_from seen fs ≡ true
  pub last : any (alike f) (join seen fs) ≡ false

pub distinct-before : (seen fs : Forms) (f : Form) → distinct_from seen (with_last fs f) ≡ true → Before seen fs f
distinct-before seen no_forms f h =
    let a = apart_first seen f no_forms h in
    record { before = refl; last = ap (any (alike f)) (join-nothing seen) ∙ a.first }
distinct-before seen (form g fs) f h =
    let parts = both (not (any (alike g) seen)) (distinct_from (with_last seen g) (with_last fs f)) h in
    let rest = distinct-before (with_last seen g) fs f parts.1 in
    record {
      before = both_true (not (any (alike g) seen)) (distinct_from (with_last seen g) fs) parts.0 rest.before;
      last = sym (ap (any (alike f)) (join-last seen g fs)) ∙ rest.last;
    }
