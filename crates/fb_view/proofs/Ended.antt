-- A fact of an earlier point holds still, or a retraction of its triple has been said since.
use Rattle.std.proofs.Common.{◌≡◌, ◌∙◌, ℕ, zero, suc, ◌+◌, ◌<◌, ◌≤◌, ◌⊎◌, inl, inr, true, false, not, cond, List, [], ◌∷◌, ◌++◌, length}
use Rattle.std.proofs.Common.{take, refl, sym, ap, subst, arith, eqb, length-append}
use Rattle.std.specs.Prelude.{Contains}
use Rattle.std.specs.List.{list_any}
use Rattle.std.proofs.lemmas.Bool.{true≢false, cases_Bool, cases_lt, eqb-true}
use Rattle.std.proofs.lemmas.List.Elements.{Contains-append_left, Contains-append_right}
use Rattle.fb_values.specs.declared.facts.Datom.{Datom}
use Rattle.fb_values.specs.declared.facts.Entry.{Entry}
use Rattle.fb_model.specs.FirstEntry.{first_entry}
use Rattle.fb_model.specs.History.{basis, said, upto}
use Rattle.fb_model.specs.Facts.{facts, holds, is_of}
use Rattle.fb_model.specs.Lawful.{IsLawful, IsLawfulAfter}
use Rattle.fb_model.proofs.OneMoreEntry.{said-push, upto-append}
use Rattle.fb_model.proofs.LawfulHistories.{IsLawful-length}
use Rattle.fb_model.proofs.Invariants.{of_lawful, facts-push}
use Rattle.fb_model.proofs.Members.{any_member, member_passes, some_member, standing_member}
use Rattle.fb_model.proofs.Times.{own_t}
use Rattle.fb_model.proofs.Triples.{holds-facts, not_followed, standing-append}
use Rattle.live_index.specs.Ending.{is_mate}
use Rattle.live_index.proofs.Members.{into_filter}
use Rattle.live_index.proofs.Together.{of_back, said_by_time, standing_last}
use Rattle.fb_view.proofs.Standing.{said_early}

-- a retraction of the datom's triple, said after the point
pub record HasEnded (h : List Entry) (c : ℕ) (x : Datom) : Type 0 where
  pub datom : Datom
  pub is_said : Contains (said h) datom
  pub mate : is_mate x datom ≡ true
  pub later : c < datom.t
  pub gone : datom.added ≡ false

take_all : (n : ℕ) (h : List Entry) → length h ≤ n → take n h ≡ h
take_all zero [] short = refl
take_all zero (e ∷ h) short = absurd (omega (arith, short))
take_all (suc n) [] short = refl
take_all (suc n) (e ∷ h) short = ap (λ rest. e ∷ rest) (take_all n h (omega (arith, short)))

module _ (c : ℕ) (x : Datom) (h : List Entry) (entry : Entry) (next : IsLawfulAfter h entry) where
  abbrev after : List Entry
  after = h ++ entry ∷ []

  -- what an entry says of a triple that holds is a retraction
  retracts : (y : Datom) → (y.added ≡ true) ⊎ (y.added ≡ false) → Contains entry.datoms y → holds h y.e y.a y.v ≡ true → y.added ≡ false
  retracts y (inr not_so) there held = not_so
  retracts y (inl adds) there held =
      let allowed : cond y.added (not (holds h y.e y.a y.v)) (holds h y.e y.a y.v) ≡ true =
      member_passes (λ d. cond d.added (not (holds h d.e d.a d.v)) (holds h d.e d.a d.v)) entry.datoms y next.changes_alone there in
      let none : not (holds h y.e y.a y.v) ≡ true = rw adds at allowed in
      absurd (true≢false (sym none ∙ ap not held))

  ended_now : c ≤ basis h → Contains (facts h) x → (y : Datom) → Contains entry.datoms y → is_mate x y ≡ true → HasEnded after c x
  ended_now early holds_now y there mate = record {
    datom = y;
    is_said = subst (λ (ds : List Datom). Contains ds y) (sym (said-push h entry)) (Contains-append_right (said h) entry.datoms y there);
    mate = mate;
    later =
        let own = eqb-true y.t (basis h + 1) (member_passes (λ d. eqb d.t (basis h + 1)) entry.datoms y (own_t h entry next) there) in
        omega (arith, own, early);
    gone = retracts y (cases_Bool y.added) there
        (holds-facts h y.e y.a y.v ∙ any_member (is_of y.e y.a y.v) (facts h) x holds_now (of_back x y mate));
  }

  ended_before : HasEnded h c x → HasEnded after c x
  ended_before has = record {
    datom = has.datom;
    is_said = subst (λ (ds : List Datom). Contains ds has.datom) (sym (said-push h entry))
        (Contains-append_left (said h) entry.datoms has.datom has.is_said);
    mate = has.mate;
    later = has.later;
    gone = has.gone;
  }

  with_entry : c ≤ basis h → Contains (facts h) x → Contains (facts after) x ⊎ HasEnded after c x
  with_entry early holds_now =
      elim (cases_Bool (list_any (is_mate x) entry.datoms)) [
        | inl some ↦ let y = some_member (is_mate x) entry.datoms some in inr (ended_now early holds_now y.0 y.1 y.2)
        | inr none ↦
            inl (subst (λ (ds : List Datom). Contains ds x) (sym (facts-push h entry ∙ standing-append (said h) entry.datoms))
            (Contains-append_left _ _ x (into_filter (not_followed entry.datoms) (facts h) x holds_now (ap not none))))
      ]

holds_or_ended : (c : ℕ) (x : Datom) (h : List Entry) → IsLawful h → Contains (facts (upto h c)) x → Contains (facts h) x ⊎ HasEnded h c x
holds_or_ended c x =
    of_lawful (λ h. Contains (facts (upto h c)) x → Contains (facts h) x ⊎ HasEnded h c x)
    (λ then. inl (same (take_all (c + 1) (first_entry ∷ []) (omega arith)) then))
    (λ h entry lawful before next then.
    let counted = IsLawful-length h lawful in
    elim (cases_lt (basis h) c) [
      | inl beyond ↦
          inl (same (take_all (c + 1) (h ++ entry ∷ []) (omega (arith, beyond, counted, length-append h (entry ∷ [])))) then)
      | inr early ↦ elim (before (same (upto-append h (entry ∷ []) c (omega (arith, early, counted))) then)) [
        | inl still ↦ with_entry c x h entry next early still
        | inr has ↦ inr (ended_before c x h entry next has)
      ]
    ])
  where
    same : {g h : List Entry} → g ≡ h → Contains (facts g) x → Contains (facts h) x
    same is = subst (λ (past : List Entry). Contains (facts past) x) is

-- a fact of whose triple something is said after the point has ended since
pub ended : (h : List Entry) (c : ℕ) (x y : Datom) → IsLawful h → Contains (facts (upto h c)) x → Contains (said h) y
    → is_mate x y ≡ true → c < y.t → HasEnded h c x
ended h c x y lawful then there mate later =
    elim (holds_or_ended c x h lawful then) [
      | inl still ↦
          let was = said_early h c x lawful (standing_member (said (upto h c)) x then) in
          let bound = (standing_last (said h) x (said_by_time h lawful) still).latest y there mate in
          absurd (omega (arith, later, was.1, bound))
      | inr has ↦ has
    ]
