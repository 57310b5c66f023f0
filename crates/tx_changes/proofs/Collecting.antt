-- The askings of the acts, form by form, are all that their forms ask.
use Rattle.std.proofs.Common.{◌≡◌, ℕ, zero, suc, ◌+◌, true, List, [], ◌∷◌, ◌++◌, map, refl, ap, sym, ◌∙◌, subst, arith, inl, inr}
use Rattle.std.specs.Prelude.{flat_map, Contains}
use Rattle.std.specs.List.{list_any}
use Rattle.std.proofs.lemmas.List.{map-append}
use Rattle.std.proofs.lemmas.List.Elements.{Contains-append_left, Contains-append_right, Contains-append_cases}
use Rattle.fb_values.specs.declared.facts.Datom.{Datom}
use Rattle.fb_model.specs.Facts.{is_of}
use Rattle.tx_model.specs.Tempids.{Db}
use Rattle.tx_model.specs.ChangeRules.{at}
use Rattle.tx_model.proofs.Lists.{not_in_none, IsImage, image_of, has_image}
use Rattle.tx_asks.specs.declared.triples.Asking.{Asking}
use Rattle.tx_asks.specs.Acts.{Act, adds, retracts, retracts_all, compares, retracts_entity, additions_of, retractions_of}
use Rattle.tx_asks.specs.Triples.{IsAsked, AreAskings}
use Rattle.tx_sweep.specs.Sweep.{asking_at}
use Rattle.tx_sweep.proofs.Members.{any_of}
use Rattle.tx_sweep.proofs.Sweeping.{all_members, told-by, is_of-itself}
use Rattle.tx_changes.specs.declared.noted.AskedAs.{AskedAs}
use Rattle.tx_changes.specs.declared.noted.AskedAs.TheVariants.{Added, Retracted}
use Rattle.tx_changes.specs.Asked.{asked_by, asked_from}

-- the datoms of lists as askings, where the first list is that of the form at the place
abbrev pub listed_from : ℕ → List (List Datom) → List Asking
listed_from place [] = []
listed_from place (ds ∷ lists) = map (asking_at place) ds ++ listed_from (place + 1) lists

asked_is_listed : (way : AskedAs) (finds : Act → List Datom)
    → ((place : ℕ) (act : Act) → asked_by way place act ≡ map (asking_at place) (finds act)) → (place : ℕ) (forms : List (List Act))
    → asked_from way place forms ≡ listed_from place (map (flat_map finds) forms)
asked_is_listed way finds same place [] = refl
asked_is_listed way finds same place (acts ∷ forms) =
    ap (λ xs. xs ++ asked_from way (place + 1) forms) (one acts)
    ∙ ap (λ xs. map (asking_at place) (flat_map finds acts) ++ xs) (asked_is_listed way finds same (place + 1) forms)
  where
    one : (acts : List Act) → flat_map (asked_by way place) acts ≡ map (asking_at place) (flat_map finds acts)
    one [] = refl
    one (act ∷ acts) =
        ap (λ xs. xs ++ flat_map (asked_by way place) acts) (same place act)
        ∙ ap (λ xs. map (asking_at place) (finds act) ++ xs) (one acts)
        ∙ sym (map-append (asking_at place) (finds act) (flat_map finds acts))

record IsListed (first : ℕ) (lists : List (List Datom)) (x : Asking) : Type 0 where
  place : ℕ
  source : Datom
  among : Contains (at lists place) source
  is : asking_at (first + place) source ≡ x

listed_of : (first : ℕ) (lists : List (List Datom)) (x : Asking) → Contains (listed_from first lists) x → IsListed first lists x
listed_of first [] x member = absurd (not_in_none x member)
listed_of first (ds ∷ lists) x member =
    elim (Contains-append_cases (map (asking_at first) ds) (listed_from (first + 1) lists) x member) [
      | inl now ↦ here (image_of (asking_at first) ds x now)
      | inr later ↦ behind (listed_of (first + 1) lists x later)
    ]
  where
    use_place : (p q : ℕ) → p ≡ q → (d : Datom) → asking_at p d ≡ x → asking_at q d ≡ x
    use_place p q same d is = sym (ap (λ n. asking_at n d) same) ∙ is

    here : IsImage (asking_at first) ds x → IsListed first (ds ∷ lists) x
    here image = record {
      place = 0;
      source = image.original;
      among = image.among;
      is = use_place first (first + 0) (omega arith) image.original image.image_is;
    }

    behind : IsListed (first + 1) lists x → IsListed first (ds ∷ lists) x
    behind listed = record {
      place = suc listed.place;
      source = listed.source;
      among = listed.among;
      is = use_place (first + 1 + listed.place) (first + suc listed.place) (omega arith) listed.source listed.is;
    }

is_listed : (first : ℕ) (lists : List (List Datom)) (place : ℕ) (d : Datom) → Contains (at lists place) d
    → Contains (listed_from first lists) (asking_at (first + place) d)
is_listed first [] zero d member = absurd (not_in_none d member)
is_listed first [] (suc place) d member = absurd (not_in_none d member)
is_listed first (ds ∷ lists) zero d member =
    let same : first ≡ first + 0 = omega arith in
    Contains-append_left (map (asking_at first) ds) (listed_from (first + 1) lists) (asking_at (first + 0) d)
    (subst (λ n. Contains (map (asking_at first) ds) (asking_at n d)) same (has_image (asking_at first) ds d member))
is_listed first (ds ∷ lists) (suc place) d member =
    let same : first + 1 + place ≡ first + suc place = omega arith in
    Contains-append_right (map (asking_at first) ds) (listed_from (first + 1) lists) (asking_at (first + suc place) d)
    (subst (λ n. Contains (listed_from (first + 1) lists) (asking_at n d)) same (is_listed (first + 1) lists place d member))

are_listed : (lists : List (List Datom)) → AreAskings lists (listed_from 0 lists)
are_listed lists =
    record {
      asked = all_members (IsAsked lists) (listed_from 0 lists) asked;
      whole =
          λ place d member.
          told-by place (listed_from 0 lists) d (asking_at (0 + place) d) (is_listed 0 lists place d member) (omega arith) (is_of-itself d);
    }
  where
    asked : (x : Asking) → Contains (listed_from 0 lists) x → IsAsked lists x
    asked x member =
        let listed = listed_of 0 lists x member in
        let d = listed.source in
        let same : listed.place ≡ 0 + listed.place = omega arith in
        let one : list_any (is_of d.e d.a d.v) (at lists listed.place) ≡ true =
        any_of (is_of d.e d.a d.v) (at lists listed.place) d listed.among (is_of-itself d) in
        subst (IsAsked lists) listed.is (subst (λ n. IsAsked lists (asking_at n d)) same one)

-- ---- additions and retractions

added_same : (db : Db) (place : ℕ) (act : Act) → asked_by Added place act ≡ map (asking_at place) (additions_of db act)
added_same db place (adds e a v) = refl
added_same db place (retracts e a v) = refl
added_same db place (retracts_all e a) = refl
added_same db place (compares e a old new) = refl
added_same db place (retracts_entity e) = refl

retracted_same : (db : Db) (place : ℕ) (act : Act) → asked_by Retracted place act ≡ map (asking_at place) (retractions_of db act)
retracted_same db place (adds e a v) = refl
retracted_same db place (retracts e a v) = refl
retracted_same db place (retracts_all e a) = refl
retracted_same db place (compares e a old new) = refl
retracted_same db place (retracts_entity e) = refl

pub added_are : (db : Db) (forms : List (List Act)) → AreAskings (map (flat_map (additions_of db)) forms) (asked_from Added 0 forms)
added_are db forms =
    subst (AreAskings (map (flat_map (additions_of db)) forms)) (sym (asked_is_listed Added (additions_of db) (added_same db) 0 forms))
    (are_listed (map (flat_map (additions_of db)) forms))

pub retracted_are : (db : Db) (forms : List (List Act))
    → AreAskings (map (flat_map (retractions_of db)) forms) (asked_from Retracted 0 forms)
retracted_are db forms =
    subst (AreAskings (map (flat_map (retractions_of db)) forms))
    (sym (asked_is_listed Retracted (retractions_of db) (retracted_same db) 0 forms))
    (are_listed (map (flat_map (retractions_of db)) forms))
