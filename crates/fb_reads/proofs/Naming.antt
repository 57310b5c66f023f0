-- What is answered of a filter's name, and what becomes of the names.
use Rattle.std.proofs.Common.{◌≡◌, ℕ, Bool, true, false, cond, List, [], ◌∷◌, ◌++◌, map, bytes_eq, eqb, Option, Some, None, Result, Ok, Err}
use Rattle.std.proofs.Common.{inl, inr, refl, sym, subst, ap, ◌∙◌}
use Rattle.std.specs.Prelude.{is_some, IfOk, OnOk}
use Rattle.std.specs.List.{list_any}
use Rattle.std.proofs.lemmas.List.{map-append}
use Rattle.std.proofs.lemmas.Bool.{true≢false, cases_Bool, eqb-true, eq-eqb}
use Rattle.std.proofs.lemmas.Slice.Eq.{bytes_eq-Decides}
use Rattle.edn_model.specs.Form.{Form}
use Rattle.fb_preds.specs.Naming.{IsFound, AreFound, with_place}
use Rattle.talk_model.specs.Session.{with_name}
use Rattle.talk_model.specs.Replies.{done_reply, IsLineOf}
use Rattle.read_refusals.specs.declared.reasons.Refusal.{Refusal}
use Rattle.talk_model.specs.Looks.{refused}
use Rattle.fb_reads.specs.Answers.{no_filter}

pub unnamed : {T E : Type 0} (r : Result T E) (o : Option ℕ) (basis n : ℕ) (refusal : Refusal) (line : List ℕ) → o ≡ None → n ≡ basis
    → refusal ≡ no_filter
    → OnOk r (IsLineOf (refused n refusal) line) → OnOk r (IsLineOf (cond (is_some o) (done_reply basis) (refused basis no_filter)) line)
unnamed r o basis n refusal line is same alike says =
    subst (λ (o : Option ℕ). OnOk r (IsLineOf (cond (is_some o) (done_reply basis) (refused basis no_filter)) line)) (sym is)
    (subst (λ (f : Form). OnOk r (IsLineOf f line)) (λ i. refused (same i) (alike i)) says)

pub named_done : {T E : Type 0} (r : Result T E) (o : Option ℕ) (place basis n : ℕ) (line : List ℕ) → o ≡ Some place → n ≡ basis
    → IsLineOf (done_reply n) line → OnOk r (IsLineOf (cond (is_some o) (done_reply basis) (refused basis no_filter)) line)
named_done (Ok x) o place basis n line is same says =
    subst (λ (o : Option ℕ). IsLineOf (cond (is_some o) (done_reply basis) (refused basis no_filter)) line) (sym is)
    (subst (λ (n : ℕ). IsLineOf (done_reply n) line) same says)
named_done (Err e) o place basis n line is same says = tt

-- a name stands already exactly where its place does
one_name : (place_of : List ℕ → Option ℕ) (name_at : ℕ → List ℕ) (place p : ℕ) (name : List ℕ) → place_of name ≡ Some place
    → name_at place ≡ name
    → IsFound place_of name_at p → bytes_eq name (name_at p) ≡ eqb place p
one_name place_of name_at place p name is named found =
    elim (cases_Bool (eqb place p)) [
      | inl same ↦
          let here : name ≡ name_at p = sym named ∙ ap name_at (eqb-true place p same) in
          (bytes_eq-Decides name (name_at p)).1 here ∙ sym same
      | inr other ↦
          elim (cases_Bool (bytes_eq name (name_at p))) [
            | inl alike ↦
                let place_is : Some place ≡ Some p = sym is ∙ ap place_of ((bytes_eq-Decides name (name_at p)).0 alike) ∙ found in
                let same_place : place ≡ p = cc in absurd (true≢false (sym (eq-eqb place p same_place) ∙ other))
            | inr apart ↦ apart ∙ sym other
          ]
    ]

names_there : (place_of : List ℕ → Option ℕ) (name_at : ℕ → List ℕ) (place : ℕ) (name : List ℕ) (places : List ℕ)
    → place_of name ≡ Some place → name_at place ≡ name
    → AreFound place_of name_at places → list_any (bytes_eq name) (map name_at places) ≡ list_any (eqb place) places
names_there place_of name_at place name [] is named are = refl
names_there place_of name_at place name (p ∷ places) is named are =
    rw (one_name place_of name_at place p name is named are.0, names_there place_of name_at place name places is named are.1) refl

names_with : (place_of : List ℕ → Option ℕ) (name_at : ℕ → List ℕ) (place : ℕ) (name : List ℕ) (places : List ℕ)
    → place_of name ≡ Some place → name_at place ≡ name
    → AreFound place_of name_at places → map name_at (with_place places place) ≡ with_name (map name_at places) name
names_with place_of name_at place name places is named are =
    by_any (list_any (eqb place) places)
    ∙ ap (λ b. cond b (map name_at places) (map name_at places ++ name ∷ []))
    (sym (names_there place_of name_at place name places is named are))
  where
    by_any : (b : Bool) → map name_at (cond b places (places ++ place ∷ [])) ≡ cond b (map name_at places) (map name_at places ++ name ∷ [])
    by_any true = refl
    by_any false = map-append name_at places (place ∷ []) ∙ ap (λ (n : List ℕ). map name_at places ++ n ∷ []) named

pub named_more : {T E : Type 0} (r : Result T E) (place_of : List ℕ → Option ℕ) (name_at : ℕ → List ℕ) (place : ℕ) (name : List ℕ)
    (old new : List ℕ)
    → place_of name ≡ Some place
    → name_at place ≡ name → AreFound place_of name_at old → IfOk r (λ _. new ≡ with_place old place)
    → OnOk r (map name_at new ≡ cond (is_some (place_of name)) (with_name (map name_at old) name) (map name_at old))
named_more (Ok x) place_of name_at place name old new is named are added =
    subst (λ (o : Option ℕ). map name_at new ≡ cond (is_some o) (with_name (map name_at old) name) (map name_at old)) (sym is)
    (ap (map name_at) added ∙ names_with place_of name_at place name old is named are)
named_more (Err e) place_of name_at place name old new is named are added = tt
