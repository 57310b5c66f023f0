-- The line of a look behind transactions that are tried.
use Rattle.std.proofs.Common.{◌≡◌, ◌∙◌, ℕ, Bool, true, false, List, [], length, refl, ap, sym, subst, Option}
use Rattle.std.specs.Prelude.{MatchBool, Result, OnOk}
use Rattle.std.proofs.lemmas.List.{length-map}
use Rattle.edn_model.specs.Form.{Form}
use Rattle.fb_values.specs.declared.facts.Datom.{Datom}
use Rattle.fb_values.specs.declared.facts.Entry.{Entry}
use Rattle.fb_model.specs.History.{basis}
use Rattle.tx_refusals.specs.declared.reasons.Refusal.{Refusal}
use Rattle.tx_refusals.specs.Reasons as tx
use Rattle.with_model.specs.Chain.{TxReport, Chain, reaches, refused_at, chain, is_unfiltered}
use Rattle.view_model.specs.Window.{Window, whole}
use Rattle.tx_model.specs.Step.{Guard}
use Rattle.read_refusals.specs.declared.reasons.Reason.TheVariants.{Filtered}
use Rattle.read_model.specs.Given.{refusal}
use Rattle.talk_model.specs.Commands.{Look}
use Rattle.talk_model.specs.Replies.{with_reply, refusal_reply, IsLineOf}
use Rattle.talk_model.specs.Session.{Sight}
use Rattle.talk_model.specs.Looks.{refused, IsLook}
use Rattle.talk_model.specs.Tried.{at_end, ShowsChain, IsTried}
use Rattle.fb_reads.specs.Answers.{IsLineFor, sight_in}

module _ (s : Sight) (l : Look) (line : List ℕ) where
  abbrev narrowed : Form
  narrowed = refused (basis s.history) (refusal Filtered 0)

  pub filtered : (datas : List Form) → is_unfiltered s.window (length s.filters) ≡ false → IsLineOf narrowed line → IsLineFor (IsTried s datas l) line
  filtered datas isnt says = (
    narrowed,
    subst (λ (b : Bool). MatchBool b (ShowsChain s l (chain s.guard s.history datas) narrowed) (narrowed ≡ narrowed)) (sym isnt) refl,
    says,
  )

  pub chained : (datas : List Form) (c : Chain) → is_unfiltered s.window (length s.filters) ≡ true → chain s.guard s.history datas ≡ c
      → IsLineFor (ShowsChain s l c) line → IsLineFor (IsTried s datas l) line
  chained datas c is reached said =
      let shows = subst (λ (c : Chain). ShowsChain s l c said.0) (sym reached) said.1 in (
        said.0,
        subst (λ (b : Bool). MatchBool b (ShowsChain s l (chain s.guard s.history datas) said.0) (said.0 ≡ narrowed)) (sym is) shows,
        said.2,
      )

  pub refused_line : (r : Refusal) (at : ℕ) → IsLineOf (refusal_reply (tx.keyword_of r.reason) r.at at) line
      → IsLineFor (ShowsChain s l (refused_at r at)) line
  refused_line r at says = (refusal_reply (tx.keyword_of r.reason) r.at at, refl, says)

  pub behind_line : (h : List Entry) (reports : List TxReport) (shown : Form) → IsLook (at_end s h) l shown
      → IsLineOf (with_reply (basis s.history) reports shown) line → IsLineFor (ShowsChain s l (reaches h reports)) line
  behind_line h reports shown looks says = (with_reply (basis s.history) reports shown, (shown, looks, refl), says)

-- what is said of a refusal as it was handed on
pub as_bound : {T E : Type 0} (result : Result T E) (line : List ℕ) {given r : Refusal} {m n : ℕ} → given ≡ r → m ≡ n
    → OnOk result (IsLineOf (refusal_reply (tx.keyword_of given.reason) given.at m) line)
    → OnOk result (IsLineOf (refusal_reply (tx.keyword_of r.reason) r.at n) line)
as_bound result line {given} {r} {m} {n} same known says =
    subst (λ (n : ℕ). OnOk result (IsLineOf (refusal_reply (tx.keyword_of r.reason) r.at n) line)) known
    (subst (λ (r : Refusal). OnOk result (IsLineOf (refusal_reply (tx.keyword_of r.reason) r.at m) line)) same says)

-- ---- of a view whose filters are at places of a table

module _ {K : Type 0} (place_of : K → List ℕ → Option ℕ) (name_at : K → ℕ → List ℕ) (SelectsAt : K → ℕ → Datom → Type 0)
    (guard : Guard) (table : K) (h : List Entry) (w : Window) (places : List ℕ) where
  abbrev pub seen : Sight
  seen = sight_in (place_of table) (name_at table) (SelectsAt table) guard h w places

  pub counted : (b answer : Bool) → answer ≡ is_unfiltered w (length places) → answer ≡ b
      → is_unfiltered seen.window (length seen.filters) ≡ b
  counted b answer is known = ap (is_unfiltered w) (length-map places (name_at table)) ∙ sym is ∙ known

  -- what is seen over another history, of everything
  pub seen_at_end : (end : List Entry) (other : K) (g : List Entry) (v : Window) (none : List ℕ) → other ≡ table → g ≡ end → v ≡ whole
      → none ≡ []
      → ◌≡◌ {A = Sight} (sight_in (place_of other) (name_at other) (SelectsAt other) guard g v none) (at_end seen end)
  seen_at_end end other g v none same_table same_history same_window same_places =
      λ i. sight_in (place_of (same_table i)) (name_at (same_table i)) (SelectsAt (same_table i)) guard (same_history i) (same_window i)
      (same_places i)
