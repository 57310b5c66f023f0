-- At one place a transaction has one line, whatever the clock reads.
use Rattle.std.proofs.Common.{ℕ, ℤ, pos, ◌≡◌, ◌-◌, List, Option, Some, ap, sym, ◌∙◌, subst}
use Rattle.edn_model.specs.Form.{Form}
use Rattle.fb_values.specs.declared.facts.Entry.{Entry}
use Rattle.fb_model.specs.History.{upto}
use Rattle.tx_refusals.specs.declared.reasons.Refusal.{Refusal}
use Rattle.tx_refusals.specs.Reasons.{keyword_of}
use Rattle.tx_model.specs.Tempids.{named_tempids}
use Rattle.tx_model.specs.Transaction.{transaction}
use Rattle.tx_model.specs.Step.{refused, accepted, step, IsAcceptedAt}
use Rattle.tx_model.proofs.Steps.{accepted_at}
use Rattle.talk_model.specs.Replies.{receipt, basis_reply, refusal_reply, IsLineOf}
use Rattle.talk_model.specs.Session.{Setting, Standing}
use Rattle.talk_model.specs.Talk.{IsAccepted, IsRefused, IsShown}
use Rattle.talk_model.proofs.OneReply.{one_line}

place_of : {x y : Standing} → x ≡ y → x.place ≡ y.place
place_of same = ap (λ (standing : Standing). standing.place) same

some_one : (x y : List Form) → Some x ≡ Some y → x ≡ y
some_one x y same = cc

tempids_one : (h : List Entry) (asked : Form) (one other : ℤ) (entry next : Entry) (tempids names : List (List ℕ × ℕ))
    → IsAcceptedAt h asked one entry tempids → IsAcceptedAt h asked other next names → tempids ≡ names
tempids_one h asked one other entry next tempids names first second =
    let forms = some_one first.forms second.forms (sym first.forms_are ∙ second.forms_are) in
    first.tempids_are ∙ ap (λ fs. named_tempids (transaction h fs).names) forms ∙ sym second.tempids_are

refusal_one : (x y : Refusal) → refused x ≡ refused y → x ≡ y
refusal_one x y same = cc

module _ (s : Setting) (before after other : Standing) (line that : List ℕ) (commit last : Option ℕ)
    (place : after.place ≡ other.place) where
  pub accepted_one : (asked : Form) → IsAccepted s before asked after line commit → IsAccepted s before asked other that last → line ≡ that
  accepted_one asked first second =
      let same : first.place ≡ second.place = sym (place_of first.stands) ∙ place ∙ place_of second.stands in
      let Steps : ℕ → Type 0 = λ p. step (upto s.history (p - 1)) asked first.reading s.guard ≡ accepted first.entry first.tempids in
      let one =
      accepted_at (upto s.history (second.place - 1)) asked s.guard first.reading first.entry first.tempids
      (subst Steps same first.step_is) in
      let two = accepted_at (upto s.history (second.place - 1)) asked s.guard second.reading second.entry second.tempids second.step_is in
      let tempids =
      tempids_one (upto s.history (second.place - 1)) asked _ _ first.entry second.entry first.tempids second.tempids one two in
      let Line : Form → Type 0 = λ reply. IsLineOf reply line in
      one_line (receipt second.place second.tempids) line that
      (subst Line (ap (λ p. receipt p first.tempids) same ∙ ap (receipt second.place) tempids) first.says) second.says

  pub refused_one : (asked : Form) → IsRefused s before asked after line commit → IsRefused s before asked other that last → line ≡ that
  refused_one asked first second =
      let same : first.place ≡ second.place = sym (place_of first.stands) ∙ place ∙ place_of second.stands in
      let Steps : ℕ → Type 0 = λ p. step (upto s.history p) asked (pos 0) s.guard ≡ refused first.refusal in
      let refusals = refusal_one first.refusal second.refusal (sym (subst Steps same (first.step_is (pos 0))) ∙ second.step_is (pos 0)) in
      let Line : Form → Type 0 = λ reply. IsLineOf reply line in
      one_line (refusal_reply (keyword_of second.refusal.reason) second.refusal.at second.place) line that
      (subst Line (ap (λ p. refusal_reply (keyword_of first.refusal.reason) first.refusal.at p) same
      ∙ ap (λ (r : Refusal). refusal_reply (keyword_of r.reason) r.at second.place) refusals) first.says) second.says

  pub shown_one : IsShown s before after line commit → IsShown s before other that last → line ≡ that
  shown_one first second =
      let same : first.place ≡ second.place = sym (place_of first.stands) ∙ place ∙ place_of second.stands in
      let Line : Form → Type 0 = λ reply. IsLineOf reply line in
      one_line (basis_reply second.place) line that (subst Line (ap basis_reply same) first.says) second.says
