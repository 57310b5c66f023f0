-- What a desk answers to a transaction is what the talk of its session says of that.
use Rattle.std.proofs.Common.{◌≡◌, ◌≢◌, ℕ, ◌+◌, ◌-◌, ◌<◌, ◌≤◌, ℤ, Bool, true, false, List, [], ◌∷◌, ◌++◌, Option, Some, None, length, take}
use Rattle.std.proofs.Common.{refl, sym, ap, ◌∙◌, subst, inl, inr, arith, length-append}
use Rattle.std.specs.Prelude.{codes}
use Rattle.std.specs.List.{slice_get}
use Rattle.std.proofs.Math.Seq.{take-length}
use Rattle.std.proofs.lemmas.List.{take-append-le}
use Rattle.edn_model.specs.Form.{Form}
use Rattle.fb_values.specs.declared.facts.Entry.{Entry}
use Rattle.fb_model.specs.History.{basis, upto}
use Rattle.fb_model.proofs.LawfulHistories.{IsLawful-length}
use Rattle.tx_refusals.specs.declared.reasons.Refusal.{Refusal}
use Rattle.tx_refusals.specs.Reasons.{keyword_of}
use Rattle.tx_model.specs.Step.{step, refused}
use Rattle.talk_model.specs.Commands.{Command, transact, command_in}
use Rattle.talk_model.specs.Replies as reply
use Rattle.talk_model.specs.Replies.{IsLineOf}
use Rattle.talk_model.specs.Session.{Standing, moved}
use Rattle.talk_model.specs.Talk.{IsAccepted, IsRefused, IsNotTaken, IsStopped, AnswersCommand}
use Rattle.fb_desk.specs.Desks.{State, GoesOn, IsReceipt, IsLogFault}
use Rattle.fb_desk.specs.Desks as desk
use Rattle.fb_desk.specs.declared.answers.Receipt.{Receipt}
use Rattle.fb_desk.specs.declared.answers.TxFault.{TxFault}
use Rattle.fb_desk.specs.declared.answers.TxFault.TheVariants.{Refused, LogFault, Stopped, Memory}
use Rattle.fb_session.specs.declared.session.Session.{Session}
use Rattle.fb_session.specs.Sessions.{over, HasStanding, Sees, Received, Denied, Transacts, Answered}
use Rattle.fb_session.specs.Terms.{Terms}
use Rattle.fb_session.proofs.Counting.{counted_accepted, counted_denied}

-- ---- histories

pub upto-basis : (h : List Entry) → length h ≡ basis h + 1 → upto h (basis h) ≡ h
upto-basis h counted = ap (λ n. take n h) (sym counted) ∙ take-length h

slice_get-seam : (h : List Entry) (entry : Entry) → slice_get (h ++ entry ∷ []) (length h) ≡ Some entry
slice_get-seam [] entry = refl
slice_get-seam (e ∷ h) entry = slice_get-seam h entry

-- ---- where the session stands

not_true : (b : Bool) → (b ≡ true → ⊥) → b ≡ false
not_true true never = absurd (never refl)
not_true false never = refl

some_none : (o : Option ℕ) (n : ℕ) → o ≡ Some n → o ≢ None
some_none o n some none = let e : Some n ≡ None = sym some ∙ none in absurd (cc)

module _ {S : Type 0} (f : Terms) (names : S → List (List ℕ)) (was is : State) (before : Standing) (old : Session S) (goes : GoesOn was is)
    (stands : HasStanding old.view names was before) where
  counted_was : length was.entries ≡ basis was.entries + 1
  counted_was = IsLawful-length was.entries stands.lawful

  pub counted_is : length is.entries ≡ basis is.entries + 1
  counted_is = IsLawful-length is.entries (goes.went_on.lawful stands.lawful)

  pub grown : before.place ≤ basis is.entries
  grown =
      let longer : length is.entries ≡ length was.entries + length goes.went_on.more =
      ap (λ (h : List Entry). length h) goes.went_on.entries ∙ length-append was.entries goes.went_on.more in
      omega (arith, counted_was, counted_is, longer, stands.place)

  pub still_told : before.was_notified ≡ true → is.stop ≢ None
  still_told told none =
      elim goes.went_on.stop [ inl untold ↦ stands.was_notified told untold | inr same ↦ stands.was_notified told (sym same.0 ∙ none) ]

  -- a log that has not stopped now had not stopped
  was_going : is.stop ≡ None → was.stop ≡ None
  was_going going = elim goes.went_on.stop [ inl untold ↦ untold | inr same ↦ sym same.0 ∙ going ]

  not_told : was.stop ≡ None → before.was_notified ≡ false
  not_told untold = not_true before.was_notified (λ told. stands.was_notified told untold)

  -- what is seen now, through the same window and filters
  pub stands_behind : (new : Session S) (after : Standing) → Sees old new is → after.place ≡ basis is.entries → after.window ≡ before.window
      → after.filters ≡ before.filters
      → (after.was_notified ≡ true → is.stop ≢ None) → HasStanding new.view names is after
  stands_behind new after sees place window filters told =
      record {
        lawful = goes.went_on.lawful stands.lawful;
        sees = sees.snapshot;
        place = place;
        window = window ∙ stands.window ∙ sym sees.window;
        filters = filters ∙ stands.filters ∙ ap names (sym sees.filter);
        was_notified = told;
      }

  -- ---- each answer

  module _ (asked : Form) (bytes : List ℕ) where
    accepted_in_talk : (receipt : Receipt) → IsReceipt f.may f.guard asked was is receipt
        → IsLineOf (reply.receipt receipt.t receipt.tempids.items) bytes
        → IsAccepted (over f is) before asked (moved before receipt.t) bytes (Some receipt.t)
    accepted_in_talk receipt r says =
        let past = was.entries ++ r.others in
        let longer : length is.entries ≡ length past + 1 =
        ap (λ (h : List Entry). length h) r.entries ∙ length-append past (r.entry ∷ []) in
        let at : receipt.t ≡ length past = omega (arith, r.t, counted_is, longer) in
        let above : before.place < receipt.t = omega (arith, at, length-append was.entries r.others, counted_was, stands.place) in
        let cut : (receipt.t - 1) + 1 ≡ length past = omega (arith, at, above) in
        let past_is : upto is.entries (receipt.t - 1) ≡ past =
        ap (λ n. take n is.entries) cut
        ∙ ap (take (length past)) r.entries
        ∙ take-append-le (length past) past (r.entry ∷ []) (omega arith)
        ∙ take-length past in
        record {
          going = not_told (was_going r.going);
          place = receipt.t;
          above = above;
          within = omega (arith, r.t);
          reading = r.reading;
          may_be = r.may_be;
          entry = r.entry;
          tempids = receipt.tempids.items;
          step_is = ap (λ h. step h asked r.reading f.guard) past_is ∙ r.step_is;
          kept = ap (slice_get is.entries) at ∙ ap (λ h. slice_get h (length past)) r.entries ∙ slice_get-seam past r.entry;
          says = says;
          commits = refl;
          stands = refl;
        }

    refused_in_talk : (refusal : Refusal) → is.stop ≡ None → ((reading : ℤ) → step is.entries asked reading f.guard ≡ refused refusal)
        → IsLineOf (reply.refusal_reply (keyword_of refusal.reason) refusal.at (basis is.entries)) bytes
        → IsRefused (over f is) before asked (moved before (basis is.entries)) bytes None
    refused_in_talk refusal going is_refused says =
        record {
          going = not_told (was_going going);
          place = basis is.entries;
          from = grown;
          within = omega arith;
          refusal = refusal;
          step_is = λ reading. ap (λ h. step h asked reading f.guard) (upto-basis is.entries counted_is) ∙ is_refused reading;
          says = says;
          commits = refl;
          stands = refl;
        }

    at_place : (word : List ℕ) (at : ℕ) → at ≡ basis is.entries + 1 → IsLineOf (reply.fault_reply word at (basis is.entries)) bytes
        → IsLineOf (reply.fault_reply word (basis is.entries + 1) (basis is.entries)) bytes
    at_place word at same says = let P : ℕ → Type 0 = λ n. IsLineOf (reply.fault_reply word n (basis is.entries)) bytes in subst P same says

    not_taken_in_talk : (at : ℕ) (snapshot : _) → IsLogFault f.may f.guard asked was is at snapshot
        → IsLineOf (reply.fault_reply (codes "log") at (basis is.entries)) bytes
        → IsNotTaken (over f is) before asked (record before { place = basis is.entries; was_notified = true }) bytes None
    not_taken_in_talk at snapshot r says =
        record {
          place = basis is.entries;
          from = grown;
          within = omega arith;
          stops = r.stop ∙ ap Some r.at_is;
          is_teller = r.teller;
          not_notified = not_told r.untold;
          reading = r.reading;
          may_be = r.may_be;
          entry = r.entry;
          tempids = r.tempids;
          step_is = ap (λ h. step h asked r.reading f.guard) (upto-basis is.entries counted_is) ∙ r.step_is;
          says = at_place (codes "log") at r.at_is says;
          commits = refl;
          stands = refl;
        }

    stopped_in_talk : (at : ℕ) (snapshot : _) → desk.IsStopped was is at snapshot
        → IsLineOf (reply.fault_reply (codes "log-stopped") at (basis is.entries)) bytes
        → IsStopped (over f is) before (record before { place = basis is.entries; was_notified = true }) bytes None
    stopped_in_talk at snapshot r says =
        record {
          place = basis is.entries;
          from = grown;
          within = omega arith;
          stops = r.stop ∙ ap Some r.at_is;
          says = at_place (codes "log-stopped") at r.at_is says;
          commits = refl;
          stands = refl;
        }

  -- ---- the form that asked

  module _ (form asked : Form) (asks : command_in form ≡ Some (transact asked)) (new : Session S) where
    as_form : (after : Standing) (bytes : List ℕ) (commit : Option ℕ)
        → AnswersCommand (over f is) before (Some (transact asked)) after bytes commit
        → AnswersCommand (over f is) before (command_in form) after bytes commit
    as_form after bytes commit a =
        let P : Option Command → Type 0 = λ c. AnswersCommand (over f is) before c after bytes commit in subst P (sym asks) a

    answered_receipt : (receipt : Receipt) (bytes : List ℕ) → Received f.may f.guard asked old new was is receipt
        → IsLineOf (reply.receipt receipt.t receipt.tempids.items) bytes
        → Answered f form old new names was is before bytes
    answered_receipt receipt bytes r says =
        record {
          after = moved before receipt.t;
          commit = Some receipt.t;
          answered = as_form (moved before receipt.t) bytes (Some receipt.t) (inl (accepted_in_talk asked bytes receipt r.is_receipt says));
          stands = stands_behind new (moved before receipt.t) r.sees r.is_receipt.t refl refl still_told;
          keeps = r.keeps;
          counted = counted_accepted form asked was.tally is.tally asks r.is_receipt.tally;
        }

    answered_fault : (why : TxFault) → Denied f.may f.guard asked old new was is why
        → Answered f form old new names was is before new.line.bytes.items
    answered_fault (Refused refusal snapshot) d =
        let after = moved before (basis is.entries) in
        record {
          after = after;
          commit = None;
          answered =
              as_form after new.line.bytes.items None
              (inr (inl (refused_in_talk asked new.line.bytes.items refusal d.is_fault.going d.is_fault.step_is d.says)));
          stands = stands_behind new after d.sees refl refl refl still_told;
          keeps = d.keeps;
          counted = counted_denied form asked was.tally is.tally asks d.is_fault.rest.tally;
        }
    answered_fault (LogFault at snapshot) d =
        let after = record before { place = basis is.entries; was_notified = true } in
        record {
          after = after;
          commit = None;
          answered =
              as_form after new.line.bytes.items None
              (inr (inr (inl (not_taken_in_talk asked new.line.bytes.items at snapshot d.is_fault d.says))));
          stands = stands_behind new after d.sees refl refl refl (λ _. some_none is.stop at d.is_fault.stop);
          keeps = d.keeps;
          counted = counted_denied form asked was.tally is.tally asks d.is_fault.rest.tally;
        }
    answered_fault (Stopped at snapshot) d =
        let after = record before { place = basis is.entries; was_notified = true } in
        record {
          after = after;
          commit = None;
          answered =
              as_form after new.line.bytes.items None
              (inr (inr (inr (stopped_in_talk asked new.line.bytes.items at snapshot d.is_fault d.says))));
          stands = stands_behind new after d.sees refl refl refl (λ _. some_none is.stop at d.is_fault.stop);
          keeps = d.keeps;
          counted = counted_denied form asked was.tally is.tally asks d.is_fault.rest.tally;
        }
    answered_fault Memory d = absurd d.says

    pub answered_transaction : Transacts f.may f.guard asked old new was is
        → Answered f form old new names was is before new.line.bytes.items
    answered_transaction transacts =
        elim transacts [ inl r ↦ answered_receipt r.0 new.line.bytes.items r.1 r.2 | inr d ↦ answered_fault d.0 d.1 ]
