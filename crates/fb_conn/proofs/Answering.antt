-- What a session knows after its turn, and what that says of the answer.
use Rattle.std.proofs.Common.{◌≡◌, ◌∙◌, ℕ, ℤ, ◌+◌, List, [], ◌∷◌, ◌++◌, Option, Some, None, sym, ap, subst, arith, append_assoc, eq-eqb}
use Rattle.std.proofs.Common.{ne_eqb}
use Rattle.std.specs.Prelude.{option_map, Result, Ok, Err, IfOk, IfErr, OnErr}
use Rattle.std.proofs.lemmas.List.{append-nil}
use Rattle.atomic_table.specs.Seated.{TableId}
use Rattle.edn_model.specs.Form.{Form}
use Rattle.fb_values.specs.declared.facts.Entry.{Entry}
use Rattle.fb_model.specs.History.{basis}
use Rattle.fb_model.specs.Lawful.{IsLawful}
use Rattle.tx_refusals.specs.declared.reasons.Refusal.{Refusal}
use Rattle.tx_model.specs.Step.{Guard, step, accepted, refused}
use Rattle.fb_view.specs.SnapshotModel.{SnapshotModel}
use Rattle.fb_core.specs.declared.accepting.Draft.{Draft}
use Rattle.fb_core.specs.Cores.{entry_of}
use Rattle.fb_desk.specs.declared.answers.Receipt.{Receipt}
use Rattle.fb_desk.specs.Desks.{GoesOn, IsReceipt, IsNotAccepted, IsRefusal, IsLogFault, IsStopped, IsOutOfMemory}
use Rattle.board_rule.specs.declared.view.Stop.{Stop}
use Rattle.board_rule.specs.declared.view.Marks.{Marks}
use Rattle.board_rule.specs.declared.view.Code.{Code}
use Rattle.board_rule.specs.declared.view.View.{View}
use Rattle.board_rule.specs.Views.{StartsWith}
use Rattle.board_turn.specs.Turn.{left}
use Rattle.board_seats.specs.Sight.{Learns}
use Rattle.board_seats.specs.Turning.{entered, left_seen}
use Rattle.fb_conn.specs.Homes.{code_of, follows}
use Rattle.fb_conn.specs.Seats.{at_of, is_own, state_by}
use Rattle.fb_conn.specs.Turns.{committed, stopped_at, IsReceiptOf}
use Rattle.fb_conn.proofs.States.{goes_on, untold, same_own}

-- what follows in both cases of a result
pub by_result : {A E C : Type 0} {P : A → Type 0} {Q : Type 0} (r : Result A E) → IfOk r P → OnErr r Q → ((a : A) → P a → C) → (Q → C) → C
by_result (Ok a) p q ok err = ok a p
by_result (Err e) p q ok err = err q

pub by_outcome : {A E C : Type 0} {P : A → Type 0} {Q : E → Type 0} (r : Result A E) → IfOk r P → IfErr r Q
    → ((a : A) → P a → C) → ((e : E) → Q e → C) → C
by_outcome (Ok a) p q ok err = ok a p
by_outcome (Err e) p q ok err = err e q

pub if_ok : {A E : Type 0} {P Q : A → Type 0} (r : Result A E) → IfOk r P → ((a : A) → P a → Q a) → IfOk r Q
if_ok (Ok a) p f = f a p
if_ok (Err e) p f = tt

pub if_err : {A E : Type 0} {P Q : E → Type 0} (r : Result A E) → IfErr r P → ((e : E) → P e → Q e) → IfErr r Q
if_err (Ok a) p f = tt
if_err (Err e) p f = f e p

pub on_err : {A E : Type 0} {P Q : Type 0} (r : Result A E) → OnErr r P → (P → Q) → OnErr r Q
on_err (Ok a) p f = tt
on_err (Err e) p f = f p

not_both : (p : Stop) (now : Option Stop) → now ≡ Some p → now ≡ None → ⊥
not_both p now some none = let both = sym some ∙ none in cc both

never_told : (p : Stop) (old : Option Stop) → old ≡ Some p → option_map at_of old ≡ None → ⊥
never_told p old some none = let both = sym (ap (option_map at_of) some) ∙ none in cc both

-- The turn of a seat that had the view v and had seen the list `last`.
-- Slot 0's value stood for the list h, and x is the view after the turn.
module _ (t u : TableId) (v w x : View Code) (ticket : ℕ) (last h : List Entry) (authors : List ℕ) (marks : Marks) (same : u ≡ t)
    (enters : w ≡ entered code_of v ticket h authors marks)
    (learns : Learns follows v last h authors marks) where
  shown : (named : Marks) → x ≡ left_seen code_of w h named → x ≡ left_seen code_of (entered code_of v ticket h authors marks) h named
  shown named ends = ends ∙ ap (λ (z : View Code). left_seen code_of z h named) enters

  goes_on_seen : (named : Marks) → x ≡ left_seen code_of w h named
      → ((p : Stop) → v.stop ≡ Some p → named.stop ≡ Some p) → (new : List Entry) → new ≡ h → IsLawful h
      → GoesOn (state_by t v last) (state_by u x new)
  goes_on_seen named ends keeps new is lawful =
      let e = shown named ends in let draws : x.draws ≡ v.draws + 1 = ap (λ (z : View Code). z.draws) e in
      goes_on t u v x last new same (subst (λ (l : List Entry). StartsWith l last) (sym is) learns.seen)
      (λ _. subst IsLawful (sym is) lawful) (ap (λ (z : View Code). z.start) e)
      (ap (λ (z : View Code). z.number) e) (λ p told. ap (λ (z : View Code). z.stop) e ∙ keeps p told) (omega (arith, draws))

  pub goes_on_shown : x ≡ left_seen code_of w h marks → (new : List Entry) → new ≡ h → IsLawful h
      → GoesOn (state_by t v last) (state_by u x new)
  goes_on_shown ends new is lawful = goes_on_seen marks ends learns.stop new is lawful

  pub goes_on_left : x ≡ left w marks → (new : List Entry) → new ≡ last → GoesOn (state_by t v last) (state_by u x new)
  goes_on_left ends new is =
      let e : x ≡ left (entered code_of v ticket h authors marks) marks = ends ∙ ap (λ (z : View Code). left z marks) enters in
      let draws : x.draws ≡ v.draws + 1 = ap (λ (z : View Code). z.draws) e in
      goes_on t u v x last new same ([], is ∙ sym (append-nil last)) (subst IsLawful (sym is)) (ap (λ (z : View Code). z.start) e)
      (ap (λ (z : View Code). z.number) e) (λ p told. ap (λ (z : View Code). z.stop) e ∙ learns.stop p told) (omega (arith, draws))

  not_accepted : (named : Marks) → x ≡ left_seen code_of w h named → (new : List Entry) (s : SnapshotModel) → s.entries ≡ new
      → IsNotAccepted (state_by t v last) (state_by u x new) s
  not_accepted named ends new s is =
      let e = shown named ends in
      record {
        commits = ap (λ (z : View Code). z.commits) e;
        tally = (λ i. record { glances = (e i).grabs; loads = (e i).loads });
        snapshot_is = is;
      }

  same_teller : x.number ≡ v.number → x.stop ≡ marks.stop → is_own x.number x.stop ≡ is_own v.number v.stop
  same_teller number stop = (λ i. is_own (number i) (stop i)) ∙ same_own v.number v.stop marks.stop learns.stop learns.own_stop

  pub same_teller_seen : x ≡ left_seen code_of w h marks → is_own x.number x.stop ≡ is_own v.number v.stop
  same_teller_seen ends =
      let e = shown marks ends in same_teller (ap (λ (z : View Code). z.number) e) (ap (λ (z : View Code). z.stop) e)

  pub is_out_of_memory : x ≡ left w marks → (new : List Entry) → new ≡ last → IsOutOfMemory (state_by t v last) (state_by u x new)
  is_out_of_memory ends new is =
      let e : x ≡ left (entered code_of v ticket h authors marks) marks = ends ∙ ap (λ (z : View Code). left z marks) enters in
      record {
        entries = is;
        commits = ap (λ (z : View Code). z.commits) e;
        teller = same_teller (ap (λ (z : View Code). z.number) e) (ap (λ (z : View Code). z.stop) e);
        tally = (λ i. record { glances = (e i).grabs; loads = (e i).loads });
      }

  pub is_stopped : x ≡ left_seen code_of w h marks → (q : Stop) → marks.stop ≡ Some q → q.at ≡ basis h + 1 → (new : List Entry) → new ≡ h
      → (s : SnapshotModel) → s.entries ≡ new
      → IsStopped (state_by t v last) (state_by u x new) q.at s
  is_stopped ends q stopped at new is s entries =
      let e = shown marks ends in
      let number = ap (λ (z : View Code). z.number) e in
      let stop : x.stop ≡ Some q = ap (λ (z : View Code). z.stop) e ∙ stopped in
      record {
        at_is = at ∙ ap (λ (l : List Entry). basis l + 1) (sym is);
        stop = ap (option_map at_of) stop;
        teller =
            λ none. (λ i. is_own (number i) (stop i))
            ∙ ne_eqb q.author v.number (λ own. never_told q v.stop (learns.own_stop q stopped (sym own)) none);
        rest = not_accepted marks ends new s entries;
      }

  -- there was no stop
  module _ (none : marks.stop ≡ None) where
    nobody_knows : option_map at_of v.stop ≡ None
    nobody_knows = untold v.stop marks.stop none learns.stop

    -- refused, whatever the clock reads
    pub refusal_is : x ≡ left_seen code_of w h marks → (guard : Guard) (asked : Form) (refusal : Refusal)
        → ((reading : ℤ) → step h asked reading guard ≡ refused refusal) → (new : List Entry) → new ≡ h
        → (s : SnapshotModel) → s.entries ≡ h
        → IsRefusal guard asked (state_by t v last) (state_by u x new) refusal s
    refusal_is ends guard asked refusal decided new is s entries =
        record {
          going = ap (λ (z : View Code). option_map at_of z.stop) ends ∙ ap (option_map at_of) none;
          step_is = λ reading. ap (λ (l : List Entry). step l asked reading guard) is ∙ decided reading;
          rest = not_accepted marks ends new s (entries ∙ sym is);
        }

    module _ (draft : Draft) where
      pub goes_on_committed : (n met : ℕ) → x ≡ committed w draft.after.entries n marks met → draft.after.entries ≡ h ++ entry_of draft ∷ []
          → IsLawful draft.after.entries
          → (new : List Entry) → new ≡ draft.after.entries → GoesOn (state_by t v last) (state_by u x new)
      goes_on_committed n met ends grown lawful new is =
          let e : x ≡ committed (entered code_of v ticket h authors marks) draft.after.entries n marks met =
          ends ∙ ap (λ (z : View Code). committed z draft.after.entries n marks met) enters in
          let draws : x.draws ≡ v.draws + 1 = ap (λ (z : View Code). z.draws) e in
          let begins =
          is
          ∙ (grown
          ∙ (ap (λ (l : List Entry). l ++ entry_of draft ∷ []) learns.seen.1 ∙ append_assoc last learns.seen.0 (entry_of draft ∷ []))) in
          goes_on t u v x last new same (learns.seen.0 ++ entry_of draft ∷ [], begins) (λ _. subst IsLawful (sym is) lawful)
          (ap (λ (z : View Code). z.start) e)
          (ap (λ (z : View Code). z.number) e) (λ p told. ap (λ (z : View Code). z.stop) e ∙ learns.stop p told) (omega (arith, draws))

      pub goes_on_stopped : x ≡ left_seen code_of w h (stopped_at w.number draft) → (new : List Entry) → new ≡ h → IsLawful h
          → GoesOn (state_by t v last) (state_by u x new)
      goes_on_stopped ends new is lawful =
          goes_on_seen (stopped_at w.number draft) ends (λ p told. absurd (not_both p marks.stop (learns.stop p told) none)) new is lawful

      module _ (may : ℤ → Type 0) (guard : Guard) (asked : Form) (reading : ℤ) (may_be : may reading)
          (decided : step h asked reading guard ≡ accepted (entry_of draft) draft.tempids.items) where
        pub receipt_is : (receipt : Receipt) (met : ℕ) → x ≡ committed w draft.after.entries receipt.t marks met
            → draft.after.entries ≡ h ++ entry_of draft ∷ [] → IsReceiptOf draft receipt
            → (new : List Entry) → new ≡ draft.after.entries → IsReceipt may guard asked (state_by t v last) (state_by u x new) receipt
        receipt_is receipt met ends grown of new is =
            let e : x ≡ committed (entered code_of v ticket h authors marks) draft.after.entries receipt.t marks met =
            ends ∙ ap (λ (z : View Code). committed z draft.after.entries receipt.t marks met) enters in
            record {
              going = ap (λ (z : View Code). option_map at_of z.stop) e ∙ ap (option_map at_of) none;
              others = learns.seen.0;
              reading = reading;
              may_be = may_be;
              entry = entry_of draft;
              step_is =
                  ap (λ (l : List Entry). step l asked reading guard) (sym learns.seen.1)
                  ∙ (decided ∙ ap (accepted (entry_of draft)) (sym of.tempids));
              entries = is ∙ (grown ∙ ap (λ (l : List Entry). l ++ entry_of draft ∷ []) learns.seen.1);
              t = of.t ∙ ap basis (sym is);
              instant = of.instant;
              snapshot = ap (λ (k : SnapshotModel). k.entries) of.snapshot ∙ sym is;
              commits = ap (λ (z : View Code). z.commits) e;
              tally = (λ i. record { glances = (e i).grabs; loads = (e i).loads });
            }

        pub log_fault_is : x ≡ left_seen code_of w h (stopped_at w.number draft) → basis draft.after.entries ≡ basis h + 1
            → (new : List Entry) → new ≡ h → (s : SnapshotModel) → s.entries ≡ h
            → IsLogFault may guard asked (state_by t v last) (state_by u x new) (basis draft.after.entries) s
        log_fault_is ends next new is s entries =
            let e = shown (stopped_at w.number draft) ends in let number : x.number ≡ w.number = ap (λ (z : View Code). z.number) ends in
            let stop = ap (λ (z : View Code). z.stop) e in
            record {
              reading = reading;
              may_be = may_be;
              entry = entry_of draft;
              tempids = draft.tempids.items;
              step_is = ap (λ (l : List Entry). step l asked reading guard) is ∙ decided;
              at_is = next ∙ ap (λ (l : List Entry). basis l + 1) (sym is);
              untold = nobody_knows;
              stop = ap (option_map at_of) stop;
              teller = ap (is_own x.number) stop ∙ eq-eqb w.number x.number (sym number);
              rest = not_accepted (stopped_at w.number draft) ends new s (entries ∙ sym is);
            }
