-- A session that sees another snapshot, and what it then keeps of what its desk answered.
use Rattle.std.proofs.Common.{◌≡◌, ℕ, ℤ, List, [], ◌∷◌, ◌++◌, None, refl, sym, ap, ◌∙◌, subst, inr, arith, append-nil, Option}
use Rattle.std.specs.Prelude.{codes, option_to_list}
use Rattle.edn_model.specs.Form.{Form}
use Rattle.fb_values.specs.declared.facts.Entry.{Entry}
use Rattle.fb_model.specs.History.{basis}
use Rattle.tx_refusals.specs.declared.reasons.Refusal.{Refusal}
use Rattle.tx_refusals.specs.Reasons.{keyword_of}
use Rattle.tx_model.specs.Step.{Guard}
use Rattle.talk_model.specs.Replies as reply
use Rattle.talk_model.specs.Replies.{IsLineOf}
use Rattle.talk_model.specs.Session.{Standing}
use Rattle.fb_view.specs.SnapshotModel.{SnapshotModel}
use Rattle.fb_db.specs.Seen.{window_of}
use Rattle.fb_db.specs.declared.db.Db.{Db}
use Rattle.fb_desk.specs.Desks.{State, WentOn, GoesOn, IsReceipt, IsRefusal, IsLogFault, IsStopped}
use Rattle.fb_desk.specs.declared.answers.Receipt.{Receipt}
use Rattle.fb_desk.specs.declared.answers.TxFault.TheVariants.{Refused, LogFault, Stopped}
use Rattle.fb_session.specs.declared.session.Session.{Session}
use Rattle.fb_session.specs.Sessions.{Sees, Shows, KeepsCommit, Received, Denied, HasStanding, Answered, Unanswered}
use Rattle.fb_session.specs.Terms.{Terms}

-- a desk that was not asked
pub went_on-nothing : (desk : State) → WentOn desk desk
went_on-nothing desk = record {
  more = [];
  entries = sym (append-nil desk.entries);
  lawful = λ lawful. lawful;
  opening = refl;
  stop = inr (refl, refl);
  seat = refl;
}

pub goes_on-nowhere : (desk : State) → GoesOn desk desk
goes_on-nowhere desk = record { went_on = went_on-nothing desk; left = omega arith }

module _ {S : Type 0} (old new : Session S) (was is : State) where
  pub keeps_nothing : new.commits.items ≡ old.commits.items → is.commits ≡ was.commits → KeepsCommit old new was is None
  keeps_nothing commits desk = record { commits = commits ∙ sym (append-nil old.commits.items); desk = desk ∙ sym (append-nil was.commits) }

  module _ (snapshot : SnapshotModel) (view : new.view ≡ record old.view { snapshot = snapshot }) where
    pub sees_from : snapshot.entries ≡ is.entries → Sees old new is
    sees_from same =
        record {
          snapshot = ap (λ (v : Db S). v.snapshot.entries) view ∙ same;
          window = ap window_of view;
          filter = ap (λ (v : Db S). v.filter) view;
        }

    -- the line of the basis of what is seen
    at_basis : (reply_at : ℕ → Form) → snapshot.entries ≡ is.entries → IsLineOf (reply_at (basis snapshot.entries)) new.line.bytes.items
        → IsLineOf (reply_at (basis is.entries)) new.line.bytes.items
    at_basis reply_at same says = let P : List Entry → Type 0 = λ h. IsLineOf (reply_at (basis h)) new.line.bytes.items in subst P same says

    pub shows_from : snapshot.entries ≡ is.entries → IsLineOf (reply.basis_reply (basis snapshot.entries)) new.line.bytes.items
        → Shows old new is
    shows_from same says = record { sees = sees_from same; says = at_basis reply.basis_reply same says }

    module _ (may : ℤ → Type 0) (guard : Guard) (asked : Form) (commits : new.commits.items ≡ old.commits.items) where
      pub denied_refused : (refusal : Refusal) → IsRefusal guard asked was is refusal snapshot
          → IsLineOf (reply.refusal_reply (keyword_of refusal.reason) refusal.at (basis snapshot.entries)) new.line.bytes.items
          → Denied may guard asked old new was is (Refused refusal snapshot)
      denied_refused refusal r says =
          record {
            is_fault = r;
            sees = sees_from r.rest.snapshot_is;
            keeps = keeps_nothing commits r.rest.commits;
            says = at_basis (reply.refusal_reply (keyword_of refusal.reason) refusal.at) r.rest.snapshot_is says;
          }

      pub denied_fault : (at : ℕ) → IsLogFault may guard asked was is at snapshot
          → IsLineOf (reply.fault_reply (codes "log") at (basis snapshot.entries)) new.line.bytes.items
          → Denied may guard asked old new was is (LogFault at snapshot)
      denied_fault at r says =
          record {
            is_fault = r;
            sees = sees_from r.rest.snapshot_is;
            keeps = keeps_nothing commits r.rest.commits;
            says = at_basis (reply.fault_reply (codes "log") at) r.rest.snapshot_is says;
          }

      pub denied_stopped : (at : ℕ) → IsStopped was is at snapshot
          → IsLineOf (reply.fault_reply (codes "log-stopped") at (basis snapshot.entries)) new.line.bytes.items
          → Denied may guard asked old new was is (Stopped at snapshot)
      denied_stopped at r says =
          record {
            is_fault = r;
            sees = sees_from r.rest.snapshot_is;
            keeps = keeps_nothing commits r.rest.commits;
            says = at_basis (reply.fault_reply (codes "log-stopped") at) r.rest.snapshot_is says;
          }

  pub received : (may : ℤ → Type 0) (guard : Guard) (asked : Form) (receipt : Receipt) → IsReceipt may guard asked was is receipt
      → new.view ≡ record old.view { snapshot = receipt.snapshot } → new.commits.items ≡ old.commits.items ++ receipt.t ∷ []
      → Received may guard asked old new was is receipt
  received may guard asked receipt r view commits =
      record { is_receipt = r; sees = sees_from receipt.snapshot view r.snapshot; keeps = record { commits = commits; desk = r.commits } }

-- ---- a session that was given room before

keeps_before : {S : Type 0} (old roomy new : Session S) (was is : State) (commit : Option ℕ) → roomy.commits.items ≡ old.commits.items
    → KeepsCommit roomy new was is commit → KeepsCommit old new was is commit
keeps_before old roomy new was is commit same keeps =
    record { commits = keeps.commits ∙ ap (λ cs. cs ++ option_to_list commit) same; desk = keeps.desk }

pub unanswered_with_room : {S : Type 0} (form : Form) (old roomy new : Session S) (was is : State) → roomy.commits.items ≡ old.commits.items
    → Unanswered form roomy new was is → Unanswered form old new was is
unanswered_with_room form old roomy new was is same u =
    record { keeps = keeps_before old roomy new was is None same u.keeps; counted = u.counted }

module _ {S : Type 0} (f : Terms) (form : Form) (old roomy new : Session S) (names : S → List (List ℕ)) (was is : State) (before : Standing)
    (same : roomy.commits.items ≡ old.commits.items) where
  answered_before : (line : List ℕ) → Answered f form roomy new names was is before line → Answered f form old new names was is before line
  answered_before line a =
      record {
        after = a.after;
        commit = a.commit;
        answered = a.answered;
        stands = a.stands;
        keeps = keeps_before old roomy new was is a.commit same a.keeps;
        counted = a.counted;
      }

-- and whose table stayed the same
module _ {S : Type 0} (old roomy new : Session S) (fix : S → Terms) (names : S → List (List ℕ)) (form : Form) (was is : State)
    (view : roomy.view ≡ old.view) (same : roomy.commits.items ≡ old.commits.items) where
  pub answered_with_room : (line : List ℕ)
      → ((before : Standing) → HasStanding roomy.view names was before
      → Answered (fix roomy.view.filter) form roomy new names was is before line)
      → (before : Standing) → HasStanding old.view names was before → Answered (fix old.view.filter) form old new names was is before line
  answered_with_room line told before stands =
      let Tells : Db S → Type 0 = λ v. HasStanding v names was before → Answered (fix v.filter) form roomy new names was is before line in
      answered_before (fix old.view.filter) form old roomy new names was is before same line (subst Tells view (told before) stands)

-- and whose place was kept behind
pub answered_behind : {S : Type 0} (f : Terms) (form : Form) (old new later : Session S) (names : S → List (List ℕ)) (was is : State)
    (before : Standing) (line : List ℕ)
    → later.view ≡ new.view → later.commits.items ≡ new.commits.items → Answered f form old new names was is before line
    → Answered f form old later names was is before line
answered_behind {S} f form old new later names was is before line view commits a =
    let Stands : Db S → Type 0 = λ v. HasStanding v names is a.after in
    record {
      after = a.after;
      commit = a.commit;
      answered = a.answered;
      stands = subst Stands (sym view) a.stands;
      keeps = record { commits = commits ∙ a.keeps.commits; desk = a.keeps.desk };
      counted = a.counted;
    }

-- its place is that of its snapshot
pub place_of_view : {S : Type 0} (view : Db S) (names : S → List (List ℕ)) (desk : State) (standing : Standing)
    → HasStanding view names desk standing → basis view.snapshot.entries ≡ standing.place
place_of_view view names desk standing stands = ap basis stands.sees ∙ sym stands.place
