-- How often a desk was asked, form by form.
use Rattle.std.proofs.Common.{◌≡◌, ℕ, ◌+◌, Bool, false, ◌||◌, cond, List, [], ◌∷◌, ◌++◌, Option, Some, None, refl, sym, ap, ◌∙◌, subst, inl, inr, arith}
use Rattle.std.proofs.Common.{option_map}
use Rattle.std.specs.Prelude.{count_by}
use Rattle.std.proofs.lemmas.Bool.{or_parts}
use Rattle.std.proofs.lemmas.List.Sums.{sum_by-append}
use Rattle.edn_model.specs.Form.{Form}
use Rattle.talk_model.specs.Commands.{Read, Command, transact, db, sync, read, command_in}
use Rattle.fb_desk.specs.Desks.{State, Tally, glanced, loaded}
use Rattle.fb_session.specs.declared.session.Session.{Session}
use Rattle.fb_session.specs.Asks.{looks, catches_up, transacts, is_db, is_sync, is_transact, is_for_desk, Counted}
use Rattle.fb_session.specs.Sessions.{KeepsCommit, LoadsOnceAtMost, Unanswered}

-- ---- several forms

pub counted-none : (tally : Tally) → Counted [] 0 tally tally
counted-none tally = record { glances = omega arith; loads = omega arith }

pub count-append : (p : Form → Bool) (fs gs : List Form) → count_by p (fs ++ gs) ≡ count_by p fs + count_by p gs
count-append p fs gs = sum_by-append (λ (f : Form). cond (p f) 1 0) fs gs

pub counted-push : (fs : List Form) (f : Form) (m n : ℕ) (start was is : Tally) → Counted fs m start was → Counted (f ∷ []) n was is
    → Counted (fs ++ f ∷ []) (m + n) start is
counted-push fs f m n start was is many one =
    let dbs = count-append is_db fs (f ∷ []) in
    let syncs = count-append is_sync fs (f ∷ []) in
    let transactions = count-append is_transact fs (f ∷ []) in
    record {
      glances = omega (arith, many.glances, one.glances, dbs);
      loads = omega (arith, many.loads, one.loads, syncs, transactions);
    }

-- the desk was asked for nothing since, and for nothing by the last of these
pub counted-shorter : (fs gs : List Form) (m : ℕ) (start was is : Tally) → Counted (fs ++ gs) m start was
    → ((tally : Tally) → Counted gs 0 tally tally) → Counted [] 0 was is → Counted fs m start is
counted-shorter fs gs m start was is all quiet still =
    let none = quiet was in
    record {
      glances = omega (arith, all.glances, none.glances, still.glances, count-append is_db fs gs);
      loads = omega (arith, all.loads, none.loads, still.loads, count-append is_sync fs gs, count-append is_transact fs gs);
    }

-- ---- one form

-- one where the test says so
abbrev one_if : Bool → ℕ
one_if b = cond b 1 0

zero-plus : (n : ℕ) → 0 + n ≡ n
zero-plus n = omega arith

count-one : (p : Form → Bool) (f : Form) → count_by p (f ∷ []) ≡ one_if (p f)
count-one p f = zero-plus (one_if (p f))

module _ (form : Form) (command : Option Command) (asks : command_in form ≡ command) (was is : Tally) where
  counted-one : (n : ℕ) → is.glances ≡ was.glances + one_if (looks command)
      → is.loads + n ≡ was.loads + (one_if (catches_up command) + one_if (transacts command))
      → Counted (form ∷ []) n was is
  counted-one n glances loads =
      let Glances : Option Command → Type 0 = λ c. is.glances ≡ was.glances + one_if (looks c) in
      let Loads : Option Command → Type 0 = λ c. is.loads + n ≡ was.loads + (one_if (catches_up c) + one_if (transacts c)) in
      record {
        glances = subst Glances (sym asks) glances ∙ ap (λ n. was.glances + n) (sym (count-one is_db form));
        loads = subst Loads (sym asks) loads ∙ ap (λ n. was.loads + (n + one_if (is_transact form))) (sym (count-one is_sync form))
            ∙ ap (λ n. was.loads + (count_by is_sync (form ∷ []) + n)) (sym (count-one is_transact form));
      }

pub counted_accepted : (form asked : Form) (was is : Tally) → command_in form ≡ Some (transact asked) → is ≡ was
    → Counted (form ∷ []) 1 was is
counted_accepted form asked was is asks same =
    counted-one form (Some (transact asked)) asks was is 1 (ap (λ (t : Tally). t.glances) same ∙ omega arith)
    (ap (λ (t : Tally). t.loads + 1) same)

pub counted_denied : (form asked : Form) (was is : Tally) → command_in form ≡ Some (transact asked) → is ≡ loaded was
    → Counted (form ∷ []) 0 was is
counted_denied form asked was is asks same =
    counted-one form (Some (transact asked)) asks was is 0 (ap (λ (t : Tally). t.glances) same ∙ omega arith)
    (ap (λ (t : Tally). t.loads + 0) same ∙ omega arith)

pub counted_sync : (form : Form) (was is : Tally) → command_in form ≡ Some sync → is ≡ loaded was → Counted (form ∷ []) 0 was is
counted_sync form was is asks same =
    counted-one form (Some sync) asks was is 0 (ap (λ (t : Tally). t.glances) same ∙ omega arith)
    (ap (λ (t : Tally). t.loads + 0) same ∙ omega arith)

pub counted_db : (form : Form) (was is : Tally) → command_in form ≡ Some db → is ≡ glanced was → Counted (form ∷ []) 0 was is
counted_db form was is asks same =
    counted-one form (Some db) asks was is 0 (ap (λ (t : Tally). t.glances) same) (ap (λ (t : Tally). t.loads + 0) same ∙ omega arith)

-- a read asks the desk for nothing
asks_nothing : (asked : Option Read)
    → let command = option_map read asked in (one_if (looks command) ≡ 0) × (one_if (catches_up command) ≡ 0)
    × (one_if (transacts command) ≡ 0)
asks_nothing (Some r) = (refl, refl, refl)
asks_nothing None = (refl, refl, refl)

pub counted_read : (form : Form) (asked : Option Read) (tally : Tally) → command_in form ≡ option_map read asked
    → Counted (form ∷ []) 0 tally tally
counted_read form asked tally asks =
    let nothing = asks_nothing asked in
    counted-one form (option_map read asked) asks tally tally 0 (omega (arith, nothing.0)) (omega (arith, nothing.1, nothing.2))

-- ---- a form for which the desk is not asked

pub counted_quiet : (form : Form) → is_for_desk form ≡ false → (tally : Tally) → Counted (form ∷ []) 0 tally tally
counted_quiet form quiet tally =
    let command = command_in form in
    let parts = or_parts (transacts command) (looks command || catches_up command) quiet in
    let others = or_parts (looks command) (catches_up command) parts.1 in
    let no_glance : one_if (looks command) ≡ 0 = ap one_if others.0 in
    let no_sync : one_if (catches_up command) ≡ 0 = ap one_if others.1 in
    let no_transaction : one_if (transacts command) ≡ 0 = ap one_if parts.0 in
    counted-one form command refl tally tally 0 (omega (arith, no_glance)) (omega (arith, no_sync, no_transaction))

pub counted_nothing : (form : Form) (was is : Tally) → is_for_desk form ≡ false → Counted (form ∷ []) 0 was is → Counted [] 0 was is
counted_nothing form was is quiet one =
    let none = counted_quiet form quiet was in
    record { glances = omega (arith, one.glances, none.glances); loads = omega (arith, one.loads, none.loads) }

-- ---- where memory was refused

module _ {S : Type 0} (form : Form) (old new : Session S) (was is : State) (keeps : KeepsCommit old new was is None) where
  pub unanswered_still : is.tally ≡ was.tally → Unanswered form old new was is
  unanswered_still same = record { keeps = keeps; counted = inl same }

  pub unanswered_db : command_in form ≡ Some db → is.tally ≡ glanced was.tally → Unanswered form old new was is
  unanswered_db asks glances = record { keeps = keeps; counted = inr (counted_db form was.tally is.tally asks glances) }

  pub unanswered_sync : command_in form ≡ Some sync → LoadsOnceAtMost was is → Unanswered form old new was is
  unanswered_sync asks loads =
      record {
        keeps = keeps;
        counted = elim loads [ inl same ↦ inl same | inr more ↦ inr (counted_sync form was.tally is.tally asks more) ];
      }

  pub unanswered_transaction : (asked : Form) → command_in form ≡ Some (transact asked) → LoadsOnceAtMost was is
      → Unanswered form old new was is
  unanswered_transaction asked asks loads =
      record {
        keeps = keeps;
        counted = elim loads [ inl same ↦ inl same | inr more ↦ inr (counted_denied form asked was.tally is.tally asks more) ];
      }
