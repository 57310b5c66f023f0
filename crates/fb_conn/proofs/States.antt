-- What a session knows after a call, by the view of its seat.
use Rattle.std.proofs.Common.{◌≡◌, ◌⊎◌, inl, inr, ◌∙◌, ℕ, ◌+◌, ◌-◌, ◌<◌, ◌≤◌, List, ◌∷◌, Option, Some, None, refl, sym, ap, subst, arith, ne_eqb}
use Rattle.std.specs.Prelude.{option_map}
use Rattle.atomic_table.specs.Seated.{TableId}
use Rattle.fb_values.specs.declared.facts.Entry.{Entry}
use Rattle.fb_model.specs.History.{basis}
use Rattle.fb_model.specs.Lawful.{IsLawful}
use Rattle.fb_desk.specs.Desks.{GoesOn, most_calls, as_opened}
use Rattle.board_rule.specs.declared.view.Stop.{Stop}
use Rattle.board_rule.specs.declared.view.Code.{Code}
use Rattle.board_rule.specs.declared.view.View.{View}
use Rattle.board_rule.specs.declared.view.Grab.TheVariants.{Free}
use Rattle.board_rule.specs.Views.{StartsWith, codes, starting}
use Rattle.board_rule.specs.Calls.{view_of, board_of}
use Rattle.fb_conn.specs.declared.conn.Conn.{Conn}
use Rattle.fb_conn.specs.declared.seats.Seat.{Seat}
use Rattle.fb_conn.specs.Homes.{code_of}
use Rattle.fb_conn.specs.Seats.{sessions_of, IsSeatOf, at_of, is_own, numbers_of, state_by}

-- a stop that was told stays the one that is told
told : (n : ℕ) (old new : Option Stop) → ((p : Stop) → old ≡ Some p → new ≡ Some p)
    → (option_map at_of old ≡ None) ⊎ ((option_map at_of new ≡ option_map at_of old) × (is_own n new ≡ is_own n old))
told n None new keeps = inl refl
told n (Some p) new keeps = let same = keeps p refl in inr (ap (option_map at_of) same, ap (is_own n) same)

pub goes_on : (t u : TableId) (v w : View Code) (last new : List Entry) → u ≡ t → StartsWith new last → (IsLawful last → IsLawful new)
    → w.start ≡ v.start → w.number ≡ v.number
    → ((p : Stop) → v.stop ≡ Some p → w.stop ≡ Some p) → w.draws ≤ v.draws + 1 → GoesOn (state_by t v last) (state_by u w new)
goes_on t u v w last new table begins lawful start number stop draws =
    record {
      went_on = record {
        more = begins.0;
        entries = begins.1;
        lawful = lawful;
        opening = start;
        stop =
            subst (λ (n : ℕ). (option_map at_of v.stop ≡ None)
            ⊎ ((option_map at_of w.stop ≡ option_map at_of v.stop) × (is_own n w.stop ≡ is_own v.number v.stop)))
            (sym number) (told v.number v.stop w.stop stop);
        seat = (λ i. number i ∷ numbers_of (table i));
      };
      left = omega (arith, draws);
    }

-- a seat that has just been made
pub as_new : (t : TableId) (v : View Code) (last h : List Entry) (start k : ℕ) (seen : List Code)
    → v ≡ record (starting start seen 0) { number = k } → last ≡ h → start ≡ basis h
    → state_by t v last ≡ record (as_opened h) { seat = v.number ∷ numbers_of t }
as_new t v last h start k seen view same begins = λ i.
    record {
      entries = same i;
      opening = (ap (λ (z : View Code). z.start) view ∙ begins) i;
      commits = (view i).commits;
      stop = option_map at_of (view i).stop;
      teller = is_own (view i).number (view i).stop;
      tally = record { glances = (view i).grabs; loads = (view i).loads };
      left = most_calls - (view i).draws;
      seat = v.number ∷ numbers_of t;
    }

-- a stop that nobody was told of before the turn, where there was none
pub untold : (old now : Option Stop) → now ≡ None → ((p : Stop) → old ≡ Some p → now ≡ Some p) → option_map at_of old ≡ None
untold None now none keeps = refl
untold (Some p) now none keeps = let told = sym (keeps p refl) ∙ none in absurd (cc told)

-- a turn that names no new stop of the seat's own leaves it whether the seat is the author
pub same_own : (n : ℕ) (old now : Option Stop) → ((p : Stop) → old ≡ Some p → now ≡ Some p)
    → ((p : Stop) → now ≡ Some p → n ≡ p.author → old ≡ Some p) → is_own n now ≡ is_own n old
same_own n (Some p) now keeps own = ap (is_own n) (keeps p refl)
same_own n None None keeps own = refl
same_own n None (Some q) keeps own = ne_eqb q.author n (λ same. let none : None ≡ Some q = own q refl (sym same) in cc none)

-- a seat of a session stays one
pub stays_seat : {L R : Type 0} (conn : Conn L R) (old new : Seat) → IsSeatOf conn old → board_of new.board ≡ board_of old.board
    → (view_of new.board).ticket ≡ None → (view_of new.board).turn ≡ None
    → (view_of new.board).grab ≡ Free → (view_of new.board).seats ≡ (view_of old.board).seats
    → (view_of new.board).number ≡ (view_of old.board).number
    → (view_of new.board).seen ≡ codes code_of new.last.entries → IsSeatOf conn new
stays_seat conn old new was board ticket turn grab seats number seen = (
  record { on = board ∙ was.0.on; idle = (ticket, turn, grab); alone = seats ∙ was.0.alone; seen = seen },
  subst (λ (k : ℕ). k < sessions_of conn) (sym number) was.1,
)

-- the numbers of a table tell it from others
pub same_table : (n m : ℕ) (t u : TableId) → (n ∷ numbers_of t) ≡ (m ∷ numbers_of u) → (n ≡ m) × (t ≡ u)
same_table n m t u e =
    let words : t.words ≡ u.words = cc e in
    let slots : t.slots ≡ u.slots = cc e in
    let views : t.views_name ≡ u.views_name = cc e in
    let atom : t.atom ≡ u.atom = cc e in
    let block : t.block ≡ u.block = cc e in
    let offset : t.offset ≡ u.offset = cc e in
    let names : t.slot_names ≡ u.slot_names = cc e in
    let number : n ≡ m = cc e in (
      number,
      (λ i. record {
        words = words i;
        slots = slots i;
        views_name = views i;
        atom = atom i;
        block = block i;
        offset = offset i;
        slot_names = names i;
      }),
    )
