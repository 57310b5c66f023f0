-- The board begins by the rule, and what is known as it ends.
use Rattle.std.proofs.Common.{◌≡◌, ◌≢◌, inr, ℕ, zero, suc, ◌+◌, ◌-◌, ◌<◌, ◌≤◌, Bool, true, false, List, [], ◌∷◌, length, set, get_or, eqb}
use Rattle.std.proofs.Common.{sym, refl, ap, ◌∙◌, subst, arith, length-set, get_or-set_same, get_or-set_other, Option, Some, None}
use mathlib.Core.Logic.{dite}
use mathlib.Core.Option.{some, none, some-injective, some-ne-none}
use mathlib.Core.Option as maybe
use native.Mathlib.Decide.{ℕ_discrete}
use lib.ListN.{get_elem?}
use Rattle.atomic_table.specs.Table.{State}
use Rattle.board_rule.specs.declared.board.SlotValue.{SlotValue}
use Rattle.board_rule.specs.declared.board.SlotValue.TheVariants.{Core}
use Rattle.board_rule.specs.declared.view.Marks.{Marks}
use Rattle.board_rule.specs.declared.view.At.{At}
use Rattle.board_rule.specs.declared.view.At.TheVariants.{Home}
use Rattle.board_rule.specs.declared.view.Grab.TheVariants.{Free}
use Rattle.board_rule.specs.declared.view.View.{View}
use Rattle.board_rule.specs.Views.{worker, commits_of, marked}
use Rattle.board_rule.specs.Board.{Naming, Scene, total, seats_of, numbered, Knows, CoreIs, Ruled, mailed_as}
use Rattle.board_rule.proofs.Sums.{none_not}
use Rattle.board_rule.proofs.Keeps.{same_at, starts_whole}
use Rattle.std.proofs.Common.{map, replicate}
use Rattle.std.specs.List.{All}
use lib.ListN.{length-map, length-replicate}
use Rattle.atomic_table.specs.Table.{opening, Final, Seen}
use Rattle.atomic_table.proofs.Lists.{at_map}
use Rattle.board_rule.specs.Views.{starting, IsWhole}
use Rattle.board_rule.specs.Board.{one_if}
use Rattle.board_rule.proofs.Sums.{others_zero, one_other}

pub of_all : {A : Type 0} (P : A → Type 0) (l : List A) → All P l → (k : ℕ) (a : A) → get_elem? l k ≡ some a → P a
of_all P l all k a e = let t = at_or l k a e in subst P t.1 (all k a t.0)
  where
    at_or : {A : Type 0} (l : List A) (k : ℕ) (a : A) → get_elem? l k ≡ some a → (k < length l) × (get_or l k a ≡ a)
    at_or [] k a e = absurd (some-ne-none a (sym e))
    at_or (x ∷ xs) zero a e = (omega arith, some-injective x a e)
    at_or (x ∷ xs) (suc k) a e = let t = at_or xs k a e in let lt = t.0 in (omega arith, t.1)

module _ {H S E : Type 0} (N : Naming H S E) (n start : ℕ) where
  abbrev St : Type 0
  St = State (SlotValue H S) (View E)

  abbrev Rule : St → Type 0
  Rule = Ruled N n start

  single : {A : Type 0} (v u : A) (j : ℕ) → get_elem? (v ∷ []) j ≡ some u → v ≡ u
  single v u zero e = some-injective v u e
  single v u (suc j) e = absurd (some-ne-none u (sym e))

  zero_at : (m i : ℕ) → ◌≡◌ {A = ℕ} (get_or (replicate m 0) i 0) 0
  zero_at zero i = refl
  zero_at (suc m) zero = refl
  zero_at (suc m) (suc i) = zero_at m i

  there : {A : Type 0} (l : List A) (i : ℕ) → i < length l → (a : A) × (get_elem? l i ≡ some a)
  there [] i h = absurd (omega arith)
  there (x ∷ xs) zero h = (x, refl)
  there (x ∷ xs) (suc i) h = there xs i (omega arith)

  pub starts_on : (h : H) (ms : List S) (ws : List ℕ) (xs : List (SlotValue H S)) → ws ≡ set (replicate (n + 3) 0) 2 start
      → xs ≡ Core (Some h) ∷ map (mailed_as {H = H}) ms → length ms ≡ n
      → ((k : ℕ) (s : S) → get_elem? ms k ≡ some s → N.mailed s ≡ N.entries h) → start + 1 ≡ length (N.entries h)
      → length (N.entries h) ≤ 4294967296 → N.lawful (N.entries h) → N.authors h ≡ [] → (N.marks h).stop ≡ None → N.sound h
      → Rule (opening ws xs (starting start (N.entries h) (N.marks h).covered))
  starts_on h ms ws xs words slots many same basis narrow lawful who clear sound =
      let es : List E = N.entries h in
      let v : View E = starting start es (N.marks h).covered in
      let zeros : List ℕ = replicate (n + 3) 0 in
      let long : length zeros ≡ n + 3 = length-replicate (n + 3) 0 in
      let x : Scene E = record {
        drawn = 0;
        served = 0;
        given = 0;
        entries = es;
        authors = [];
        turn = 0;
        core = Home;
        shown = N.marks h;
        next = None;
        mail = λ _. Free;
        owner = λ _. 0;
      } in
      let word : (i : ℕ) → i ≢ 2 → get_or ws i 0 ≡ 0 =
      λ i ne. ap (λ (z : List ℕ). get_or z i 0) words ∙ (get_or-set_other zeros 2 i start 0 ne ∙ zero_at (n + 3) i) in
      let hs : List (maybe.Option (SlotValue H S)) = map some xs in
      record {
        scene = x;
        words = record {
          wide = ap (length {A = ℕ}) words ∙ (length-set zeros 2 start ∙ long);
          drawn_is = word 0 (λ e. omega arith);
          served_is = word 1 (λ e. omega arith);
          basis_is =
              ap (λ (z : List ℕ). get_or z 2 0 + 1) words ∙ (ap (λ (z : ℕ). z + 1) (get_or-set_same zeros 2 start 0 (omega arith)) ∙ basis);
          behind = omega arith;
        };
        deep = length-map xs some ∙ (ap (length {A = SlotValue H S}) slots ∙ omega (arith, length-map ms (mailed_as {H = H})));
        counts = record {
          room = omega arith;
          made = omega arith;
          few = omega arith;
          once =
              λ z. let b = one_le (eqb worker z) in let t : total (numbered z) (v ∷ []) ≡ one_if (eqb worker z) + 0 + 0 = refl in
              omega arith;
          fresh =
              λ z _ ne. let b = one_other worker z (λ e. ne (sym e)) in
              let t : total (numbered z) (v ∷ []) ≡ one_if (eqb worker z) + 0 + 0 = refl in omega arith;
          tickets = λ i j t a b ne ei ej has also. none_not t (ap (λ (z : View E). z.ticket) (single v a i ei) ∙ has);
        };
        history = record {
          lawful_now = lawful;
          counted = omega arith;
          narrow = narrow;
          unwritten = λ _ _ _. refl;
        };
        each = λ j u e. subst (Knows n start x j) (single v u j e) record {
          ticket = ((λ t z. absurd (none_not t z)), omega arith);
          past = ((λ _. refl), starts_whole es, (λ _. refl), λ _ i t z. absurd (some-ne-none t (sym z)));
          found = λ l z. absurd (none_not l z);
          notes = λ i p z. absurd (some-ne-none p (sym z));
          number = ((λ _. inr refl), λ _ _. refl);
          turn = ((λ y z. absurd (none_not y z)), λ t. absurd (none_not t.0 t.1));
          told = ((λ p z. absurd (none_not p z)), (λ _ p z _. absurd (none_not p (sym clear ∙ z))), λ _ _. refl);
          grab = tt;
        };
        core = (h, ap (λ (z : List (SlotValue H S)). get_elem? (map some z) 0) slots, refl, who, refl, sound);
        mails = λ k l. let t = there ms k (omega arith) in (
          word (k + 3) (λ e. omega arith),
          (
            es,
            starts_whole es,
            (
              t.0,
              at_map some xs (k + 1) (mailed_as {H = H} t.0) (ap (λ (z : List (SlotValue H S)). get_elem? z (k + 1)) slots
                  ∙ next_at (Core (Some h)) (map (mailed_as {H = H}) ms) k ∙ at_map (mailed_as {H = H}) ms k t.0 t.1),
              same k t.0 t.1,
            ),
          ),
        );
        owned = λ k l held. absurd (held refl);
        turns = record {
          idle = λ _. (refl, refl);
          busy = λ i e. absurd (omega arith);
          unstopped = λ _ _ _ p e. absurd (none_not p (sym clear ∙ e));
        };
      }
    where
      one_le : (b : Bool) → one_if b ≤ 1
      one_le true = omega arith
      one_le false = omega arith

      next_at : {A : Type 0} (a : A) (l : List A) (k : ℕ) → get_elem? (a ∷ l) (k + 1) ≡ get_elem? l k
      next_at a l k = let e : k + 1 ≡ suc k = omega arith in ap (get_elem? (a ∷ l)) e

  whole_at : (es es' : List E) (who who' : List ℕ) (mk mk' : Marks) (v : View E) → es ≡ es' → who ≡ who' → mk ≡ mk' → IsWhole es' who' mk' v
      → IsWhole es who mk v
  whole_at es es' who who' mk mk' v a b c w =
      subst (λ (q : List E). IsWhole q who mk v) (sym a)
      (subst (λ (q : List ℕ). IsWhole es' q mk v) (sym b) (subst (λ (q : Marks). IsWhole es' who' q v) (sym c) w))

  -- every seat was joined to this one: nobody has the turn, and slot 0 has its value
  pub ends_on : (id : ℕ) (v : View E) (ws : List ℕ) (xs : List (SlotValue H S)) → v.number ≡ worker → v.seats ≡ v.given + 1
      → v.ticket ≡ None → Final (Seen Rule id v) ws xs
      → (h : H) × (get_elem? xs 0 ≡ some (Core (Some h))) × N.lawful (N.entries h) × N.sound h
      × IsWhole (N.entries h) (N.authors h) (N.marks h) v
  ends_on id v ws xs first all no_ticket f =
      let s : St = f.0 in
      let r = f.1.0 in
      let at = f.1.1 in
      let x : Scene E = r.scene in
      let k = r.each id v at in
      let live : 0 < v.seats = omega arith in
      let given = k.number.1 live first in let made = r.counts.made in let most : total seats_of s.views ≤ v.seats = omega arith in
      let still : x.turn ≡ 0 =
      dite (ℕ_discrete x.turn 0) (λ e. e) (λ ne. let i : ℕ = x.turn - 1 in let is : x.turn ≡ i + 1 = omega arith in
      let b = r.turns.busy i is in let q = r.each i b.0 b.1 in let ticket = (q.turn.0 b.2.0 b.2.1).0 in
      dite (ℕ_discrete i id)
      (λ e.
      absurd (none_not x.served (sym no_ticket ∙ (ap (λ (z : View E). z.ticket) (same_at s.views id i v b.0 (sym e) at b.1) ∙ ticket))))
      (λ o. let none_left = others_zero seats_of s.views id i v b.0 o at b.1 most in let some_left = (q.ticket.0 x.served ticket).2 in
      absurd (omega arith))) in
      let idle = r.turns.idle still in
      let is : CoreIs N x.entries x.authors x.shown Home (get_elem? s.homes 0) =
      subst (λ (q : At × Option Marks). CoreIs N x.entries x.authors (marked x.shown q.1) q.0 (get_elem? s.homes 0))
      (λ c. (idle.0 c, idle.1 c)) r.core in
      let h : H = is.0 in
      let es : N.entries h ≡ x.entries = is.2 in
      let who : N.authors h ≡ x.authors = is.3 in
      let mk : N.marks h ≡ x.shown = is.4 in
      let whole : IsWhole x.entries x.authors x.shown v = record {
        seen = k.past.1;
        counted = ap (λ (z : ℕ). z + 1 + length x.authors) (k.past.0 live) ∙ r.history.counted;
        commits = k.past.2 live ∙ ap (λ (z : ℕ). commits_of v.number (z + 1) x.authors) (sym (k.past.0 live));
        joined_seen = λ i p e. (k.notes i p e).0;
        joined = λ i p e. (k.notes i p e).1 ∙ ap (λ (z : ℕ). commits_of p.number (z + 1) x.authors) (sym (k.past.0 live));
        unwritten = λ z le ne. ap (λ (y : ℕ). commits_of z (y + 1) x.authors) (k.past.0 live) ∙ r.history.unwritten z (omega arith) ne;
        stop = k.told.0;
        own_stop = k.told.1 live;
        joined_stop = λ i p q e. (k.notes i p e).2 q;
        joined_own_stop = λ i p q e. (k.notes i p e).3 q;
        covered = k.told.2 live first;
      } in (
        h,
        f.4 0 (Core (Some h)) is.1,
        subst N.lawful (sym es) r.history.lawful_now,
        is.5,
        whole_at (N.entries h) x.entries (N.authors h) x.authors (N.marks h) x.shown v es who mk whole,
      )
