-- What members and changes of a table are over a longer one.
use Rattle.std.proofs.Common.{◌≡◌, ◌∙◌, ℕ, ◌<◌, Bool, true, false, cond, List, [], ◌∷◌, ◌++◌, length, length-append, refl, sym, ap, subst, arith}
use Rattle.std.specs.Prelude.{Contains}
use Rattle.std.specs.List.{All}
use Rattle.std.proofs.lemmas.List.{get_or_append_left}
use Rattle.std.proofs.lemmas.List.Elements.{All-head, All-tail, All-weaker}
use Rattle.fb_values.specs.declared.facts.Datom.{Datom}
use Rattle.fb_values.specs.declared.indexes.Order.{Order}
use Rattle.fb_values.specs.Rising.{IsRising}
use Rattle.fb_prefix.specs.Prefixes.{prefix_in}
use Rattle.live_runs.specs.declared.members.Change.{Change}
use Rattle.live_runs.specs.declared.members.Member.{Member}
use Rattle.live_runs.specs.Changed.{HasNoTwins, IsWithin, changed}
use Rattle.live_runs.specs.Changes.{AreChanges, AreMembers, added, changed_by, removed}
use Rattle.live_runs.specs.Members.{IsMember, changing, datom_by, datom_of, held_by, named, nothing}
use Rattle.live_runs.specs.Runs.{AreRuns, IsSettled, Layers, runs_datoms, settled_datoms}

pub datom_longer : (table more : List Datom) (n : ℕ) → n < length table → datom_of (table ++ more) n ≡ datom_of table n
datom_longer table more n within = get_or_append_left table more nothing n within

pub member_longer : (order : Order) (table more : List Datom) (m : Member) → IsMember order table m → IsMember order (table ++ more) m
member_longer order table more m is =
    record {
      within = omega (arith, is.within, length-append table more);
      prefix_is = is.prefix_is ∙ ap (prefix_in order) (sym (datom_longer table more m.number is.within));
    }

same_cons : {X : Type 0} (x y : X) (xs ys : List X) → x ≡ y → xs ≡ ys → x ∷ xs ≡ y ∷ ys
same_cons x y xs ys first rest = ap (λ z. z ∷ xs) first ∙ ap (λ zs. y ∷ zs) rest

pub held_longer : {X : Type 0} (member_of : X → Member) (order : Order) (table more : List Datom) (xs : List X)
    → All (λ x. IsMember order table (member_of x)) xs → held_by member_of (table ++ more) xs ≡ held_by member_of table xs
held_longer member_of order table more [] all = refl
held_longer member_of order table more (x ∷ xs) all =
    same_cons (datom_by member_of (table ++ more) x) (datom_by member_of table x) (held_by member_of (table ++ more) xs)
    (held_by member_of table xs)
    (datom_longer table more (member_of x).number (All-head (λ y. IsMember order table (member_of y)) x xs all).within)
    (held_longer member_of order table more xs (All-tail (λ y. IsMember order table (member_of y)) x xs all))

pub removed_longer : (order : Order) (table more : List Datom) (cs : List Change) → All (λ c. IsMember order table (changing c)) cs
    → removed (table ++ more) cs ≡ removed table cs
removed_longer order table more [] all = refl
removed_longer order table more (c ∷ cs) all =
    go c.removes (datom_longer table more c.number (All-head (λ y. IsMember order table (changing y)) c cs all).within)
    (removed_longer order table more cs (All-tail (λ y. IsMember order table (changing y)) c cs all))
  where
    go : (b : Bool) → datom_of (table ++ more) c.number ≡ datom_of table c.number → removed (table ++ more) cs ≡ removed table cs
        → cond b (datom_of (table ++ more) c.number ∷ removed (table ++ more) cs) (removed (table ++ more) cs)
        ≡ cond b (datom_of table c.number ∷ removed table cs) (removed table cs)
    go true first rest =
        same_cons (datom_of (table ++ more) c.number) (datom_of table c.number) (removed (table ++ more) cs) (removed table cs) first rest
    go false first rest = rest

pub added_longer : (order : Order) (table more : List Datom) (cs : List Change) → All (λ c. IsMember order table (changing c)) cs
    → added (table ++ more) cs ≡ added table cs
added_longer order table more [] all = refl
added_longer order table more (c ∷ cs) all =
    go c.removes (datom_longer table more c.number (All-head (λ y. IsMember order table (changing y)) c cs all).within)
    (added_longer order table more cs (All-tail (λ y. IsMember order table (changing y)) c cs all))
  where
    go : (b : Bool) → datom_of (table ++ more) c.number ≡ datom_of table c.number → added (table ++ more) cs ≡ added table cs
        → cond b (added (table ++ more) cs) (datom_of (table ++ more) c.number ∷ added (table ++ more) cs)
        ≡ cond b (added table cs) (datom_of table c.number ∷ added table cs)
    go false first rest =
        same_cons (datom_of (table ++ more) c.number) (datom_of table c.number) (added (table ++ more) cs) (added table cs) first rest
    go true first rest = rest

pub members_longer : (order : Order) (table more : List Datom) (ms : List Member) → AreMembers order table ms
    → AreMembers order (table ++ more) ms
members_longer order table more ms are =
    record {
      members =
          All-weaker (IsMember order table) (IsMember order (table ++ more)) (λ m is. member_longer order table more m is) ms are.members;
      rising = subst (IsRising order) (sym (held_longer (λ m. m) order table more ms are.members)) are.rising;
    }

pub changes_longer : (order : Order) (table more : List Datom) (cs : List Change) (base : List Datom) → AreChanges order table cs base
    → AreChanges order (table ++ more) cs base
changes_longer order table more cs base are =
    record {
      members =
          All-weaker (λ c. IsMember order table (changing c)) (λ c. IsMember order (table ++ more) (changing c))
          (λ c is. member_longer order table more (changing c) is) cs are.members;
      rising = subst (IsRising order) (sym (held_longer changing order table more cs are.members)) are.rising;
      there = subst (IsWithin base) (sym (removed_longer order table more cs are.members)) are.there;
      fresh =
          subst (λ (l : List Datom). (d : Datom) → Contains l d → Contains base d → ⊥) (sym (added_longer order table more cs are.members))
          are.fresh;
    }

pub changed_longer : (order : Order) (table more : List Datom) (cs : List Change) (base : List Datom)
    → All (λ c. IsMember order table (changing c)) cs
    → changed_by order (table ++ more) cs base ≡ changed_by order table cs base
changed_longer order table more cs base all =
    ap (λ (l : List Datom). changed order l (added (table ++ more) cs) base) (removed_longer order table more cs all)
    ∙ ap (λ (l : List Datom). changed order (removed table cs) l base) (added_longer order table more cs all)

pub settled_longer : (order : Order) (table more : List Datom) (middle : List Change) (ms : List Member) → IsSettled order table middle ms
    → settled_datoms order (table ++ more) middle ms ≡ settled_datoms order table middle ms
settled_longer order table more middle ms is =
    changed_longer order table more middle (named (table ++ more) ms) is.changes_are.members
    ∙ ap (changed_by order table middle) (held_longer (λ m. m) order table more ms is.members_are.members)

pub datoms_longer : (order : Order) (table more : List Datom) (r : Layers) → AreRuns order table r
    → runs_datoms order (table ++ more) r ≡ runs_datoms order table r
datoms_longer order table more r are =
    changed_longer order table more r.newest (settled_datoms order (table ++ more) r.middle r.settled) are.newest.members
    ∙ ap (changed_by order table r.newest) (settled_longer order table more r.middle r.settled are.settled)

pub runs_longer : (order : Order) (table more : List Datom) (r : Layers) → AreRuns order table r → HasNoTwins (table ++ more)
    → AreRuns order (table ++ more) r
runs_longer order table more r are single =
    let same = settled_longer order table more r.middle r.settled are.settled in
    record {
      single = single;
      settled =
          record {
            members_are = members_longer order table more r.settled are.settled.members_are;
            changes_are =
                subst (AreChanges order (table ++ more) r.middle)
                (sym (held_longer (λ m. m) order table more r.settled are.settled.members_are.members))
                (changes_longer order table more r.middle (named table r.settled) are.settled.changes_are);
            short = are.settled.short;
            few = omega (arith, are.settled.few, ap length same);
          };
      newest =
          subst (AreChanges order (table ++ more) r.newest) (sym same)
          (changes_longer order table more r.newest (settled_datoms order table r.middle r.settled) are.newest);
      count_is = are.count_is ∙ ap length (sym (datoms_longer order table more r are));
    }
