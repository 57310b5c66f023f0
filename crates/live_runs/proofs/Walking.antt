-- The next datom of a list with changes that are left.
use Rattle.std.proofs.Common.{◌≡◌, ◌∙◌, Bool, true, false, List, ◌∷◌, refl, sym, ap, subst}
use Rattle.std.specs.Prelude.{Contains}
use Rattle.std.specs.List.{All}
use Rattle.std.proofs.lemmas.List.Elements.{All-tail}
use Rattle.fb_values.specs.declared.facts.Datom.{Datom}
use Rattle.fb_values.specs.declared.indexes.Order.{Order}
use Rattle.fb_values.specs.Rising.{IsBelowAll, IsRising}
use Rattle.fb_model.proofs.Members.{here}
use Rattle.live_runs.specs.declared.members.Change.{Change}
use Rattle.live_runs.specs.declared.members.Member.{Member}
use Rattle.live_runs.specs.Changed.{HasNoTwins, changed, MayChange}
use Rattle.live_runs.specs.Changes.{AreChanges, AreMembers, added, changed_by, removed}
use Rattle.live_runs.specs.Members.{IsMember, changing, datom_of, held_by, named}
use Rattle.live_runs.proofs.Rises.{not_behind_itself}
use Rattle.live_runs.proofs.Changed.{base_first, behind_base, behind_both, behind_come, come_first, gone_first}
use Rattle.live_runs.proofs.Named.{below_added, below_removed, may_change}
use Rattle.live_runs.proofs.Stepping.{members_within}

rest_members : (order : Order) (table : List Datom) (m : Member) (ms : List Member) → AreMembers order table (m ∷ ms) → AreMembers order table ms
rest_members order table m ms are =
    record { members = All-tail (IsMember order table) m ms are.members; rising = are.rising.1 }

changes_of : (order : Order) (table : List Datom) (cs all : List Change) (base part : List Datom) → AreChanges order table all base
    → All (λ c. IsMember order table (changing c)) cs → IsRising order (held_by changing table cs)
    → MayChange order table (removed table cs) (added table cs) part → AreChanges order table cs part
changes_of order table cs all base part are members rising may =
    record { members = members; rising = rising; there = may.there; fresh = may.fresh }

pub record IsNext (order : Order) (table whole : List Datom) (d : Datom) (cs : List Change) (ms : List Member) : Type 0 where
  pub first : whole ≡ d ∷ changed_by order table cs (named table ms)
  pub members : AreMembers order table ms
  pub changes : AreChanges order table cs (named table ms)

-- the first member stands before all changes
pub member_next : (order : Order) (table : List Datom) (cs : List Change) (m : Member) (ms : List Member) → HasNoTwins table
    → AreMembers order table (m ∷ ms) → AreChanges order table cs (named table (m ∷ ms))
    → IsBelowAll order (datom_of table m.number) (held_by changing table cs)
    → IsNext order table (changed_by order table cs (named table (m ∷ ms))) (datom_of table m.number) cs ms
member_next order table cs m ms single are changes before =
    let d = datom_of table m.number in
    let may : MayChange order table (removed table cs) (added table cs) (datom_of table m.number ∷ named table ms) =
    may_change order table cs (named table (m ∷ ms)) changes are.rising (members_within order table (m ∷ ms) are) in
    record {
      first =
          base_first order table (removed table cs) (added table cs) d (named table ms) single may (below_removed order table d cs before)
          (below_added order table d cs before);
      members = rest_members order table m ms are;
      changes =
          changes_of order table cs cs (named table (m ∷ ms)) (named table ms) changes changes.members changes.rising
          (behind_base order table (removed table cs) (added table cs) d (named table ms) may (below_removed order table d cs before));
    }

-- the first change stands before all members, and so it adds
pub change_next : (order : Order) (table : List Datom) (c : Change) (cs : List Change) (ms : List Member) → HasNoTwins table
    → AreMembers order table ms → AreChanges order table (c ∷ cs) (named table ms)
    → IsBelowAll order (datom_of table c.number) (named table ms)
    → IsNext order table (changed_by order table (c ∷ cs) (named table ms)) (datom_of table c.number) cs ms
change_next order table c cs ms single are changes before = go c.removes refl
  where
    may : MayChange order table (removed table (c ∷ cs)) (added table (c ∷ cs)) (named table ms)
    may = may_change order table (c ∷ cs) (named table ms) changes are.rising (members_within order table ms are)

    go : (b : Bool) → c.removes ≡ b
        → IsNext order table (changed_by order table (c ∷ cs) (named table ms)) (datom_of table c.number) cs ms
    go true is =
        let goes : Contains (removed table (c ∷ cs)) (datom_of table c.number) = rw is (here (datom_of table c.number) (removed table cs)) in
        absurd (not_behind_itself order (datom_of table c.number) (named table ms) before (changes.there (datom_of table c.number) goes))
    go false is =
        let goes : removed table (c ∷ cs) ≡ removed table cs = rw is refl in
        let comes : added table (c ∷ cs) ≡ datom_of table c.number ∷ added table cs = rw is refl in
        let at : MayChange order table (removed table cs) (datom_of table c.number ∷ added table cs) (named table ms) =
        subst (λ (l : List Datom). MayChange order table (removed table cs) l (named table ms)) comes
        (subst (λ (l : List Datom). MayChange order table l (added table (c ∷ cs)) (named table ms)) goes may) in
        record {
          first =
              ap (λ (l : List Datom). changed order l (added table (c ∷ cs)) (named table ms)) goes
              ∙ ap (λ (l : List Datom). changed order (removed table cs) l (named table ms)) comes
              ∙ come_first order table (removed table cs) (datom_of table c.number) (added table cs) (named table ms) single at before;
          members = are;
          changes =
              changes_of order table cs (c ∷ cs) (named table ms) (named table ms) changes
              (All-tail (λ x. IsMember order table (changing x)) c cs changes.members) changes.rising.1
              (behind_come order table (removed table cs) (datom_of table c.number) (added table cs) (named table ms) at);
        }

pub record IsSame (order : Order) (table whole : List Datom) (cs : List Change) (ms : List Member) : Type 0 where
  pub same : whole ≡ changed_by order table cs (named table ms)
  pub members : AreMembers order table ms
  pub changes : AreChanges order table cs (named table ms)

-- the first change is of the first member's datom, and so it removes it
pub both_gone : (order : Order) (table : List Datom) (c : Change) (cs : List Change) (m : Member) (ms : List Member) → HasNoTwins table
    → AreMembers order table (m ∷ ms) → AreChanges order table (c ∷ cs) (named table (m ∷ ms))
    → datom_of table c.number ≡ datom_of table m.number
    → IsSame order table (changed_by order table (c ∷ cs) (named table (m ∷ ms))) cs ms
both_gone order table c cs m ms single are changes meets = go c.removes refl
  where
    may : MayChange order table (removed table (c ∷ cs)) (added table (c ∷ cs)) (datom_of table m.number ∷ named table ms)
    may = may_change order table (c ∷ cs) (named table (m ∷ ms)) changes are.rising (members_within order table (m ∷ ms) are)

    go : (b : Bool) → c.removes ≡ b → IsSame order table (changed_by order table (c ∷ cs) (named table (m ∷ ms))) cs ms
    go false is =
        let comes : Contains (added table (c ∷ cs)) (datom_of table c.number) = rw is (here (datom_of table c.number) (added table cs)) in
        absurd (changes.fresh (datom_of table c.number) comes
        (subst (Contains (datom_of table m.number ∷ named table ms)) (sym meets) (here (datom_of table m.number) (named table ms))))
    go true is =
        let goes : removed table (c ∷ cs) ≡ datom_of table m.number ∷ removed table cs =
        rw is (ap (λ (d : Datom). d ∷ removed table cs) meets) in
        let comes : added table (c ∷ cs) ≡ added table cs = rw is refl in
        let at : MayChange order table (datom_of table m.number ∷ removed table cs) (added table cs) (datom_of table m.number ∷ named table ms) =
        subst (λ (l : List Datom). MayChange order table (datom_of table m.number ∷ removed table cs) l (datom_of table m.number ∷ named table ms))
        comes
        (subst (λ (l : List Datom). MayChange order table l (added table (c ∷ cs)) (datom_of table m.number ∷ named table ms)) goes may) in
        record {
          same =
              ap (λ (l : List Datom). changed order l (added table (c ∷ cs)) (datom_of table m.number ∷ named table ms)) goes
              ∙ ap (λ (l : List Datom). changed order (datom_of table m.number ∷ removed table cs) l (datom_of table m.number ∷ named table ms))
              comes
              ∙ gone_first order table (datom_of table m.number) (removed table cs) (added table cs) (named table ms) single at;
          members = rest_members order table m ms are;
          changes =
              changes_of order table cs (c ∷ cs) (named table (m ∷ ms)) (named table ms) changes
              (All-tail (λ x. IsMember order table (changing x)) c cs changes.members) changes.rising.1
              (behind_both order table (datom_of table m.number) (removed table cs) (added table cs) (named table ms) at);
        }
