-- Newer changes are settled: they wait with the others, or all are woven into the list.
use Rattle.std.proofs.Common.{◌≡◌, ◌∙◌, ℕ, ◌+◌, ◌-◌, ◌*◌, ◌≤◌, true, List, [], length, sym, ap, subst, arith, leb}
use Rattle.std.proofs.lemmas.Bool.{and_parts, leb-true}
use Rattle.fb_values.specs.declared.facts.Datom.{Datom}
use Rattle.fb_values.specs.declared.indexes.Order.{Order}
use Rattle.fb_values.specs.declared.indexes.Order.TheVariants.{Eavt, Aevt, Avet, Vaet}
use Rattle.live_runs.specs.declared.members.Change.{Change}
use Rattle.live_runs.specs.declared.members.Member.{Member}
use Rattle.live_runs.specs.declared.settled.TheConstants.{REMOVALS}
use Rattle.live_runs.specs.Changed.{HasNoTwins}
use Rattle.live_runs.specs.Changes.{AreChanges, AreMembers, changed_by}
use Rattle.live_runs.specs.Members.{named}
use Rattle.live_runs.specs.Merged.{merged}
use Rattle.live_runs.specs.Runs.{IsSettled, may_wait, most_waiting, settled_datoms}
use Rattle.live_runs.proofs.Merges.{IsMerged, merged_is}
use Rattle.live_runs.proofs.Running.{alone_settled}
use Rattle.live_runs.proofs.Stepping.{members_within}

most_short : (order : Order) (members changes : ℕ) → changes ≤ most_waiting order members → 16 * changes ≤ members
most_short Eavt members changes few = omega (arith, few)
most_short Aevt members changes few = omega (arith, few)
most_short Avet members changes few = omega (arith, few)
most_short Vaet members changes few = omega (arith, few)

pub wait_short : (order : Order) (members changes datoms : ℕ) → may_wait order members changes datoms ≡ true → 16 * changes ≤ members
wait_short order members changes datoms is =
    most_short order members changes
    (leb-true changes (most_waiting order members)
    (and_parts (leb changes (most_waiting order members)) (leb (members + changes - 2 * REMOVALS) datoms) is).0)

pub wait_few : (order : Order) (members changes datoms : ℕ) → may_wait order members changes datoms ≡ true
    → members + changes ≤ datoms + 2 * REMOVALS
wait_few order members changes datoms is =
    let few : members + changes - 2 * REMOVALS ≤ datoms =
    leb-true (members + changes - 2 * REMOVALS) datoms
    (and_parts (leb changes (most_waiting order members)) (leb (members + changes - 2 * REMOVALS) datoms) is).1 in
    omega (arith, few)

module _ (order : Order) (table : List Datom) (newest middle : List Change) (ms : List Member) (single : HasNoTwins table)
    (is : IsSettled order table middle ms) (newest_are : AreChanges order table newest (settled_datoms order table middle ms)) where
  pub both_merged : IsMerged order table newest middle (named table ms)
  both_merged =
      merged_is order table newest middle (named table ms) single is.members_are.rising (members_within order table ms is.members_are)
      is.changes_are newest_are

  -- they wait
  pub settled_waits : (new : List Change) (members : List Member) (changes len datoms : ℕ) → new ≡ merged order table newest middle
      → members ≡ ms → changes ≡ length new → datoms ≡ length ms → may_wait order datoms changes len ≡ true
      → len ≡ length (changed_by order table newest (settled_datoms order table middle ms))
      → IsSettled order table new members
      × (settled_datoms order table new members ≡ changed_by order table newest (settled_datoms order table middle ms))
  settled_waits new members changes len datoms new_is members_is changes_is datoms_is may len_is =
      let whole : settled_datoms order table new members ≡ changed_by order table newest (settled_datoms order table middle ms) =
      ap (λ (l : List Change). changed_by order table l (named table members)) new_is
      ∙ ap (λ (l : List Member). changed_by order table (merged order table newest middle) (named table l)) members_is
      ∙ both_merged.whole in (
        record {
          members_are = subst (AreMembers order table) (sym members_is) is.members_are;
          changes_are =
              subst (λ (l : List Change). AreChanges order table l (named table members)) (sym new_is)
              (subst (λ (l : List Member). AreChanges order table (merged order table newest middle) (named table l)) (sym members_is)
              both_merged.are);
          short = omega (arith, wait_short order datoms changes len may, changes_is, datoms_is, ap length members_is);
          few =
              omega (arith, wait_few order datoms changes len may, changes_is, datoms_is, ap length members_is, len_is, ap length whole);
        },
        whole,
      )

  -- they are woven
  pub settled_woven : (changes new : List Change) (members : List Member) → changes ≡ merged order table newest middle → new ≡ []
      → AreMembers order table members → named table members ≡ changed_by order table changes (named table ms)
      → IsSettled order table new members
      × (settled_datoms order table new members ≡ changed_by order table newest (settled_datoms order table middle ms))
  settled_woven changes new members changes_are none are woven =
      let alone = alone_settled order table new members single are none in (
        alone.0,
        alone.1
            ∙ woven
            ∙ ap (λ (l : List Change). changed_by order table l (named table ms)) changes_are
            ∙ both_merged.whole,
      )
