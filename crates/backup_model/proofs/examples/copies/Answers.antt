-- The records of each file, read off its bytes; whether a text is UTF-8 is computed where it is opened.
use Rattle.std.proofs.Common.{inl, inr, ◌≡◌, ℕ, zero, suc, List, [], ◌∷◌, length, true, false, refl, sym, ◌∙◌, ap, subst, arith, lit<}
use Rattle.std.specs.Prelude.{Contains}
use Rattle.std.proofs.lemmas.Bool.{true≢false}
use Rattle.std.specs.Char.{encode_utf8}
use Rattle.std.specs.Str.{is_utf8, chars}
use Rattle.disk_model.specs.Journal.{segments_mark, JournalStands}
use Rattle.disk_model.proofs.Readings.{one-stands}
use Rattle.log_model.specs.Nodes.{Roots, ids_in}
use Rattle.log_model.specs.Kept.{KeptRoot, kept_roots, nodes_of, are_good}
use Rattle.log_model.specs.Samples.{leaf_record, next_record, hi_payload}
use Rattle.backup_model.specs.Backup.{IsCopyFile, reached_ids}
use Rattle.backup_model.specs.Samples.{file_of, leaf_root, leaf_ids, no_ids, rootless_record}
use Rattle.backup_model.proofs.examples.copies.Goals as goal

leaf_stands : JournalStands segments_mark (leaf_record ∷ []) (file_of (leaf_record ∷ []))
leaf_stands = inr (lit< tt, record { gate = 0; rest = []; bytes = refl; closed = omega arith; lengths = (lit< tt, tt) })

leaf_kept : kept_roots (leaf_record ∷ []) ≡ leaf_root ∷ []
unfolding is_utf8 chars encode_utf8
leaf_kept = refl

leaf_nodes : ids_in (nodes_of (leaf_record ∷ [])) ≡ 1 ∷ 2 ∷ []
unfolding is_utf8 chars encode_utf8
leaf_nodes = refl

leaf_reached : reached_ids (nodes_of (leaf_record ∷ [])) leaf_ids ≡ 2 ∷ 1 ∷ []
unfolding is_utf8 chars encode_utf8
leaf_reached = refl

leaf_good : are_good (leaf_record ∷ []) ≡ true
unfolding is_utf8 chars encode_utf8
leaf_good = refl

turned : (a b id : ℕ) → Contains (a ∷ b ∷ []) id → Contains (b ∷ a ∷ []) id
turned a b id (zero, below, is) = (1, omega arith, is)
turned a b id (suc zero, below, is) = (0, omega arith, is)
turned a b id (suc (suc k), below, is) = absurd (omega (arith, below))

pub returns-clause-whole : goal.returns-clause-whole
returns-clause-whole c =
    record {
      records = leaf_record ∷ [];
      journal = leaf_stands;
      good = leaf_good;
      kept = leaf_kept;
      there = λ id has. subst (λ l. Contains l id) (sym leaf_nodes) (turned 2 1 id (subst (λ l. Contains l id) leaf_reached has));
      no_others = λ id has. subst (λ l. Contains l id) (sym leaf_reached) (turned 1 2 id (subst (λ l. Contains l id) leaf_nodes has));
    }

-- ---- files that are none

-- the records of a copy are those of the file
records_are : (file : List ℕ) (root : KeptRoot) (ids : Roots) (records : List (List ℕ)) → JournalStands segments_mark records file
    → (copy : IsCopyFile file root ids) → copy.records ≡ records
records_are file root ids records stands copy = one-stands segments_mark copy.records records file copy.journal stands

one_kept : (file : List ℕ) (root : KeptRoot) (ids : Roots) (records : List (List ℕ)) → JournalStands segments_mark records file
    → IsCopyFile file root ids → length (kept_roots records) ≡ 1
one_kept file root ids records stands copy =
    ap (λ l. length (kept_roots l)) (sym (records_are file root ids records stands copy)) ∙ ap length copy.kept

two_stand : JournalStands segments_mark (leaf_record ∷ next_record ∷ []) (file_of (leaf_record ∷ next_record ∷ []))
two_stand = inr (lit< tt, record { gate = 0; rest = []; bytes = refl; closed = omega arith; lengths = (lit< tt, (lit< tt, tt)) })

two_kept : length (kept_roots (leaf_record ∷ next_record ∷ [])) ≡ 2
unfolding is_utf8 chars encode_utf8
two_kept = refl

pub returns-clause-again : goal.returns-clause-again
returns-clause-again c = λ root ids copy.
    absurd (omega (arith, two_kept, one_kept (file_of (leaf_record ∷ next_record ∷ [])) root ids (leaf_record ∷ next_record ∷ []) two_stand copy))

bad_stands : JournalStands segments_mark (leaf_record ∷ hi_payload ∷ []) (file_of (leaf_record ∷ hi_payload ∷ []))
bad_stands = inr (lit< tt, record { gate = 0; rest = []; bytes = refl; closed = omega arith; lengths = (lit< tt, (lit< tt, tt)) })

bad_good : are_good (leaf_record ∷ hi_payload ∷ []) ≡ false
unfolding is_utf8 chars encode_utf8
bad_good = refl

pub returns-clause-bad_behind : goal.returns-clause-bad_behind
returns-clause-bad_behind c = λ root ids copy.
    let same = records_are (file_of (leaf_record ∷ hi_payload ∷ [])) root ids (leaf_record ∷ hi_payload ∷ []) bad_stands copy in
    true≢false (sym (copy.good) ∙ ap are_good same ∙ bad_good)

pub returns-clause-empty : goal.returns-clause-empty
returns-clause-empty c = λ root ids copy. absurd (omega (arith, one_kept [] root ids [] (inl (omega arith, refl)) copy))

rootless_stands : JournalStands segments_mark (rootless_record ∷ []) (file_of (rootless_record ∷ []))
rootless_stands = inr (lit< tt, record { gate = 0; rest = []; bytes = refl; closed = omega arith; lengths = (lit< tt, tt) })

rootless_nodes : ids_in (nodes_of (rootless_record ∷ [])) ≡ 1 ∷ 2 ∷ []
unfolding is_utf8 chars encode_utf8
rootless_nodes = refl

pub returns-clause-other_nodes : goal.returns-clause-other_nodes
returns-clause-other_nodes c = λ root copy.
    let same = records_are (file_of (rootless_record ∷ [])) root no_ids (rootless_record ∷ []) rootless_stands copy in
    let has : Contains (ids_in (nodes_of copy.records)) 1 =
    subst (λ l. Contains (ids_in (nodes_of l)) 1) (sym same) (subst (λ l. Contains l 1) (sym rootless_nodes) (0, omega arith, refl)) in
    let reached = copy.no_others 1 has in
    absurd (omega (arith, reached.1))
