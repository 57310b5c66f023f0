-- Which beginnings of a history a file is the log of.
use Rattle.std.proofs.Common.{inl, inr, ◌≡◌, ◌+◌, ◌-◌, ◌≤◌, ℕ, zero, suc, List, [], ◌∷◌, length, take, drop, refl, sym, ap, subst, arith}
use Rattle.std.proofs.lemmas.List.{length-drop}
use Rattle.fb_values.specs.declared.facts.Entry.{Entry}
use Rattle.fb_model.specs.History.{basis, upto}
use Rattle.fb_model.specs.Lawful.{IsLawful}
use Rattle.fb_model.proofs.LawfulHistories.{IsLawful-length}
use Rattle.disk_model.specs.Journal.{log_mark, JournalStands}
use Rattle.disk_model.proofs.Readings.{one-stands}
use Rattle.log_model.specs.Log.{LogStands, LogSays, stands_for, IsLogOf, FileSays}
use Rattle.log_model.proofs.Logs.{one_history}
use Rattle.log_model.proofs.LogFiles.{one_said, IsLogOf-says}
use Rattle.disk_log.specs.Disks.{IsLogFrom}
use Rattle.fb_view.proofs.Beginnings.{upto_basis}

pub lawful-as : (h other : List Entry) → h ≡ other → IsLawful other → IsLawful h
lawful-as h other same lawful = subst IsLawful (sym same) lawful

-- what the image of a beginning says
pub from-says : (h : List Entry) (n : ℕ) (image : List ℕ) (said : LogSays) → IsLogFrom n h image → FileSays image said
    → (m : ℕ) × (n ≤ m) × (m ≤ basis h) × (said ≡ stands_for (upto h m))
from-says h n image said from says =
    (from.0, from.1, from.2, one_said image said (stands_for (upto h from.0)) says (IsLogOf-says image (upto h from.0) from.3))

-- a file of no record, and another one
pub new-from : (h : List Entry) (n : ℕ) (file image : List ℕ) → length file ≤ 16 → length image ≤ 16 → IsLogFrom n h file
    → IsLogFrom n h image
new-from h n file image short small from =
    let log = from.3 in (
      from.0,
      from.1,
      from.2,
      record { records = log.records; journal = inl (small, none log.records log.journal); stands = log.stands },
    )
  where
    none : (records : List (List ℕ)) → JournalStands log_mark records file → records ≡ []
    none records (inl new) = new.1
    none records (inr long) = absurd (omega (arith, long.0, short))

-- a file of these records, and another one
pub same-from : (h : List Entry) (n : ℕ) (file image : List ℕ) (records : List (List ℕ)) → JournalStands log_mark records file
    → JournalStands log_mark records image → IsLogFrom n h file → IsLogFrom n h image
same-from h n file image records stands too from =
    let log = from.3 in (
      from.0,
      from.1,
      from.2,
      record {
        records = log.records;
        journal = subst (λ (l : List (List ℕ)). JournalStands log_mark l image)
            (one-stands log_mark records log.records file stands log.journal) too;
        stands = log.stands;
      },
    )

one-log : (file : List ℕ) (h other : List Entry) → IsLogOf file h → IsLogOf file other → h ≡ other
one-log file h other first second =
    one_history second.records h other
    (subst (λ (l : List (List ℕ)). LogStands l h) (one-stands log_mark first.records second.records file first.journal second.journal)
    first.stands)
    second.stands

-- a file that is the log up to t has no longer beginning
pub from-within : (h : List Entry) (n t : ℕ) (file : List ℕ) → IsLawful h → t ≤ basis h → IsLogOf file (upto h t) → IsLogFrom n h file
    → n ≤ t
from-within h n t file lawful within is from =
    let same : basis (upto h from.0) ≡ basis (upto h t) = ap basis (one-log file (upto h from.0) (upto h t) from.3 is) in
    omega (arith, from.1, same, upto_basis h from.0 lawful from.2, upto_basis h t lawful within)

take-take : (h : List Entry) (few many : ℕ) → few ≤ many → take few (take many h) ≡ take few h
take-take h zero many within = refl
take-take h (suc few) zero within = absurd (omega (arith, within))
take-take [] (suc few) (suc many) within = refl
take-take (e ∷ h) (suc few) (suc many) within = ap (λ (l : List Entry). e ∷ l) (take-take h few many (omega (arith, within)))

-- a beginning of a beginning
pub from-longer : (h : List Entry) (n r t : ℕ) (image : List ℕ) → IsLawful h → t ≤ basis h → n ≤ r → IsLogFrom r (upto h t) image
    → IsLogFrom n h image
from-longer h n r t image lawful within less from =
    let most : from.0 ≤ basis (upto h t) = from.2 in
    let upto_t : from.0 ≤ t = omega (arith, most, upto_basis h t lawful within) in (
      from.0,
      omega (arith, less, from.1),
      omega (arith, upto_t, within),
      subst (λ (l : List Entry). IsLogOf image l) (take-take h (from.0 + 1) (t + 1) (omega (arith, upto_t))) from.3,
    )

pub from-less : (h : List Entry) (n r : ℕ) (image : List ℕ) → n ≤ r → IsLogFrom r h image → IsLogFrom n h image
from-less h n r image less from = (from.0, omega (arith, less, from.1), from.2, from.3)

-- how many entries come later than t
pub later-count : (h : List Entry) (t : ℕ) → IsLawful h → t ≤ basis h → basis h - t ≡ length (drop (t + 1) h)
later-count h t lawful within = omega (arith, within, IsLawful-length h lawful, length-drop (t + 1) h)
