use Rattle.std.proofs.Common.{subst}
use Rattle.std.proofs.lemmas.Result.{IfOk-weaker, IfErr-weaker}
use Rattle.fb_recover.specs.Finding.{HaveFound}
use Rattle.fb_recover.proofs.Reading.{stands-whole, told-whole}
use Rattle.fb_recover.proofs.records.Found.into_history.Goals as goal

pub returns-in-Entries-clause-stands : goal.returns-in-Entries-clause-stands
returns-in-Entries-clause-stands c =
    IfOk-weaker c.lawful_history.result _ _
    (λ h lawful. λ records have.
    stands-whole records c.in-Entries.entries.items h (subst (HaveFound records) c.in-Entries.is have) lawful.0 lawful.1)
    c.lawful_history.ensures.lawful

pub returns-in-Entries-clause-fault : goal.returns-in-Entries-clause-fault
returns-in-Entries-clause-fault c =
    IfErr-weaker c.lawful_history.result _ _
    (λ fault tells. λ records have.
    told-whole records c.in-Entries.entries.items fault (subst (HaveFound records) c.in-Entries.is have) tells)
    c.lawful_history.ensures.unlawful
