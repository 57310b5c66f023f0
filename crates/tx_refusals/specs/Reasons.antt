-- The keyword of each reason for which a transaction is refused, and its number:
-- of several reasons the least one is reported.
-- This project's own choice; what is at fault is that of Datomic, Transaction Data and Schema.
use Rattle.std.specs.Prelude.{ℕ, List, codes}
use Rattle.tx_refusals.specs.declared.reasons.Bar.TheVariants.{AttrPred, MissingRequired}
use Rattle.tx_refusals.specs.declared.reasons.Bar.TheVariants.{UniqueTuple}
use Rattle.tx_refusals.specs.declared.reasons.Reason.{Reason}
use Rattle.tx_refusals.specs.declared.reasons.Reason.TheVariants.{NotAForm, NotAnAttribute}
use Rattle.tx_refusals.specs.declared.reasons.Reason.TheVariants.{ProtectedAttribute, WrongType}
use Rattle.tx_refusals.specs.declared.reasons.Reason.TheVariants.{NotUniqueLookup, NotAnEntity}
use Rattle.tx_refusals.specs.declared.reasons.Reason.TheVariants.{NestedWithoutId, TempidConflict}
use Rattle.tx_refusals.specs.declared.reasons.Reason.TheVariants.{TempidNotAnEntity, CasMany}
use Rattle.tx_refusals.specs.declared.reasons.Reason.TheVariants.{CasFailed, DatomsConflict}
use Rattle.tx_refusals.specs.declared.reasons.Reason.TheVariants.{UniqueConflict}
use Rattle.tx_refusals.specs.declared.reasons.Reason.TheVariants.{IncompleteAttribute}
use Rattle.tx_refusals.specs.declared.reasons.Reason.TheVariants.{AttributeFixed, TooLarge, Full}
use Rattle.tx_refusals.specs.declared.reasons.Reason.TheVariants.{AlterationConflict, Barred}

-- without its colon
abbrev pub keyword_of : Reason → List ℕ
keyword_of NotAForm = codes "db.error/not-a-form"
keyword_of NotAnAttribute = codes "db.error/not-an-attribute"
keyword_of ProtectedAttribute = codes "db.error/protected-attribute"
keyword_of WrongType = codes "db.error/wrong-type-for-attribute"
keyword_of NotUniqueLookup = codes "db.error/not-unique-lookup"
keyword_of NotAnEntity = codes "db.error/not-an-entity"
keyword_of NestedWithoutId = codes "db.error/nested-without-id"
keyword_of TempidConflict = codes "db.error/tempid-conflict"
keyword_of TempidNotAnEntity = codes "db.error/tempid-not-an-entity"
keyword_of CasMany = codes "db.error/cas-many"
keyword_of CasFailed = codes "db.error/cas-failed"
keyword_of DatomsConflict = codes "db.error/datoms-conflict"
keyword_of UniqueConflict = codes "db.error/unique-conflict"
keyword_of IncompleteAttribute = codes "db.error/incomplete-attribute"
keyword_of AttributeFixed = codes "db.error/attribute-fixed"
keyword_of TooLarge = codes "db.error/too-large"
keyword_of Full = codes "db.error/full"
keyword_of AlterationConflict = codes "db.error/alteration-conflict"
keyword_of (Barred AttrPred) = codes "db.error/attr-pred"
keyword_of (Barred MissingRequired) = codes "db.error/missing-required"
keyword_of (Barred UniqueTuple) = codes "db.error/unique-tuple"

abbrev pub number_of : Reason → ℕ
number_of NotAForm = 1
number_of NotAnAttribute = 2
number_of ProtectedAttribute = 3
number_of WrongType = 4
number_of NotUniqueLookup = 5
number_of NotAnEntity = 6
number_of NestedWithoutId = 7
number_of TempidConflict = 8
number_of TempidNotAnEntity = 9
number_of CasMany = 10
number_of CasFailed = 11
number_of DatomsConflict = 12
number_of UniqueConflict = 13
number_of IncompleteAttribute = 14
number_of AttributeFixed = 15
number_of TooLarge = 16
number_of Full = 17
number_of AlterationConflict = 18
number_of (Barred AttrPred) = 19
number_of (Barred MissingRequired) = 20
number_of (Barred UniqueTuple) = 21
