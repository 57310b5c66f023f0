-- The keyword of each reason for which a command that changes nothing is refused.
-- This project's own choice;
-- what is at fault is that of Datomic, Database Filters, Indexes, Log API and Pull.
use Rattle.std.specs.Prelude.{ℕ, List, codes}
use Rattle.read_refusals.specs.declared.reasons.Reason.{Reason}
use Rattle.read_refusals.specs.declared.reasons.Reason.TheVariants.{NotACommand, Filtered, BadPattern, BadTuple}
use Rattle.read_refusals.specs.declared.reasons.Reason.TheVariants.{NoFilter, BadPoint}
use Rattle.read_refusals.specs.declared.reasons.Reason.TheVariants.{BadComponent, NotInIndex}
use Rattle.read_refusals.specs.declared.reasons.Reason.TheVariants.{NotAnEntity, History, TooLarge}

-- without its colon
abbrev pub keyword_of : Reason → List ℕ
keyword_of NotACommand = codes "read/not-a-command"
keyword_of Filtered = codes "read/filtered"
keyword_of BadPattern = codes "read/bad-pattern"
keyword_of BadTuple = codes "read/bad-tuple"
keyword_of NoFilter = codes "read/no-filter"
keyword_of BadPoint = codes "read/bad-point"
keyword_of BadComponent = codes "read/bad-component"
keyword_of NotInIndex = codes "read/not-in-index"
keyword_of NotAnEntity = codes "read/not-an-entity"
keyword_of History = codes "read/history"
keyword_of TooLarge = codes "read/too-large"
