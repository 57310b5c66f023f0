-- What a look answers, of what its session has seen: datoms, transactions of the log, or a tree.
-- Datomic, Indexes, Log API and Pull.
use Rattle.std.specs.Prelude.{◌≡◌, ℕ, List, Option, Some, None, Result, Ok, Err}
use Rattle.edn_model.specs.Form.{Form}
use Rattle.fb_values.specs.declared.facts.Datom.{Datom}
use Rattle.fb_values.specs.declared.facts.Entry.{Entry}
use Rattle.fb_values.specs.declared.indexes.Order.{Order}
use Rattle.fb_values.specs.declared.indexes.Order.TheVariants.{Avet}
use Rattle.fb_values.specs.declared.indexes.Probe.{Probe}
use Rattle.fb_model.specs.History.{basis}
use Rattle.fb_model.specs.Facts.{facts}
use Rattle.view_model.specs.Window.{Window}
use Rattle.view_model.specs.Scan.{Range, leading, not_below, IsScan, transactions}
use Rattle.read_refusals.specs.declared.reasons.Reason.{Reason}
use Rattle.read_refusals.specs.declared.reasons.Reason.TheVariants.{BadPattern, NotAnEntity}
use Rattle.read_refusals.specs.declared.reasons.Refusal.{Refusal}
use Rattle.read_refusals.specs.Reasons.{keyword_of}
use Rattle.read_model.specs.Points.{log_range}
use Rattle.read_model.specs.Given.{refusal}
use Rattle.read_model.specs.Names.{IsEntityOf}
use Rattle.read_model.specs.Components.{AreComponents, IsIndexRange}
use Rattle.pull_model.specs.Patterns.{Pattern}
use Rattle.pull_model.specs.Reading.{pattern_in}
use Rattle.pull_model.specs.Found.{Db, IsDb}
use Rattle.pull_model.specs.Pull.{pulled}
use Rattle.talk_model.specs.Commands.{Look, datoms, seek, index_range, tx_range, pull}
use Rattle.talk_model.specs.Replies.{datoms_reply, transactions_reply, pull_reply, refusal_reply}
use Rattle.talk_model.specs.Session.{Sight}

-- ---- replies

abbrev pub refused : ℕ → Refusal → Form
refused basis r = refusal_reply (keyword_of r.reason) r.at basis

-- the reply to what could be read, or the refusal of what could not
abbrev pub Shows : {X : Type 0} → ℕ → (X → Form → Type 0) → Result X Refusal → Form → Type 0
Shows basis IsReplyTo (Ok x) reply = IsReplyTo x reply
Shows basis IsReplyTo (Err r) reply = reply ≡ refused basis r

-- ---- indexes and the log

-- the datoms of a range of an index
abbrev pub HasDatoms : List Entry → Window → (Datom → Type 0) → Order → Range → Form → Type 0
HasDatoms h w Selects order range reply =
    (ds : List Datom)
    × IsScan h w Selects order range ds
    × (reply ≡ datoms_reply (basis h) (facts h) ds)

-- the datoms of a range that components give
abbrev pub HasDatomsAt : List Entry → Window → (Datom → Type 0) → Order → (Probe → Range)
    → List Form → Form → Type 0
HasDatomsAt h w Selects order range fs reply =
    (answer : Result Probe Refusal) × AreComponents h w Selects order fs answer
    × Shows (basis h) (λ probe. HasDatoms h w Selects order (range probe)) answer reply

abbrev pub HasDatomsBetween : List Entry → Window → (Datom → Type 0) → Form → Form → Form → Form
    → Type 0
HasDatomsBetween h w Selects a start end reply =
    (answer : Result Range Refusal) × IsIndexRange h w Selects a start end answer
    × Shows (basis h) (HasDatoms h w Selects Avet) answer reply

abbrev pub HasTransactions : List Entry → ℕ × ℕ → Form → Type 0
HasTransactions h range reply =
    reply ≡ transactions_reply (basis h) (facts h) (transactions h range.0 range.1)

-- ---- pulls

-- the reply to what was pulled
abbrev pub pull_shown : ℕ → Result Form Reason → Form
pull_shown basis (Ok tree) = pull_reply basis tree
pull_shown basis (Err reason) = refused basis (refusal reason 0)

-- the tree of the entity that was found, by any list of the view's facts, of which there is one at
-- most
abbrev pub HasTree : List Entry → Window → (Datom → Type 0) → Pattern → Option ℕ → Form → Type 0
HasTree h w Selects pattern None reply = reply ≡ refused (basis h) (refusal NotAnEntity 2)
HasTree h w Selects pattern (Some e) reply =
    (db : Db) → IsDb h w Selects db → reply ≡ pull_shown (basis h) (pulled w.history db pattern e)

abbrev pub HasPull : List Entry → Window → (Datom → Type 0) → Result Pattern ℕ → Form → Form
    → Type 0
HasPull h w Selects (Err place) entity reply = reply ≡ refused (basis h) (refusal BadPattern place)
HasPull h w Selects (Ok pattern) entity reply =
    (e : Option ℕ) × IsEntityOf h w Selects entity e × HasTree h w Selects pattern e reply

-- ---- looks

abbrev pub IsLook : Sight → Look → Form → Type 0
IsLook s (datoms order fs) reply =
    HasDatomsAt s.history s.window s.Selects order leading fs reply
IsLook s (seek order fs) reply =
    HasDatomsAt s.history s.window s.Selects order not_below fs reply
IsLook s (index_range a start end) reply =
    HasDatomsBetween s.history s.window s.Selects a start end reply
IsLook s (tx_range start end) reply =
    Shows (basis s.history) (HasTransactions s.history) (log_range s.history start end) reply
IsLook s (pull pattern entity) reply =
    HasPull s.history s.window s.Selects (pattern_in pattern) entity reply
