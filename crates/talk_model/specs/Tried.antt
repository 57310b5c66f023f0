-- What a look answers of the database as transactions would make it, one after another, none of
-- which is recorded.
-- Datomic, Transactions (d/with). That the whole database alone is tried on is this project's own
-- choice.
use Rattle.std.specs.Prelude.{◌≡◌, List, [], length, MatchBool}
use Rattle.edn_model.specs.Form.{Form}
use Rattle.fb_values.specs.declared.facts.Entry.{Entry}
use Rattle.fb_model.specs.History.{basis}
use Rattle.view_model.specs.Window.{whole}
use Rattle.tx_refusals.specs.Reasons as tx
use Rattle.with_model.specs.Chain.{Chain, reaches, refused_at, chain, is_unfiltered}
use Rattle.read_refusals.specs.declared.reasons.Reason.TheVariants.{Filtered}
use Rattle.read_model.specs.Given.{refusal}
use Rattle.talk_model.specs.Commands.{Look}
use Rattle.talk_model.specs.Replies.{with_reply, refusal_reply}
use Rattle.talk_model.specs.Session.{Sight}
use Rattle.talk_model.specs.Looks.{refused, IsLook}

-- the sight of a whole history, through no filter
abbrev pub at_end : Sight → List Entry → Sight
at_end s h =
    record s { history = h; window = whole; filters = []; Selects = λ d. Unit {0} }

-- the first transaction that is refused, or the reports and the look at what the chain reaches
abbrev pub ShowsChain : Sight → Look → Chain → Form → Type 0
ShowsChain s l (refused_at r at) reply = reply ≡ refusal_reply (tx.keyword_of r.reason) r.at at
ShowsChain s l (reaches h reports) reply =
    (shown : Form)
    × IsLook (at_end s h) l shown
    × (reply ≡ with_reply (basis s.history) reports shown)

abbrev pub IsTried : Sight → List Form → Look → Form → Type 0
IsTried s datas l reply =
    MatchBool (is_unfiltered s.window (length s.filters))
    (ShowsChain s l (chain s.guard s.history datas) reply)
    (reply ≡ refused (basis s.history) (refusal Filtered 0))
