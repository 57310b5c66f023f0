-- The reply to a read, computed where filters are tests.
-- This project's own choice.
use Rattle.std.specs.Prelude.{ℕ, Bool, IsTrue, List, [], length, if◌then◌else◌, Option, Some, None}
use Rattle.std.specs.Prelude.{option_and_then, Result, Ok, Err}
use Rattle.edn_model.specs.Form.{Form}
use Rattle.fb_values.specs.declared.facts.Datom.{Datom}
use Rattle.fb_values.specs.declared.facts.Entry.{Entry}
use Rattle.fb_values.specs.declared.indexes.Order.{Order}
use Rattle.fb_values.specs.declared.indexes.Order.TheVariants.{Avet}
use Rattle.fb_model.specs.History.{basis}
use Rattle.fb_model.specs.Facts.{facts}
use Rattle.view_model.specs.Window.{Window, whole}
use Rattle.view_model.specs.View.{is_selected_by}
use Rattle.view_model.specs.Scan.{Range, leading, not_below, scan, transactions}
use Rattle.tx_refusals.specs.Reasons as tx
use Rattle.tx_model.specs.Step.{Guard}
use Rattle.with_model.specs.Chain.{Chain, reaches, refused_at, chain, is_unfiltered}
use Rattle.tuple_model.specs.Tuples as tuple
use Rattle.read_refusals.specs.declared.reasons.Reason.TheVariants.{BadPattern, NotAnEntity}
use Rattle.read_refusals.specs.declared.reasons.Reason.TheVariants.{Filtered}
use Rattle.read_refusals.specs.declared.reasons.Refusal.{Refusal}
use Rattle.read_model.specs.Points.{log_range}
use Rattle.read_model.specs.Given.{refusal}
use Rattle.read_model.specs.Names.{id_in}
use Rattle.read_model.specs.Components.{no_command, finds, components}
use Rattle.read_model.specs.Components.{index_range as range_of_index}
use Rattle.pull_model.specs.Patterns.{Pattern}
use Rattle.pull_model.specs.Reading.{pattern_in}
use Rattle.pull_model.specs.Pull as pulls
use Rattle.talk_model.specs.Commands.{Look, datoms, seek, index_range, tx_range, pull, Read, look}
use Rattle.talk_model.specs.Commands.{tried, tuples, turn, request_index}
use Rattle.talk_model.specs.Replies.{done_reply, datoms_reply, transactions_reply, with_reply}
use Rattle.talk_model.specs.Replies.{tuples_reply, refusal_reply}
use Rattle.talk_model.specs.Session.{Sight}
use Rattle.talk_model.specs.Looks.{refused, pull_shown}
use Rattle.talk_model.specs.TupleRanges.{TupleRange, tuple_range}
use Rattle.talk_model.specs.Reads.{turn_reply}

-- through filters that are these tests, whatever their names
abbrev pub tested : List Entry → Window → List (List ℕ) → List (Datom → Bool) → (List ℕ → Bool)
    → Guard → Sight
tested h w names filters is_filter guard =
    record {
      history = h;
      window = w;
      filters = names;
      Selects = λ d. IsTrue (is_selected_by filters d);
      is_filter = is_filter;
      guard = guard;
    }

abbrev pub shown : {X : Type 0} → ℕ → (X → Form) → Result X Refusal → Form
shown basis reply_to (Ok x) = reply_to x
shown basis reply_to (Err r) = refused basis r

module _ (h : List Entry) (w : Window) (filters : List (Datom → Bool)) where
  abbrev pub datoms_shown : Order → Range → Form
  datoms_shown order range = datoms_reply (basis h) (facts h) (scan h w filters order range)

  abbrev pub entity_of : Form → Option ℕ
  entity_of f = option_and_then (finds h w filters) (id_in (facts h) f)

  abbrev pub tree_shown : Pattern → Option ℕ → Form
  tree_shown pattern None = refused (basis h) (refusal NotAnEntity 2)
  tree_shown pattern (Some e) = pull_shown (basis h) (pulls.pull h w filters pattern e)

  abbrev pub pull_of : Result Pattern ℕ → Form → Form
  pull_of (Err place) entity = refused (basis h) (refusal BadPattern place)
  pull_of (Ok pattern) entity = tree_shown pattern (entity_of entity)

  abbrev pub look_reply : Look → Form
  look_reply (datoms order fs) =
      shown (basis h) (λ probe. datoms_shown order (leading probe))
      (components h w filters order fs)
  look_reply (seek order fs) =
      shown (basis h) (λ probe. datoms_shown order (not_below probe))
      (components h w filters order fs)
  look_reply (index_range a start end) =
      shown (basis h) (datoms_shown Avet) (range_of_index h w filters a start end)
  look_reply (tx_range start end) =
      shown (basis h)
      (λ (range : ℕ × ℕ).
      transactions_reply (basis h) (facts h) (transactions h range.0 range.1))
      (log_range h start end)
  look_reply (pull pattern entity) = pull_of (pattern_in pattern) entity

abbrev pub chain_shown : ℕ → Look → Chain → Form
chain_shown basis l (refused_at r at) = refusal_reply (tx.keyword_of r.reason) r.at at
chain_shown basis l (reaches h reports) = with_reply basis reports (look_reply h whole [] l)

abbrev pub tried_reply : Sight → List Form → Look → Form
tried_reply s datas l =
    if is_unfiltered s.window (length s.filters)
    then chain_shown (basis s.history) l (chain s.guard s.history datas)
    else refused (basis s.history) (refusal Filtered 0)

abbrev pub tuples_shown : List Entry → Window → List (Datom → Bool) → TupleRange → Form
tuples_shown h w filters r =
    tuples_reply (basis h) (tuple.range r.start r.end (tuple.tuples_seen h w filters r.attrs))

abbrev pub reply : Sight → List (Datom → Bool) → Option Read → Form
reply s filters None = refused (basis s.history) no_command
reply s filters (Some (look l)) = look_reply s.history s.window filters l
reply s filters (Some (tried datas l)) = tried_reply s datas l
reply s filters (Some (tuples names start end)) =
    shown (basis s.history) (tuples_shown s.history s.window filters)
    (tuple_range (facts s.history) s.window.history names start end)
reply s filters (Some (turn t)) = turn_reply s t
reply s filters (Some request_index) = done_reply (basis s.history)
