-- Where filters are tests, the computed reply is the reply to a read.
use Rattle.std.proofs.Common.{◌≡◌, ℕ, Bool, true, false, cond, List, [], length, Option, Some, None, Result, Ok, Err, refl, ap, subst}
use Rattle.std.specs.Prelude.{◌↔◌, option_and_then, Contains, IsTrue, MatchBool}
use Rattle.std.proofs.Props.{props}
use std.Univalence.{h_prop_ext}
use Rattle.edn_model.specs.Form.{Form}
use Rattle.fb_values.specs.declared.facts.Datom.{Datom}
use Rattle.fb_values.specs.declared.facts.Entry.{Entry}
use Rattle.fb_values.specs.declared.indexes.Order.{Order}
use Rattle.fb_values.specs.declared.indexes.Order.TheVariants.{Avet}
use Rattle.fb_model.specs.History.{basis}
use Rattle.fb_model.specs.Facts.{facts}
use Rattle.fb_model.specs.Lawful.{IsLawful}
use Rattle.fb_model.proofs.Members.{kept, keep}
use Rattle.view_model.specs.Window.{Window, whole, without_history}
use Rattle.view_model.specs.View.{InView, seen, is_selected_by, facts_seen}
use Rattle.view_model.specs.Names.{Id}
use Rattle.view_model.specs.Scan.{Range, leading, not_below, scan}
use Rattle.view_model.proofs.Scans.{scan-IsScan}
use Rattle.tx_model.specs.Step.{Guard}
use Rattle.with_model.specs.Chain.{TxReport, Chain, reaches, refused_at, chain, is_unfiltered}
use Rattle.with_model.proofs.Chains.{chain-IsLawful}
use Rattle.tuple_model.specs.Tuples.{Tuple, range, tuples_seen}
use Rattle.tuple_model.specs.Seen.{AreTuplesIn}
use Rattle.tuple_model.proofs.TupleLists.{tuples-AreTuples}
use Rattle.tuple_model.proofs.SeenRows.{part_of_all, tuples_of_facts}
use Rattle.read_refusals.specs.declared.reasons.Reason.TheVariants.{Filtered}
use Rattle.read_refusals.specs.declared.reasons.Refusal.{Refusal}
use Rattle.read_model.specs.Points.{log_range}
use Rattle.read_model.specs.Given.{refusal}
use Rattle.read_model.specs.Names.{id_in, IsFound}
use Rattle.read_model.specs.Components.{finds, components, index_range as range_of_index}
use Rattle.read_model.proofs.Finding.{named_by_tests}
use Rattle.pull_model.specs.Patterns.{Pattern}
use Rattle.pull_model.specs.Reading.{pattern_in}
use Rattle.pull_model.proofs.Views.{pull-IsPulled}
use Rattle.talk_model.specs.Commands.{Look, datoms, seek, index_range, tx_range, pull, Read, look, tried, tuples, turn, request_index}
use Rattle.talk_model.specs.Session.{Sight}
use Rattle.talk_model.specs.Looks.{refused, Shows, HasDatoms, HasTransactions, HasTree, HasPull, IsLook, pull_shown}
use Rattle.talk_model.specs.Tried.{at_end, ShowsChain, IsTried}
use Rattle.talk_model.specs.TupleRanges.{HasRows, tuple_range}
use Rattle.talk_model.specs.Reads.{IsReply}
use Rattle.talk_model.specs.Computed.{tested, shown, datoms_shown, entity_of, tree_shown, pull_of, look_reply, chain_shown, tried_reply}
use Rattle.talk_model.specs.Computed.{tuples_shown, reply}
use Rattle.talk_model.proofs.Reading.{components_is, range_is}

shows : {X : Type 0} (basis : ℕ) (IsReplyTo : X → Form → Type 0) (reply_to : X → Form) → ((x : X) → IsReplyTo x (reply_to x))
    → (answer : Result X Refusal) → Shows basis IsReplyTo answer (shown basis reply_to answer)
shows basis IsReplyTo reply_to each (Ok x) = each x
shows basis IsReplyTo reply_to each (Err r) = refl

module _ (h : List Entry) (w : Window) (names : List (List ℕ)) (filters : List (Datom → Bool)) (is_filter : List ℕ → Bool)
    (guard : Guard) (lawful : IsLawful h) where
  abbrev s : Sight
  s = tested h w names filters is_filter guard

  has_datoms : (order : Order) (range : Range) → HasDatoms h w s.Selects order range (datoms_shown h w filters order range)
  has_datoms order range = (scan h w filters order range, scan-IsScan h w filters order range lawful, refl)

  found_is : (id : Option Id) → IsFound h w s.Selects id (option_and_then (finds h w filters) id)
  found_is None = refl
  found_is (Some id) = named_by_tests h w filters id

  tree_is : (pattern : Pattern) (e : Option ℕ) → HasTree h w s.Selects pattern e (tree_shown h w filters pattern e)
  tree_is pattern None = refl
  tree_is pattern (Some e) = λ db is. ap (pull_shown (basis h)) (pull-IsPulled h w filters pattern e lawful db is)

  pull_is : (pattern : Result Pattern ℕ) (entity : Form) → HasPull h w s.Selects pattern entity (pull_of h w filters pattern entity)
  pull_is (Err place) entity = refl
  pull_is (Ok pattern) entity =
      (entity_of h w filters entity, found_is (id_in (facts h) entity), tree_is pattern (entity_of h w filters entity))

  look_is : (l : Look) → IsLook s l (look_reply h w filters l)
  look_is (datoms order fs) = (
    components h w filters order fs,
    components_is h w filters order fs,
    shows (basis h) (λ probe. HasDatoms h w s.Selects order (leading probe)) (λ probe. datoms_shown h w filters order (leading probe))
        (λ probe. has_datoms order (leading probe)) (components h w filters order fs),
  )
  look_is (seek order fs) = (
    components h w filters order fs,
    components_is h w filters order fs,
    shows (basis h) (λ probe. HasDatoms h w s.Selects order (not_below probe)) (λ probe. datoms_shown h w filters order (not_below probe))
        (λ probe. has_datoms order (not_below probe)) (components h w filters order fs),
  )
  look_is (index_range a start end) = (
    range_of_index h w filters a start end,
    range_is h w filters a start end,
    shows (basis h) (HasDatoms h w s.Selects Avet) (datoms_shown h w filters Avet) (has_datoms Avet)
        (range_of_index h w filters a start end),
  )
  look_is (tx_range start end) = shows (basis h) (HasTransactions h) _ (λ range. refl) (log_range h start end)
  look_is (pull pattern entity) = pull_is (pattern_in pattern) entity

-- the rows of what tests select
in_view : (h : List Entry) (w : Window) (filters : List (Datom → Bool)) (d : Datom)
    → Contains (facts_seen h w filters) d ↔ InView h (without_history w) (λ x. IsTrue (is_selected_by filters x)) d
in_view h w filters d = (
  λ member.
      let is = kept (is_selected_by filters) (seen h (without_history w)) d member in
      record { is_seen = is.member; is_selected = is.passes },
  λ is. keep (is_selected_by filters) (seen h (without_history w)) d is.is_seen is.is_selected,
)

rows_seen : (h : List Entry) (w : Window) (filters : List (Datom → Bool)) (attrs : List ℕ) (start end : Option Tuple)
    → AreTuplesIn h w (λ d. IsTrue (is_selected_by filters d)) attrs start end (range start end (tuples_seen h w filters attrs))
rows_seen h w filters attrs start end =
    part_of_all h w (λ d. IsTrue (is_selected_by filters d)) attrs start end (tuples_seen h w filters attrs)
    (tuples_of_facts h w (λ d. IsTrue (is_selected_by filters d)) (facts_seen h w filters) (in_view h w filters) attrs
    (tuples_seen h w filters attrs) (tuples-AreTuples (facts_seen h w filters) attrs))

-- no filter selects every datom
all_selected : ◌≡◌ {A = Datom → Type 0} (λ d. IsTrue (is_selected_by [] d)) (λ d. Unit {0})
all_selected = λ i d. h_prop_ext {A = IsTrue true} {B = Unit {0}} (hlevel props) (hlevel props) (λ _. tt {0}) (λ _. refl) i

module _ (h : List Entry) (w : Window) (names : List (List ℕ)) (filters : List (Datom → Bool)) (is_filter : List ℕ → Bool)
    (guard : Guard) (lawful : IsLawful h) where
  abbrev sight : Sight
  sight = tested h w names filters is_filter guard

  look_at_end : (end : List Entry) → IsLawful end → (l : Look) → IsLook (at_end sight end) l (look_reply end whole [] l)
  look_at_end end stays l =
      subst (λ (Selects : Datom → Type 0). IsLook (record (at_end sight end) { Selects = Selects }) l (look_reply end whole [] l))
      all_selected (look_is end whole [] [] is_filter guard stays l)

  chain_is : (l : Look) (c : Chain) → ((end : List Entry) (told : List TxReport) → c ≡ reaches end told → IsLawful end)
      → ShowsChain sight l c (chain_shown (basis h) l c)
  chain_is l (refused_at r at) stays = refl
  chain_is l (reaches end told) stays = (look_reply end whole [] l, look_at_end end (stays end told refl) l, refl)

  tried_is : (datas : List Form) (l : Look) → IsTried sight datas l (tried_reply sight datas l)
  tried_is datas l = go (is_unfiltered w (length names))
    where
      narrowed : Form
      narrowed = refused (basis h) (refusal Filtered 0)

      chained : Form
      chained = chain_shown (basis h) l (chain guard h datas)

      go : (b : Bool) → MatchBool b (ShowsChain sight l (chain guard h datas) (cond b chained narrowed)) (cond b chained narrowed ≡ narrowed)
      go true = chain_is l (chain guard h datas) (λ end told is. chain-IsLawful guard h end datas told lawful is)
      go false = refl

  pub reply_is : (asked : Option Read) → IsReply sight asked (reply sight filters asked)
  reply_is None = refl
  reply_is (Some (look l)) = look_is h w names filters is_filter guard lawful l
  reply_is (Some (tried datas l)) = tried_is datas l
  reply_is (Some (tuples given start end)) =
      shows (basis h) (HasRows sight) (tuples_shown h w filters) (λ r. (
        range r.start r.end (tuples_seen h w filters r.attrs),
        rows_seen h w filters r.attrs r.start r.end,
        refl,
      )) (tuple_range (facts h) w.history given start end)
  reply_is (Some (turn t)) = refl
  reply_is (Some request_index) = refl
