-- A range of tuples as a reply, and the texts of its members.
use Rattle.std.proofs.Common.{◌≡◌, ℕ, true, List, [], ◌∷◌, Bor, Option, Some, None, Result, Ok, get_or, refl, sym, subst, ap}
use Rattle.std.specs.Prelude.{Contains, MatchOption, IsSomeAnd, length, option_map, Vec, vec_len}
use Rattle.std.specs.declared.alloc.Global.{Global}
use Rattle.std.specs.Option.{option_map_or}
use Rattle.std.proofs.lemmas.Bool.{and_from}
use Rattle.std.proofs.lemmas.List.{get_or_default}
use Rattle.std.proofs.lemmas.List.Sums.{AllPass-from_list_all, list_all-from_AllPass}
use Rattle.fb_values.specs.declared.facts.Datom.{Datom}
use Rattle.fb_values.specs.declared.facts.Entry.{Entry}
use Rattle.fb_values.specs.declared.facts.Value.{Value}
use Rattle.fb_model.specs.History.{basis, said}
use Rattle.view_model.specs.Window.{Window, without_history}
use Rattle.view_model.specs.View.{InView}
use Rattle.tuple_model.specs.Tuples.{Tuple, Row}
use Rattle.tuple_model.specs.Seen.{IsMember, AreMembers, AreTuplesIn}
use Rattle.read_refusals.specs.declared.reasons.Refusal.{Refusal}
use Rattle.talk_model.specs.Replies.{tuples_reply, IsLineOf}
use Rattle.talk_model.specs.TupleRanges.{TupleRange}
use Rattle.fb_replies.specs.Texts.{has_text, have_texts, members_have_texts, rows_have_texts}
use Rattle.fb_reads.specs.Answers.{IsLineFor, ShowsRange}

-- a bound as it is lent
pub lent_bound : (bound : Option (Vec (Option Value) Global)) (lent : Option (Bor (List (Option Value))))
    → MatchOption bound (lent ≡ None) (λ tuple. IsSomeAnd lent (λ members. (members.now ≡ tuple.items) × (length members.now ≡ vec_len tuple)))
    → option_map (λ b. b.now) lent ≡ option_map (λ tuple. tuple.items) bound
lent_bound None lent is = ap (option_map (λ b. b.now)) is
lent_bound (Some tuple) (Some members) is = ap Some is.0
lent_bound (Some tuple) None is = absurd is

-- ---- what is said has a text, and so have the members of tuples

pub said_text : (h : List Entry) (d : Datom) → have_texts (said h) ≡ true → Contains (said h) d → has_text d.v ≡ true
said_text h d every member =
    subst (λ (x : Datom). has_text x.v ≡ true) member.2
    (AllPass-from_list_all (λ (x : Datom). has_text x.v) (said h) every member.0 d member.1)

module _ (h : List Entry) (w : Window) (Selects : Datom → Type 0)
    (each : (d : Datom) → InView h (without_history w) Selects d → has_text d.v ≡ true) where
  member_text : (e a : ℕ) (member : Option Value) → IsMember h w Selects e a member → option_map_or has_text member true ≡ true
  member_text e a None is = refl
  member_text e a (Some v) is = let found = is.0 in subst (λ (v : Value). has_text v ≡ true) found.3 (each found.0 found.1)

  members_text : (e : ℕ) (attrs : List ℕ) (tuple : Tuple) → AreMembers h w Selects e attrs tuple → members_have_texts tuple ≡ true
  members_text e [] [] are = refl
  members_text e [] (member ∷ members) are = absurd are
  members_text e (a ∷ attrs) [] are = absurd are
  members_text e (a ∷ attrs) (member ∷ members) are =
      and_from _ _ (member_text e a member are.0) (members_text e attrs members are.1)

  pub rows_text : (attrs : List ℕ) (start end : Option Tuple) (rows : List Row) → AreTuplesIn h w Selects attrs start end rows
      → rows_have_texts rows ≡ true
  rows_text attrs start end rows are =
      list_all-from_AllPass (λ (row : Row). members_have_texts row.tuple) rows (λ k row below.
      let x = get_or rows k row in
      let is = ((are.members x).0 (k, below, get_or_default rows k x row below)).0 in
      members_text x.e attrs x.tuple is.members)

-- ---- the reply

pub range_shown : (h : List Entry) (w : Window) (Selects : Datom → Type 0) (range : Result TupleRange Refusal) (of : TupleRange)
    (rows : List Row) (line : List ℕ)
    → range ≡ Ok of → AreTuplesIn h w Selects of.attrs of.start of.end rows → IsLineOf (tuples_reply (basis h) rows) line
    → IsLineFor (ShowsRange h w Selects range) line
range_shown h w Selects range of rows line is are says =
    subst (λ (range : Result TupleRange Refusal). IsLineFor (ShowsRange h w Selects range) line) (sym is)
    (tuples_reply (basis h) rows, (rows, are, refl), says)
