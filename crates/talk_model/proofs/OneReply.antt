-- A read has one answer, and leaves its session where it was.
use Rattle.std.proofs.Common.{ℕ, ◌≡◌, ◌+◌, Bool, true, false, zero, suc, List, [], ◌∷◌, ◌++◌, length, Option, Some, None, Result, Ok, Err}
use Rattle.std.proofs.Common.{take}
use Rattle.std.proofs.Common.{refl, ap, sym, ◌∙◌, subst, arith}
use Rattle.std.specs.Bool.{Decides, MatchBool}
use Rattle.std.specs.Str.{bytes_eq}
use Rattle.std.specs.Option.{option_map}
use Rattle.std.proofs.lemmas.Bool.{true≢false}
use Rattle.std.proofs.lemmas.Slice.Eq.{bytes_eq-Decides}
use Rattle.edn_model.specs.Form.{Form}
use Rattle.edn_print.proofs.Texts.{one_text}
use Rattle.fb_values.specs.declared.facts.Datom.{Datom}
use Rattle.fb_values.specs.declared.facts.Entry.{Entry}
use Rattle.fb_values.specs.declared.indexes.Order.{Order}
use Rattle.fb_values.specs.declared.indexes.Order.TheVariants.{Avet}
use Rattle.fb_values.specs.declared.indexes.Probe.{Probe}
use Rattle.fb_model.specs.Facts.{facts}
use Rattle.fb_model.specs.History.{basis, upto}
use Rattle.fb_model.specs.Lawful.{IsLawful, IsLawfulFrom}
use Rattle.view_model.specs.Window.{Window}
use Rattle.view_model.specs.Names.{Id}
use Rattle.view_model.specs.Scan.{Range, leading, not_below}
use Rattle.view_model.proofs.Scans.{IsRisingListOf-one}
use Rattle.with_model.specs.Chain.{TxReport, Chain, reaches, refused_at, chain, is_unfiltered}
use Rattle.with_model.proofs.Chains.{chain-IsLawful}
use Rattle.tuple_model.proofs.SeenRows.{one_list_in}
use Rattle.read_refusals.specs.declared.reasons.Reason.TheVariants.{Filtered}
use Rattle.read_refusals.specs.declared.reasons.Refusal.{Refusal}
use Rattle.read_model.specs.Given.{refusal}
use Rattle.read_model.specs.Points.{log_range}
use Rattle.read_model.specs.Names.{id_in, IsFound}
use Rattle.read_model.proofs.Finding.{named_one}
use Rattle.pull_model.specs.Patterns.{Pattern}
use Rattle.pull_model.specs.Reading.{pattern_in}
use Rattle.pull_model.proofs.Views.{not_without_a_list}
use Rattle.talk_model.proofs.Reading.{components_one, range_one}
use Rattle.talk_model.specs.Commands.{Look, datoms, seek, index_range, tx_range, pull, Read, look, tried, tuples, turn, request_index}
use Rattle.talk_model.specs.Commands.{Command, read, command_in}
use Rattle.talk_model.specs.Replies.{datoms_reply, with_reply, tuples_reply, line_feed, IsLineOf}
use Rattle.talk_model.specs.Session.{Setting, Standing, Sight, sight_of}
use Rattle.talk_model.specs.Looks.{refused, Shows, HasDatoms, HasDatomsAt, HasDatomsBetween, HasTransactions, HasTree, HasPull, IsLook}
use Rattle.talk_model.specs.Tried.{at_end, ShowsChain, IsTried}
use Rattle.talk_model.specs.TupleRanges.{HasRows, HasTuples, tuple_range}
use Rattle.talk_model.specs.Reads.{IsReply}
use Rattle.talk_model.specs.Talk.{IsReadAnswer, AnswersCommand, IsAnswered}
use Rattle.talk_model.proofs.Steps.{behind-place}

pub one_line : (reply : Form) (line other : List ℕ) → IsLineOf reply line → IsLineOf reply other → line ≡ other
one_line reply line other first second =
    first.2 ∙ ap (λ (text : List ℕ). text ++ line_feed ∷ []) (one_text reply first.0 second.0 first.1 second.1) ∙ sym second.2

from_beginning : (before rest : List Entry) (n : ℕ) → IsLawfulFrom before rest → IsLawfulFrom before (take n rest)
from_beginning before rest zero lawful = tt
from_beginning before [] (suc n) lawful = tt
from_beginning before (e ∷ rest) (suc n) lawful = (lawful.0, from_beginning (before ++ e ∷ []) rest n lawful.1)

upto_lawful : (h : List Entry) (c : ℕ) → IsLawful h → IsLawful (upto h c)
upto_lawful [] c lawful = absurd lawful
upto_lawful (first ∷ rest) c lawful =
    let one : c + 1 ≡ suc c = omega arith in rw one (lawful.0, from_beginning (first ∷ []) rest c lawful.1)

-- two lines that are not unequal are equal
stable : (line other : List ℕ) → ((line ≡ other → ⊥) → ⊥) → line ≡ other
stable line other not_unequal = by (bytes_eq line other) (bytes_eq-Decides line other)
  where
    by : (r : Bool) → Decides r (line ≡ other) → line ≡ other
    by true decided = decided.0 refl
    by false decided = absurd (not_unequal (λ same. true≢false (sym (decided.1 same))))

shows_one : {X : Type 0} (basis : ℕ) (IsReplyTo : X → Form → Type 0) → ((x : X) (p q : Form) → IsReplyTo x p → IsReplyTo x q → p ≡ q)
    → (answer : Result X Refusal) (p q : Form) → Shows basis IsReplyTo answer p → Shows basis IsReplyTo answer q → p ≡ q
shows_one basis IsReplyTo each (Ok x) p q first second = each x p q first second
shows_one basis IsReplyTo each (Err r) p q first second = first ∙ sym second

module _ (h : List Entry) (w : Window) (Selects : Datom → Type 0) where
  datoms_one : (order : Order) (range : Range) (p q : Form) → HasDatoms h w Selects order range p → HasDatoms h w Selects order range q
      → p ≡ q
  datoms_one order range p q first second =
      let same = IsRisingListOf-one order _ first.0 second.0 first.1 second.1 in
      first.2 ∙ ap (datoms_reply (basis h) (facts h)) same ∙ sym second.2

  at_one : (order : Order) (range : Probe → Range) (components : List Form) (p q : Form)
      → HasDatomsAt h w Selects order range components p → HasDatomsAt h w Selects order range components q → p ≡ q
  at_one order range components p q first second =
      let same = components_one h w Selects order components first.0 second.0 first.1 second.1 in
      let Shown : Result Probe Refusal → Type 0 = λ answer. Shows (basis h) (λ probe. HasDatoms h w Selects order (range probe)) answer p in
      shows_one (basis h) (λ probe. HasDatoms h w Selects order (range probe)) (λ probe. datoms_one order (range probe)) second.0 p q
      (subst Shown same first.2) second.2

  between_one : (a start end p q : Form) → HasDatomsBetween h w Selects a start end p → HasDatomsBetween h w Selects a start end q → p ≡ q
  between_one a start end p q first second =
      let same = range_one h w Selects a start end first.0 second.0 first.1 second.1 in
      let Shown : Result Range Refusal → Type 0 = λ answer. Shows (basis h) (HasDatoms h w Selects Avet) answer p in
      shows_one (basis h) (HasDatoms h w Selects Avet) (datoms_one Avet) second.0 p q (subst Shown same first.2) second.2

  -- of pulls two replies are not unequal
  module _ (lawful : IsLawful h) where
    found_one : (id : Option Id) (x y : Option ℕ) → IsFound h w Selects id x → IsFound h w Selects id y → x ≡ y
    found_one None x y is other = is ∙ sym other
    found_one (Some id) x y is other = named_one h w Selects id x y is other

    tree_one : (pattern : Pattern) (e : Option ℕ) (p q : Form) → HasTree h w Selects pattern e p → HasTree h w Selects pattern e q
        → (p ≡ q → ⊥) → ⊥
    tree_one pattern None p q x y differ = differ (x ∙ sym y)
    tree_one pattern (Some e) p q x y differ = not_without_a_list h w Selects lawful (λ db is. differ (x db is ∙ sym (y db is)))

    pull_one : (pattern : Result Pattern ℕ) (entity p q : Form) → HasPull h w Selects pattern entity p
        → HasPull h w Selects pattern entity q → (p ≡ q → ⊥) → ⊥
    pull_one (Err place) entity p q x y differ = differ (x ∙ sym y)
    pull_one (Ok pattern) entity p q x y differ =
        let same = found_one (id_in (facts h) entity) x.0 y.0 x.1 y.1 in
        tree_one pattern y.0 p q (subst (λ (e : Option ℕ). HasTree h w Selects pattern e p) same x.2) y.2 differ

module _ (s : Sight) (lawful : IsLawful s.history) where
  look_one : (l : Look) (p q : Form) → IsLook s l p → IsLook s l q → (p ≡ q → ⊥) → ⊥
  look_one (datoms order components) p q x y differ = differ (at_one s.history s.window s.Selects order leading components p q x y)
  look_one (seek order components) p q x y differ = differ (at_one s.history s.window s.Selects order not_below components p q x y)
  look_one (index_range a start end) p q x y differ = differ (between_one s.history s.window s.Selects a start end p q x y)
  look_one (tx_range start end) p q x y differ =
      differ (shows_one (basis s.history) (HasTransactions s.history) (λ range p q x y. x ∙ sym y) (log_range s.history start end) p q x y)
  look_one (pull pattern entity) p q x y differ = pull_one s.history s.window s.Selects lawful (pattern_in pattern) entity p q x y differ

module _ (s : Sight) (lawful : IsLawful s.history) where
  chain_one : (l : Look) (c : Chain) → ((h : List Entry) (told : List TxReport) → c ≡ reaches h told → IsLawful h) → (p q : Form)
      → ShowsChain s l c p → ShowsChain s l c q → (p ≡ q → ⊥) → ⊥
  chain_one l (refused_at r at) stays p q x y differ = differ (x ∙ sym y)
  chain_one l (reaches h told) stays p q x y differ =
      look_one (at_end s h) (stays h told refl) l x.0 y.0 x.1 y.1
      (λ same. differ (x.2 ∙ ap (with_reply (basis s.history) told) same ∙ sym y.2))

  tried_one : (datas : List Form) (l : Look) (p q : Form) → IsTried s datas l p → IsTried s datas l q → (p ≡ q → ⊥) → ⊥
  tried_one datas l p q x y differ = go (is_unfiltered s.window (length s.filters)) x y
    where
      narrowed : Form
      narrowed = refused (basis s.history) (refusal Filtered 0)

      go : (b : Bool) → MatchBool b (ShowsChain s l (chain s.guard s.history datas) p) (p ≡ narrowed)
          → MatchBool b (ShowsChain s l (chain s.guard s.history datas) q) (q ≡ narrowed) → ⊥
      go true x y =
          chain_one l (chain s.guard s.history datas) (λ h told is. chain-IsLawful s.guard s.history h datas told lawful is) p q x y differ
      go false x y = differ (x ∙ sym y)

  tuples_one : (names start end p q : Form) → HasTuples s names start end p → HasTuples s names start end q → p ≡ q
  tuples_one names start end =
      shows_one (basis s.history) (HasRows s) (λ range p q x y.
      x.2
      ∙ ap (tuples_reply (basis s.history))
      (one_list_in s.history s.window s.Selects range.attrs range.start range.end x.0 y.0 x.1 y.1) ∙ sym y.2)
      (tuple_range (facts s.history) s.window.history names start end)

  reply_one : (asked : Option Read) (p q : Form) → IsReply s asked p → IsReply s asked q → (p ≡ q → ⊥) → ⊥
  reply_one None p q x y differ = differ (x ∙ sym y)
  reply_one (Some (look l)) p q x y differ = look_one s lawful l p q x y differ
  reply_one (Some (tried datas l)) p q x y differ = tried_one datas l p q x y differ
  reply_one (Some (tuples names start end)) p q x y differ = differ (tuples_one names start end p q x y)
  reply_one (Some (turn t)) p q x y differ = differ (x ∙ sym y)
  reply_one (Some request_index) p q x y differ = differ (x ∙ sym y)

-- a read takes its session to one standing, with one line
pub record Same (after other : Standing) (line line' : List ℕ) (commit commit' : Option ℕ) : Type 0 where
  pub standings : after ≡ other
  pub lines : line ≡ line'
  pub commits : commit ≡ commit'

read_one : (s : Setting) (before : Standing) (asked : Option Read) (after other : Standing) (line line' : List ℕ)
    (commit commit' : Option ℕ)
    → IsLawful s.history → IsReadAnswer s before asked after line commit → IsReadAnswer s before asked other line' commit'
    → Same after other line line' commit commit'
read_one s before asked after other line line' commit commit' lawful first second =
    let same =
    reply_one (sight_of s before) (upto_lawful s.history before.place lawful) asked first.reply second.reply first.answers second.answers in
    record {
      standings = first.stands ∙ sym second.stands;
      lines =
          stable line line' (λ differ.
          same (λ one. differ (one_line second.reply line line' (subst (λ reply. IsLineOf reply line) one first.says) second.says)));
      commits = first.commits ∙ sym second.commits;
    }

-- ---- by the command of a form

module _ (s : Setting) (before : Standing) where
  reads : (asked : Option Read) (command : Option Command) (after : Standing) (line : List ℕ) (commit : Option ℕ)
      → command ≡ option_map read asked → AnswersCommand s before command after line commit → IsReadAnswer s before asked after line commit
  reads None command after line commit is a = subst (λ c. AnswersCommand s before c after line commit) is a
  reads (Some r) command after line commit is a = subst (λ c. AnswersCommand s before c after line commit) is a

  pub answer_one : (f : Form) (asked : Option Read) (after other : Standing) (line line' : List ℕ) (commit commit' : Option ℕ)
      → IsLawful s.history → command_in f ≡ option_map read asked
      → IsAnswered s before f after line commit → IsAnswered s before f other line' commit' → Same after other line line' commit commit'
  answer_one f asked after other line line' commit commit' lawful is first second =
      read_one s before asked after other line line' commit commit' lawful (reads asked (command_in f) after line commit is first)
      (reads asked (command_in f) other line' commit' is second)

  pub read_place : (f : Form) (asked : Option Read) (after : Standing) (line : List ℕ) (commit : Option ℕ)
      → command_in f ≡ option_map read asked → IsAnswered s before f after line commit → after.place ≡ before.place
  read_place f asked after line commit is a =
      ap (λ (x : Standing). x.place) (reads asked (command_in f) after line commit is a).stands
      ∙ behind-place (sight_of s before) before asked

  pub answer_look : (f : Form) (l : Look) (after : Standing) (line : List ℕ) (commit : Option ℕ) → command_in f ≡ Some (read (look l))
      → IsAnswered s before f after line commit → after ≡ before
  answer_look f l after line commit is a = (reads (Some (look l)) (command_in f) after line commit is a).stands

  pub answer_tried : (f : Form) (datas : List Form) (l : Look) (after : Standing) (line : List ℕ) (commit : Option ℕ)
      → command_in f ≡ Some (read (tried datas l)) → IsAnswered s before f after line commit → after ≡ before
  answer_tried f datas l after line commit is a = (reads (Some (tried datas l)) (command_in f) after line commit is a).stands

  pub answer_tuples : (f names start end : Form) (after : Standing) (line : List ℕ) (commit : Option ℕ)
      → command_in f ≡ Some (read (tuples names start end)) → IsAnswered s before f after line commit → after ≡ before
  answer_tuples f names start end after line commit is a =
      (reads (Some (tuples names start end)) (command_in f) after line commit is a).stands

  pub answer_request : (f : Form) (after : Standing) (line : List ℕ) (commit : Option ℕ) → command_in f ≡ Some (read request_index)
      → IsAnswered s before f after line commit → after ≡ before
  answer_request f after line commit is a = (reads (Some request_index) (command_in f) after line commit is a).stands

  pub answer_none : (f : Form) (after : Standing) (line : List ℕ) (commit : Option ℕ) → command_in f ≡ None
      → IsAnswered s before f after line commit → after ≡ before
  answer_none f after line commit is a = (reads None (command_in f) after line commit is a).stands
