-- What was read, and what was found or refused of it, as replies.
use Rattle.std.proofs.Common.{◌≡◌, ℕ, Bool, true, false, cond, List, [], ◌∷◌, Result, Ok, Err, refl, sym, subst}
use Rattle.std.specs.Prelude.{filter}
use Rattle.std.specs.List.{list_all}
use Rattle.std.proofs.lemmas.Bool.{and_parts, and_from}
use Rattle.edn_model.specs.Form.{Form}
use Rattle.fb_values.specs.declared.facts.Datom.{Datom}
use Rattle.fb_values.specs.declared.facts.Entry.{Entry}
use Rattle.fb_values.specs.declared.indexes.Order.{Order}
use Rattle.fb_values.specs.declared.indexes.Order.TheVariants.{Avet}
use Rattle.fb_values.specs.declared.indexes.Probe.{Probe}
use Rattle.fb_model.specs.History.{basis}
use Rattle.fb_model.specs.Facts.{facts}
use Rattle.view_model.specs.Window.{Window}
use Rattle.view_model.specs.Scan.{Range, between, IsScan, transactions}
use Rattle.read_refusals.specs.declared.reasons.Refusal.{Refusal}
use Rattle.read_model.specs.Components.{AreComponents, IsIndexRange}
use Rattle.talk_model.specs.Replies.{datoms_reply, transactions_reply, done_reply, IsLineOf}
use Rattle.talk_model.specs.Looks.{Shows, HasDatomsAt, HasDatomsBetween, HasTransactions, refused}
use Rattle.talk_model.specs.Reads.{done_at}
use Rattle.fb_names.specs.declared.stops.NameStop.{NameStop}
use Rattle.fb_names.specs.declared.stops.NameStop.TheVariants.{Refused, Memory}
use Rattle.fb_names.specs.declared.ranges.ValueRange.{ValueRange}
use Rattle.fb_names.specs.Answers.{AnswersAs}
use Rattle.fb_names.specs.Ranges.{range_of}
use Rattle.fb_reads.specs.Answers.{IsLineFor, IsRefused}
use Rattle.fb_reads.proofs.Orders.{probe_order}

-- ---- any answer

pub done : (basis : ℕ) (answer : Result ℕ Refusal) (end : ℕ) (line : List ℕ) → Ok end ≡ answer → IsLineOf (done_reply basis) line
    → IsLineOf (done_at basis answer) line
done basis answer end line is says = subst (λ (answer : Result ℕ Refusal). IsLineOf (done_at basis answer) line) is says

pub not_done : (basis : ℕ) (answer : Result ℕ Refusal) (r : Refusal) (line : List ℕ) → Err r ≡ answer → IsLineOf (refused basis r) line
    → IsLineOf (done_at basis answer) line
not_done basis answer r line is says = subst (λ (answer : Result ℕ Refusal). IsLineOf (done_at basis answer) line) is says

pub refuses : {X : Type 0} (basis : ℕ) (IsReplyTo : X → Form → Type 0) (answer : Result X Refusal) (r : Refusal) (line : List ℕ)
    → answer ≡ Err r → IsLineOf (refused basis r) line
    → IsLineFor (Shows basis IsReplyTo answer) line
refuses {X} basis IsReplyTo answer r line is says =
    subst (λ (answer : Result X Refusal). IsLineFor (Shows basis IsReplyTo answer) line) (sym is) (refused basis r, refl, says)

-- what holds of each holds of some of them
pub all_kept : {X : Type 0} (p q : X → Bool) (xs : List X) → list_all p xs ≡ true → list_all p (filter q xs) ≡ true
all_kept p q [] every = refl
all_kept {X} p q (x ∷ xs) every = by_test (q x) (all_kept p q xs parts.1)
  where
    parts : (p x ≡ true) × (list_all p xs ≡ true)
    parts = and_parts (p x) (list_all p xs) every

    by_test : (b : Bool) → list_all p (filter q xs) ≡ true → list_all p (cond b (x ∷ filter q xs) (filter q xs)) ≡ true
    by_test true rest = and_from _ _ parts.0 rest
    by_test false rest = rest

-- ---- scans

pub found_at : (h : List Entry) (w : Window) (Selects : Datom → Type 0) (order : Order) (range : Probe → Range) (fs : List Form)
    (probe : Probe) (ds : List Datom) (line : List ℕ)
    → AreComponents h w Selects order fs (Ok probe) → IsScan h w Selects probe.order (range probe) ds
    → IsLineOf (datoms_reply (basis h) (facts h) ds) line
    → IsLineFor (HasDatomsAt h w Selects order range fs) line
found_at h w Selects order range fs probe ds line are scan says =
    let in_order = subst (λ (o : Order). IsScan h w Selects o (range probe) ds) (probe_order h w Selects order fs probe are) scan in
    (datoms_reply (basis h) (facts h) ds, (Ok probe, are, (ds, in_order, refl)), says)

pub stopped_at : (h : List Entry) (w : Window) (Selects : Datom → Type 0) (order : Order) (range : Probe → Range) (fs : List Form)
    (stop : NameStop) (line : List ℕ)
    → AnswersAs (AreComponents h w Selects order fs) (Err stop) → IsRefused (basis h) stop line
    → IsLineFor (HasDatomsAt h w Selects order range fs) line
stopped_at h w Selects order range fs (Refused r) line are says = (refused (basis h) r, (Err r, are, refl), says)
stopped_at h w Selects order range fs Memory line are says = absurd says

pub found_between : (h : List Entry) (w : Window) (Selects : Datom → Type 0) (a start end : Form) (range : ValueRange) (ds : List Datom)
    (line : List ℕ)
    → IsIndexRange h w Selects a start end (range_of (Ok range))
    → IsScan h w Selects Avet (between range.attribute range.start range.end) ds → IsLineOf (datoms_reply (basis h) (facts h) ds) line
    → IsLineFor (HasDatomsBetween h w Selects a start end) line
found_between h w Selects a start end range ds line is scan says =
    (datoms_reply (basis h) (facts h) ds, (range_of (Ok range), is, (ds, scan, refl)), says)

pub stopped_between : (h : List Entry) (w : Window) (Selects : Datom → Type 0) (a start end : Form) (stop : NameStop) (line : List ℕ)
    → AnswersAs (λ (answer : Result ValueRange Refusal). IsIndexRange h w Selects a start end (range_of answer)) (Err stop)
    → IsRefused (basis h) stop line
    → IsLineFor (HasDatomsBetween h w Selects a start end) line
stopped_between h w Selects a start end (Refused r) line is says = (refused (basis h) r, (range_of (Err r), is, refl), says)
stopped_between h w Selects a start end Memory line is says = absurd says

-- ---- the log

pub logged : (h : List Entry) (answer : Result (ℕ × ℕ) Refusal) (start end : ℕ) (line : List ℕ) → answer ≡ Ok (start, end)
    → IsLineOf (transactions_reply (basis h) (facts h) (transactions h start end)) line
    → IsLineFor (Shows (basis h) (HasTransactions h) answer) line
logged h answer start end line is says =
    subst (λ (answer : Result (ℕ × ℕ) Refusal). IsLineFor (Shows (basis h) (HasTransactions h) answer) line) (sym is)
    (transactions_reply (basis h) (facts h) (transactions h start end), refl, says)
