-- What one form does to a standing, whatever its command is.
use Rattle.std.proofs.Common.{◌≡◌, ℕ, ◌<◌, ◌≤◌, ◌⊎◌, Bool, true, false, cond, List, refl, ap, sym, ◌∙◌, inl, inr, arith, Option, Some, None}
use Rattle.std.proofs.Common.{Result, Ok, Err}
use Rattle.edn_model.specs.Form.{Form}
use Rattle.fb_model.specs.History.{basis}
use Rattle.view_model.specs.Window.{Window}
use Rattle.view_model.specs.Window as window
use Rattle.read_refusals.specs.declared.reasons.Refusal.{Refusal}
use Rattle.read_model.specs.Points.{point_in}
use Rattle.talk_model.specs.Commands.{Turn, as_of, since, history, filter, unfilter, Read, look, tried, tuples, turn, request_index}
use Rattle.talk_model.specs.Commands.{Command, transact, db, sync, read, command_in}
use Rattle.talk_model.specs.Session.{Setting, Standing, Sight, sight_of, with_name}
use Rattle.talk_model.specs.Reads.{windowed, turned, behind}
use Rattle.talk_model.specs.Talk.{IsAccepted, IsRefused, IsNotTaken, IsStopped, IsShown, IsReadAnswer, AnswersCommand, IsAnswered}

-- ---- reads

windowed-place : (standing : Standing) (change : ℕ → Window → Window) (point : Result ℕ Refusal)
    → (windowed standing change point).place ≡ standing.place
windowed-place standing change (Ok end) = refl
windowed-place standing change (Err r) = refl

windowed-told : (standing : Standing) (change : ℕ → Window → Window) (point : Result ℕ Refusal)
    → (windowed standing change point).was_notified ≡ standing.was_notified
windowed-told standing change (Ok end) = refl
windowed-told standing change (Err r) = refl

filtered-place : (b : Bool) (standing : Standing) (names : List (List ℕ))
    → (cond b (record standing { filters = names }) standing).place ≡ standing.place
filtered-place true standing names = refl
filtered-place false standing names = refl

filtered-told : (b : Bool) (standing : Standing) (names : List (List ℕ))
    → (cond b (record standing { filters = names }) standing).was_notified ≡ standing.was_notified
filtered-told true standing names = refl
filtered-told false standing names = refl

turned-place : (s : Sight) (standing : Standing) (t : Turn) → (turned s standing t).place ≡ standing.place
turned-place s standing (as_of point) = windowed-place standing window.as_of (point_in s.history point)
turned-place s standing (since point) = windowed-place standing window.since (point_in s.history point)
turned-place s standing history = refl
turned-place s standing (filter name) = filtered-place (s.is_filter name) standing (with_name standing.filters name)
turned-place s standing unfilter = refl

turned-told : (s : Sight) (standing : Standing) (t : Turn) → (turned s standing t).was_notified ≡ standing.was_notified
turned-told s standing (as_of point) = windowed-told standing window.as_of (point_in s.history point)
turned-told s standing (since point) = windowed-told standing window.since (point_in s.history point)
turned-told s standing history = refl
turned-told s standing (filter name) = filtered-told (s.is_filter name) standing (with_name standing.filters name)
turned-told s standing unfilter = refl

pub behind-place : (s : Sight) (standing : Standing) (asked : Option Read) → (behind s standing asked).place ≡ standing.place
behind-place s standing (Some (turn t)) = turned-place s standing t
behind-place s standing (Some (look l)) = refl
behind-place s standing (Some (tried datas l)) = refl
behind-place s standing (Some (tuples names start end)) = refl
behind-place s standing (Some request_index) = refl
behind-place s standing None = refl

pub behind-told : (s : Sight) (standing : Standing) (asked : Option Read) → (behind s standing asked).was_notified ≡ standing.was_notified
behind-told s standing (Some (turn t)) = turned-told s standing t
behind-told s standing (Some (look l)) = refl
behind-told s standing (Some (tried datas l)) = refl
behind-told s standing (Some (tuples names start end)) = refl
behind-told s standing (Some request_index) = refl
behind-told s standing None = refl

-- ---- each form

pub record Goes (s : Setting) (before after : Standing) (commit : Option ℕ) : Type 0 where
  pub from : before.place ≤ after.place
  pub within : after.place ≤ basis s.history
  pub commits : (commit ≡ None) ⊎ ((commit ≡ Some after.place) × (before.place < after.place))

moved_to : (s : Setting) (before after : Standing) (commit : Option ℕ) (place : ℕ) → before.place ≤ place → place ≤ basis s.history
    → commit ≡ None → after.place ≡ place → Goes s before after commit
moved_to s before after commit place from within commits stands =
    record { from = omega (arith, from, stands); within = omega (arith, within, stands); commits = inl commits }

module _ (s : Setting) (before after : Standing) (line : List ℕ) (commit : Option ℕ) (seen : before.place ≤ basis s.history) where
  accepted_goes : (asked : Form) → IsAccepted s before asked after line commit → Goes s before after commit
  accepted_goes asked a =
      let stands : after.place ≡ a.place = ap (λ (x : Standing). x.place) a.stands in
      record {
        from = omega (arith, a.above, stands);
        within = omega (arith, a.within, stands);
        commits = inr (a.commits ∙ ap Some (sym stands), omega (arith, a.above, stands));
      }

  refused_goes : (asked : Form) → IsRefused s before asked after line commit → Goes s before after commit
  refused_goes asked r = moved_to s before after commit r.place r.from r.within r.commits (ap (λ (x : Standing). x.place) r.stands)

  not_taken_goes : (asked : Form) → IsNotTaken s before asked after line commit → Goes s before after commit
  not_taken_goes asked r = moved_to s before after commit r.place r.from r.within r.commits (ap (λ (x : Standing). x.place) r.stands)

  stopped_goes : IsStopped s before after line commit → Goes s before after commit
  stopped_goes r = moved_to s before after commit r.place r.from r.within r.commits (ap (λ (x : Standing). x.place) r.stands)

  shown_goes : IsShown s before after line commit → Goes s before after commit
  shown_goes r = moved_to s before after commit r.place r.from r.within r.commits (ap (λ (x : Standing). x.place) r.stands)

  read_goes : (asked : Option Read) → IsReadAnswer s before asked after line commit → Goes s before after commit
  read_goes asked r =
      moved_to s before after commit before.place (omega arith) seen r.commits
      (ap (λ (x : Standing). x.place) r.stands ∙ behind-place (sight_of s before) before asked)

  command_goes : (command : Option Command) → AnswersCommand s before command after line commit → Goes s before after commit
  command_goes (Some (transact asked)) a =
      elim a [
        | inl a ↦ accepted_goes asked a
        | inr a ↦ elim a [ inl a ↦ refused_goes asked a | inr a ↦ elim a [ inl a ↦ not_taken_goes asked a | inr a ↦ stopped_goes a ] ]
      ]
  command_goes (Some db) a = shown_goes a
  command_goes (Some sync) a = shown_goes a
  command_goes (Some (read r)) a = read_goes (Some r) a
  command_goes None a = read_goes None a

  pub answer_goes : (f : Form) → IsAnswered s before f after line commit → Goes s before after commit
  answer_goes f a = command_goes (command_in f) a
