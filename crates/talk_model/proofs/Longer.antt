-- A longer history, at the end of which the log may have stopped, keeps a talk.
use Rattle.std.proofs.Common.{ℕ, ◌≡◌, ◌+◌, ◌-◌, ◌≤◌, Bool, true, List, [], ◌∷◌, ◌++◌, Option, Some, None, length, zero, suc, ap, sym, ◌∙◌}
use Rattle.std.proofs.Common.{subst, inl, inr, arith}
use Rattle.std.specs.List.{slice_get}
use Rattle.edn_model.specs.Form.{Form}
use Rattle.fb_values.specs.declared.facts.Entry.{Entry}
use Rattle.fb_model.specs.History.{basis, upto}
use Rattle.fb_model.proofs.OneMoreEntry.{upto-append}
use Rattle.tx_model.specs.Step.{step}
use Rattle.talk_model.specs.Commands.{Read, Command, transact, db, sync, read, command_in}
use Rattle.talk_model.specs.Session.{Setting, Standing, Sight, sight_of, grown, Stays}
use Rattle.talk_model.specs.Reads.{IsReply, behind}
use Rattle.talk_model.specs.Talk.{IsAccepted, IsRefused, IsNotTaken, IsStopped, IsShown, IsReadAnswer, AnswersCommand, IsAnswered, Exchange}
use Rattle.talk_model.specs.Talk.{Talk}
use Rattle.talk_model.proofs.Steps.{answer_goes}

slice_get-append : (h more : List Entry) (t : ℕ) (entry : Entry) → slice_get h t ≡ Some entry → slice_get (h ++ more) t ≡ Some entry
slice_get-append [] more t entry there = absurd (cc)
slice_get-append (x ∷ xs) more zero entry there = there
slice_get-append (x ∷ xs) more (suc t) entry there = slice_get-append xs more t entry there

none_not : {A : Type 0} (stop : Option ℕ) (t : ℕ) → stop ≡ None → stop ≡ Some t → A
none_not stop t none some = let e : None ≡ Some t = sym none ∙ some in absurd (cc)

module _ (s : Setting) (more : List Entry) (stop : Option ℕ) (teller : Bool) (counted : length s.history ≡ basis s.history + 1)
    (grows : basis s.history ≤ basis (s.history ++ more)) (stays : Stays s stop teller) where
  abbrev t : Setting
  t = grown s more stop teller

  same_past : (place : ℕ) → place ≤ basis s.history → upto (s.history ++ more) place ≡ upto s.history place
  same_past place within = upto-append s.history more place (omega (arith, within, counted))

  still_stopped : (at : ℕ) → s.stop ≡ Some at → stop ≡ Some at
  still_stopped at stops = elim stays [ inl none ↦ none_not s.stop at none stops | inr same ↦ same.0 ∙ stops ]

  still_teller : (at : ℕ) → s.stop ≡ Some at → s.teller ≡ true → teller ≡ true
  still_teller at stops is = elim stays [ inl none ↦ none_not s.stop at none stops | inr same ↦ same.1 ∙ is ]

  module _ (before after : Standing) (line : List ℕ) (commit : Option ℕ) (seen : before.place ≤ basis s.history) where
    accepted_longer : (asked : Form) → IsAccepted s before asked after line commit → IsAccepted t before asked after line commit
    accepted_longer asked a =
        record {
          going = a.going;
          place = a.place;
          above = a.above;
          within = omega (arith, a.within, grows);
          reading = a.reading;
          may_be = a.may_be;
          entry = a.entry;
          tempids = a.tempids;
          step_is = ap (λ past. step past asked a.reading s.guard) (same_past (a.place - 1) (omega (arith, a.within))) ∙ a.step_is;
          kept = slice_get-append s.history more a.place a.entry a.kept;
          says = a.says;
          commits = a.commits;
          stands = a.stands;
        }

    refused_longer : (asked : Form) → IsRefused s before asked after line commit → IsRefused t before asked after line commit
    refused_longer asked r =
        record {
          going = r.going;
          place = r.place;
          from = r.from;
          within = omega (arith, r.within, grows);
          refusal = r.refusal;
          step_is = λ reading. ap (λ past. step past asked reading s.guard) (same_past r.place r.within) ∙ r.step_is reading;
          says = r.says;
          commits = r.commits;
          stands = r.stands;
        }

    not_taken_longer : (asked : Form) → IsNotTaken s before asked after line commit → IsNotTaken t before asked after line commit
    not_taken_longer asked r =
        record {
          place = r.place;
          from = r.from;
          within = omega (arith, r.within, grows);
          stops = still_stopped (r.place + 1) r.stops;
          is_teller = still_teller (r.place + 1) r.stops r.is_teller;
          not_notified = r.not_notified;
          reading = r.reading;
          may_be = r.may_be;
          entry = r.entry;
          tempids = r.tempids;
          step_is = ap (λ past. step past asked r.reading s.guard) (same_past r.place r.within) ∙ r.step_is;
          says = r.says;
          commits = r.commits;
          stands = r.stands;
        }

    stopped_longer : IsStopped s before after line commit → IsStopped t before after line commit
    stopped_longer r =
        record {
          place = r.place;
          from = r.from;
          within = omega (arith, r.within, grows);
          stops = still_stopped (r.place + 1) r.stops;
          says = r.says;
          commits = r.commits;
          stands = r.stands;
        }

    shown_longer : IsShown s before after line commit → IsShown t before after line commit
    shown_longer r =
        record {
          place = r.place;
          from = r.from;
          within = omega (arith, r.within, grows);
          says = r.says;
          commits = r.commits;
          stands = r.stands;
        }

    read_longer : (asked : Option Read) → IsReadAnswer s before asked after line commit → IsReadAnswer t before asked after line commit
    read_longer asked r =
        let Over : List Entry → Sight = λ past. record (sight_of s before) { history = past } in
        let past : upto s.history before.place ≡ upto (s.history ++ more) before.place = sym (same_past before.place seen) in
        record {
          reply = r.reply;
          answers = subst (λ h. IsReply (Over h) asked r.reply) past r.answers;
          says = r.says;
          commits = r.commits;
          stands = r.stands ∙ ap (λ h. behind (Over h) before asked) past;
        }

    command_longer : (command : Option Command) → AnswersCommand s before command after line commit
        → AnswersCommand t before command after line commit
    command_longer (Some (transact asked)) a =
        elim a [
          | inl a ↦ inl (accepted_longer asked a)
          | inr a ↦ elim a [
            | inl a ↦ inr (inl (refused_longer asked a))
            | inr a ↦ elim a [ inl a ↦ inr (inr (inl (not_taken_longer asked a))) | inr a ↦ inr (inr (inr (stopped_longer a))) ]
          ]
        ]
    command_longer (Some db) a = shown_longer a
    command_longer (Some sync) a = shown_longer a
    command_longer (Some (read r)) a = read_longer (Some r) a
    command_longer None a = read_longer None a

    pub answer_longer : (f : Form) → IsAnswered s before f after line commit → IsAnswered t before f after line commit
    answer_longer f a = command_longer (command_in f) a

  pub Talk-longer : (before after : Standing) (talk : List Exchange) → before.place ≤ basis s.history → Talk s before talk after
      → Talk t before talk after
  Talk-longer before after [] seen same = same
  Talk-longer before after (x ∷ talk) seen told = (
    told.0,
    answer_longer before told.0 x.line x.commit seen x.form told.1,
    told.2,
    Talk-longer told.0 after talk (answer_goes s before told.0 x.line x.commit seen x.form told.1).within told.3,
  )
