use Rattle.std.proofs.Common.{pos, [], ◌∷◌, true, refl, inl, inr, lit≤}
use Rattle.std.specs.Prelude.{codes}
use Rattle.std.specs.Fmt.{digits}
use Rattle.view_model.specs.Window.{whole}
use Rattle.talk_model.specs.Replies.{basis_reply, fault_reply}
use Rattle.talk_model.specs.Session.{Standing}
use Rattle.talk_model.proofs.TextSteps.{second_text, second_step}
use Rattle.talk_model.proofs.PlainText.{line}
use Rattle.talk_model.proofs.examples.a_talk_over_a_stopped_log.Goals as goal

pub returns : goal.returns
unfolding digits
returns c =
    let told : Standing = record { place = 1; window = whole; filters = []; was_notified = true } in (
      told,
      inr (inr (inl (record {
        place = 1;
        from = lit≤ tt;
        within = lit≤ tt;
        stops = refl;
        is_teller = refl;
        not_notified = refl;
        reading = pos 2000;
        may_be = inr refl;
        entry = second_text;
        tempids = (codes "x", 17592186044418) ∷ [];
        step_is = second_step;
        says = line (fault_reply (codes "log") 2 1) (codes "{:fault :log :at 2 :basis 1}\n") refl refl;
        commits = refl;
        stands = refl;
      }))),
      refl,
      (
        told,
        inr (inr (inr (record {
          place = 1;
          from = lit≤ tt;
          within = lit≤ tt;
          stops = refl;
          says = line (fault_reply (codes "log-stopped") 2 1) (codes "{:fault :log-stopped :at 2 :basis 1}\n") refl refl;
          commits = refl;
          stands = refl;
        }))),
        refl,
        (
          told,
          inr (inr (inr (record {
            place = 1;
            from = lit≤ tt;
            within = lit≤ tt;
            stops = refl;
            says = line (fault_reply (codes "log-stopped") 2 1) (codes "{:fault :log-stopped :at 2 :basis 1}\n") refl refl;
            commits = refl;
            stands = refl;
          }))),
          refl,
          (
            told,
            record {
              place = 1;
              from = lit≤ tt;
              within = lit≤ tt;
              says = line (basis_reply 1) (codes "{:basis 1}\n") refl refl;
              commits = refl;
              stands = refl;
            },
            refl,
            refl,
          ),
        ),
      ),
    )
