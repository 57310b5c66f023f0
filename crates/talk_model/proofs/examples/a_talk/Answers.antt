use Rattle.std.proofs.Common.{pos, [], ◌∷◌, false, refl, inl, lit<, lit≤}
use Rattle.std.specs.Prelude.{codes}
use Rattle.std.specs.Fmt.{digits}
use Rattle.view_model.specs.Window.{whole, since}
use Rattle.talk_model.specs.Replies.{receipt, basis_reply, done_reply, refusal_reply}
use Rattle.talk_model.specs.Session.{Standing, opened_at}
use Rattle.talk_model.proofs.TextSteps.{first_text, first_step}
use Rattle.talk_model.proofs.PlainText.{line}
use Rattle.talk_model.proofs.examples.a_talk.Goals as goal

pub returns : goal.returns
unfolding digits
returns c =
    let later : Standing = record { place = 1; window = since 1 whole; filters = []; was_notified = false } in (
      opened_at 0,
      record {
        place = 0;
        from = lit≤ tt;
        within = lit≤ tt;
        says = line (basis_reply 0) (codes "{:basis 0}\n") refl refl;
        commits = refl;
        stands = refl;
      },
      refl,
      (
        opened_at 1,
        inl (record {
          going = refl;
          place = 1;
          above = lit< tt;
          within = lit≤ tt;
          reading = pos 1000;
          may_be = inl refl;
          entry = first_text;
          tempids = (codes "x", 17592186044417) ∷ [];
          step_is = first_step;
          kept = refl;
          says = line (receipt 1 ((codes "x", 17592186044417) ∷ [])) (codes "{:t 1 :tempids {\"x\" 17592186044417}}\n") refl refl;
          commits = refl;
          stands = refl;
        }),
        refl,
        (
          later,
          record {
            reply = done_reply 1;
            answers = refl;
            says = line (done_reply 1) (codes "{:ok true :basis 1}\n") refl refl;
            commits = refl;
            stands = refl;
          },
          refl,
          (
            later,
            record {
              reply = refusal_reply (codes "read/not-a-command") 0 1;
              answers = refl;
              says =
                  line (refusal_reply (codes "read/not-a-command") 0 1) (codes "{:refused :read/not-a-command :at 0 :basis 1}\n") refl refl;
              commits = refl;
              stands = refl;
            },
            refl,
            (
              later,
              record {
                place = 1;
                from = lit≤ tt;
                within = lit≤ tt;
                says = line (basis_reply 1) (codes "{:basis 1}\n") refl refl;
                commits = refl;
                stands = refl;
              },
              refl,
              refl,
            ),
          ),
        ),
      ),
    )
