use Rattle.std.proofs.Common.{inl, inr, refl, []}
use Rattle.fb_run.proofs.Causing.{says_nothing, says_rest, says_first}
use Rattle.fb_run.proofs.ending.+said.Goals as goal
use Rattle.fb_run.proofs.ending.+said.Goals.{in-Done, in_default-matches}

pub returns-in_default : goal.returns-in_default
returns-in_default g t c = says_nothing (λ s. s.now) (λ s. s.end) c.args.scripts.now c.args.sessions.now _ _ _ _ (inl
    c.in_default.len_below)
    c.said_of_log.ensures

pub returns-in_default-sessions : goal.returns-in_default-sessions
returns-in_default-sessions g t c =
    says_nothing (λ s. s.now) (λ s. s.end) c.args.scripts.now c.args.sessions.now _ _ _ _ (inr c.in_default-sessions.len_below)
    c.said_of_log-in_default-sessions.ensures

pub returns-then-matches : goal.returns-then-matches
returns-then-matches g t c = elim c.match-matches.branch [
  | in-Done w ↦ says_rest (λ s. s.end) c.args.scripts.now (record { ref_ptr = (0, 0); now = [] }) c.args.sessions.now c.session-item.result
      _ _ _ _
      c.in-len1-up.len_at_least c.in-len1-up-sessions.len_at_least c.session-item.is w.in-Done.is c.said.ensures
  | in_default-matches w ↦ let a = w.matches-is in let b = c.if-matches.true in absurd (cc)
]

pub returns-in-Ok : goal.returns-in-Ok
returns-in-Ok g t c = elim c.match-matches.branch [
  | in-Done w ↦ let a = w.matches-is in let b = c.if-matches.false in absurd (cc)
  | in_default-matches w ↦ says_first (λ s. s.end) c.args.scripts.now (record { ref_ptr = (0, 0); now = [] }) c.args.sessions.now
      c.session-item.result _ _ _ _
      c.in-len1-up.len_at_least c.in-len1-up-sessions.len_at_least c.session-item.is w.in_default-matches.not-Done (inl
      (c.status_of_end.ensures, c.in-Ok.ensures))
]

pub returns-in-Err : goal.returns-in-Err
returns-in-Err g t c = elim c.match-matches.branch [
  | in-Done w ↦ let a = w.matches-is in let b = c.if-matches.false in absurd (cc)
  | in_default-matches w ↦ says_first (λ s. s.end) c.args.scripts.now (record { ref_ptr = (0, 0); now = [] }) c.args.sessions.now
      c.session-item.result _ _ _ _
      c.in-len1-up.len_at_least c.in-len1-up-sessions.len_at_least c.session-item.is w.in_default-matches.not-Done (inr (
        refl,
        inr
            c.new.ensures.bytes,
      ))
]
