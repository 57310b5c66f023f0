-- The records and what stands behind them, as they are read off the bytes.
use Rattle.std.proofs.Common.{inl, inr, ◌≡◌, [], ◌∷◌, get_or, drop, refl, ap, arith, lit<}
use Rattle.log_model.specs.Samples.{hi_log, with_byte}
use Rattle.log_model.proofs.examples.bad_journals.Goals as goal

pub returns-clause-good : goal.returns-clause-good
returns-clause-good c = inr (lit< tt, record { gate = 0; rest = []; bytes = refl; closed = omega arith; lengths = (lit< tt, tt) })

pub returns-clause-mark : goal.returns-clause-mark
returns-clause-mark c =
    (lit< tt, inl ((λ same. let first : 0 ≡ 70 = ap (λ l. get_or l 0 0) same in absurd (omega (arith, first))), refl, refl, refl))

pub returns-clause-closed : goal.returns-clause-closed
returns-clause-closed c = inr (lit< tt, record { gate = 0; rest = drop 16 hi_log; bytes = refl; closed = omega arith; lengths = tt })

pub returns-clause-one_byte_long : goal.returns-clause-one_byte_long
returns-clause-one_byte_long c = (
  lit< tt,
  inr (record {
    rest = drop 16 (with_byte 23 0x44 hi_log);
    bytes = refl;
    short = inr (lit< tt);
    lengths = tt;
    number = refl;
    place = refl;
  }),
)

pub returns-clause-one_byte_short : goal.returns-clause-one_byte_short
returns-clause-one_byte_short c =
    (lit< tt, inr (record { rest = 0 ∷ []; bytes = refl; short = inl (lit< tt); lengths = (lit< tt, tt); number = refl; place = refl }))

pub returns-clause-no_length : goal.returns-clause-no_length
returns-clause-no_length c =
    (lit< tt, inr (record { rest = 0 ∷ []; bytes = refl; short = inl (lit< tt); lengths = tt; number = refl; place = refl }))
