use Rattle.std.proofs.Common.{◌∙◌, length, refl, sym}
use Rattle.std.proofs.lemmas.Bool.{eqb-true, true≢false}
use Rattle.std.proofs.lemmas.List.{nil_from_length}
use Rattle.fb_covers.specs.Coverage.{StaysIn}
use Rattle.live_index.proofs.FourLists.{in_each}
use Rattle.live_index.proofs.remaking.are_same.Goals as goal

pub returns-then-not-is_empty : goal.returns-then-not-is_empty
returns-then-not-is_empty c = λ is. absurd (true≢false (sym is))

pub returns-then-not-is_empty-2 : goal.returns-then-not-is_empty-2
returns-then-not-is_empty-2 c = λ is. absurd (true≢false (sym is))

pub returns-then-not-stays_in : goal.returns-then-not-stays_in
returns-then-not-stays_in c = λ is. absurd (true≢false (sym is))

pub returns : goal.returns
returns c = λ is.
    record {
      none = nil_from_length c.args.datoms.now (eqb-true (length c.args.datoms.now) 0 (sym c.is_empty.ensures ∙ c.if-not-is_empty.false));
      none_refill =
          nil_from_length c.args.refill.now (eqb-true (length c.args.refill.now) 0 (sym c.is_empty-2.ensures ∙ c.if-not-is_empty-2.false));
      stay = in_each (λ order. StaysIn order c.args.before.now c.args.after.now) (λ a held. refl) (λ a held. refl)
          (c.stays_in.ensures.0 c.if-not-stays_in.false) (c.stays_in-2.ensures.0 is);
    }
