use Rattle.std.proofs.Common.{string_bytes, ◌∙◌, sym, subst}
use Rattle.edn_token.specs.Strings.{Spelled}
use Rattle.edn_token.proofs.Strings.{so_far_nothing, so_far_is, so_far_fault, string_is, string_short, piece_fault}
use Rattle.edn_token.proofs.string.read_pieces.Goals as goal

pub loop-s-init : goal.loop-s-init
loop-s-init c = subst (λ z. Spelled c.args.inside.now z c.args.inside.now) (sym c.new-text.ensures.bytes) (so_far_nothing c.args.inside.now)

pub loop-s-preserved-in-Plain : goal.loop-s-preserved-in-Plain
loop-s-preserved-in-Plain c =
    so_far_is c.args.inside.now (string_bytes c.loop-s.text) c.loop-s.rest.now _ _ _ _ c.loop-s.invariant c.in-Plain.ensures.2
    c.in_ok-push_str-in-Plain.ensures.bytes c.split_at.ensures.back

pub loop-s-preserved : goal.loop-s-preserved
loop-s-preserved c =
    so_far_is c.args.inside.now (string_bytes c.loop-s.text) c.loop-s.rest.now _ _ _ _ c.loop-s.invariant c.in-Char.ensures.2
    c.in_ok-push-in-Char.ensures.bytes c.split_at-in-Char.ensures.back

pub overflow_sub-result : goal.overflow_sub-result
overflow_sub-result c = string_short c.args.inside.now (string_bytes c.loop-s.text) c.loop-s.rest.now c.loop-s.invariant

pub returns-in-Quote : goal.returns-in-Quote
returns-in-Quote c =
    string_is c.args.inside.now (string_bytes c.loop-s.text) c.loop-s.rest.now _ c.loop-s.invariant c.in-Quote.ensures
    (c.in_ok-text-in-Quote.ensures ∙ c.as_str.ensures.value)

pub overflow_sub-result-in-Bad : goal.overflow_sub-result-in-Bad
overflow_sub-result-in-Bad c = string_short c.args.inside.now (string_bytes c.loop-s.text) c.loop-s.rest.now c.loop-s.invariant

pub returns-in-Bad : goal.returns-in-Bad
returns-in-Bad c =
    piece_fault c.args.inside.now (string_bytes c.loop-s.text) c.loop-s.rest.now c.in-Bad.at c.loop-s.invariant c.in-Bad.ensures

pub returns-in-Cut : goal.returns-in-Cut
returns-in-Cut c = so_far_fault c.loop-s.invariant c.in-Cut.ensures
