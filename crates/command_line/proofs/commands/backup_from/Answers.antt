use Rattle.std.proofs.Common.{◌≡◌, ◌∙◌, Bool, true, false, true≢false, None, Some, refl, sym, ap}
use Rattle.std.specs.Prelude.{if◌then◌else◌}
use Rattle.std.specs.Str.{bytes_eq}
use Rattle.std.proofs.lemmas.Slice.Eq.{bytes_eq-Decides}
use Rattle.clap.specs.Words.{found_of}
use Rattle.command_line.proofs.Told.{asks_between}
use Rattle.command_line.proofs.commands.backup_from.Goals as goal

chosen : {A : Type 0} (b : Bool) (x y : A) → b ≡ true → (if b then x else y) ≡ x
chosen b x y is = ap (λ c. if c then x else y) is

left_out : {A : Type 0} (b : Bool) (x y : A) → b ≡ false → (if b then x else y) ≡ y
left_out b x y is = ap (λ c. if c then x else y) is

pub returns-in_default-clause-backup : goal.returns-in_default-clause-backup
returns-in_default-clause-backup c = asks_between (found_of c.args.matches.now) None _ c.in_default.ensures refl

pub returns-in_default-get_str-clause-backup : goal.returns-in_default-get_str-clause-backup
returns-in_default-get_str-clause-backup c =
    asks_between (found_of c.args.matches.now) (Some c.in-Some.from.now) None c.in-Some.ensures c.in_default-get_str.ensures

pub returns-then-eq-clause-backup : goal.returns-then-eq-clause-backup
returns-then-eq-clause-backup c =
    let found = found_of c.args.matches.now in
    let asks = asks_between found (Some c.in-Some.from.now) (Some c.in-Some-get_str.to.now) c.in-Some.ensures c.in-Some-get_str.ensures in
    let same : bytes_eq c.in-Some.from.now c.in-Some-get_str.to.now ≡ true = sym c.eq.ensures ∙ c.if-eq.true in
    sym (chosen _ _ _ same) ∙ asks

pub returns-clause-backup : goal.returns-clause-backup
returns-clause-backup c =
    let found = found_of c.args.matches.now in
    let asks = asks_between found (Some c.in-Some.from.now) (Some c.in-Some-get_str.to.now) c.in-Some.ensures c.in-Some-get_str.ensures in
    let other : bytes_eq c.in-Some.from.now c.in-Some-get_str.to.now ≡ false = sym c.eq.ensures ∙ c.if-eq.false in
    sym (left_out _ _ _ other) ∙ asks

pub returns-clause-apart : goal.returns-clause-apart
returns-clause-apart c = λ same.
    let other : bytes_eq c.in-Some.from.now c.in-Some-get_str.to.now ≡ false = sym c.eq.ensures ∙ c.if-eq.false in
    true≢false (sym ((bytes_eq-Decides c.in-Some.from.now c.in-Some-get_str.to.now).1 same) ∙ other)
