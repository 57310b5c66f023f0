-- What a result says where it is known which of the two it is.
use Rattle.std.proofs.Common.{◌≡◌, ℕ, true, false, Result, Ok, Err, sym}
use Rattle.std.specs.Prelude.{OnOk, OnErr, is_err}
use Rattle.std.proofs.lemmas.Bool.{true≢false}
use Rattle.fb_ports.specs.Faults.{Rose, Counts}

pub fact_at_err : {T E : Type 0} (r : Result T E) (P : Type 0) → true ≡ is_err r → OnErr r P → P
fact_at_err (Ok x) P is fact = absurd (true≢false is)
fact_at_err (Err e) P is fact = fact

pub fact_at_ok : {T E : Type 0} (r : Result T E) (P : Type 0) → false ≡ is_err r → OnOk r P → P
fact_at_ok (Ok x) P is fact = fact
fact_at_ok (Err e) P is fact = absurd (true≢false (sym is))

pub at_err : {T E : Type 0} (r : Result T E) (P : Type 0) → P → OnErr r P
at_err (Ok x) P fact = tt
at_err (Err e) P fact = fact

pub on_ok_both : {T E P Q R : Type 0} (r : Result T E) → (P → Q → R) → OnOk r P → OnOk r Q → OnOk r R
on_ok_both (Ok x) f p q = f p q
on_ok_both (Err e) f p q = tt

pub on_err_both : {T E P Q R : Type 0} (r : Result T E) → (P → Q → R) → OnErr r P → OnErr r Q → OnErr r R
on_err_both (Ok x) f p q = tt
on_err_both (Err e) f p q = f p q

pub counts_at_err : {T E : Type 0} (r : Result T E) (old new : ℕ) → true ≡ is_err r → Counts r old new → Rose old new
counts_at_err (Ok x) old new is counts = absurd (true≢false is)
counts_at_err (Err e) old new is counts = counts

pub counts_at_ok : {T E : Type 0} (r : Result T E) (old new : ℕ) → false ≡ is_err r → Counts r old new → new ≡ old
counts_at_ok (Ok x) old new is counts = counts
counts_at_ok (Err e) old new is counts = absurd (true≢false (sym is))
