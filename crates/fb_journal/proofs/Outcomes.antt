-- What a result says of its value.
use Rattle.std.proofs.Common.{◌≡◌, false, Result, Ok, Err, is_err, OnOk}

pub on_ok : {T E : Type 0} (P : Type 0) (r : Result T E) → is_err r ≡ false → OnOk r P → P
on_ok P (Ok x) ok holds = holds
on_ok P (Err e) ok holds = absurd (cc)
