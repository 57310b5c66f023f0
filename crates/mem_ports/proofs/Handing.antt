-- A disk that is handed out is told as what it is.
use Rattle.std.proofs.Common.{◌≡◌, sym, subst, Result, Ok, Err, IfOk}
use Rattle.mem_ports.specs.MemDisks.{Past, images_of}
use Rattle.fb_ports.specs.HostCalls.{Alike}

pub more_ok : {T E : Type 0} (P Q : T → Type 0) (r : Result T E) → ((x : T) → P x → Q x) → IfOk r P → IfOk r Q
more_ok P Q (Ok x) more holds = more x holds
more_ok P Q (Err e) more holds = tt

pub alike : (old new : Past) → new ≡ old → Alike (images_of old) (images_of new)
alike old new same = λ image. (subst (λ (d : Past). images_of d image) same, subst (λ (d : Past). images_of d image) (sym same))
