-- Bytes behind the last datom of a payload.
use Rattle.std.proofs.Common.{◌≡◌, ◌<◌, ◌+◌, ℕ, List, ◌∷◌, length, get_or, drop, ap, ◌∙◌, arith, length-drop}
use Rattle.std.proofs.lemmas.List.{drop_more}
use Rattle.fb_values.specs.declared.facts.Entry.{Entry}
use Rattle.log_model.specs.Fields.{found, at_end}
use Rattle.log_model.specs.Payload.{breaks_at, said_by, payload_says}
use Rattle.fb_codec.specs.Entries.{reads_entry}

pub breaks_behind : (payload : List ℕ) (entry : Entry) (end : ℕ) → end < length payload
    → reads_entry payload ≡ found entry (drop end payload) → payload_says payload ≡ breaks_at end
breaks_behind payload entry end below is =
    let more : drop end payload ≡ get_or payload end 0 ∷ drop (end + 1) payload = drop_more payload end 0 below in
    ap (λ r. said_by payload (at_end r)) (is ∙ ap (λ rest. found entry rest) more)
    ∙ ap breaks_at (omega (arith, below, ap length more, length-drop end payload))
