-- The payload in the bytes of a record.
use Rattle.std.proofs.Common.{◌≡◌, ◌+◌, ◌-◌, ◌≤◌, ◌++◌, ℕ, List, [], ◌∷◌, length, take, drop, ◌∙◌, ap, sym, arith, length-append}
use Rattle.std.proofs.Common.{length-drop}
use Rattle.std.specs.Int.{w64, to_be_bytes}
use Rattle.std.proofs.lemmas.List.{take_at}
use Rattle.disk_model.specs.Journal.{framed, record_of}
use Rattle.fb_journal.specs.Frames.{payload_in}

pub length-record : (payload : List ℕ) → length (record_of payload) ≡ length payload + 9
length-record payload = omega (arith, length-append payload (0 ∷ []))

pub payload_in-record_of : (payload : List ℕ) → payload_in (record_of payload) ≡ payload
payload_in-record_of payload = take_at payload (0 ∷ []) (length (record_of payload) - 9) (omega (arith, length-record payload))

pub payload_in-bytes : (bytes payload : List ℕ) → bytes ≡ record_of payload → payload_in bytes ≡ payload
payload_in-bytes bytes payload is = ap payload_in is ∙ payload_in-record_of payload

-- two records of the same bytes have one payload
pub record-same : (one other : List ℕ) → record_of one ≡ record_of other → one ≡ other
record-same one other same = sym (payload_in-record_of one) ∙ payload_in-bytes (record_of one) other same

-- bytes that are a record are the record of their payload
pub record_of-payload_in : (bytes payload : List ℕ) → bytes ≡ record_of payload → bytes ≡ record_of (payload_in bytes)
record_of-payload_in bytes payload is = is ∙ ap record_of (sym (payload_in-bytes bytes payload is))

-- bytes whose first eight gave way to the length of those behind them
pub framed-in : (bytes now was : List ℕ) (size : ℕ) → size ≡ length bytes → 8 ≤ length bytes → was ≡ bytes
    → now ≡ to_be_bytes w64 (length was - 8) ++ drop 8 was
    → take size (now ++ drop (length now) bytes) ≡ framed (drop 8 bytes)
framed-in bytes now was size all long same is =
    let told : now ≡ to_be_bytes w64 (length bytes - 8) ++ drop 8 bytes =
    is ∙ ap (λ (l : List ℕ). to_be_bytes w64 (length l - 8) ++ drop 8 l) same in
    let whole : size ≡ length now = omega
    (arith, all, long, ap length told, length-drop 8 bytes, length-append (to_be_bytes w64 (length bytes - 8)) (drop 8 bytes)) in
    take_at now (drop (length now) bytes) size (sym whole)
    ∙ told
    ∙ ap (λ (n : ℕ). to_be_bytes w64 n ++ drop 8 bytes) (sym (length-drop 8 bytes))
