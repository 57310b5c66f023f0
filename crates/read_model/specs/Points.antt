-- Points in time as a command gives them: the ends that as-of and since take, and the two ends of a
-- range of the log.
-- Datomic, Database Filters (a t, a transaction or an instant) and Log API (tx-range: from the
-- start on, before the end).
use Rattle.std.specs.Prelude.{ℕ, ◌+◌, ◌-◌, ℤ, pos, not, ◌&&◌, List, filter, length, max, nat_le}
use Rattle.std.specs.Prelude.{int_le, if◌then◌else◌, Option, Some, None, option_map, Result, Ok}
use Rattle.std.specs.Prelude.{Err}
use Rattle.std.specs.Option.{ok_or}
use Rattle.edn_model.specs.Form as edn
use Rattle.edn_model.specs.Form.{Form}
use Rattle.fb_values.specs.declared.facts.Entry.{Entry}
use Rattle.fb_numbers.specs.Numbers.{transaction_of, greatest_t}
use Rattle.fb_model.specs.History.{basis}
use Rattle.view_model.specs.Window.{end_of_number, end_of_instant}
use Rattle.read_refusals.specs.declared.reasons.Reason.TheVariants.{BadPoint}
use Rattle.read_refusals.specs.declared.reasons.Refusal.{Refusal}

abbrev pub bad_point : ℕ → Refusal
bad_point at = record { reason = BadPoint; at = at }

-- ---- as-of and since

-- the end of the point that a form is: an integer is a t or the entity of a transaction; another
-- form is no point
abbrev pub end_of : List Entry → Form → Option ℕ
end_of h (edn.integer (pos n)) = end_of_number n
end_of h (edn.instant z) = Some (end_of_instant h z)
end_of h f = None

-- the same, of the form that follows the command's word
abbrev pub point_in : List Entry → Form → Result ℕ Refusal
point_in h f = ok_or (end_of h f) (bad_point 1)

-- ---- a range of the log

-- the t that a number is, or whose transaction it is the entity of
abbrev pub t_of : ℕ → Option ℕ
t_of n =
    if nat_le n greatest_t then Some n
    else (if nat_le (transaction_of 0) n && nat_le n (transaction_of greatest_t)
    then Some (n - transaction_of 0)
    else None)

-- how many transactions were recorded before an instant, the first entry among them
abbrev pub count_before : List Entry → ℤ → ℕ
count_before h instant = length (filter (λ entry. not (int_le instant entry.instant)) h)

-- an integer is a t or the entity of a transaction; an instant is the first t that is not
-- before it
abbrev pub bound_of : List Entry → Form → Option ℕ
bound_of h (edn.integer (pos n)) = t_of n
bound_of h (edn.instant z) = Some (count_before h z)
bound_of h f = None

-- nil is the start of the log, which begins with t 1
abbrev pub start_of : List Entry → Form → Option ℕ
start_of h edn.nil = Some 1
start_of h f = option_map (max 1) (bound_of h f)

-- nil is its end
abbrev pub stop_of : List Entry → Form → Option ℕ
stop_of h edn.nil = Some (basis h + 1)
stop_of h f = bound_of h f

abbrev pub range_from : Option ℕ → Option ℕ → Result (ℕ × ℕ) Refusal
range_from None stop = Err (bad_point 1)
range_from (Some start) None = Err (bad_point 2)
range_from (Some start) (Some stop) = Ok (start, stop)

-- the t to begin with and the t to stop before, of the two forms after the command's word
abbrev pub log_range : List Entry → Form → Form → Result (ℕ × ℕ) Refusal
log_range h start stop = range_from (start_of h start) (stop_of h stop)
