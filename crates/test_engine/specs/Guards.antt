-- A guard to try: it bars a text that is added and has nothing in it. This project's own choice.
use Rattle.std.specs.Prelude.{Bool, false, ◌&&◌, List, length, nat_eq, if◌then◌else◌, Option, Some}
use Rattle.std.specs.Prelude.{None}
use Rattle.std.specs.List.{list_any}
use Rattle.fb_values.specs.declared.facts.Datom.{Datom}
use Rattle.fb_values.specs.declared.facts.Value.{Value}
use Rattle.fb_values.specs.declared.facts.Value.TheVariants.{Str}
use Rattle.fb_numbers.specs.Numbers.{doc}
use Rattle.tx_refusals.specs.declared.reasons.Bar.{Bar}
use Rattle.tx_refusals.specs.declared.reasons.Bar.TheVariants.{AttrPred}

abbrev pub is_empty_text : Value → Bool
is_empty_text (Str text) = nat_eq (length text) 0
is_empty_text v = false

abbrev pub adds_empty_text : Datom → Bool
adds_empty_text d = d.added && nat_eq d.a doc && is_empty_text d.v

abbrev pub empty_text_bar : Bool → List Datom → Option Bar
empty_text_bar bars changes =
    if bars && list_any adds_empty_text changes then Some AttrPred else None
