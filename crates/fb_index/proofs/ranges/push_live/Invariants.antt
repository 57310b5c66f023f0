use Rattle.std.proofs.Common.{◌≡◌, ◌++◌, length}
use Rattle.std.specs.List.{take_while}
use Rattle.fb_values.specs.Lists.{list_in}
use Rattle.fb_index.specs.Ranges.{is_led, led_to}
use Rattle.fb_index.proofs.ranges.push_live.Given as goal

abbrev pub invariant-loop-d : goal.invariant-loop-d
invariant-loop-d l =
    l.found.items ++ take_while (is_led l.probe) l.walk ≡ l.initial.found.items ++ led_to l.probe (list_in l.live l.probe.order)

abbrev pub decreases-loop-d : goal.decreases-loop-d
decreases-loop-d l = length l.walk
