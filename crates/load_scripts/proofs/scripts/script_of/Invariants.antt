use Rattle.std.proofs.Common.{◌≡◌}
use Rattle.load_scripts.specs.Scripts.{numbering}
use Rattle.load_scripts.proofs.scripts.script_of.Given as goal

-- the script has the numbers so far
abbrev pub invariant-loop-i : goal.invariant-loop-i
invariant-loop-i l = l.script.items ≡ numbering l.session l.i
