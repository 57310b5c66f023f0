use Rattle.edn_print.proofs.Escapes.{run_printed, last_run_printed, shorter}
use Rattle.edn_print.proofs.escape.print_inside.Goals as goal

pub loop-b-preserved : goal.loop-b-preserved
loop-b-preserved c = record {
  text =
      run_printed _ _ _ _ _ _ _ _ _ c.loop-b.invariant.text c.split_plain.ensures c.in_ok-append.ensures.ok c.in-Some.ensures.cases.0
      c.in_ok-print_byte-in-Some.ensures.ok;
  kept = λ front h. c.print_byte.ensures.kept front (c.append.ensures.kept front (c.loop-b.invariant.kept front h));
}

pub loop-b-smaller : goal.loop-b-smaller
loop-b-smaller c = shorter _ _ _ _ c.split_plain.ensures c.in-Some.ensures.cases.1

pub returns-in-None-clause-ok : goal.returns-in-None-clause-ok
returns-in-None-clause-ok c =
    last_run_printed _ _ _ _ _ _ c.loop-b.invariant.text c.split_plain.ensures c.in_ok-append.ensures.ok c.in-None.ensures.cases
