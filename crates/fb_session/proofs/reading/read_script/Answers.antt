use Rattle.std.proofs.Common.{ℕ, ◌++◌, take, refl, sym, ap, ◌∙◌, subst, arith, length-append}
use Rattle.std.specs.Io.KnownBytes.{prepend_known}
use Rattle.std.proofs.lemmas.List.{length-take}
use Rattle.std.proofs.lemmas.Result.{err_from_is_err_and}
use Rattle.fb_ports.specs.Faults.{Rose}
use Rattle.fb_session.proofs.KnownBytes.{prepend_known-none, prepend_known-append, front_of_buffer}
use Rattle.fb_session.proofs.reading.read_script.Goals as goal

pub loop-count-init : goal.loop-count-init
loop-count-init g c =
    record {
      taken = rw c.new-bytes.ensures.items (prepend_known-none _);
      count = refl;
      fits = omega arith;
      piece = c.in_ok-piece.ensures.len;
    }

pub returns-in_default-clause-stop_count : goal.returns-in_default-clause-stop_count
returns-in_default-clause-stop_count g c =
    let P = λ (n : ℕ). Rose n (g.I.Source.faults c.read.new.self) in subst P c.loop-count.invariant.count c.in_default.ensures.counted

pub returns-then-count-eq0-clause-whole : goal.returns-then-count-eq0-clause-whole
returns-then-count-eq0-clause-whole g c =
    record {
      taken =
          c.loop-count.invariant.taken
          ∙ ap (prepend_known c.loop-count.bytes.items) (c.in-Ok.ensures.taken ∙ rw c.if-count-eq0.true (sym (prepend_known-none _)));
      all = c.in-Ok.ensures.end c.if-count-eq0.true (omega (arith, c.as_mut_slice.ensures.len));
      fits = omega arith;
    }

pub returns-then-len-count-gt-LONGEST_SCRIPT-clause-stopped :
    goal.returns-then-len-count-gt-LONGEST_SCRIPT-clause-stopped
returns-then-len-count-gt-LONGEST_SCRIPT-clause-stopped g c =
    record {
      bytes = c.loop-count.bytes.items ++ take c.in-Ok.count c.read.new.buf;
      taken = c.loop-count.invariant.taken ∙ ap (prepend_known c.loop-count.bytes.items) c.in-Ok.ensures.taken ∙ prepend_known-append _ _ _;
      stopped = omega (arith, length-append {A = ℕ}, length-take {A = ℕ}, c.in-Ok.ensures.within, c.read.auto.buf);
    }

pub loop-count-preserved : goal.loop-count-preserved
loop-count-preserved g c =
    record {
      taken = c.loop-count.invariant.taken ∙ ap (prepend_known c.loop-count.bytes.items) c.in-Ok.ensures.taken ∙ prepend_known-append _ _ _
          ∙ ap (λ bs. prepend_known bs (g.I.Source.left c.read.new.self))
          (ap (λ bs. c.loop-count.bytes.items ++ bs) (front_of_buffer c.in-Ok.count c.loop-count.piece.len c.read.new.buf _
          (omega (arith, c.read.auto.buf, c.as_mut_slice.ensures.len))
          ∙ ap (take c.in-Ok.count) (sym c.deref.ensures.value))
          ∙ sym c.in_ok-extend_from_slice.ensures.items);
      count = c.in-Ok.ensures.counted ∙ c.loop-count.invariant.count;
      fits = omega (arith, c.in_ok-extend_from_slice.ensures.len, c.len.ensures, length-take {A = ℕ}, c.deref.ensures.len);
      piece = omega (arith, c.as_mut_slice.ensures.len);
    }

pub returns-in_err-extend_from_slice-clause-stopped :
    goal.returns-in_err-extend_from_slice-clause-stopped
returns-in_err-extend_from_slice-clause-stopped g c =
    let p = err_from_is_err_and c.from_residual-in_err-extend_from_slice.result c.from_residual-in_err-extend_from_slice.ensures.1 in
    rw (p.1, p.2)
    (record {
      bytes = c.loop-count.bytes.items ++ take c.in-Ok.count c.read.new.buf;
      taken = c.loop-count.invariant.taken ∙ ap (prepend_known c.loop-count.bytes.items) c.in-Ok.ensures.taken ∙ prepend_known-append _ _ _;
      stopped = omega (arith, length-append {A = ℕ}, length-take {A = ℕ}, c.in-Ok.ensures.within, c.read.auto.buf);
    })
