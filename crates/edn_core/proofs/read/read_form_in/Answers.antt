use Rattle.edn_core.proofs.Answering.{next_stands, ahead_is, form_is, end_is, fault_is}
use Rattle.edn_core.proofs.read.read_form_in.Goals as goal

pub returns : goal.returns
returns c =
    let bytes = c.args.bytes.now in
    let at = c.args.at in
    let h = c.answer.ensures in
    record {
      next = next_stands bytes at c.answer.result h;
      ahead = ahead_is bytes at c.answer.result h;
      form = form_is bytes at c.answer.result h;
      end = end_is bytes at c.answer.result h;
      fault = fault_is bytes at c.answer.result h;
    }
