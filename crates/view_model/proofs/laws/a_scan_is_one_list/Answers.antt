-- By the lemmas on scans and on lists in order.
use Rattle.fb_model.proofs.InOrder.{one_rising_list}
use Rattle.view_model.proofs.Scans.{scan-IsScan}
use Rattle.view_model.proofs.laws.a_scan_is_one_list.Goals as goal

pub returns-clause-is_scan : goal.returns-clause-is_scan
returns-clause-is_scan c = scan-IsScan

pub returns-clause-one : goal.returns-clause-one
returns-clause-one c = λ order ds es p q same. one_rising_list order ds es p q (λ d. (same d).0) (λ d. (same d).1)
