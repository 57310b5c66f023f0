use Rattle.fb_scan.proofs.walk.Scan.start.Goals as goal

pub returns : goal.returns
returns g c = c.showing.ensures
