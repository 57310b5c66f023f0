use Rattle.fb_covers.proofs.Covers.stays_in.Goals as goal

pub returns-in-Avet : goal.returns-in-Avet
returns-in-Avet c = rw (c.in-Avet.is, ← c.self.view_is, ← c.newer.view_is) c.is_part_of.ensures

pub returns-in-Vaet : goal.returns-in-Vaet
returns-in-Vaet c = rw (c.in-Vaet.is, ← c.self.view_is, ← c.newer.view_is) c.is_part_of-in-Vaet.ensures
