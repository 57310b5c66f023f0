use Rattle.fb_facts.proofs.Lists.{facts_in-rising}
use Rattle.fb_facts.proofs.laws.the_lists_are_the_rising_ones.Goals as goal

pub returns : goal.returns
returns c = facts_in-rising
