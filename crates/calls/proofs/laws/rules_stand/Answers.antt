use Rattle.calls.proofs.Ruling.{rule_sound, rule_means, rule_even}
use Rattle.calls.proofs.Numbering.{rule_numbers}
use Rattle.calls.proofs.laws.rules_stand.Goals as goal

pub returns-clause-sound : goal.returns-clause-sound
returns-clause-sound g c = rule_sound

pub returns-clause-means : goal.returns-clause-means
returns-clause-means g c = rule_means

pub returns-clause-even : goal.returns-clause-even
returns-clause-even g c = rule_even

pub returns-clause-numbers : goal.returns-clause-numbers
returns-clause-numbers g c = rule_numbers
