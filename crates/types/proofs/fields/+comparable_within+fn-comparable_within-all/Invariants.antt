use Rattle.std.proofs.Common.{◌-◌, ◌*◌}
use Rattle.types.proofs.fields.+comparable_within+fn-comparable_within-all.Given as goal

abbrev pub decreases-comparable_within : goal.decreases-comparable_within
decreases-comparable_within l = 2 * l.most

abbrev pub decreases-all : goal.decreases-all
decreases-all l = 2 * l.most - 1
