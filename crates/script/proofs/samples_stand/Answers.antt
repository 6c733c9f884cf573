use Rattle.script.proofs.Sampled.{samples}
use Rattle.script.proofs.samples_stand.Goals as goal

pub returns : goal.returns
returns c = samples
