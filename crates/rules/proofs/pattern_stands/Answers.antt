use Rattle.rules.proofs.pattern_stands.Goals as goal
use Rattle.rules.proofs.Pattern.{pattern, tied_pattern}

pub returns : goal.returns
returns c = (pattern, tied_pattern)
