use Rattle.loglines.proofs.Feeds.{one_cut}
use Rattle.loglines.proofs.States.{one_reading}
use Rattle.loglines.proofs.log.read_log.Goals as goal

pub returns-in_err-lines-clause-one_cut : goal.returns-in_err-lines-clause-one_cut
returns-in_err-lines-clause-one_cut c = one_cut

pub returns-in_err-lines-clause-one_reading : goal.returns-in_err-lines-clause-one_reading
returns-in_err-lines-clause-one_reading c = one_reading

pub returns-in_err-read_lines-clause-one_cut : goal.returns-in_err-read_lines-clause-one_cut
returns-in_err-read_lines-clause-one_cut c = one_cut

pub returns-in_err-read_lines-clause-one_reading : goal.returns-in_err-read_lines-clause-one_reading
returns-in_err-read_lines-clause-one_reading c = one_reading

pub returns-clause-one_cut : goal.returns-clause-one_cut
returns-clause-one_cut c = one_cut

pub returns-clause-one_reading : goal.returns-clause-one_reading
returns-clause-one_reading c = one_reading
