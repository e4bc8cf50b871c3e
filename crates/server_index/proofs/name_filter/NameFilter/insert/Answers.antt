use Rattle.server_index.proofs.Filters.{kept_probe}
use Rattle.server_index.proofs.name_filter.NameFilter.insert.Goals as goal

pub returns-clause-keeps : goal.returns-clause-keeps
returns-clause-keeps c = λ other. kept_probe c.args.self.now.bits other c.args.probe
