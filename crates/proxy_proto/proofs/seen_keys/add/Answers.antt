use Rattle.std.proofs.Common.{not, ap, ◌∙◌}
use Rattle.proxy_proto.proofs.MetKeys.{is_new, met_more}
use Rattle.proxy_proto.proofs.seen_keys.add.Goals as goal

pub returns-clause-new : goal.returns-clause-new
returns-clause-new c = c.in_ok-insert.ensures.added ∙ ap not (is_new c.args.keys.now c.args.field c.args.key)

pub returns-clause-keys : goal.returns-clause-keys
returns-clause-keys c = met_more c.args.keys.now c.insert.new.self c.args.field c.args.key c.in_ok-insert.ensures.updates
