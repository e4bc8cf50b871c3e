use Rattle.view_rules.specs.Policies.{identity_in, suffix_in}
use Rattle.policy_rows.proofs.Steps.{gathers}
use Rattle.policy_rows.proofs.clients.clients_shown.Goals as goal

pub loop-id-preserved : goal.loop-id-preserved
loop-id-preserved c = record {
  identities = gathers (identity_in c.args.config.now) c.args.ids.now c.loop-id.id-index c.id-item.result c.loop-id.identities.items c.add.new.strings.items c.in_ok-identity_in.field-0
      c.loop-id-test.true c.id-item.is c.loop-id.invariant.identities c.in_ok-identity_in.ensures c.in_ok-add.ensures;
  suffixes = gathers (suffix_in c.args.config.now) c.args.ids.now c.loop-id.id-index c.id-item.result c.loop-id.suffixes.items c.add-in-loop-id.new.strings.items c.in_ok-suffix_in.field-0
      c.loop-id-test.true c.id-item.is c.loop-id.invariant.suffixes c.in_ok-suffix_in.ensures c.in_ok-add-2.ensures;
}
