use Rattle.std.proofs.Common.{refl}
use Rattle.net_cidr.specs.declared.ip.Ip.TheVariants.{V4, V6}
use Rattle.k8s_core.proofs.Seen.{seen_more}
use Rattle.k8s_core.proofs.addresses.add_once.Goals as goal

pub returns-in_ok-add-clause-seen : goal.returns-in_ok-add-clause-seen
returns-in_ok-add-clause-seen c = rw c.in_ok-add.ensures.ok (seen_more _ c.args.seen.now c.insert.new.self c.args.all.now c.args.ip
    (elim [ V4 n ↦ elim [ V4 m ↦ refl | V6 m ↦ refl ] | V6 n ↦ elim [ V4 m ↦ refl | V6 m ↦ refl ] ]) c.in_ok-insert.ensures.updates c.requires)
