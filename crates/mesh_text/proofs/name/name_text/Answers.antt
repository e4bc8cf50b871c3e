use Rattle.mesh_text.proofs.Names.{name_ascii}
use Rattle.mesh_text.proofs.name.name_text.Goals as goal

-- a name is UTF-8
pub unreachable-requires : goal.unreachable-requires
unreachable-requires c = (c.in_default.ensures).cases.0 (name_ascii c.args.name.now c.requires)
