use Rattle.std.proofs.Common.{rules}
use Rattle.serde_json.specs.View.{view}
use Rattle.mesh_text.proofs.JsonReading.{json_is, is_no_json}
use Rattle.mesh_text.proofs.json.read_json.Goals as goal

pub returns-in-Ok : goal.returns-in-Ok
returns-in-Ok c = json_is c.args.bytes.now (view c.in-Ok.value) c.in-Ok.ensures.ok

pub returns-else-is_memory : goal.returns-else-is_memory
returns-else-is_memory c = is_no_json c.args.bytes.now (c.in-Err.ensures.err (search rules))
