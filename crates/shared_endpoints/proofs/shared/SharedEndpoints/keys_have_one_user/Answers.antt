use Rattle.std.proofs.Math.Logic.{∥∥₁_elim}
use Rattle.shared_endpoints.proofs.Standing.{one_user}
use Rattle.shared_endpoints.proofs.Truncated.{one_user_prop}
use Rattle.shared_endpoints.proofs.shared.SharedEndpoints.keys_have_one_user.Goals as goal

pub returns : goal.returns
returns c = λ config limits held stands key.
    let self = c.args.self.now in
    ∥∥₁_elim stands (one_user_prop self key) (λ exactly. one_user config limits held self exactly key)
