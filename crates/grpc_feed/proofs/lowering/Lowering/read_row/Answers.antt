use Rattle.std.proofs.Common.{subst, ap, ◌∙◌}
use Rattle.std.specs.Option.{option_copied}
use Rattle.view_types.specs.Objects.{ObjectMap}
use Rattle.grpc_feed.specs.FeedLines.{grpc_row}
use Rattle.grpc_feed.specs.Given.{GivesGrpc}
use Rattle.grpc_feed.proofs.SameLines.{rows_same}
use Rattle.grpc_feed.proofs.lowering.Lowering.read_row.Goals as goal

pub returns-clause-value : goal.returns-clause-value
returns-clause-value c = λ held follows.
    let config = c.args.self.now.config in
    let row = option_copied c.args.row in
    subst (GivesGrpc c.read_over.result) (ap (λ (routes : ObjectMap). grpc_row config routes row) follows ∙ rows_same config held row) c.read_over.ensures
